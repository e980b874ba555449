-- What a framer of TC frames has taken, and what came after the last frame.
use Rattle.std.proofs.Common.{◌≡◌, ◌<◌, true, ℕ, List, [], ◌++◌, length, Option, None, inl, inr, refl, sym, ◌∙◌, ap, subst, arith, append-nil, append_assoc, length-append}
use Rattle.std.specs.Prelude.{IfNone}
use Rattle.std.specs.Borrow.{Bor}
use Rattle.std.proofs.lemmas.List.Elements.{All-append, All-nil}
use Rattle.sl_fields.specs.Field.{IsOctets}
use Rattle.sl_tcframe.specs.TcDelimited.{front_len}
use Rattle.sl_tcframe.specs.TcFrame.{is_cut}
use Rattle.sl_tcframe.specs.TcFraming.{HasTakenTc, IsRest, IsStuck, TcFraming, WholeFrame, YieldsFrame, YieldsNone, after_call}
use Rattle.sl_tcframe.proofs.ChunkLemmas.{below_again, less_than_whole, no_frame_below_least, pause_parts, pause_rest, rest_is_no_frame}
use Rattle.sl_tcframe.proofs.DelimitedLemmas.{frames_of-none}
use Rattle.sl_tcframe.proofs.FramingLemmas.{below_is_not_whole, below_stays, fits_rest, front_tells}
use Rattle.sl_engine.specs.Link.Managed.{Parameters, tc_format}
use Rattle.sl_engine.specs.Framing.{CutsFrame, WaitsAfter}
use Rattle.sl_engine.specs.Framing.Tc.{TcWaits, is_tc_frame, tc_frames}

-- a framer that has taken no octet has none to wait
pub waits_nothing : (f : TcFraming) (p : Parameters) → f.format ≡ tc_format p → f.rest ≡ [] → TcWaits f p []
waits_nothing f p format none = record {
  format = format;
  octets = All-nil (λ octet. octet < 256);
  taken = subst (IsRest f.format) (sym none) (fits_rest f.format [] (inl (omega arith)));
  more = [];
  rest_is = sym (append-nil f.rest ∙ none);
  later = inl refl;
}

module _ (f : TcFraming) (p : Parameters) (rest chunk left : List ℕ) (w : TcWaits f p rest) (each : IsOctets chunk) where
  all : IsOctets (rest ++ chunk)
  all = All-append (λ octet. octet < 256) rest chunk w.octets each

  -- what comes after a stated length below the least
  rest_with : rest ++ chunk ≡ f.rest ++ (w.more ++ chunk)
  rest_with = ap (λ l. l ++ chunk) w.rest_is ∙ append_assoc f.rest w.more chunk

  -- where nothing did
  rest_alone : w.more ≡ [] → rest ≡ f.rest
  rest_alone none = w.rest_is ∙ ap (λ l. f.rest ++ l) none ∙ append-nil f.rest

  -- ---- a frame

  pub cuts : (frame : List ℕ) → YieldsFrame f chunk frame left → is_cut f.format frame ≡ true → CutsFrame (is_tc_frame p) rest chunk left frame
  cuts frame y cut =
      let alone : rest ≡ f.rest = elim w.later [
        | inl none ↦ rest_alone none
        | inr stuck ↦ absurd (below_is_not_whole (length frame) (sym (below_stays f.format f.rest chunk stuck) ∙ y.whole))
      ] in
      let less = less_than_whole f.format f.rest chunk (length frame) w.taken (front_tells f.format (f.rest ++ chunk) (WholeFrame (length frame)) y.whole) in
      record { parts = rw alone y.parts; some = omega (arith, less, ap length y.parts, length-append f.rest chunk, length-append frame left); whole = rw w.format at cut }

  -- ---- no frame

  -- none begins at the front
  no_front : YieldsNone f chunk left → front_len f.format (rest ++ chunk) ≡ None
  no_front y = elim w.later [
    | inr stuck ↦ rw rest_with (no_frame_below_least f.format f.rest (w.more ++ chunk) (rw rest_with at all) stuck)
    | inl none ↦ rw (rest_alone none) (elim y.front [
      | inl more ↦ rest_is_no_frame f.format (f.rest ++ chunk) (rw (rest_alone none) at all) (inl more)
      | inr below ↦ rw append-nil at (no_frame_below_least f.format (f.rest ++ chunk) [] (rw append-nil (rw (rest_alone none) at all)) below)
    ])
  ]

  pub cuts_none : YieldsNone f chunk left → tc_frames p (rest ++ chunk) ≡ []
  cuts_none y = rw w.format at (frames_of-none f.format (rest ++ chunk) (no_front y))

  -- ---- what waits then

  waits_none : YieldsNone f chunk left → w.more ≡ [] → TcWaits (after_call f chunk None) p (rest ++ chunk)
  waits_none y none = record {
    format = w.format;
    octets = all;
    taken = pause_rest f chunk left y;
    more = left;
    rest_is = rw (rest_alone none) (pause_parts f chunk left y);
    later = elim y.front [
      | inl more ↦ inl (rw y.left_is (rw more refl))
      | inr below ↦ inr (rw below (below_again f.format (f.rest ++ chunk) below))
    ];
  }

  waits_stuck : IsStuck f → TcWaits f p (rest ++ chunk)
  waits_stuck stuck = record { format = w.format; octets = all; taken = w.taken; more = w.more ++ chunk; rest_is = rest_with; later = inr stuck }

  pub waits_next : (new : TcFraming) (answer : Option (Bor (List ℕ))) → HasTakenTc f chunk answer new → IfNone answer (YieldsNone f chunk left)
      → WaitsAfter TcWaits new p rest chunk answer
  waits_next new answer taken y = grind (arith, waits_none, waits_nothing, waits_stuck, taken.after, taken.stuck, w.format)
