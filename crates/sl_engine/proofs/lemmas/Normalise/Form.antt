-- A normal form that is written piece by piece.
use Rattle.std.proofs.Common.{◌≡◌, ◌≢◌, ℕ, Bool, true, false, List, [], ◌++◌, length, Option, refl, sym, subst, ◌∙◌, ap, arith, append_assoc, append-nil, length-append}
use Rattle.std.proofs.KnownBytes.{Appends-nil}
use Rattle.sl_tmflow.specs.Form.{AddsPiece}
use Rattle.sl_tmflow.specs.NormalForm.{normal_form}
use Rattle.sl_tmflow.specs.Recording.{tm_lists}
use Rattle.sl_tcflow.proofs.lemmas.Form.Left.{none_after}
use Rattle.sl_tcflow.specs.Recording.{tc_lists}
use Rattle.sl_tcflow.specs.TcNormalForm.{tc_normal_form_of}
use Rattle.sl_io.specs.declared.counted.Counted.{Counted}
use Rattle.sl_io.specs.declared.fault.LinkFault.{LinkFault}
use Rattle.sl_io.specs.declared.fault.LinkFault.TheVariants.{Memory}
use Rattle.sl_engine.specs.Io.Streams.{AddsText, StopsWriting}
use Rattle.sl_engine.specs.Link.Counted.{stream_of}
use Rattle.sl_engine.specs.Link.Managed.{Parameters, tm_format, tc_format}
use Rattle.sl_engine.specs.Kind.Tc.{tc_packets}
use Rattle.sl_engine.specs.Normalise.Tc.{tc_form_of}
use Rattle.sl_engine.specs.Kind.Tm.{tm_packets}
use Rattle.sl_engine.specs.Normalise.Tm.{tm_form_of}
use Rattle.sl_engine.proofs.lemmas.Io.Streams.{AddsText-trans, stops_at_memory, stops_before, writer_stops_waiting}

-- where a piece is made, octets were still to come
pub piece_left : {left text left' text' : List ℕ} → AddsPiece left text left' text' → left ≢ []
piece_left {left'} a none = let long = a.some in absurd (omega (arith, ap length (sym a.front ∙ none), length-append a.piece left'))

-- what isn't written yet is the same after a piece
same_after : {left text left' text' : List ℕ} → AddsPiece left text left' text' → text' ++ left' ≡ text ++ left
same_after {left} {text} {left'} a = rw (a.added, append_assoc text a.piece left', a.front) refl

-- nothing is written yet
pub form_begun : {W : Type 0} {contents : W → Option (List ℕ)} {writer : Counted W} {left text : List ℕ} → text ≡ [] → AddsText contents writer writer [] (text ++ left) left
form_begun {contents} {writer} none = record { written = []; parts = rw none refl; writes = Appends-nil (contents (stream_of writer)); no_fault = refl }

-- memory was refused before anything was written, where octets were to come
pub stopped_first : {W : Type 0} {contents : W → Option (List ℕ)} {old new : Counted W} {left octets : List ℕ} {fault : LinkFault} → new ≡ old → left ≡ octets → left ≢ [] → fault ≡ Memory
    → StopsWriting contents old new octets ((new ≡ old) × (octets ≢ [])) fault
stopped_first {contents} {old} {octets} same is some memory = rw (memory, same) (stops_at_memory contents old octets (refl, λ none. some (is ∙ none)))

pub is_false : (b : Bool) → (b ≡ true → ⊥) → b ≡ false
is_false true never = absurd (never refl)
is_false false never = refl

-- A form is written: of its octets those that wait in a text, and those that are still to come, aren't written yet.
module _ {W : Type 0} {contents : W → Option (List ℕ)} {old new : Counted W} {text octets : List ℕ} where
  -- after one piece
  pub next_piece : {left left' text' : List ℕ} → AddsText contents old new [] (text ++ left) octets → AddsPiece left text left' text' → AddsText contents old new [] (text' ++ left') octets
  next_piece w a = subst (λ l. AddsText contents old new [] l octets) (sym (same_after a)) w

  -- where memory was taken for more
  pub room_taken : {left left' text' : List ℕ} → AddsText contents old new [] (text ++ left) octets → text' ≡ text → left' ≡ left → AddsText contents old new [] (text' ++ left') octets
  room_taken w same kept = rw (same, kept) w

  -- where some of what waited was written
  pub chunk_written : {new' : Counted W} {text' : List ℕ} (left : List ℕ) → AddsText contents old new [] (text ++ left) octets → AddsText contents new new' text text' [] → AddsText contents old new' [] (text' ++ left) octets
  chunk_written {new'} {text'} left w a =
      let more : AddsText contents new new' (text ++ left) (text' ++ left) [] =
      record { written = a.written; parts = rw (append-nil, ← append_assoc a.written text' left, ← a.parts, append-nil) refl; writes = a.writes; no_fault = a.no_fault } in
      rw append-nil at (AddsText-trans contents old new new' [] (text ++ left) (text' ++ left) octets [] w more)

  -- a form of which octets wait isn't empty
  pub some_waiting : AddsText contents old new [] text octets → text ≢ [] → octets ≢ []
  some_waiting w some none = some (none_after w.written text (sym w.parts ∙ none))

  -- a fault while what waits is written
  pub form_stopped : {new' : Counted W} {at_memory : Type 0} {fault : LinkFault} (left : List ℕ) → AddsText contents old new [] (text ++ left) octets → StopsWriting contents new new' text ⊥ fault → StopsWriting contents old new' octets at_memory fault
  form_stopped {new'} {fault = fault} left w s = writer_stops_waiting contents old new new' [] (text ++ left) octets [] octets fault w (stops_before left ⊥ s) (append-nil octets)

-- nor is a form empty of which octets are still to come
pub some_left : {W : Type 0} {contents : W → Option (List ℕ)} {old new : Counted W} {left octets : List ℕ} (text : List ℕ) → AddsText contents old new [] (text ++ left) octets → left ≢ [] → octets ≢ []
some_left {left} text w some = some_waiting w (λ none. some (none_after text left none))

-- ---- under the managed parameters

-- ---- TM

pub tm_form_is : (p q : Parameters) (lists : List (List (List ℕ))) → q ≡ p → normal_form (tm_format q) q.spacecraft lists ≡ tm_form_of p lists
unfolding tm_form_of
tm_form_is p q lists same = ap (λ (r : Parameters). tm_form_of r lists) same

pub tm_form_delivers : (p q : Parameters) (lists : List (List (List ℕ))) → tm_lists (tm_format q) q.spacecraft (normal_form (tm_format q) q.spacecraft lists) ≡ lists → q ≡ p
    → tm_packets p (tm_form_of p lists) ≡ lists
tm_form_delivers p q lists delivers same = rw (← tm_form_is p q lists same) (ap (λ (r : Parameters). tm_packets r (normal_form (tm_format q) q.spacecraft lists)) (sym same) ∙ delivers)

-- ---- TC

pub tc_form_is : (p q : Parameters) (lists : List (List (List ℕ))) (form : List ℕ) → form ≡ tc_normal_form_of (tc_format q) q.spacecraft q.starts q.plain lists → q ≡ p
    → form ≡ tc_form_of p lists
unfolding tc_form_of
tc_form_is p q lists form is same = is ∙ ap (λ (r : Parameters). tc_form_of r lists) same

pub tc_form_delivers : (p q : Parameters) (lists : List (List (List ℕ))) (form : List ℕ) → ((w : ℕ) → tc_lists (tc_format q) q.spacecraft (record { window = w; starts = q.starts; plain = q.plain }) form ≡ lists) → q ≡ p
    → tc_packets p form ≡ lists
tc_form_delivers p q lists form delivers same = ap (λ (r : Parameters). tc_packets r form) (sym same) ∙ delivers q.window
