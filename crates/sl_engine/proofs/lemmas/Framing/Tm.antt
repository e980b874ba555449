-- What a framer of TM frames has taken, and what came after the last frame.
use Rattle.std.proofs.Common.{◌≡◌, ℕ, ◌<◌, List, [], ◌++◌, length, Option, sym, ◌∙◌, ap, arith, length-append}
use Rattle.std.specs.Prelude.{IfNone}
use Rattle.std.specs.Borrow.{Bor}
use Rattle.sl_tmframe.specs.TmFraming.{HasTakenTm, TmFraming, UsesUpChunk, YieldsFrame}
use Rattle.sl_tmframe.proofs.DelimitedLemmas.{frames_of-short}
use Rattle.sl_engine.specs.Link.Managed.{Parameters}
use Rattle.sl_engine.specs.Framing.{CutsFrame, WaitsAfter}
use Rattle.sl_engine.specs.Framing.Tm.{TmWaits, is_tm_frame, tm_frames}

module _ (f : TmFraming) (p : Parameters) (rest chunk left : List ℕ) (w : TmWaits f p rest) where
  pub cuts : (frame : List ℕ) → YieldsFrame f chunk frame left → CutsFrame (is_tm_frame p) rest chunk left frame
  cuts frame y = record {
    parts = ap (λ l. l ++ chunk) (sym w.rest_is) ∙ y.parts;
    some = omega (arith, w.short, w.len, y.whole, ap length w.rest_is, ap length y.parts, length-append f.rest chunk, length-append frame left);
    whole = (omega (arith, w.short), y.whole ∙ w.len);
  }

  few : UsesUpChunk f chunk left → length (rest ++ chunk) < p.tm_length
  few u = omega (arith, u.short, w.len, ap length w.rest_is, length-append f.rest chunk, length-append rest chunk)

  pub cuts_none : UsesUpChunk f chunk left → tm_frames p (rest ++ chunk) ≡ []
  cuts_none u = frames_of-short p.tm_length (rest ++ chunk) (few u)

  pub waits_next : (new : TmFraming) (answer : Option (Bor (List ℕ))) → HasTakenTm f chunk answer new → IfNone answer (UsesUpChunk f chunk left)
      → WaitsAfter TmWaits new p rest chunk answer
  waits_next new answer taken u = grind (arith, few, w.len, w.rest_is, w.short)
