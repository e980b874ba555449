use Rattle.std.proofs.Common.{◌≡◌, ◌≤◌, ◌++◌, true, false, [], length}
use Rattle.std.specs.Vec.{vec_len, vec_capacity}
use Rattle.sl_engine.specs.Io.Streams.{AddsText}
use Rattle.sl_engine.specs.Framing.{chunk_size}
use Rattle.sl_engine.specs.Normalise.Form.{form_size}
use Rattle.sl_engine.proofs.normalise.form.write_form.Given as goal

abbrev pub invariant-loop-text : goal.invariant-loop-text
invariant-loop-text g l = record {
  written : AddsText g.W.Write.contents l.fn.writer l.writer [] (l.text.items ++ g.F.Form.left l.form) (g.F.Form.left l.fn.form);
  ready : l.is_ready ≡ true → g.F.Form.ready l.form × (form_size ≤ vec_capacity l.text);
  first : l.is_ready ≡ false → (l.writer ≡ l.fn.writer) × (g.F.Form.left l.form ≡ g.F.Form.left l.fn.form);
  few : vec_len l.text ≤ chunk_size;
}

abbrev pub decreases-loop-text : goal.decreases-loop-text
decreases-loop-text g l = length (g.F.Form.left l.form)
