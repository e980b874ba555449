use Rattle.std.proofs.Common.{◌∙◌, ◌++◌, take}
use Rattle.std.proofs.lemmas.Bool.{ne_eqb}
use Rattle.std.proofs.KnownBytes.{Appends-trans}
use Rattle.sl_io.proofs.StreamLemmas.{moves_on}
use Rattle.sl_io.proofs.streams.write_text.Goals as goal

pub loop-left-preserved : goal.loop-left-preserved
loop-left-preserved g c =
    let before = c.loop-left.invariant in
    let left = c.loop-left.left.now in
    record {
      written = before.written ++ take c.in-Ok.taken left;
      parts = moves_on _ before.written left c.in-Ok.taken before.parts;
      writes = Appends-trans _ _ _ _ _ before.writes c.in-Ok.ensures.bytes;
      no_fault = (rw (ne_eqb c.in-Ok.taken 0 c.in-Ok.taken-test.1) at c.in-Ok.ensures.count) ∙ before.no_fault;
    }
