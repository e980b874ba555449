use Rattle.std.proofs.Common.{◌*◌}
use Rattle.sl_engine.proofs.lemmas.Io.Hexadecimal.{ArePut}
use Rattle.sl_engine.proofs.io.hexadecimal.Hexadecimals.put.Given as goal

abbrev pub invariant-loop-i : goal.invariant-loop-i
invariant-loop-i l = ArePut l.octets l.initial.buffer l.at (32 * l.i) l.buffer
