use Rattle.std.proofs.Common.{take}
use Rattle.sl_fields.specs.FecfRegister.{TakesIn}
use Rattle.sl_fields.proofs.error_control.after_octets.Given as goal

abbrev pub invariant-loop-octet : goal.invariant-loop-octet
invariant-loop-octet l = TakesIn l.initial.after (take l.octet-index l.octets) l.after
