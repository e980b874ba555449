use Rattle.std.proofs.Common.{◌≡◌, ◌%◌, ◌++◌, take, drop}
use Rattle.sl_sync.specs.Randomiser.{randomised}
use Rattle.sl_sync.proofs.randomiser.randomise.Given as goal

abbrev pub invariant-loop-octet : goal.invariant-loop-octet
invariant-loop-octet l = record {
  so_far : l.octets ≡ randomised l.fn.randomiser (take l.octet-index l.initial.octets) ++ drop l.octet-index l.initial.octets;
  place : l.place ≡ l.octet-index % 255;
}
