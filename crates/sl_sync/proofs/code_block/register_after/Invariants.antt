use Rattle.std.proofs.Common.{◌≡◌, ◌<◌, drop}
use Rattle.sl_sync.specs.CodeBlock.{register_after}
use Rattle.sl_sync.proofs.code_block.register_after.Given as goal

abbrev pub invariant-loop-octet : goal.invariant-loop-octet
invariant-loop-octet l = record {
  so_far : register_after l.register (drop l.octet-index l.octets) ≡ register_after 0 l.octets;
  small : l.register < 128;
}
