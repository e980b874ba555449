use Rattle.std.proofs.Common.{◌≡◌, ℕ, ◌+◌, ◌-◌, ◌≤◌, ◌++◌}
use Rattle.sl_sync.specs.CodeBlock.{blocks, data_of}
use Rattle.sl_sync.proofs.code_block.push_blocks.Given as goal

abbrev pub invariant-each : goal.invariant-each
invariant-each l = record {
  counted : l.count + blocks (1024 - l.count) l.rest ≡ blocks 1024 l.fn.octets;
  added : (k : ℕ) → l.text.items ++ data_of k l.rest ≡ l.fn.text.items ++ data_of (l.count + k) l.fn.octets;
  few : l.count ≤ 1024;
}

abbrev pub decreases-each : goal.decreases-each
decreases-each l = 1024 - l.count
