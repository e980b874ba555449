use Rattle.std.proofs.Common.{◌≡◌, ◌<◌, ℕ, [], slice_index_or, length}
use Rattle.sl_engine.specs.Io.Digits.{AreDigits}
use Rattle.sl_engine.proofs.io.digits.octets_in_decimal.Given as goal

abbrev pub invariant-loop-octet : goal.invariant-loop-octet
invariant-loop-octet l = record {
  filled : (n : ℕ) → n < l.octet → AreDigits n (slice_index_or l.table n []);
  size : length l.table ≡ 256;
}
