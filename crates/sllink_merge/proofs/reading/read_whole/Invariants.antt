use Rattle.std.proofs.Common.{◌≡◌, ℕ, ◌+◌, ◌-◌, length}
use Rattle.sllink_merge.specs.Reading.{chunk_size}
use Rattle.sllink_merge.proofs.ReadingLemmas.{IsReading}
use Rattle.sllink_merge.proofs.reading.read_whole.Given as goal

abbrev pub invariant-loop-octets : goal.invariant-loop-octets
invariant-loop-octets g l = record {
  room : length l.buffer ≡ chunk_size;
  reading : IsReading g.R.Read.remaining l.fn.reader l.reader l.limit l.octets.items;
}

abbrev pub decreases-loop-octets : goal.decreases-loop-octets
decreases-loop-octets g l = l.limit + 1 - length l.octets.items
