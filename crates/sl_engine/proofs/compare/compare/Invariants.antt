use Rattle.std.proofs.Common.{◌≡◌, ◌+◌, true, List, ℕ}
use Rattle.sl_pair.specs.Pairing.{StandsAfter}
use Rattle.sl_engine.specs.Compare.Signs.{signs_by}
use Rattle.sl_engine.specs.Compare.Summarised.{HasSummed}
use Rattle.sl_engine.specs.Compare.Turns.{IsReadSoFar, left_to_read, packets_on}
use Rattle.sl_engine.specs.Io.Streams.{IsRead}
use Rattle.sl_engine.specs.Verbs.Check.Lines.{anomalies_by}
use Rattle.sl_engine.proofs.compare.compare.Given as goal

abbrev pub invariant-loop-station : goal.invariant-loop-station
invariant-loop-station g l =
    let k = g.D.Followed.kind l.one_managed in
    let k' = g.D.Followed.kind l.other_managed in
    (so_far also : List ℕ)
    × IsReadSoFar g.A.Read.remaining g.D.Framer.Framer.is_frame g.D.Framer.Framer.waits g.D.Framer.Framer.frames_of (HasSummed (g.D.Followed.kind l.one_managed) (anomalies_by g.D.Checked.lines_of (g.D.Followed.found l.one_managed)) (g.D.Followed.has_processed l.first.counting.deliverer l.one_managed)
    (signs_by (g.D.Summarised.is_own l.one_managed) (g.D.Summarised.is_long l.one_managed) (g.D.Summarised.begun l.one_managed)) l.first.counting.so_far l.first.counting.words l.first.counting.signs) l.one_managed l.fn.one l.one l.first.framer l.first.octets so_far
    × IsReadSoFar g.B.Read.remaining g.D.Framer.Framer.is_frame g.D.Framer.Framer.waits g.D.Framer.Framer.frames_of (HasSummed (g.D.Followed.kind l.other_managed) (anomalies_by g.D.Checked.lines_of (g.D.Followed.found l.other_managed)) (g.D.Followed.has_processed l.second.counting.deliverer l.other_managed)
    (signs_by (g.D.Summarised.is_own l.other_managed) (g.D.Summarised.is_long l.other_managed) (g.D.Summarised.begun l.other_managed)) l.second.counting.so_far l.second.counting.words l.second.counting.signs) l.other_managed l.fn.other l.other l.second.framer l.second.octets also
    × StandsAfter l.pairing (packets_on k (k.frames_of so_far)) (packets_on k' (k'.frames_of also))
    × (l.first.is_read ≡ true → IsRead g.A.Read.remaining l.one)
    × (l.second.is_read ≡ true → IsRead g.B.Read.remaining l.other)

abbrev pub decreases-loop-station : goal.decreases-loop-station
decreases-loop-station g l =
    left_to_read l.one_managed.max_octets l.first.octets l.first.is_read + left_to_read l.other_managed.max_octets l.second.octets l.second.is_read
