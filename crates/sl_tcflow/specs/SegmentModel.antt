-- A `Segment` stands for what is read of a segment.
use Rattle.std.specs.Prelude.{◌≤◌, ◌<◌, length}
use Rattle.sl_packet.specs.Delivered.{channel_count}
use Rattle.sl_tcframe.specs.TcFrame.{longest_unit}
use Rattle.sl_tcflow.specs.Segment.{SegmentView}
use Rattle.sl_tcflow.specs.declared.segment.Segment.TheInside.{Inside}

-- what a `Segment` stands for
abbrev pub view_of_segment : Inside → SegmentView
view_of_segment s = record { flags = s.flags; map_id = s.map_id; channel = s.channel; octets = s.octets.now }

-- the invariant of a `Segment`: sequence flags of two bits, a MAP of six, a channel up to 4095, and
-- no more octets than the longest unit
pub record IsSegment (s : Inside) : Type 0 where
  pub flags : s.flags ≤ 3
  pub map_id : s.map_id ≤ 63
  pub channel : s.channel < channel_count
  pub short : length s.octets.now ≤ longest_unit
