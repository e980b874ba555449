-- A segment as it is read, CCSDS 232.0-B. Only contracts of private functions and lemmas cite this
-- file.
use Rattle.std.specs.Prelude.{ℕ, Bool, List, Option, None, Some}
use Rattle.sl_cop.specs.declared.verdict.Verdict.{Verdict}
use Rattle.sl_cop.specs.declared.verdict.Verdict.TheVariants.{Accept}
use Rattle.sl_tcframe.specs.TcFrame.{Content, Ad, Bd, Unlock, SetVr}
use Rattle.sl_tcflow.specs.Recording.{channel_at}
use Rattle.sl_tcflow.specs.Series.{flags_of, header_at, segment_data, segment_in}

-- what is read of a segment
pub record SegmentView : Type 0 where
  -- its sequence flags
  pub flags : ℕ
  -- its MAP
  pub map_id : ℕ
  -- the channel of its packets
  pub channel : ℕ
  -- its octets after the segment header
  pub octets : List ℕ

-- what is read of this segment of a virtual channel
abbrev pub segment_view : ℕ → List ℕ → SegmentView
segment_view vc segment = record {
  flags = flags_of segment;
  map_id = (header_at segment).map;
  channel = channel_at vc (header_at segment).map;
  octets = segment_data segment;
}

-- what is read of the segment of the unit in this content, on a virtual channel without segment
-- headers (`plain`) or with them; `None` where there is no unit
abbrev pub carried_segment : ℕ → Bool → Content → Option SegmentView
carried_segment vc plain (Ad ns unit) = Some (segment_view vc (segment_in plain unit))
carried_segment vc plain (Bd unit) = Some (segment_view vc (segment_in plain unit))
carried_segment vc plain Unlock = None
carried_segment vc plain (SetVr vr) = None

-- the MAP of a segment, and 0 where there is none
abbrev pub map_read : Option SegmentView → ℕ
map_read None = 0
map_read (Some segment) = segment.map_id

-- the segment, where this verdict accepts it
abbrev pub accepted_segment : Verdict → Option SegmentView → Option SegmentView
accepted_segment Accept segment = segment
accepted_segment verdict segment = None
