-- TM frames as a kind: their packets are on virtual channels.
use Rattle.std.specs.Prelude.{◌≡◌, ℕ, Bool, true, false, Option, List, [], ◌∷◌, ◌++◌, Result, Ok, Err, is_err}
use Rattle.sl_tmframe.specs.declared.tm_frame.TmSkip.{TmSkip}
use Rattle.sl_tmframe.specs.TmDelimited.{tm_frames_of}
use Rattle.sl_tmframe.specs.TmFrame.{TmView, DataField, Packets, Idle, Opaque, tm_frame}
use Rattle.sl_tmflow.specs.Anomaly.{dropped_of, foreign_of, gap_of}
use Rattle.sl_tmflow.specs.VirtualChannel.{views_on, views_of}
use Rattle.sl_tmflow.specs.Extractor.{IsIncompleteAround, ended_by}
use Rattle.sl_tmflow.specs.Recording.{packets_of_channel, tm_lists, virtual_channels}
use Rattle.sl_tmflow.specs.StepReport.{StepReport}
use Rattle.sl_engine.specs.Kind.Delivery.{IsWithin, Kind, MayRefuseStoreMemory, counts_in}
use Rattle.sl_engine.specs.Link.Managed.{Parameters, tm_format}
use Rattle.sl_engine.specs.Link.Totals.{Counts}
use Rattle.sl_engine.specs.Framing.Tm.{tm_frames}
use Rattle.sl_engine.specs.Tally.{recording_counts}

-- a frame of a recording, as it is read
abbrev pub as_read : Parameters → List ℕ → Result TmView TmSkip
as_read p frame = tm_frame (tm_format p) p.spacecraft frame

-- the packets that end in the next frame, idle ones included
abbrev pub ended_in : List TmView → Result TmView TmSkip → List (List ℕ)
ended_in views (Ok view) = ended_by views view
ended_in views (Err reason) = []

-- the virtual channel of a frame, 0 where the frame is skipped
abbrev pub vc_of : Result TmView TmSkip → ℕ
vc_of (Ok view) = view.vc
vc_of (Err reason) = 0

-- a frame is opaque
abbrev pub is_opaque : DataField → Bool
is_opaque (Packets first octets) = false
is_opaque Idle = false
is_opaque Opaque = true

-- what is found of a frame that is read: its virtual channel and the count of it; the count that was
-- expected, where the frame has another one; how many octets the packet has that the frame breaks
-- off, 0 where there is none; whether the frame is opaque; whether octets of another packet version
-- stand at a packet start
pub record TmFinding : Type 0 where
  pub vc : ℕ
  pub vc_count : ℕ
  pub gap : Option ℕ
  pub dropped : ℕ
  pub opaque : Bool
  pub foreign : Bool

-- what is found of a frame, as it is read, after the frames `views`
abbrev pub found_after : List TmView → Result TmView TmSkip → Result TmFinding TmSkip
found_after views (Ok view) =
    Ok (record {
      vc = view.vc;
      vc_count = view.vc_count;
      gap = gap_of (views_on view.vc views) view;
      dropped = dropped_of (views_on view.vc views) view;
      opaque = is_opaque view.field;
      foreign = foreign_of view.field;
    })
found_after views (Err reason) = Err reason

-- the same of a frame that comes after others
abbrev pub tm_found : Parameters → List (List ℕ) → List ℕ → Result TmFinding TmSkip
tm_found p before frame = found_after (views_of (tm_format p) p.spacecraft before) (as_read p frame)

-- TM frames under these parameters
abbrev pub tm_kind : Parameters → Kind
tm_kind p =
    record {
      frames_of = tm_frames p;
      is_skipped = λ frame. is_err (as_read p frame);
      channels = virtual_channels;
      channel_limit = 8;
      channel = λ frame. vc_of (as_read p frame);
      packets_ended_by = λ before frame. ended_in (views_of (tm_format p) p.spacecraft before) (as_read p frame);
      packets = λ frames vc. packets_of_channel (views_of (tm_format p) p.spacecraft frames) vc;
    }

-- the packets that a recording delivers on each virtual channel, without idle ones
abbrev pub tm_packets : Parameters → List ℕ → List (List (List ℕ))
tm_packets p recording = tm_lists (tm_format p) p.spacecraft recording

-- what is counted in frames, and in a remainder of this many octets
abbrev pub tm_counts_in : Parameters → List (List ℕ) → ℕ → Counts
tm_counts_in p = counts_in (tm_kind p)

-- what is counted in a recording
abbrev pub tm_counts : Parameters → List ℕ → Counts
tm_counts p = recording_counts (tm_counts_in p) (tm_frames_of p.tm_length)

-- a packet is incomplete before or after the last of these frames, on its virtual channel: there `packets` may be
-- refused memory
pub record IsIncompleteAtLastTm (p : Parameters) (frames : List (List ℕ)) : Type 0 where
  pub before : List (List ℕ)
  pub frame : List ℕ
  pub in_order : frames ≡ before ++ frame ∷ []
  pub view : TmView
  pub is_read : as_read p frame ≡ Ok view
  pub incomplete : IsIncompleteAround (views_of (tm_format p) p.spacecraft before) view

-- the same, or these frames deliver a packet: there `normalise`, `same` and `compare` may be refused it
abbrev pub MayRefuseStoreMemoryTm : Parameters → List (List ℕ) → Type 0
MayRefuseStoreMemoryTm p = MayRefuseStoreMemory (tm_kind p) (IsIncompleteAtLastTm p)

-- ---- an extractor or a counter. Contracts of private functions alone cite this section.

-- what is found of a frame that is read, by the report on it
abbrev pub finding_of : TmView → StepReport → TmFinding
finding_of view report =
    record {
      vc = view.vc;
      vc_count = view.vc_count;
      gap = report.gap;
      dropped = report.dropped;
      opaque = is_opaque view.field;
      foreign = report.foreign;
    }

-- An extractor or a counter has processed these frames: `had` says of those that were read that its state is the one
-- after them.
pub record HasProcessedTm (p : Parameters) (had : List TmView → Type 0) (frames : List (List ℕ)) : Type 0 where
  pub processed : had (views_of (tm_format p) p.spacecraft frames)
  pub within : IsWithin (tm_kind p) frames
