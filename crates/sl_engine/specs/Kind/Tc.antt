-- TC frames as a kind: their packets are on virtual channels and MAPs.
use Rattle.std.specs.Prelude.{◌≡◌, ◌≤◌, ℕ, ◌+◌, Bool, Option, None, Some, List, [], ◌∷◌, ◌++◌, length, map, Result, Ok, Err, is_err}
use Rattle.std.specs.List.{concat}
use Rattle.sl_cop.specs.declared.verdict.Verdict.{Verdict}
use Rattle.sl_packet.specs.Delivered.{channel_count}
use Rattle.sl_tcframe.specs.declared.tc_frame.TcSkip.{TcSkip}
use Rattle.sl_tcframe.specs.TcDelimited.{tc_frames_of}
use Rattle.sl_tcframe.specs.TcFrame.{TcView, Content, Ad, Bd, Unlock, SetVr, tc_frame}
use Rattle.sl_tcflow.specs.AcceptedUnit.{views_of}
use Rattle.sl_tcflow.specs.Anomaly.{dropped_by, long_by, stray_by, tail_by}
use Rattle.sl_tcflow.specs.Farms.{verdict_on}
use Rattle.sl_tcflow.specs.Receiver.{IsIncompleteAround, ended_by, incomplete_octets_on, unit_channel, unit_map}
use Rattle.sl_tcflow.specs.ReceptionParameters.{ReceptionParameters}
use Rattle.sl_tcflow.specs.Recording.{map_channels, packets_of_channel, tc_lists}
use Rattle.sl_tcflow.specs.StepReport.{StepReport}
use Rattle.sl_engine.specs.Kind.Delivery.{IsWithin, Kind, MayRefuseStoreMemory, count_of, counts_in, number_of_idle, number_of_packets}
use Rattle.sl_engine.specs.Link.Managed.{Parameters, reception_of, tc_format}
use Rattle.sl_engine.specs.Link.Totals.{Counts}
use Rattle.sl_engine.specs.Framing.Tc.{tc_frames}
use Rattle.sl_engine.specs.Tally.{recording_counts}

-- a frame of a recording, as it is read
abbrev pub as_read : Parameters → List ℕ → Result TcView TcSkip
as_read p frame = tc_frame (tc_format p) p.spacecraft frame

-- the packets that end with the next frame's unit, idle ones included
abbrev pub ended_in : ReceptionParameters → List TcView → Result TcView TcSkip → List (List ℕ)
ended_in r views (Ok view) = ended_by r views view
ended_in r views (Err reason) = []

-- the channel of the unit of a frame, 0 where the frame is skipped
abbrev pub unit_channel_of : ReceptionParameters → Result TcView TcSkip → ℕ
unit_channel_of r (Ok view) = unit_channel r view
unit_channel_of r (Err reason) = 0

-- N(S), in a frame of type AD
abbrev pub content_ns : Content → Option ℕ
content_ns (Ad ns unit) = Some ns
content_ns (Bd unit) = None
content_ns Unlock = None
content_ns (SetVr vr) = None

-- what is found of a frame that is read: its virtual channel and MAP; N(S), in a frame of type AD;
-- the verdict of FARM-1; whether a segment is out of sequence; how many octets the series has that is
-- dropped, if one is; whether a series is given up, because it is too long; how many octets are left
-- after the last packet of a service data unit
pub record TcFinding : Type 0 where
  pub vc : ℕ
  pub map : ℕ
  pub ns : Option ℕ
  pub verdict : Verdict
  pub stray : Bool
  pub dropped : Option ℕ
  pub long : Bool
  pub tail : ℕ

-- what is found of a frame, as it is read, after the frames `views`
abbrev pub found_after : ReceptionParameters → List TcView → Result TcView TcSkip → Result TcFinding TcSkip
found_after r views (Ok view) =
    Ok (record {
      vc = view.vc;
      map = unit_map r view;
      ns = content_ns view.content;
      verdict = verdict_on r views view;
      stray = stray_by r views view;
      dropped = dropped_by r views view;
      long = long_by r views view;
      tail = tail_by r views view;
    })
found_after r views (Err reason) = Err reason

-- the same of a frame that comes after others
abbrev pub tc_found : Parameters → List (List ℕ) → List ℕ → Result TcFinding TcSkip
tc_found p before frame = found_after (reception_of p) (views_of (tc_format p) p.spacecraft before) (as_read p frame)

-- TC frames under these parameters
abbrev pub tc_kind : Parameters → Kind
tc_kind p =
    record {
      frames_of = tc_frames p;
      is_skipped = λ frame. is_err (as_read p frame);
      channels = map_channels;
      channel_limit = channel_count;
      channel = λ frame. unit_channel_of (reception_of p) (as_read p frame);
      packets_ended_by = λ before frame.
          ended_in (reception_of p) (views_of (tc_format p) p.spacecraft before) (as_read p frame);
      packets = λ frames channel.
          packets_of_channel (reception_of p) (views_of (tc_format p) p.spacecraft frames) channel;
    }

-- the packets that a recording delivers on each virtual channel and MAP, without idle ones
abbrev pub tc_packets : Parameters → List ℕ → List (List (List ℕ))
tc_packets p recording = tc_lists (tc_format p) p.spacecraft (reception_of p) recording

-- what is counted in frames, and in a remainder of this many octets
abbrev pub tc_counts_in : Parameters → List (List ℕ) → ℕ → Counts
tc_counts_in p = counts_in (tc_kind p)

-- what is counted in a recording
abbrev pub tc_counts : Parameters → List ℕ → Counts
tc_counts p = recording_counts (tc_counts_in p) (tc_frames_of (tc_format p))

-- a series is incomplete before or after the last of these frames, on the MAP of its unit, which is accepted: there
-- `packets` may be refused memory
pub record IsIncompleteAtLastTc (p : Parameters) (frames : List (List ℕ)) : Type 0 where
  pub before : List (List ℕ)
  pub frame : List ℕ
  pub in_order : frames ≡ before ++ frame ∷ []
  pub view : TcView
  pub is_read : as_read p frame ≡ Ok view
  pub incomplete : IsIncompleteAround (reception_of p) (views_of (tc_format p) p.spacecraft before) view

-- the same, or these frames deliver a packet: there `normalise`, `same` and `compare` may be refused it
abbrev pub MayRefuseStoreMemoryTc : Parameters → List (List ℕ) → Type 0
MayRefuseStoreMemoryTc p = MayRefuseStoreMemory (tc_kind p) (IsIncompleteAtLastTc p)

-- ---- a receiver or a counter. Contracts of private functions alone cite this section.

-- what is found of a frame that is read, by the report on it
abbrev pub finding_of : TcView → StepReport → TcFinding
finding_of view report =
    record {
      vc = view.vc;
      map = report.map;
      ns = content_ns view.content;
      verdict = report.verdict;
      stray = report.stray;
      dropped = report.dropped;
      long = report.long;
      tail = report.tail;
    }

-- the octets of the series that are incomplete after frames
abbrev pub octets_held_after : Parameters → List (List ℕ) → ℕ
octets_held_after p frames =
    count_of (map (incomplete_octets_on (reception_of p) (views_of (tc_format p) p.spacecraft frames)) map_channels)

-- A receiver or a counter has processed these frames: `had` says of those that were read that its state is the one
-- after them. The packets that the frames deliver and the octets of the series that are incomplete after them are
-- together no more than the octets of the frames (`held`). TM has `within` alone, as no more packets end in a TM frame
-- than it has octets. But with a unit all packets of its series end, and these may be more than its octets.
pub record HasProcessedTc (p : Parameters) (had : List TcView → Type 0) (frames : List (List ℕ)) : Type 0 where
  pub processed : had (views_of (tc_format p) p.spacecraft frames)
  pub within : IsWithin (tc_kind p) frames
  pub held : number_of_packets (tc_kind p) frames + number_of_idle (tc_kind p) frames + octets_held_after p frames
      ≤ length (concat frames)
