-- The anomalies of a TC recording: by how it is delimited, how its frames are read, what FARM-1 makes of them, and what
-- holds of the segments of each MAP.
use Rattle.std.specs.Prelude.{◌≡◌, ◌≢◌, ℕ, ◌^◌, ◌<◌, ◌≤◌, List, [], ◌∷◌, length, Option, None, Some, Ok, Err}
use Rattle.sl_cop.specs.declared.farm_event.FarmEvent.TheVariants as event
use Rattle.sl_cop.specs.declared.verdict.Verdict.{Verdict}
use Rattle.sl_cop.specs.declared.verdict.Verdict.TheVariants.{Accept}
use Rattle.sl_cop.specs.Farm.{FarmState, IsStep}
use Rattle.sl_tcframe.specs.declared.tc_frame.TcSkip.{TcSkip}
use Rattle.sl_tcframe.specs.declared.tc_frame.TcSkip.TheVariants as tc
use Rattle.sl_tcframe.specs.TcDelimited.{IsTcDelimited}
use Rattle.sl_tcframe.specs.TcFrame.{Ad, TcView}
use Rattle.sl_tcflow.specs.Anomaly.{HasTail, IsDropped, IsLong, IsStray}
use Rattle.sl_tcflow.specs.AcceptedUnit.{views_of}
use Rattle.sl_tcflow.specs.Farms.{farm_of}
use Rattle.sl_tcflow.specs.Incomplete.{IsIncomplete}
use Rattle.sl_tcflow.specs.Receiver.{segment_by}
use Rattle.sl_tcflow.specs.Reception.{segments_of}
use Rattle.sl_tcflow.specs.Series.{header_at}
use Rattle.sl_engine.specs.Kind.Tc.{as_read}
use Rattle.sl_engine.specs.Link.Managed.{AreAccepted, Parameters, reception_of, tc_format}
use Rattle.sl_link.specs.Laws.Anomaly.{Anomaly, Finding, IsAnomalyIn, IsCounted, ListsAnomalies, Reason}
use Rattle.sl_link.specs.Laws.Anomaly.{Discarded, Dropped, Skip, Stray, Tail, TooLong}
use Rattle.sl_link.specs.Laws.Anomaly.{Command, Empty, Fecf, Kind, Long, Spacecraft, Version}
use Rattle.sl_engine.specs.Verbs.Check.Tc.{check_tc_counts, check_tc_text}
use Rattle.sl_engine.specs.Verbs.Listing.{Frames}

-- ---- a frame

abbrev pub tc_reason : TcSkip → Reason
tc_reason tc.Fecf = Fecf
tc_reason tc.Version = Version
tc_reason tc.Spacecraft = Spacecraft
tc_reason tc.Long = Long
tc_reason tc.Kind = Kind
tc_reason tc.Empty = Empty
tc_reason tc.Command = Command

-- the frames that are read
abbrev pub read_of : Parameters → Frames → List TcView
read_of p frames = views_of (tc_format p) p.spacecraft frames

-- the segments of a MAP, from the accepted units of frames
abbrev pub map_of : Parameters → Frames → ℕ → ℕ → List (List ℕ)
map_of p frames vc map_id = segments_of (reception_of p) vc map_id (read_of p frames)

-- A frame that comes after others is read, and its unit is accepted and has this segment, on this virtual channel and
-- MAP.
pub record IsAccepted (p : Parameters) (before : Frames) (frame : List ℕ) (vc map_id : ℕ) (segment : List ℕ) : Type 0
  where
    pub view : TcView
    pub is_read : as_read p frame ≡ Ok view
    pub accepted : segment_by (reception_of p) (read_of p before) view ≡ segment ∷ []
    pub vc_is : vc ≡ view.vc
    pub map_is : map_id ≡ (header_at segment).map

-- FARM-1 of its virtual channel discards a frame of type AD that comes after others.
pub record IsDiscarded (p : Parameters) (before : Frames) (frame : List ℕ) (verdict : Verdict) (vc ns : ℕ) : Type 0
  where
    pub view : TcView
    pub is_read : as_read p frame ≡ Ok view
    pub unit : List ℕ
    pub carries : view.content ≡ Ad ns unit
    pub after : FarmState
    pub step : IsStep p.window (farm_of (reception_of p) view.vc (read_of p before)).state (event.Ad ns) verdict after
    pub discards : verdict ≢ Accept
    pub vc_is : vc ≡ view.vc

-- What is anomalous in a frame that comes after others. It is skipped; FARM-1 discards it; or its accepted segment is
-- out of sequence, drops an incomplete series, makes it too long, or ends a service data unit that has octets after its
-- packets.
abbrev pub TcFinds : Parameters → Frames → List ℕ → Finding → Type 0
TcFinds p before frame (Skip reason) = (skip : TcSkip) × (as_read p frame ≡ Err skip) × (reason ≡ tc_reason skip)
TcFinds p before frame (Discarded verdict vc ns) = IsDiscarded p before frame verdict vc ns
TcFinds p before frame (Stray vc map_id) =
    (segment : List ℕ) × IsAccepted p before frame vc map_id segment × IsStray (map_of p before vc map_id) segment
TcFinds p before frame (Dropped vc (Some map_id) octets) =
    (segment : List ℕ) × IsAccepted p before frame vc map_id segment
    × IsDropped (map_of p before vc map_id) segment octets
TcFinds p before frame (TooLong vc map_id) =
    (segment : List ℕ) × IsAccepted p before frame vc map_id segment × IsLong (map_of p before vc map_id) segment
TcFinds p before frame (Tail vc map_id octets) =
    (segment : List ℕ) × IsAccepted p before frame vc map_id segment
    × HasTail (map_of p before vc map_id) segment octets × (0 < octets)
TcFinds p before frame other = ⊥

-- ---- a recording

-- a series of the MAP, with these octets so far, is incomplete after the last of the frames
abbrev pub IsIncompleteTc : Parameters → Frames → ℕ → Option ℕ → List ℕ → Type 0
IsIncompleteTc p frames vc None octets = ⊥
IsIncompleteTc p frames vc (Some map_id) octets =
    (vc < 64) × (map_id < 64) × IsIncomplete (map_of p frames vc map_id) octets

-- an anomaly of the recording
pub record IsTcAnomaly (p : Parameters) (recording : List ℕ) (a : Anomaly) : Type 0 where
  pub frames : Frames
  pub remainder : List ℕ
  pub delimited : IsTcDelimited (tc_format p) recording frames remainder
  pub is : IsAnomalyIn (TcFinds p) (IsIncompleteTc p) frames (length remainder) a

-- ---- laws

-- `check tc` lists the anomalies of the recording, and no other,
abbrev pub TcAnomaliesAreListed : Type 0
TcAnomaliesAreListed =
    (p : Parameters) (recording : List ℕ) → AreAccepted p → p.window ≤ 256
    → ListsAnomalies (IsTcAnomaly p recording) (check_tc_text p recording) (check_tc_counts p recording)

-- and their numbers are below 2^64 where the recording has fewer octets, so that different ones have different lines.
abbrev pub TcAnomaliesAreCounted : Type 0
TcAnomaliesAreCounted =
    (p : Parameters) (recording : List ℕ) (a : Anomaly) → AreAccepted p → length recording < 2 ^ 64
    → IsTcAnomaly p recording a → IsCounted a
