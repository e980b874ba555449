-- The anomalies of a TM recording: by how it is delimited, how its frames are read, and what holds of each virtual
-- channel.
use Rattle.std.specs.Prelude.{◌≡◌, ℕ, ◌^◌, ◌<◌, List, length, Option, None, Ok, Err}
use Rattle.sl_tmframe.specs.declared.tm_frame.TmSkip.{TmSkip}
use Rattle.sl_tmframe.specs.declared.tm_frame.TmSkip.TheVariants as tm
use Rattle.sl_tmframe.specs.TmDelimited.{IsTmDelimited}
use Rattle.sl_tmframe.specs.TmFrame.{TmView}
use Rattle.sl_tmframe.specs.TmFrame as content
use Rattle.sl_tmflow.specs.Anomaly.{HasForeignStart, IsBrokenOff, IsGap}
use Rattle.sl_tmflow.specs.Incomplete.{IsIncomplete}
use Rattle.sl_tmflow.specs.VirtualChannel.{views_of, views_on}
use Rattle.sl_engine.specs.Kind.Tm.{as_read}
use Rattle.sl_engine.specs.Link.Managed.{AreAccepted, Parameters, tm_format}
use Rattle.sl_link.specs.Laws.Anomaly.{Anomaly, Finding, IsAnomalyIn, IsCounted, ListsAnomalies, Reason}
use Rattle.sl_link.specs.Laws.Anomaly.{Dropped, Fecf, Foreign, Gap, Opaque, Skip, Spacecraft, Version}
use Rattle.sl_engine.specs.Verbs.Check.Tm.{check_tm_counts, check_tm_text}
use Rattle.sl_engine.specs.Verbs.Listing.{Frames}

-- ---- a frame

abbrev pub tm_reason : TmSkip → Reason
tm_reason tm.Fecf = Fecf
tm_reason tm.Version = Version
tm_reason tm.Spacecraft = Spacecraft

-- the frames of a virtual channel
abbrev pub channel_of : Parameters → Frames → ℕ → List TmView
channel_of p frames vc = views_on vc (views_of (tm_format p) p.spacecraft frames)

-- What is anomalous in a frame that comes after others. It is skipped; its virtual channel frame count isn't the
-- expected one; it breaks off a packet that is incomplete before it; it is opaque; or it has octets of another packet
-- version at a packet start.
abbrev pub TmFinds : Parameters → Frames → List ℕ → Finding → Type 0
TmFinds p before frame (Skip reason) = (skip : TmSkip) × (as_read p frame ≡ Err skip) × (reason ≡ tm_reason skip)
TmFinds p before frame (Gap vc expected found) =
    (view : TmView) × (as_read p frame ≡ Ok view) × IsGap (channel_of p before view.vc) view expected
    × (vc ≡ view.vc) × (found ≡ view.vc_count)
TmFinds p before frame (Dropped vc map_id octets) =
    (view : TmView) × (packet : List ℕ) × (as_read p frame ≡ Ok view)
    × IsBrokenOff (channel_of p before view.vc) view packet
    × (vc ≡ view.vc) × (map_id ≡ None) × (octets ≡ length packet)
TmFinds p before frame (Opaque vc) =
    (view : TmView) × (as_read p frame ≡ Ok view) × (view.field ≡ content.Opaque) × (vc ≡ view.vc)
TmFinds p before frame (Foreign vc) =
    (view : TmView) × (as_read p frame ≡ Ok view) × HasForeignStart view.field × (vc ≡ view.vc)
TmFinds p before frame other = ⊥

-- ---- a recording

-- a packet of the virtual channel, with these octets so far, is incomplete after the last of the frames
abbrev pub IsIncompleteTm : Parameters → Frames → ℕ → Option ℕ → List ℕ → Type 0
IsIncompleteTm p frames vc map_id octets =
    (vc < 8) × (map_id ≡ None) × IsIncomplete (channel_of p frames vc) octets

-- an anomaly of the recording
pub record IsTmAnomaly (p : Parameters) (recording : List ℕ) (a : Anomaly) : Type 0 where
  pub frames : Frames
  pub remainder : List ℕ
  pub delimited : IsTmDelimited p.tm_length recording frames remainder
  pub is : IsAnomalyIn (TmFinds p) (IsIncompleteTm p) frames (length remainder) a

-- ---- laws

-- `check tm` lists the anomalies of the recording, and no other,
abbrev pub TmAnomaliesAreListed : Type 0
TmAnomaliesAreListed =
    (p : Parameters) (recording : List ℕ) → AreAccepted p
    → ListsAnomalies (IsTmAnomaly p recording) (check_tm_text p recording) (check_tm_counts p recording)

-- and their numbers are below 2^64 where the recording has fewer octets, so that different ones have different lines.
abbrev pub TmAnomaliesAreCounted : Type 0
TmAnomaliesAreCounted =
    (p : Parameters) (recording : List ℕ) (a : Anomaly) → AreAccepted p → length recording < 2 ^ 64
    → IsTmAnomaly p recording a → IsCounted a
