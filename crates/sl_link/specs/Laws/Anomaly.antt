-- An anomaly of a recording, its line in the listing of `check`, and the order of the lines. What is an anomaly of a
-- recording is said by relations, in `Anomaly/Tm.antt` and `Anomaly/Tc.antt`, and not by what the listing is made with,
-- but for how frames are read and which units FARM-1 accepts: that function goes by `farm_step`, which has the one step
-- of FARM-1's table for a state and an event.
pub mod Tc
pub mod Tm
use Rattle.std.specs.Prelude.{◌≡◌, ◌⊎◌, ◌↔◌, ⊤, ℕ, ◌+◌, ◌^◌, ◌<◌, List, [], ◌∷◌, ◌++◌, length, map, codes, decimal, Option, None, Some}
use Rattle.std.specs.List.{AllByRecursion, concat}
use Rattle.sl_cop.specs.declared.verdict.Verdict.{Verdict}
use Rattle.sl_tcflow.specs.Recording.{channel_at}
use Rattle.sl_tmflow.specs.Among.{IsAmong}
use Rattle.sl_engine.specs.Io.Words.{line_at, verdict_word}
use Rattle.sl_engine.specs.Link.Totals.{Counts}
use Rattle.sl_engine.specs.Verbs.Check.Lines.{some_text, totals_line}
use Rattle.sl_engine.specs.Verbs.Listing.{Frames}

-- ---- an anomaly

-- Why a frame is skipped. A TM frame has one of the first three reasons.
pub data Reason : Type 0 where
  Fecf : Reason
  Version : Reason
  Spacecraft : Reason
  Long : Reason
  Kind : Reason
  Empty : Reason
  Command : Reason

-- What is anomalous, in numbers: of a frame, of the remainder, or of a channel at the end. Only TC has MAPs: where a
-- MAP is `None`, the anomaly is of a TM recording.
pub data Finding : Type 0 where
  -- the frame is skipped
  Skip : (reason : Reason) → Finding
  -- another virtual channel frame count was expected than is found
  Gap : (vc expected found : ℕ) → Finding
  -- FARM-1 discards the frame of type AD, which has this N(S)
  Discarded : (verdict : Verdict) (vc ns : ℕ) → Finding
  -- the segment continues a series, and none is incomplete
  Stray : (vc map_id : ℕ) → Finding
  -- what was incomplete, with this many octets, is dropped
  Dropped : (vc : ℕ) (map_id : Option ℕ) (octets : ℕ) → Finding
  -- the frame is opaque
  Opaque : (vc : ℕ) → Finding
  -- octets of another packet version than 0 stand at a packet start
  Foreign : (vc : ℕ) → Finding
  -- the series is too long, and given up
  TooLong : (vc map_id : ℕ) → Finding
  -- this many octets are left after the packets of a service data unit
  Tail : (vc map_id octets : ℕ) → Finding
  -- this many octets are left after the last frame
  Rest : (octets : ℕ) → Finding
  -- what is incomplete after the last frame has this many octets
  Open : (vc : ℕ) (map_id : Option ℕ) (octets : ℕ) → Finding

-- An anomaly, and the number of octets of the recording before it: of a frame or the remainder, those before its first
-- octet; of what is incomplete at the end, all.
pub record Anomaly : Type 0 where
  pub offset : ℕ
  pub finding : Finding

-- ---- its line

abbrev pub reason_word : Reason → List ℕ
reason_word Fecf = codes "fecf"
reason_word Version = codes "version"
reason_word Spacecraft = codes "spacecraft"
reason_word Long = codes "long"
reason_word Kind = codes "kind"
reason_word Empty = codes "empty"
reason_word Command = codes "command"

-- a virtual channel, and a MAP and octets where there are any
abbrev pub channel_text : ℕ → Option ℕ → Option ℕ → List ℕ
channel_text vc map_id octets =
    codes " vc " ++ decimal vc ++ some_text (codes " map ") map_id ++ some_text (codes " octets ") octets

-- what the line says after the offset
abbrev pub text_of : Finding → List ℕ
text_of (Skip reason) = codes " skip " ++ reason_word reason
text_of (Gap vc expected found) =
    codes " gap vc " ++ decimal vc ++ codes " expected " ++ decimal expected ++ codes " found " ++ decimal found
text_of (Discarded verdict vc ns) =
    codes " " ++ verdict_word verdict ++ codes " vc " ++ decimal vc ++ codes " ad " ++ decimal ns
text_of (Stray vc map_id) = codes " stray" ++ channel_text vc (Some map_id) None
text_of (Dropped vc map_id octets) = codes " dropped" ++ channel_text vc map_id (Some octets)
text_of (Opaque vc) = codes " opaque" ++ channel_text vc None None
text_of (Foreign vc) = codes " foreign" ++ channel_text vc None None
text_of (TooLong vc map_id) = codes " long" ++ channel_text vc (Some map_id) None
text_of (Tail vc map_id octets) = codes " tail" ++ channel_text vc (Some map_id) (Some octets)
text_of (Rest octets) = codes " rest " ++ decimal octets
text_of (Open vc map_id octets) = codes " open" ++ channel_text vc map_id (Some octets)

-- the line of an anomaly
abbrev pub line_of : Anomaly → List ℕ
line_of a = line_at a.offset (text_of a.finding)

-- ---- the order of the lines

-- the number of a virtual channel, or of a virtual channel and a MAP
abbrev pub channel_number : ℕ → Option ℕ → ℕ
channel_number vc None = vc
channel_number vc (Some map_id) = channel_at vc map_id

-- the place among the lines that begin with the same offset
abbrev pub place_of : Finding → ℕ
place_of (Skip reason) = 0
place_of (Gap vc expected found) = 1
place_of (Discarded verdict vc ns) = 2
place_of (Stray vc map_id) = 3
place_of (Dropped vc map_id octets) = 4
place_of (Opaque vc) = 5
place_of (Foreign vc) = 6
place_of (TooLong vc map_id) = 7
place_of (Tail vc map_id octets) = 8
place_of (Rest octets) = 9
place_of (Open vc map_id octets) = 10 + channel_number vc map_id

-- an anomaly comes before another one: by the offset, and then by the place
abbrev pub ComesBefore : Anomaly → Anomaly → Type 0
ComesBefore a b = (a.offset < b.offset) ⊎ ((a.offset ≡ b.offset) × (place_of a.finding < place_of b.finding))

-- each anomaly comes before all later ones, so none is there twice
abbrev pub AreInOrder : List Anomaly → Type 0
AreInOrder [] = ⊤
AreInOrder (a ∷ later) = AllByRecursion (ComesBefore a) later × AreInOrder later

-- ---- the anomalies of frames and a remainder, of either kind

-- The anomaly is of one of the frames. `finds` says what is anomalous in a frame that comes after others.
pub record IsOfFrame (finds : Frames → List ℕ → Finding → Type 0) (frames : Frames) (a : Anomaly) : Type 0 where
  pub before : Frames
  pub frame : List ℕ
  pub later : Frames
  pub in_order : frames ≡ before ++ frame ∷ later
  pub at : a.offset ≡ length (concat before)
  pub found : finds before frame a.finding

-- octets are left after the frames
pub record IsOfRemainder (frames : Frames) (remainder : ℕ) (a : Anomaly) : Type 0 where
  pub some : 0 < remainder
  pub at : a.offset ≡ length (concat frames)
  pub found : a.finding ≡ Rest remainder

-- What is incomplete after the last frame, on a virtual channel or a MAP. `is_incomplete` says what is.
pub record IsOfEnd (is_incomplete : ℕ → Option ℕ → List ℕ → Type 0) (total : ℕ) (a : Anomaly) : Type 0 where
  pub vc : ℕ
  pub map_id : Option ℕ
  pub octets : List ℕ
  pub incomplete : is_incomplete vc map_id octets
  pub at : a.offset ≡ total
  pub found : a.finding ≡ Open vc map_id (length octets)

-- one of the three
abbrev pub IsAnomalyIn : (Frames → List ℕ → Finding → Type 0) → (Frames → ℕ → Option ℕ → List ℕ → Type 0) → Frames
    → ℕ → Anomaly → Type 0
IsAnomalyIn finds is_incomplete frames remainder a =
    IsOfFrame finds frames a
    ⊎ (IsOfRemainder frames remainder a ⊎ IsOfEnd (is_incomplete frames) (length (concat frames) + remainder) a)

-- ---- the listing

-- The listing is the lines of anomalies, one after another, and then that of the totals. The anomalies are exactly those
-- of the recording, each of them once, in order of place, and the totals have their number.
pub record ListsAnomalies (is_anomaly : Anomaly → Type 0) (listing : List ℕ) (totals : Counts) : Type 0 where
  pub anomalies : List Anomaly
  pub lines : listing ≡ concat (map line_of anomalies) ++ totals_line totals
  pub exactly : (a : Anomaly) → IsAmong a anomalies ↔ is_anomaly a
  pub in_order : AreInOrder anomalies
  pub number : totals.anomalies ≡ length anomalies

-- ---- different anomalies have different lines

-- the numbers in the text of a finding
abbrev pub numbers_of : Finding → List ℕ
numbers_of (Skip reason) = []
numbers_of (Gap vc expected found) = vc ∷ expected ∷ found ∷ []
numbers_of (Discarded verdict vc ns) = vc ∷ ns ∷ []
numbers_of (Stray vc map_id) = vc ∷ map_id ∷ []
numbers_of (Dropped vc None octets) = vc ∷ octets ∷ []
numbers_of (Dropped vc (Some map_id) octets) = vc ∷ map_id ∷ octets ∷ []
numbers_of (Opaque vc) = vc ∷ []
numbers_of (Foreign vc) = vc ∷ []
numbers_of (TooLong vc map_id) = vc ∷ map_id ∷ []
numbers_of (Tail vc map_id octets) = vc ∷ map_id ∷ octets ∷ []
numbers_of (Rest octets) = octets ∷ []
numbers_of (Open vc None octets) = vc ∷ octets ∷ []
numbers_of (Open vc (Some map_id) octets) = vc ∷ map_id ∷ octets ∷ []

-- all numbers of an anomaly are below 2^64
abbrev pub IsCounted : Anomaly → Type 0
IsCounted a = AllByRecursion (λ n. n < 2 ^ 64) (a.offset ∷ numbers_of a.finding)

-- Two anomalies that have the same line are the same, where their numbers are below 2^64.
abbrev pub LinesTellAnomalies : Type 0
LinesTellAnomalies = (a b : Anomaly) → IsCounted a → IsCounted b → line_of a ≡ line_of b → a ≡ b
