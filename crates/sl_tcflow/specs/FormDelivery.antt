-- The normal form of packets is a recording that delivers exactly these packets.
use Rattle.std.specs.Prelude.{◌≡◌, ℕ, ◌≤◌, List, [], length, Ok}
use Rattle.std.specs.List.{AllByRecursion}
use Rattle.sl_cop.specs.Starts.{AreStarts}
use Rattle.sl_packet.specs.Delivered.{IsDeliverable, channel_count}
use Rattle.sl_tcframe.specs.TcDelimited.{IsTcDelimited}
use Rattle.sl_tcframe.specs.TcFrame.{TcFormat, TcView, tc_frame}
use Rattle.sl_tcflow.specs.Fits.{FitsTc}
use Rattle.sl_tcflow.specs.ReceptionParameters.{ReceptionParameters}
use Rattle.sl_tcflow.specs.Recording.{tc_lists}
use Rattle.sl_tcflow.specs.TcNormalForm.{tc_frames_form, tc_normal_form_of}

-- a format that isn't refused: the greatest length of its frames is 16 to 1024 octets
pub record IsFormat (format : TcFormat) : Type 0 where
  pub least : 16 ≤ format.max
  pub most : format.max ≤ 1024

-- lists of packets that aren't idle, one list for each virtual channel and MAP
pub record AreDeliverable (lists : List (List (List ℕ))) : Type 0 where
  pub all : length lists ≡ channel_count
  pub each : AllByRecursion (AllByRecursion IsDeliverable) lists

-- a format, a spacecraft, and 4,096 lists of packets that frames of the format can carry
pub record CanBeWritten (format : TcFormat) (spacecraft : ℕ) (plain_vcs : List ℕ) (lists : List (List (List ℕ)))
    : Type 0 where
  pub is_format : IsFormat format
  pub spacecraft_fits : spacecraft ≤ 1023
  pub deliverable : AreDeliverable lists
  pub fit : FitsTc format plain_vcs lists

-- the frame is read, and so not skipped
abbrev pub IsNotSkipped : TcFormat → ℕ → List ℕ → Type 0
IsNotSkipped format spacecraft frame = (view : TcView) × (tc_frame format spacecraft frame ≡ Ok view)

-- ---- laws

-- What a recording delivers is a list of packets that aren't idle, for each virtual channel and
-- MAP.
abbrev pub RecordedListsAreDeliverable : Type 0
RecordedListsAreDeliverable =
    (format : TcFormat) (spacecraft : ℕ) (r : ReceptionParameters) (recording : List ℕ)
    → AreDeliverable (tc_lists format spacecraft r recording)

-- Frames can carry the packets that a recording delivers, also on the virtual channels without
-- segment headers.
abbrev pub RecordedListsFit : Type 0
RecordedListsFit =
    (format : TcFormat) (spacecraft : ℕ) (r : ReceptionParameters) (recording : List ℕ)
    → FitsTc format r.plain (tc_lists format spacecraft r recording)

-- The normal form is its frames end to end: no octet remains. Here and in `NoFrameIsLong` the
-- premises are the four fields of `CanBeWritten`, one by one, and in `NormalFormDelivers` these and
-- `AreStarts`: these four and the record are the same premise.
abbrev pub NormalFormIsFrames : Type 0
NormalFormIsFrames =
    (format : TcFormat) (spacecraft : ℕ) (starts plain_vcs : List ℕ) (lists : List (List (List ℕ)))
    → IsFormat format → spacecraft ≤ 1023 → AreDeliverable lists → FitsTc format plain_vcs lists
    → IsTcDelimited format (tc_normal_form_of format spacecraft starts plain_vcs lists)
    (tc_frames_form format spacecraft starts plain_vcs lists) []

-- No frame of the normal form is longer than the managed greatest length.
abbrev pub NoFrameIsLong : Type 0
NoFrameIsLong =
    (format : TcFormat) (spacecraft : ℕ) (starts plain_vcs : List ℕ) (lists : List (List (List ℕ)))
    → IsFormat format → spacecraft ≤ 1023 → AreDeliverable lists → FitsTc format plain_vcs lists
    → AllByRecursion (λ frame. length frame ≤ format.max) (tc_frames_form format spacecraft starts plain_vcs lists)

-- No frame of the normal form is skipped.
abbrev pub NoFrameIsSkipped : Type 0
NoFrameIsSkipped =
    (format : TcFormat) (spacecraft : ℕ) (starts plain_vcs : List ℕ) (lists : List (List (List ℕ)))
    → CanBeWritten format spacecraft plain_vcs lists
    → AllByRecursion (IsNotSkipped format spacecraft) (tc_frames_form format spacecraft starts plain_vcs lists)

-- Read as a recording, with the same initial V(R), the same virtual channels without segment
-- headers and any window, the normal form delivers exactly the packets that it was made from.
abbrev pub NormalFormDelivers : Type 0
NormalFormDelivers =
    (format : TcFormat) (spacecraft : ℕ) (r : ReceptionParameters) (lists : List (List (List ℕ)))
    → IsFormat format → spacecraft ≤ 1023 → AreStarts r.starts → AreDeliverable lists → FitsTc format r.plain lists
    → tc_lists format spacecraft r (tc_normal_form_of format spacecraft r.starts r.plain lists) ≡ lists
