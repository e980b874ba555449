-- The normal form of packets, read as a recording: it delivers these packets and no others.
use Rattle.std.specs.Prelude.{◌≡◌, ℕ, ◌≤◌, List, [], length, Ok}
use Rattle.std.specs.List.{AllByRecursion}
use Rattle.sl_packet.specs.Delivered.{IsDeliverable}
use Rattle.sl_tmframe.specs.TmDelimited.{IsTmDelimited}
use Rattle.sl_tmframe.specs.TmFrame.{TmFormat, TmView, tm_frame}
use Rattle.sl_tmflow.specs.NormalForm.{frames_from_channel, normal_form}
use Rattle.sl_tmflow.specs.Recording.{tm_lists}

-- a managed format: its frames have 32 to 2048 octets
pub record IsFormat (format : TmFormat) : Type 0 where
  pub least : 32 ≤ format.len
  pub most : format.len ≤ 2048

-- eight lists, one for each virtual channel, of packets that aren't idle
pub record AreDeliverable (lists : List (List (List ℕ))) : Type 0 where
  pub eight : length lists ≡ 8
  pub each : AllByRecursion (AllByRecursion IsDeliverable) lists

-- a frame is read, and not skipped
abbrev pub IsNotSkipped : TmFormat → ℕ → List ℕ → Type 0
IsNotSkipped format spacecraft frame = (view : TmView) × (tm_frame format spacecraft frame ≡ Ok view)

-- ---- laws

-- A recording delivers lists of packets that aren't idle, one for each virtual channel.
abbrev pub RecordedListsAreDeliverable : Type 0
RecordedListsAreDeliverable =
    (format : TmFormat) (spacecraft : ℕ) (recording : List ℕ) → AreDeliverable (tm_lists format spacecraft recording)

-- The normal form is delimited into the frames that it was made of, and no octet remains.
abbrev pub NormalFormIsFrames : Type 0
NormalFormIsFrames =
    (format : TmFormat) (spacecraft : ℕ) (lists : List (List (List ℕ)))
    → IsFormat format → spacecraft ≤ 1023 → AreDeliverable lists
    → IsTmDelimited format.len (normal_form format spacecraft lists)
    (frames_from_channel format spacecraft 0 0 lists) []

-- No frame of the normal form is skipped.
abbrev pub NoFrameIsSkipped : Type 0
NoFrameIsSkipped =
    (format : TmFormat) (spacecraft : ℕ) (lists : List (List (List ℕ)))
    → IsFormat format → spacecraft ≤ 1023 → AreDeliverable lists
    → AllByRecursion (IsNotSkipped format spacecraft) (frames_from_channel format spacecraft 0 0 lists)

-- Read as a recording, the normal form delivers exactly the packets that it was made from.
abbrev pub NormalFormDelivers : Type 0
NormalFormDelivers =
    (format : TmFormat) (spacecraft : ℕ) (lists : List (List (List ℕ)))
    → IsFormat format → spacecraft ≤ 1023 → AreDeliverable lists
    → tm_lists format spacecraft (normal_form format spacecraft lists) ≡ lists
