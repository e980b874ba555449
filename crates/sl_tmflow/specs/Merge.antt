-- The frames of a virtual channel among those of a recording that has more of them, as one that was put together from
-- the recordings of several stations. Nothing is said of what was sent: the counts may have any gaps.
use Rattle.std.specs.Prelude.{◌≡◌, ⊤, ◌⊎◌, ℕ, ◌+◌, ◌-◌, ◌%◌, ◌<◌, false, List, [], ◌∷◌, ◌++◌, Option, None, Some}
use Rattle.std.specs.List.{AllByRecursion}
use Rattle.sl_packet.specs.Packets.{without_idle}
use Rattle.sl_tmflow.specs.Among.{IsAmong}
use Rattle.sl_tmframe.specs.TmFrame.{TmFormat, TmView}
use Rattle.sl_tmflow.specs.Delivery.{deliveries_of, packets_delivered}
use Rattle.sl_tmflow.specs.Loss.{AreKept, HaveNumbers, IsRecordingOfKept, kept_packets, recorded_channel, recorded_packets}
use Rattle.sl_packet.specs.Sublist.{IsSublist}
use Rattle.sl_tmflow.specs.VirtualChannel.{follows}

-- A frame's count doesn't follow the count of the frame before it, if there is one. So a frame was lost between the two,
-- and others may stand there.
abbrev pub IsAfterLoss : Option ℕ → TmView → Type 0
IsAfterLoss None next = ⊤
IsAfterLoss (Some count) next = follows count next.vc_count ≡ false

-- The first frames are among the second ones, in the same order. Where the count of one follows that of the frame before
-- it, no frame stands between the two. The frame before the first one has this count, if there is one.
abbrev pub AreWithin : Option ℕ → List TmView → List TmView → Type 0
AreWithin last [] more = ⊤
AreWithin last (view ∷ frames) [] = ⊥
AreWithin last (view ∷ frames) (other ∷ more) =
    ((view ≡ other) × AreWithin (Some view.vc_count) frames more)
    ⊎ (IsAfterLoss last view × AreWithin last (view ∷ frames) more)

-- a recording has on a virtual channel all frames that another one has there, and no run of these is broken
pub record HasChannel (format : TmFormat) (spacecraft vc : ℕ) (recording merged : List ℕ) : Type 0 where
  pub channel : vc < 8
  pub within :
      AreWithin None (recorded_channel format spacecraft vc recording) (recorded_channel format spacecraft vc merged)

-- ---- laws

-- Frames deliver no packet that the frames that they are within don't deliver.
abbrev pub NoneIsLost : Type 0
NoneIsLost =
    (frames more : List TmView) → AreWithin None frames more
    → IsSublist (packets_delivered (deliveries_of frames)) (packets_delivered (deliveries_of more))

-- What is within frames is within all frames that these are within: recordings can be merged one after another.
abbrev pub WithinIsTransitive : Type 0
WithinIsTransitive =
    (frames more most : List TmView) → AreWithin None frames more → AreWithin None more most
    → AreWithin None frames most

-- A recording that has all frames of another one, no run broken, delivers all packets that the other one delivers, in
-- their order, idle packets left out on both sides.
abbrev pub RecordedAreDelivered : Type 0
RecordedAreDelivered =
    (format : TmFormat) (spacecraft vc : ℕ) (recording merged : List ℕ)
    → HasChannel format spacecraft vc recording merged
    → IsSublist (recorded_packets format spacecraft vc recording) (recorded_packets format spacecraft vc merged)

-- ---- frames of a whole channel that one of two recordings has

-- these numbers are all numbers of both lists, and no others
pub record AreOfBoth (numbers one other : List ℕ) : Type 0 where
  pub of_one : (number : ℕ) → IsAmong number one → IsAmong number numbers
  pub of_other : (number : ℕ) → IsAmong number other → IsAmong number numbers
  pub only : (number : ℕ) → IsAmong number numbers → IsAmong number one ⊎ IsAmong number other

-- The merged recording has on a virtual channel the frames of the whole channel that one recording or the other has:
-- those with the numbers `numbers`, of which one recording has `a` and the other has `b`. The counts of the whole
-- channel have no gap, and fewer than 256 frames in a row are lost by both.
pub record IsBestOfBoth (format : TmFormat) (spacecraft vc : ℕ) (a b numbers whole one other merged : List ℕ) : Type 0 where
  pub one_has : HaveNumbers (recorded_channel format spacecraft vc whole) a (recorded_channel format spacecraft vc one)
  pub other_has : HaveNumbers (recorded_channel format spacecraft vc whole) b (recorded_channel format spacecraft vc other)
  pub merged_has : IsRecordingOfKept format spacecraft vc numbers whole merged
  pub both : AreOfBoth numbers a b

-- The best of both delivers exactly the packets of the whole channel each frame of which one recording or the other has,
-- idle packets left out.
abbrev pub BestIsExact : Type 0
BestIsExact =
    (format : TmFormat) (spacecraft vc : ℕ) (a b numbers whole one other merged : List ℕ)
    → IsBestOfBoth format spacecraft vc a b numbers whole one other merged
    → recorded_packets format spacecraft vc merged
    ≡ without_idle (kept_packets (a ++ b) (recorded_channel format spacecraft vc whole))

-- ---- the numbers that the counts tell

-- how many frames later a frame with the second count comes than one with the first: 1 to 256
abbrev pub frames_later : ℕ → ℕ → ℕ
frames_later count next = (next + 255 - count) % 256 + 1

-- the numbers of these frames by their counts, after the frame `view`, which has this number
abbrev pub numbers_after : ℕ → TmView → List TmView → List ℕ
numbers_after number view [] = []
numbers_after number view (next ∷ later) =
    (number + frames_later view.vc_count next.vc_count)
    ∷ numbers_after (number + frames_later view.vc_count next.vc_count) next later

-- Where fewer than 256 frames in a row are lost, the counts tell the numbers of all frames after one whose number is
-- known. So two recordings of a channel that have one frame in common stand to each other as their counts say.
abbrev pub CountsTellNumbers : Type 0
CountsTellNumbers =
    (channel : List TmView) (number : ℕ) (view : TmView) (numbers : List ℕ) (later : List TmView)
    → AreKept channel (number ∷ numbers) (view ∷ later) → AllByRecursion (λ v. v.vc_count < 256) (view ∷ later)
    → numbers ≡ numbers_after number view later

-- Where few frames of a whole channel are lost, those of one recording are within those of a recording that has these
-- and others: a merge that puts each frame in its place breaks no run.
abbrev pub BestBreaksNoRun : Type 0
BestBreaksNoRun =
    (channel : List TmView) (one numbers : List ℕ) (frames merged : List TmView)
    → AreKept channel one frames → AreKept channel numbers merged
    → ((number : ℕ) → IsAmong number one → IsAmong number numbers) → AreWithin None frames merged
