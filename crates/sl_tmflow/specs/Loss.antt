-- Lost frames of a virtual channel, CCSDS 132.0-B, and the packets that the kept frames deliver. A
-- frame that is skipped because it is damaged counts as lost.
use Rattle.std.specs.Prelude.{◌≡◌, ⊤, ◌↔◌, ℕ, ◌+◌, ◌-◌, ◌<◌, ◌≤◌, ◌==◌, Bool, true, List, [], ◌∷◌, ◌++◌, length}
use Rattle.std.specs.List.{filter, list_all, list_any, range_with_len, slice_index_or}
use Rattle.sl_packet.specs.Packets.{without_idle}
use Rattle.sl_tmframe.specs.TmFrame.{TmFormat, TmView}
use Rattle.sl_tmflow.specs.Among.{IsAmong}
use Rattle.sl_tmflow.specs.VirtualChannel.{AreConsecutive, views_on}
use Rattle.sl_tmflow.specs.Delivery.{Delivery, IsDelivery, deliveries_of, packets_delivered}
use Rattle.sl_tmflow.specs.Extractor.{handed_over}
use Rattle.sl_tmflow.specs.Recording.{recorded_views, tm_lists}
use Rattle.sl_packet.specs.Sublist.{IsSublist}

-- ---- which frames were kept

-- this is the element of the list with this number, counted from 0
pub record HasNumber {X : Type 0} (all : List X) (number : ℕ) (x : X) : Type 0 where
  pub before : List X
  pub after : List X
  pub in_order : all ≡ before ++ x ∷ after
  pub counted : number ≡ length before

-- the frame counts of a channel have no gap: each frame's count follows that of the frame before it
abbrev pub HasNoGap : List TmView → Type 0
HasNoGap [] = ⊤
HasNoGap (view ∷ later) = AreConsecutive view later

-- these numbers rise from this one on, each by 1 to 256
abbrev pub RiseFrom : ℕ → List ℕ → Type 0
RiseFrom number [] = ⊤
RiseFrom number (next ∷ later) = (number < next) × (next ≤ number + 256) × RiseFrom next later

-- Numbers of frames in rising order, with fewer than 256 left out in a row between two of them.
-- After 256 left out in a row, the next count would be the expected one, as if none were missing.
-- Any number of frames may be left out before the first one and after the last.
abbrev pub FewAreLost : List ℕ → Type 0
FewAreLost [] = ⊤
FewAreLost (number ∷ later) = RiseFrom number later

-- these are the frames of the channel with these numbers, in the same order
abbrev pub HaveNumbers : List TmView → List ℕ → List TmView → Type 0
HaveNumbers channel [] [] = ⊤
HaveNumbers channel [] (view ∷ kept) = ⊥
HaveNumbers channel (number ∷ numbers) [] = ⊥
HaveNumbers channel (number ∷ numbers) (view ∷ kept) = HasNumber channel number view × HaveNumbers channel numbers kept

-- The channel's frame counts have no gap, few frames in a row are lost, and the kept frames are
-- those with these numbers. All other frames were lost.
pub record AreKept (channel : List TmView) (numbers : List ℕ) (kept : List TmView) : Type 0 where
  pub no_gap : HasNoGap channel
  pub few_lost : FewAreLost numbers
  pub frames : HaveNumbers channel numbers kept

-- ---- the deliveries from the kept frames

-- The delivery `d` from the kept frames, which have these numbers in the whole channel, is the same
-- as the delivery `whole` from the whole channel: the same packet from the same start in the same
-- frame, to the same frame. From the frame where the packet starts to the frame where it ends, the
-- whole channel has as many frames as the kept ones, so no frame between them was lost.
pub record IsSameDelivery (numbers : List ℕ) (d whole : Delivery) : Type 0 where
  -- the frame that has the number `d.frame` among the kept ones has the number `whole.frame` in the
  -- whole channel; likewise below
  pub frame : HasNumber numbers d.frame whole.frame
  pub ending : HasNumber numbers d.ending whole.ending
  pub none_lost : whole.ending - whole.frame ≡ d.ending - d.frame
  pub start : d.start ≡ whole.start
  pub packet : d.packet ≡ whole.packet

-- each frame of a delivery of the whole channel was kept, from the frame where the packet starts to
-- the frame where it ends
abbrev pub RunIsKept : List ℕ → Delivery → Type 0
RunIsKept numbers whole = (number : ℕ) → whole.frame ≤ number → number ≤ whole.ending → IsAmong number numbers

-- the test whether each frame of a delivery of the whole channel was kept
abbrev pub keeps_run : List ℕ → Delivery → Bool
keeps_run numbers whole =
    list_all (λ number. list_any (λ kept. kept == number) numbers)
    (range_with_len whole.frame (whole.ending + 1 - whole.frame))

-- the packets of the whole channel whose frames were all kept, in their order
abbrev pub kept_packets : List ℕ → List TmView → List (List ℕ)
kept_packets numbers channel = packets_delivered (filter (keeps_run numbers) (deliveries_of channel))

-- ---- laws

-- Each delivery from the kept frames is one from the whole channel, and none of its frames was
-- lost.
abbrev pub NoneIsNew : Type 0
NoneIsNew =
    (channel : List TmView) (numbers : List ℕ) (kept : List TmView) (d : Delivery) → AreKept channel numbers kept
    → IsDelivery kept d → (whole : Delivery) × IsDelivery channel whole × IsSameDelivery numbers d whole

-- What is the same as a delivery from the whole channel, by `IsSameDelivery`, is a delivery from the
-- kept frames.
abbrev pub EachIsLeft : Type 0
EachIsLeft =
    (channel : List TmView) (numbers : List ℕ) (kept : List TmView) (d whole : Delivery) → AreKept channel numbers kept
    → IsDelivery channel whole → IsSameDelivery numbers d whole → IsDelivery kept d

-- Where a delivery from the kept frames is the same as one from the whole channel, with as many
-- frames, all these frames were kept, by their numbers.
abbrev pub RunsAreKept : Type 0
RunsAreKept =
    (numbers : List ℕ) (d whole : Delivery) → FewAreLost numbers → IsSameDelivery numbers d whole
    → RunIsKept numbers whole

-- For each delivery of the whole channel whose frames were all kept, by their numbers, there is the
-- same one from the kept frames.
abbrev pub KeptRunsAreLeft : Type 0
KeptRunsAreLeft =
    (channel : List TmView) (numbers : List ℕ) (kept : List TmView) (whole : Delivery) → AreKept channel numbers kept
    → IsDelivery channel whole → RunIsKept numbers whole
    → (d : Delivery) × IsDelivery kept d × IsSameDelivery numbers d whole

-- `keeps_run` decides whether all frames of a delivery were kept.
abbrev pub TestTellsRun : Type 0
TestTellsRun = (numbers : List ℕ) (whole : Delivery) → (keeps_run numbers whole ≡ true) ↔ RunIsKept numbers whole

-- The packets that the kept frames deliver are those of the whole channel whose frames were all
-- kept, in their order.
abbrev pub PacketsAreKept : Type 0
PacketsAreKept =
    (channel : List TmView) (numbers : List ℕ) (kept : List TmView) → AreKept channel numbers kept
    → packets_delivered (deliveries_of kept) ≡ kept_packets numbers channel

-- The packets that the kept frames deliver are a sublist of those of the whole channel.
abbrev pub PacketsAreSublist : Type 0
PacketsAreSublist =
    (channel : List TmView) (numbers : List ℕ) (kept : List TmView) → AreKept channel numbers kept
    → IsSublist (packets_delivered (deliveries_of kept)) (packets_delivered (deliveries_of channel))

-- An extractor that is given the kept frames hands over the packets whose frames were all kept,
-- idle packets left out, where each call answers Ok.
abbrev pub HandedOverAreKept : Type 0
HandedOverAreKept =
    (vc : ℕ) (channel : List TmView) (numbers : List ℕ) (views : List TmView)
    → AreKept channel numbers (views_on vc views)
    → handed_over vc [] views ≡ without_idle (kept_packets numbers channel)

-- The packets that an extractor hands over from the kept frames are a sublist of those of the whole
-- channel.
abbrev pub HandedOverAreSublist : Type 0
HandedOverAreSublist =
    (vc : ℕ) (channel : List TmView) (numbers : List ℕ) (views : List TmView)
    → AreKept channel numbers (views_on vc views)
    → IsSublist (handed_over vc [] views) (without_idle (packets_delivered (deliveries_of channel)))

-- ---- recordings

-- the frames of a recording on a virtual channel; a skipped frame is on no virtual channel
abbrev pub recorded_channel : TmFormat → ℕ → ℕ → List ℕ → List TmView
recorded_channel format spacecraft vc recording = views_on vc (recorded_views format spacecraft recording)

-- the packets that a recording delivers on a virtual channel, idle packets left out
abbrev pub recorded_packets : TmFormat → ℕ → ℕ → List ℕ → List (List ℕ)
recorded_packets format spacecraft vc recording = slice_index_or (tm_lists format spacecraft recording) vc []

-- A recording has on a virtual channel exactly the kept frames of the recording `whole`, which have
-- these numbers on that channel. Nothing is said of the other virtual channels.
pub record IsRecordingOfKept (format : TmFormat) (spacecraft vc : ℕ) (numbers whole recording : List ℕ) : Type 0 where
  pub channel : vc < 8
  pub kept :
      AreKept (recorded_channel format spacecraft vc whole) numbers
      (recorded_channel format spacecraft vc recording)

-- A recording of the kept frames delivers on the virtual channel the packets whose frames were all
-- kept, idle packets left out.
abbrev pub RecordedAreKept : Type 0
RecordedAreKept =
    (format : TmFormat) (spacecraft vc : ℕ) (numbers whole recording : List ℕ)
    → IsRecordingOfKept format spacecraft vc numbers whole recording
    → recorded_packets format spacecraft vc recording
    ≡ without_idle (kept_packets numbers (recorded_channel format spacecraft vc whole))

-- A recording of the kept frames delivers on the virtual channel a sublist of what the whole
-- recording delivers there.
abbrev pub RecordedAreSublist : Type 0
RecordedAreSublist =
    (format : TmFormat) (spacecraft vc : ℕ) (numbers whole recording : List ℕ)
    → IsRecordingOfKept format spacecraft vc numbers whole recording
    → IsSublist (recorded_packets format spacecraft vc recording) (recorded_packets format spacecraft vc whole)
