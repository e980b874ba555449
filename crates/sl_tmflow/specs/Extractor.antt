-- The state of an extractor after frames of the virtual channels of CCSDS 132.0-B were given to it.
use Rattle.std.specs.Prelude.{◌≡◌, ◌≢◌, ◌⊎◌, ℕ, ◌<◌, ◌==◌, Bool, true, false, if◌then◌else◌, List, [], ◌∷◌, ◌++◌, length}
use Rattle.std.specs.List.{AllByRecursion, slice_index_or}
use Rattle.sl_packet.specs.Packets.{without_idle}
use Rattle.sl_tmframe.specs.TmFrame.{TmView}
use Rattle.sl_tmflow.specs.VirtualChannel.{views_on, last_count}
use Rattle.sl_tmflow.specs.Channel.{ChannelState, ChannelWithMemory, new_channel}
use Rattle.sl_tmflow.specs.Delivery.{packets_ending}
use Rattle.sl_tmflow.specs.Incomplete.{incomplete_of}
use Rattle.sl_tmflow.specs.Recording.{packets_of_channel}

-- the state and the memory of each virtual channel, and whether a fault came
pub record ExtractorState : Type 0 where
  pub channels : List ChannelWithMemory
  pub has_failed : Bool

-- the octets that are held, as a list of one packet; an empty list where no octets are held
abbrev pub held_as : List ℕ → List (List ℕ)
held_as [] = []
held_as (octet ∷ octets) = (octet ∷ octets) ∷ []

-- this is the state of a virtual channel after these frames of the channel
pub record HasSeen (state : ChannelState) (channel : List TmView) : Type 0 where
  pub count : state.count ≡ last_count channel
  pub held : held_as state.held ≡ incomplete_of channel

-- The state is the one in which an extractor is after it has processed these frames without a fault.
-- Other lists of frames may lead to the same state.
pub record HasProcessed (state : ExtractorState) (views : List TmView) : Type 0 where
  pub working : state.has_failed ≡ false
  pub each : (vc : ℕ) → vc < 8 → HasSeen (slice_index_or state.channels vc new_channel).state (views_on vc views)

-- the property holds for every list of frames that may have been processed up to this state
abbrev pub ForProcessed : ExtractorState → (List TmView → Type 0) → Type 0
ForProcessed state holds = (views : List TmView) → HasProcessed state views → holds views

-- there are eight virtual channels, and none of them has memory
pub record HasNoMemory (state : ExtractorState) : Type 0 where
  pub eight : length state.channels ≡ 8
  pub none : AllByRecursion (λ (channel : ChannelWithMemory). channel.capacity ≡ 0) state.channels

-- a fault came
abbrev pub IsFailed : ExtractorState → Type 0
IsFailed state = state.has_failed ≡ true

-- the packets that end in the next frame after these frames, idle ones included
abbrev pub ended_by : List TmView → TmView → List (List ℕ)
ended_by views next = packets_ending (views_on next.vc views) next

-- a packet is incomplete on the next frame's virtual channel, before that frame or after it
abbrev pub IsIncompleteAround : List TmView → TmView → Type 0
IsIncompleteAround views next =
    (incomplete_of (views_on next.vc views) ≢ [])
    ⊎ (incomplete_of (views_on next.vc (views ++ next ∷ [])) ≢ [])

-- the packets that an extractor hands over for a virtual channel: it has processed the first list
-- of frames and is given the frames of the second list one after another, and each call answers Ok,
-- which by its clause `accepted` hands over those that end in its frame
abbrev pub handed_over : ℕ → List TmView → List TmView → List (List ℕ)
handed_over vc views [] = []
handed_over vc views (next ∷ later) =
    (if next.vc == vc then without_idle (ended_by views next) else []) ++ handed_over vc (views ++ next ∷ []) later

-- The packets that are handed over from the first frame on are those of the virtual channel, idle
-- packets left out.
abbrev pub DeliveredAreHandedOver : Type 0
DeliveredAreHandedOver =
    (vc : ℕ) (views : List TmView) → handed_over vc [] views ≡ without_idle (packets_of_channel views vc)
