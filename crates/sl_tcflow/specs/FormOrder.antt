-- The frames of a TC normal form, read as a recording: they come in a fixed order, and each packet
-- is carried by a series of its own. The order, and that segments are full, are this project's
-- choice.
use Rattle.std.specs.Prelude.{◌≡◌, ℕ, ◌+◌, ◌*◌, ◌%◌, ◌<◌, Bool, if◌then◌else◌, List, [], ◌∷◌, ◌++◌, length, map, flat_map}
use Rattle.std.specs.List.{slice_index_or}
use Rattle.sl_fields.specs.NeverFall.{NeverFall}
use Rattle.sl_tcframe.specs.AdFrame.{plain_room_of, segment_room_of}
use Rattle.sl_tcframe.specs.TcFrame.{TcFormat, TcView, Ad}
use Rattle.sl_tcframe.specs.VcSet.{has_vc}
use Rattle.sl_tcflow.specs.AcceptedUnit.{views_on, unit_of}
use Rattle.sl_tcflow.specs.FormDelivery.{CanBeWritten}
use Rattle.sl_tcflow.specs.Receiver.{map_of}
use Rattle.sl_tcflow.specs.Recording.{recorded_views}
use Rattle.sl_tcflow.specs.Series.{segment_in, segments_on}
use Rattle.sl_tcflow.specs.TcNormalForm.{IsDividedInto, tc_normal_form_of}

-- what is read of the frames of a normal form
abbrev pub form_views : TcFormat → ℕ → List ℕ → List ℕ → List (List (List ℕ)) → List TcView
form_views format spacecraft starts plain_vcs lists =
    recorded_views format spacecraft (tc_normal_form_of format spacecraft starts plain_vcs lists)

-- the segments of a MAP in the frames of a virtual channel, `vc_views`, without segment headers
-- (`plain`) or with them, whether FARM-1 accepts the frames or not
abbrev pub segments_carried : Bool → ℕ → List TcView → List (List ℕ)
segments_carried plain map_id vc_views =
    segments_on map_id (map (segment_in plain) (flat_map (λ (view : TcView). unit_of view.content) vc_views))

-- how many octets of a packet a frame has at most
abbrev pub room_in : Bool → TcFormat → ℕ
room_in plain format = if plain then plain_room_of format else segment_room_of format

-- The segments carry the packets, one after another: each packet is divided into segments of its
-- own, which are one series.
pub data CarryPackets (room map_id : ℕ) : List (List ℕ) → List (List ℕ) → Type 0 where
  none : CarryPackets room map_id [] []
  more : (packet : List ℕ) (own packets later : List (List ℕ)) → IsDividedInto room map_id packet own
      → CarryPackets room map_id packets later → CarryPackets room map_id (packet ∷ packets) (own ++ later)

-- ---- laws

-- The virtual channels of the frames never fall.
abbrev pub VcsNeverFall : Type 0
VcsNeverFall =
    (format : TcFormat) (spacecraft : ℕ) (starts plain_vcs : List ℕ) (lists : List (List (List ℕ)))
    → CanBeWritten format spacecraft plain_vcs lists
    → NeverFall 0 (map (λ (view : TcView). view.vc) (form_views format spacecraft starts plain_vcs lists))

-- The MAPs of the frames of a virtual channel never fall. On a virtual channel without segment
-- headers all frames are on MAP 0, as `map_of` has it. There are no virtual channels above 63.
abbrev pub MapsNeverFall : Type 0
MapsNeverFall =
    (format : TcFormat) (spacecraft : ℕ) (starts plain_vcs : List ℕ) (lists : List (List (List ℕ)))
    → CanBeWritten format spacecraft plain_vcs lists
    → (vc : ℕ) → vc < 64
    → NeverFall 0 (map (λ (view : TcView). map_of (has_vc plain_vcs vc) view.content)
    (views_on vc (form_views format spacecraft starts plain_vcs lists)))

-- Each frame of a virtual channel is of type AD. Its N(S) is the virtual channel's initial V(R) plus
-- the number of the virtual channel's frames before it, modulo 256.
abbrev pub NsCounts : Type 0
NsCounts =
    (format : TcFormat) (spacecraft : ℕ) (starts plain_vcs : List ℕ) (lists : List (List (List ℕ)))
    → CanBeWritten format spacecraft plain_vcs lists
    → (vc : ℕ) → vc < 64 → (before later : List TcView) (view : TcView)
    → views_on vc (form_views format spacecraft starts plain_vcs lists) ≡ before ++ view ∷ later
    → (unit : List ℕ) × (view.content ≡ Ad ((slice_index_or starts vc 0 + length before) % 256) unit)

-- The frames of a virtual channel and a MAP carry the packets that the normal form was made from:
-- each packet is one series, of full segments but the last. The list of virtual channel v and MAP m
-- has the index 64 v + m.
abbrev pub EachPacketIsOneSeries : Type 0
EachPacketIsOneSeries =
    (format : TcFormat) (spacecraft : ℕ) (starts plain_vcs : List ℕ) (lists : List (List (List ℕ)))
    → CanBeWritten format spacecraft plain_vcs lists
    → (vc map_id : ℕ) → vc < 64 → map_id < 64
    → CarryPackets (room_in (has_vc plain_vcs vc) format) map_id (slice_index_or lists (64 * vc + map_id) [])
    (segments_carried (has_vc plain_vcs vc) map_id (views_on vc (form_views format spacecraft starts plain_vcs lists)))
