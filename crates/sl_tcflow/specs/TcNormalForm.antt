-- The normal form of delivered packets: the packets of each virtual channel and MAP, in frames of
-- type AD. The frames keep nothing else of the recording that the packets came from. The form is
-- this project's choice; the frames are those of CCSDS 232.0-B.
use Rattle.std.specs.Prelude.{◌≡◌, ℕ, ◌+◌, ◌-◌, ◌*◌, ◌/◌, ◌%◌, ◌<◌, ◌≤◌, ◌==◌, Bool, false, if◌then◌else◌, List, [], ◌∷◌, ◌++◌, length, take, drop, map, flat_map}
use Rattle.std.specs.List.{AllByRecursion, concat, range_with_len, slice_index_or}
use Rattle.sl_fields.specs.Field.{octets_of}
use Rattle.sl_tcframe.specs.AdFrame.{segment_room_of, ad_frame}
use Rattle.sl_tcframe.specs.TcFrame.{TcFormat}
use Rattle.sl_tcframe.specs.VcSet.{has_vc}
use Rattle.sl_tcflow.specs.Series.{IsSeries, header_at, reassembled, segment_data}

-- how many segments a packet needs, where a segment has `room` octets of the packet at most: each
-- is full except the last one, which has one octet or more
abbrev pub segment_count : ℕ → List ℕ → ℕ
segment_count room packet = (length packet + room - 1) / room

-- the octets of the packet in the segment with this number, from 0 on
abbrev pub octets_at : ℕ → List ℕ → ℕ → List ℕ
octets_at room packet number = take room (drop (number * room) packet)

-- the sequence flags of the segment with this number, from 0 on, of `count` segments
abbrev pub flags_at : ℕ → ℕ → ℕ
flags_at count number =
    if count == 1 then 3
    else if number == 0 then 1
    else if number + 1 == count then 2
    else 0

-- the segment with this number, on this MAP: its header, which is the sequence flags and the MAP,
-- each with its width in bits, and its octets of the packet
abbrev pub segment_at : ℕ → ℕ → List ℕ → ℕ → List ℕ
segment_at room map_id packet number =
    octets_of 1 ((2, flags_at (segment_count room packet) number) ∷ (6, map_id) ∷ []) ++ octets_at room packet number

-- the units of a packet: its segments, or the packet itself on a virtual channel without segment
-- headers
abbrev pub units_of_packet : Bool → ℕ → ℕ → List ℕ → List (List ℕ)
units_of_packet plain room map_id packet =
    if plain then packet ∷ [] else map (segment_at room map_id packet) (range_with_len 0 (segment_count room packet))

-- the units of the packets of a virtual channel, from the MAP `map_id` on; there is one list of
-- packets for each MAP
abbrev pub units_of_maps : Bool → ℕ → ℕ → List (List (List ℕ)) → List (List ℕ)
units_of_maps plain room map_id [] = []
units_of_maps plain room map_id (packets ∷ lists) =
    flat_map (units_of_packet plain room map_id) packets ++ units_of_maps plain room (map_id + 1) lists

-- the frames of type AD that carry these units, with N(S) counting from `ns` on, modulo 256
abbrev pub frames_of_units : TcFormat → ℕ → ℕ → ℕ → List (List ℕ) → List (List ℕ)
frames_of_units format spacecraft vc ns [] = []
frames_of_units format spacecraft vc ns (unit ∷ units) =
    ad_frame format spacecraft vc (ns % 256) unit ∷ frames_of_units format spacecraft vc (ns + 1) units

-- the frames of a virtual channel, with N(S) counting from its initial V(R) `vr` on; the 64 lists
-- are those of its MAPs
abbrev pub vc_frames : TcFormat → ℕ → Bool → ℕ → ℕ → List (List (List ℕ)) → List (List ℕ)
vc_frames format spacecraft plain vr vc lists =
    frames_of_units format spacecraft vc vr (units_of_maps plain (segment_room_of format) 0 lists)

-- The frames of the normal form of lists of packets. The list of virtual channel v and MAP m has
-- the index 64 v + m. N(S) counts on each virtual channel from its initial V(R) on.
abbrev pub tc_frames_form : TcFormat → ℕ → List ℕ → List ℕ → List (List (List ℕ)) → List (List ℕ)
tc_frames_form format spacecraft starts plain_vcs lists =
    flat_map
    (λ vc. vc_frames format spacecraft (has_vc plain_vcs vc) (slice_index_or starts vc 0) vc
    (take 64 (drop (64 * vc) lists)))
    (range_with_len 0 64)

-- the normal form of lists of packets: its frames end to end
abbrev pub tc_normal_form_of : TcFormat → ℕ → List ℕ → List ℕ → List (List (List ℕ)) → List ℕ
tc_normal_form_of format spacecraft starts plain_vcs lists =
    concat (tc_frames_form format spacecraft starts plain_vcs lists)

-- ---- the segments of a packet

-- These are the octets of segments with this room, without their headers: each segment is full except
-- the last one, which has one octet or more.
pub data AreSegments (room : ℕ) : List (List ℕ) → Type 0 where
  last : (octets : List ℕ) → 0 < length octets → length octets ≤ room → AreSegments room (octets ∷ [])
  full : (octets : List ℕ) (later : List (List ℕ)) → length octets ≡ room → AreSegments room later
      → AreSegments room (octets ∷ later)

-- A packet is divided into these segments: they are full except the last one, their octets end to
-- end are the packet, and they are one series on this MAP.
pub record IsDividedInto (room map_id : ℕ) (packet : List ℕ) (segments : List (List ℕ)) : Type 0 where
  pub filled : AreSegments room (map segment_data segments)
  pub end_to_end : reassembled segments ≡ packet
  pub series : IsSeries segments
  pub on_map : AllByRecursion (λ segment. (header_at segment).map ≡ map_id) segments

-- ---- laws

-- Each packet of one octet or more is divided into its segments, where a segment has room.
abbrev pub EachIsDivided : Type 0
EachIsDivided =
    (room map_id : ℕ) (packet : List ℕ) → 0 < room → map_id < 64 → 0 < length packet
    → IsDividedInto room map_id packet (units_of_packet false room map_id packet)
