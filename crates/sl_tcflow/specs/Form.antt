-- A TC normal form, made piece by piece: the pieces, and the octets that are still to come, for which
-- a `TcForm` stands. A piece is the frames of a packet. Only contracts of private functions cite
-- `piece_of` and `ns_after`. In this file `ns` is the N(S) of the next frame, `plain` says whether a
-- virtual channel has no segment headers, and `plain_vcs` is the virtual channels without them.
use Rattle.std.specs.Prelude.{◌≡◌, ℕ, ◌+◌, ◌-◌, ◌*◌, ◌/◌, ◌%◌, ◌<◌, ◌≤◌, Bool, List, [], ◌++◌, length, take, drop, flat_map}
use Rattle.std.specs.List.{concat, range_with_len, slice_index_or}
use Rattle.sl_packet.specs.Delivered.{PacketLists, channel_count, list_at}
use Rattle.sl_tcframe.specs.AdFrame.{segment_room_of}
use Rattle.sl_tcframe.specs.TcFrame.{TcFormat}
use Rattle.sl_tcframe.specs.VcSet.{has_vc}
use Rattle.sl_tcflow.specs.TcNormalForm.{units_of_packet, units_of_maps, frames_of_units, vc_frames}

-- ---- pieces

-- the piece of a packet on a channel: its frames end to end, with N(S) counting from `ns` on
abbrev pub piece_of : TcFormat → ℕ → Bool → ℕ → ℕ → List ℕ → List ℕ
piece_of format spacecraft plain channel ns packet =
    concat (frames_of_units format spacecraft (channel / 64) ns
    (units_of_packet plain (segment_room_of format) (channel % 64) packet))

-- the N(S) of the frame after the frames of a packet, which begin with `ns`
abbrev pub ns_after : TcFormat → Bool → ℕ → ℕ → List ℕ → ℕ
ns_after format plain channel ns packet =
    (ns + length (units_of_packet plain (segment_room_of format) (channel % 64) packet)) % 256

-- Octets enough for any piece: 2 * 65,542 + 7. A packet has at most 65,542 octets. Each of its
-- frames adds at most 8 octets of its own, and the greatest length of a frame is 16 or more, so each
-- of its frames but the last carries at least 8 octets of the packet, and the last at least 1. So a
-- piece has at most 7 octets more than twice the packet.
abbrev pub piece_room : ℕ
piece_room = 131091

-- A piece of one octet or more is made: it goes from the front of `left`, the octets that are still
-- to come, to the end of `made`. Afterwards these are `left'` and `made'`.
pub record AddsPieceTc (left made left' made' : List ℕ) : Type 0 where
  pub piece : List ℕ
  pub some : 0 < length piece
  pub most : length piece ≤ piece_room
  pub front : left ≡ piece ++ left'
  pub added : made' ≡ made ++ piece

-- ---- the octets that are still to come

-- the octets of a virtual channel from the MAP `map_id` on: those of `packets`, which are left on
-- this MAP, and then those of `later`, the lists of the MAPs after it
abbrev pub maps_left : TcFormat → ℕ → Bool → ℕ → ℕ → ℕ → List (List ℕ) → List (List (List ℕ)) → List ℕ
maps_left format spacecraft plain vc map_id ns packets later =
    concat (frames_of_units format spacecraft vc ns
    (flat_map (units_of_packet plain (segment_room_of format) map_id) packets
    ++ units_of_maps plain (segment_room_of format) (map_id + 1) later))

-- the octets of the `n` virtual channels from `vc` on, none of whose packets is framed yet
abbrev pub vcs_left : TcFormat → ℕ → List ℕ → List ℕ → List (List (List ℕ)) → ℕ → ℕ → List ℕ
vcs_left format spacecraft starts plain_vcs lists vc n =
    concat (flat_map
    (λ vc. vc_frames format spacecraft (has_vc plain_vcs vc) (slice_index_or starts vc 0) vc
    (take 64 (drop (64 * vc) lists)))
    (range_with_len vc n))

-- The octets that are still to come where the packets of all channels before `channel`, and the
-- first `framed` packets of this channel, are framed already. Channel 4096 comes after all of them, as
-- if on virtual channel 64: its list is empty, and the last number below, 63 - 64, is 0, so that no
-- virtual channel is left.
unfoldable pub form_left : TcFormat → ℕ → List ℕ → List ℕ → List (List (List ℕ)) → ℕ → ℕ → ℕ → List ℕ
form_left format spacecraft starts plain_vcs lists channel framed ns =
    maps_left format spacecraft (has_vc plain_vcs (channel / 64)) (channel / 64) (channel % 64) ns
    (drop framed (slice_index_or lists channel []))
    (take (63 - channel % 64) (drop (channel + 1) lists))
    ++ vcs_left format spacecraft starts plain_vcs lists (channel / 64 + 1) (63 - channel / 64)

-- ---- places of packets

-- the place of a packet, which comes after `framed` packets of its channel; or the place after all
-- packets, whose channel is 4096
pub record IsPlace (d : PacketLists) (channel framed : ℕ) : Type 0 where
  pub inside : channel ≤ channel_count
  pub packet : channel < channel_count → framed < length (list_at d channel)
