-- The normal form of a TM recording: the delivered packets of each virtual channel, in new frames
-- of CCSDS 132.0-B that depend on nothing else of the recording. All of it is this project's
-- choice. Here `room` is the length of a data field, and frames and
-- data fields are numbered from 0.
use Rattle.std.specs.Prelude.{◌≡◌, ◌⊎◌, ℕ, ◌+◌, ◌-◌, ◌*◌, ◌/◌, ◌%◌, ◌<◌, ◌≤◌, ◌==◌, ◌||◌, nat_lt, Bool, not, if◌then◌else◌, List, [], ◌∷◌, ◌++◌, length, take, drop, map, Option, None, Some, option_map}
use Rattle.std.specs.List.{concat, find, range_with_len}
use Rattle.sl_packet.specs.IdlePacket.{idle_packet}
use Rattle.sl_tmframe.specs.PacketFrame.{field_room_of, packet_frame}
use Rattle.sl_tmframe.specs.TmFrame.{TmFormat}
use Rattle.sl_tmflow.specs.Among.{IsAmong}
use Rattle.sl_tmflow.specs.PacketStart.{packet_offsets}

-- ---- the packets of a channel, divided into data fields

-- the length of the filling that makes `len` octets a multiple of the room: the least number that
-- will do, out of 0 and the lengths that an idle packet can have (7 and more)
abbrev pub fill_of : ℕ → ℕ → ℕ
fill_of room len =
    let missing : ℕ = (room - len % room) % room in
    if (missing == 0) || not (nat_lt missing 7) then missing else missing + room

-- the idle packet that fills `len` octets up, if one is needed
abbrev pub filling : ℕ → ℕ → List (List ℕ)
filling room len = if fill_of room len == 0 then [] else idle_packet (fill_of room len) ∷ []

-- packets, and then the idle packet that fills them up, if one is needed
abbrev pub with_filling : ℕ → List (List ℕ) → List (List ℕ)
with_filling room packets = packets ++ filling room (length (concat packets))

-- the data field with this number, where octets are divided into data fields from the front on
abbrev pub data_field_of : ℕ → ℕ → List ℕ → List ℕ
data_field_of room number octets = take room (drop (number * room) octets)

-- whether an offset lies in the data field with this number
abbrev pub lies_in : ℕ → ℕ → ℕ → Bool
lies_in room number offset = offset / room == number

-- the least packet start in the data field with this number, as an offset in this data field, if a
-- packet starts there; `offsets` are the offsets of all packet starts, and since they rise, it is
-- the first one that lies there
abbrev pub first_of : ℕ → ℕ → List ℕ → Option ℕ
first_of room number offsets = option_map (λ offset. offset - number * room) (find (lies_in room number) offsets)

-- ---- the frames

-- The frame with this number of a virtual channel. The channel's packets are these, and fill whole
-- data fields. The number of frames of other virtual channels that come before is `mc`.
abbrev pub channel_frame : TmFormat → ℕ → ℕ → ℕ → List (List ℕ) → ℕ → List ℕ
channel_frame format spacecraft vc mc packets number =
    packet_frame format spacecraft vc ((mc + number) % 256) (number % 256)
    (first_of (field_room_of format) number (packet_offsets 0 packets []))
    (data_field_of (field_room_of format) number (concat packets))

-- the frames of a virtual channel with these packets, which fill whole data fields
abbrev pub frames_of_packets : TmFormat → ℕ → ℕ → ℕ → List (List ℕ) → List (List ℕ)
frames_of_packets format spacecraft vc mc packets =
    map (channel_frame format spacecraft vc mc packets)
    (range_with_len 0 (length (concat packets) / field_room_of format))

-- the frames of a virtual channel with these packets, and with an idle packet where one is needed
abbrev pub channel_frames : TmFormat → ℕ → ℕ → ℕ → List (List ℕ) → List (List ℕ)
channel_frames format spacecraft vc mc packets =
    frames_of_packets format spacecraft vc mc (with_filling (field_room_of format) packets)

-- the frames of the virtual channels from `vc` on, with a list of packets each, after `mc` frames
-- of earlier virtual channels
abbrev pub frames_from_channel : TmFormat → ℕ → ℕ → ℕ → List (List (List ℕ)) → List (List ℕ)
frames_from_channel format spacecraft vc mc [] = []
frames_from_channel format spacecraft vc mc (packets ∷ lists) =
    let frames : List (List ℕ) = channel_frames format spacecraft vc mc packets in
    frames ++ frames_from_channel format spacecraft (vc + 1) (mc + length frames) lists

-- the normal form of the packets of virtual channels 0, 1 and so on
abbrev pub normal_form : TmFormat → ℕ → List (List (List ℕ)) → List ℕ
normal_form format spacecraft lists = concat (frames_from_channel format spacecraft 0 0 lists)

-- ---- laws on the filling and the pointer

-- `fill` is the least length of a filling that makes `len` octets a multiple of the room
pub record IsLeastFill (room len fill : ℕ) : Type 0 where
  pub allowed : (fill ≡ 0) ⊎ (7 ≤ fill)
  pub fills : (len + fill) % room ≡ 0
  pub least : (other : ℕ) → (other ≡ 0) ⊎ (7 ≤ other) → (len + other) % room ≡ 0 → fill ≤ other

-- The filling of the normal form is the least one.
abbrev pub EachFillIsLeast : Type 0
EachFillIsLeast = (room len : ℕ) → 7 ≤ room → IsLeastFill room len (fill_of room len)

-- the offset lies in the data field with this number
pub record LiesIn (room number offset : ℕ) : Type 0 where
  pub from : number * room ≤ offset
  pub below : offset < number * room + room

-- this is the least packet start in the data field with this number, as an offset in this data
-- field, or none where no packet starts there; `offsets` are the offsets of all packet starts
abbrev pub IsLeastStart : ℕ → ℕ → List ℕ → Option ℕ → Type 0
IsLeastStart room number offsets None = (offset : ℕ) → IsAmong offset offsets → LiesIn room number offset → ⊥
IsLeastStart room number offsets (Some first) =
    IsAmong (number * room + first) offsets × LiesIn room number (number * room + first)
    × ((offset : ℕ) → IsAmong offset offsets → LiesIn room number offset → number * room + first ≤ offset)

-- The first header pointer of each data field in the normal form is the least packet start there.
abbrev pub EachPointerIsLeast : Type 0
EachPointerIsLeast =
    (room number : ℕ) (packets : List (List ℕ)) → 0 < room
    → IsLeastStart room number (packet_offsets 0 packets []) (first_of room number (packet_offsets 0 packets []))
