-- A normal form that is made piece by piece: the octets that are still to come, and a piece. The
-- division into pieces is the code's, and no definition says where a piece ends. The recursion of
-- `form_left` is the code's too. The clause `left` of `TmForm::new` ties it to the definition: at
-- first the `normal_form` is still to come, whose frames are those that `channel_frame` defines.
use Rattle.std.specs.Prelude.{◌≡◌, ℕ, zero, suc, ◌+◌, ◌*◌, ◌/◌, ◌%◌, ◌<◌, ◌≤◌, ◌==◌, if◌then◌else◌, List, [], ◌∷◌, ◌++◌, length, take, drop, Option, None, Some}
use Rattle.std.specs.List.{concat}
use Rattle.std.specs.Global.{Vec}
use Rattle.std.specs.Vec.{vec_capacity, vec_len}
use Rattle.sl_tmframe.specs.PacketFrame.{field_room_of, packet_frame}
use Rattle.sl_tmframe.specs.TmFrame.{TmFormat}
use Rattle.sl_tmflow.specs.NormalForm.{filling}
use Rattle.sl_tmflow.specs.declared.form.Heading.{Heading}

-- what a `TmForm` stands for
pub record FormState : Type 0 where
  -- the octets of the normal form that are still to come
  pub left : List ℕ
  -- the number of octets that the `TmForm` itself has memory for
  pub capacity : ℕ

-- ---- a piece

-- the number of octets that memory is reserved for in a `TmForm`: those that don't fill a data
-- field, and the idle packet that fills them up
abbrev pub octets_room : ℕ
octets_room = 4096

-- the number of octets that memory is reserved for in the vector of the octets that are made: the
-- frames of the longest piece
abbrev pub piece_room : ℕ
piece_room = 90112

-- a `TmForm` has memory for the octets that don't fill a data field
abbrev pub IsReserved : FormState → Type 0
IsReserved s = octets_room ≤ s.capacity

-- The `TmForm` or the vector lacks room for a piece: where the `TmForm` has memory reserved, the
-- vector doesn't.
abbrev pub LacksRoom : FormState → Vec ℕ → Type 0
LacksRoom s form = IsReserved s → vec_capacity form < vec_len form + piece_room

-- A piece of one octet or more is made: it goes from the front of `left`, the octets that are still
-- to come, to the end of `made`. Afterwards these are `left'` and `made'`.
pub record AddsPiece (left made left' made' : List ℕ) : Type 0 where
  pub piece : List ℕ
  pub some : 0 < length piece
  pub front : left ≡ piece ++ left'
  pub added : made' ≡ made ++ piece

-- ---- the steps of the code: only contracts of private functions cite these

-- the heading `frames` frames later
abbrev pub heading_after : Heading → ℕ → Heading
heading_after h frames =
    record {
      spacecraft = h.spacecraft;
      vc = h.vc;
      mc_count = (h.mc_count + frames) % 256;
      vc_count = (h.vc_count + frames) % 256;
    }

-- the frame of packets with this heading, this first packet start and this data field
abbrev pub headed_frame : TmFormat → Heading → Option ℕ → List ℕ → List ℕ
headed_frame format h first field = packet_frame format h.spacecraft h.vc h.mc_count h.vc_count first field

-- `many` frames of the data fields at the front of octets: `first` is the first packet start of the
-- first frame, and no packet starts in the others
abbrev pub field_frames : TmFormat → ℕ → Heading → Option ℕ → List ℕ → List ℕ
field_frames format zero h first octets = []
field_frames format (suc many) h first octets =
    headed_frame format h first (take (field_room_of format) octets)
    ++ field_frames format many (heading_after h 1) None (drop (field_room_of format) octets)

-- the number of whole data fields that octets fill
abbrev pub fields_in : TmFormat → List ℕ → ℕ
fields_in format octets = length octets / field_room_of format

-- the octets beyond the whole data fields, fewer than one has
abbrev pub beyond_fields : TmFormat → List ℕ → List ℕ
beyond_fields format octets = drop (fields_in format octets * field_room_of format) octets

-- the frames of the whole data fields that octets fill
abbrev pub filled_frames : TmFormat → Heading → Option ℕ → List ℕ → List ℕ
filled_frames format h first octets = field_frames format (fields_in format octets) h first octets

-- the length in octets of these frames
abbrev pub frames_len : TmFormat → List ℕ → ℕ
frames_len format octets = fields_in format octets * format.len

-- octets, filled up by an idle packet to whole data fields
abbrev pub filled_up : TmFormat → List ℕ → List ℕ
filled_up format octets = octets ++ concat (filling (field_room_of format) (length octets))

-- ---- the octets that are still to come, step by step: a `TmForm` stands for these

-- the offset in the next data field at which its first packet starts, after `frames` frames more:
-- where there are any, the next packet starts after the octets that are kept
abbrev pub start_after : ℕ → ℕ → List ℕ → ℕ
start_after start frames octets = if frames == 0 then start else length octets

-- the heading of the first frame of the next virtual channel
abbrev pub next_channel : Heading → Heading
next_channel h = record { spacecraft = h.spacecraft; vc = h.vc + 1; mc_count = h.mc_count; vc_count = 0 }

-- The frames of a virtual channel, and then those of later ones. `start`, `octets` and `packets` are
-- as the fields of a `TmForm`: `octets`, of the packets taken so far, don't fill a data field yet,
-- and `packets` are still to be taken. `others` gives the frames of the later channels by the
-- heading after this one's last frame. It is a parameter, since this recursion is on the packets of
-- one channel, and that of `lists_left` is on the channels.
abbrev pub channel_left : TmFormat → Heading → ℕ → List ℕ → List (List ℕ) → (Heading → List ℕ) → List ℕ
channel_left format h start octets (packet ∷ packets) others =
    let all : List ℕ = octets ++ packet in
    let frames : ℕ = fields_in format all in
    filled_frames format h (Some start) all
    ++ channel_left format (heading_after h frames) (start_after start frames (beyond_fields format all))
    (beyond_fields format all) packets others
channel_left format h start [] [] others = others h
channel_left format h start (octet ∷ octets) [] others =
    let all : List ℕ = filled_up format (octet ∷ octets) in
    filled_frames format h (Some start) all ++ others (heading_after h (fields_in format all))

-- the frames of virtual channels with these lists of packets, none of which is taken
abbrev pub lists_left : TmFormat → Heading → List (List (List ℕ)) → List ℕ
lists_left format h [] = []
lists_left format h (packets ∷ lists) =
    channel_left format h 0 [] packets (λ h'. lists_left format (next_channel h') lists)

-- the frames of the virtual channel of the heading, and then those of later ones with these lists
unfoldable pub form_left : TmFormat → Heading → ℕ → List ℕ → List (List ℕ) → List (List (List ℕ)) → List ℕ
form_left format h start octets packets lists =
    channel_left format h start octets packets (λ h'. lists_left format (next_channel h') lists)
