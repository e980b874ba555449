-- A virtual channel of a recording, CCSDS 132.0-B: its frames in order, and how one frame follows
-- another.
use Rattle.std.specs.Prelude.{◌≡◌, ⊤, ℕ, ◌+◌, ◌%◌, ◌==◌, Bool, true, List, [], ◌∷◌, ◌++◌, map, Option, None, Some}
use Rattle.std.specs.Result.{result_ok}
use Rattle.std.specs.List.{filter, filter_map, concat}
use Rattle.sl_tmframe.specs.TmFrame.{TmFormat, TmView, DataField, Packets, Idle, Opaque, tm_frame}

-- What `tm_frame` reads of each frame, its view, in order. Frames for which `tm_frame` answers an
-- error are left out.
abbrev pub views_of : TmFormat → ℕ → List (List ℕ) → List TmView
views_of format spacecraft frames = filter_map (λ frame. result_ok (tm_frame format spacecraft frame)) frames

-- the frames of a virtual channel
abbrev pub views_on : ℕ → List TmView → List TmView
views_on vc views = filter (λ view. view.vc == vc) views

-- whether a virtual channel frame count follows another one: it is one more, modulo 256
abbrev pub follows : ℕ → ℕ → Bool
follows count next = next == (count + 1) % 256

-- the virtual channel frame count of the last of these frames
abbrev pub last_count : List TmView → Option ℕ
last_count [] = None
last_count (view ∷ []) = Some view.vc_count
last_count (view ∷ next ∷ later) = last_count (next ∷ later)

-- whether the next frame's count follows this frame's
abbrev pub is_consecutive : TmView → TmView → Bool
is_consecutive view next = follows view.vc_count next.vc_count

-- the counts of these frames are consecutive: each frame follows the one before it, and the first
-- one follows the frame `view`
abbrev pub AreConsecutive : TmView → List TmView → Type 0
AreConsecutive view [] = ⊤
AreConsecutive view (next ∷ later) = (is_consecutive view next ≡ true) × AreConsecutive next later

-- the octets of packets in a data field: the whole field where it is of packets, and none otherwise
abbrev pub data_of : DataField → List ℕ
data_of (Packets first octets) = octets
data_of Idle = []
data_of Opaque = []

-- the octets of packets in a frame
abbrev pub packet_data : TmView → List ℕ
packet_data view = data_of view.field

-- octets, and then the octets of packets in these frames, end to end
abbrev pub reassembly : List ℕ → List TmView → List ℕ
reassembly octets views = octets ++ concat (map packet_data views)
