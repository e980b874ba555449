-- The frames of a normal form, read as a recording: they come in a fixed order, their counts rise
-- by one, and the packets lie end to end in their data fields. All of it is this project's
-- choice.
use Rattle.std.specs.Prelude.{◌≡◌, ℕ, ◌%◌, ◌<◌, ◌≤◌, List, [], ◌∷◌, ◌++◌, length, map, Option, None}
use Rattle.std.specs.List.{AllByRecursion, concat, slice_index_or}
use Rattle.sl_fields.specs.NeverFall.{NeverFall}
use Rattle.sl_tmframe.specs.PacketFrame.{field_room_of}
use Rattle.sl_tmframe.specs.TmFrame.{TmFormat, TmView, Packets}
use Rattle.sl_tmflow.specs.FormDelivery.{AreDeliverable, IsFormat}
use Rattle.sl_tmflow.specs.VirtualChannel.{views_on, packet_data}
use Rattle.sl_tmflow.specs.NormalForm.{normal_form, with_filling}
use Rattle.sl_tmflow.specs.Recording.{recorded_views}

-- the frames of the normal form, as they are read
abbrev pub form_views : TmFormat → ℕ → List (List (List ℕ)) → List TmView
form_views format spacecraft lists = recorded_views format spacecraft (normal_form format spacecraft lists)

-- this is a frame of packets without an operational control field
pub record CarriesPackets (view : TmView) : Type 0 where
  pub first : Option ℕ
  pub octets : List ℕ
  pub field : view.field ≡ Packets first octets
  pub control : view.control ≡ None

-- ---- laws

-- Each frame is a frame of packets, and has no operational control field.
abbrev pub EachCarriesPackets : Type 0
EachCarriesPackets =
    (format : TmFormat) (spacecraft : ℕ) (lists : List (List (List ℕ)))
    → IsFormat format → spacecraft ≤ 1023 → AreDeliverable lists
    → AllByRecursion CarriesPackets (form_views format spacecraft lists)

-- From frame to frame the virtual channel identifier never falls.
abbrev pub ChannelsNeverFall : Type 0
ChannelsNeverFall =
    (format : TmFormat) (spacecraft : ℕ) (lists : List (List (List ℕ)))
    → IsFormat format → spacecraft ≤ 1023 → AreDeliverable lists
    → NeverFall 0 (map (λ (view : TmView). view.vc) (form_views format spacecraft lists))

-- The master channel frame count of each frame is the number of frames before it, modulo 256.
abbrev pub McCounts : Type 0
McCounts =
    (format : TmFormat) (spacecraft : ℕ) (lists : List (List (List ℕ)))
    → IsFormat format → spacecraft ≤ 1023 → AreDeliverable lists
    → (before later : List TmView) (view : TmView) → form_views format spacecraft lists ≡ before ++ view ∷ later
    → view.mc_count ≡ length before % 256

-- The virtual channel frame count of each frame is the number of the channel's frames before it,
-- modulo 256.
abbrev pub VcCounts : Type 0
VcCounts =
    (format : TmFormat) (spacecraft : ℕ) (lists : List (List (List ℕ)))
    → IsFormat format → spacecraft ≤ 1023 → AreDeliverable lists
    → (vc : ℕ) (before later : List TmView) (view : TmView)
    → views_on vc (form_views format spacecraft lists) ≡ before ++ view ∷ later
    → view.vc_count ≡ length before % 256

-- The data fields of a virtual channel, end to end, are the channel's packets, end to end, filled
-- up by an idle packet where one is needed.
abbrev pub PacketsLieEndToEnd : Type 0
PacketsLieEndToEnd =
    (format : TmFormat) (spacecraft : ℕ) (lists : List (List (List ℕ)))
    → IsFormat format → spacecraft ≤ 1023 → AreDeliverable lists
    → (vc : ℕ) → vc < 8
    → concat (map packet_data (views_on vc (form_views format spacecraft lists)))
    ≡ concat (with_filling (field_room_of format) (slice_index_or lists vc []))
