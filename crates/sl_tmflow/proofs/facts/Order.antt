-- The frames of a normal form of spacecraft 1, as they are read, computed from the definitions: two frames of virtual
-- channel 0 and one of virtual channel 1, with data fields of 26 octets.
use Rattle.std.proofs.Common.{◌≡◌, ℕ, false, List, [], ◌∷◌, ◌++◌, map, replicate, take, drop, Some}
use Rattle.std.specs.List.{concat}
use Rattle.sl_packet.specs.IdlePacket.{idle_packet}
use Rattle.sl_tmframe.specs.TmFrame.{TmFormat, TmView, Packets}
use Rattle.sl_tmflow.specs.VirtualChannel.{views_on, packet_data}
use Rattle.sl_tmflow.specs.FormOrder.{form_views}

abbrev format : TmFormat
format = record { len = 32; fecf = false }

-- a packet of thirty octets, and one of seven
abbrev long : List ℕ
long = 0x00 ∷ 0x01 ∷ 0xC0 ∷ 0x00 ∷ 0x00 ∷ 0x17 ∷ replicate 24 0xAA

abbrev short : List ℕ
short = 0x00 ∷ 0x02 ∷ 0xC0 ∷ 0x00 ∷ 0x00 ∷ 0x00 ∷ 0xBB ∷ []

-- the idle packets that fill them up, of 22 and of 19 octets
abbrev idle_22 : List ℕ
idle_22 = 0x07 ∷ 0xFF ∷ 0xC0 ∷ 0x00 ∷ 0x00 ∷ 0x0F ∷ replicate 16 0

abbrev idle_19 : List ℕ
idle_19 = 0x07 ∷ 0xFF ∷ 0xC0 ∷ 0x00 ∷ 0x00 ∷ 0x0C ∷ replicate 13 0

abbrev views : List TmView
views = form_views format 1 ((long ∷ []) ∷ (short ∷ []) ∷ replicate 6 [])

pub record FormIsInOrder : Type 0 where
  pub channels : map (λ (view : TmView). view.vc) views ≡ 0 ∷ 0 ∷ 1 ∷ []
  pub master_counts : map (λ (view : TmView). view.mc_count) views ≡ 0 ∷ 1 ∷ 2 ∷ []
  pub counts : map (λ (view : TmView). view.vc_count) views ≡ 0 ∷ 1 ∷ 0 ∷ []
  pub fields : map (λ (view : TmView). view.field) views
      ≡ Packets (Some 0) (take 26 long) ∷ Packets (Some 4) (drop 26 long ++ idle_22) ∷ Packets (Some 0) (short ++ idle_19) ∷ []
  pub end_to_end : concat (map packet_data (views_on 0 views)) ≡ long ++ idle_22

pub form_is_in_order : FormIsInOrder
unfolding idle_packet
form_is_in_order = assumption
