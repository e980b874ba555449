-- The frames of a normal form of spacecraft 1, as they are read, computed from the definitions: two virtual channels,
-- the first with two MAPs and V(R) 255, the second without segment headers.
use Rattle.std.proofs.Common.{◌≡◌, ℕ, true, false, List, [], ◌∷◌, ◌++◌, map, replicate, take, drop}
use Rattle.sl_tcframe.specs.TcFrame.{TcFormat, TcView, Ad}
use Rattle.sl_tcflow.specs.AcceptedUnit.{views_on}
use Rattle.sl_tcflow.specs.FormOrder.{form_views, segments_carried}
use Rattle.sl_tcflow.specs.Receiver.{map_of}
use Rattle.sl_tcflow.specs.Series.{whole_segment}

abbrev format : TcFormat
format = record { max = 16; fecf = false }

-- a packet of twelve octets, where a segment has room for ten, and one of seven
abbrev long : List ℕ
long = 0x00 ∷ 0x01 ∷ 0xC0 ∷ 0x00 ∷ 0x00 ∷ 0x05 ∷ 0xA1 ∷ 0xA2 ∷ 0xA3 ∷ 0xA4 ∷ 0xA5 ∷ 0xA6 ∷ []

abbrev short : List ℕ
short = 0x00 ∷ 0x02 ∷ 0xC0 ∷ 0x00 ∷ 0x00 ∷ 0x00 ∷ 0xBB ∷ []

-- virtual channel 0 has the long packet on MAP 0 and the short one on MAP 1, and virtual channel 1 the short one
abbrev views : List TcView
views = form_views format 1 (255 ∷ 0 ∷ []) (1 ∷ []) ((long ∷ []) ∷ (short ∷ []) ∷ replicate 62 [] ++ (short ∷ []) ∷ [])

abbrev first_segment : List ℕ
first_segment = 0x40 ∷ take 10 long

abbrev last_segment : List ℕ
last_segment = 0x80 ∷ drop 10 long

pub record FormIsInOrder : Type 0 where
  pub frames : views
      ≡ record { vc = 0; content = Ad 255 first_segment } ∷ record { vc = 0; content = Ad 0 last_segment }
      ∷ record { vc = 0; content = Ad 1 (0xC1 ∷ short) } ∷ record { vc = 1; content = Ad 0 short } ∷ []
  pub maps : map (λ (view : TcView). map_of false view.content) (views_on 0 views) ≡ 0 ∷ 0 ∷ 1 ∷ []
  pub map_without : map (λ (view : TcView). map_of true view.content) (views_on 1 views) ≡ 0 ∷ []
  pub one_series : segments_carried false 0 (views_on 0 views) ≡ first_segment ∷ last_segment ∷ []
  pub one_segment : segments_carried false 1 (views_on 0 views) ≡ (0xC1 ∷ short) ∷ []
  pub whole_packet : segments_carried true 0 (views_on 1 views) ≡ whole_segment short ∷ []
  pub none_on_map_1 : segments_carried true 1 (views_on 1 views) ≡ []

pub form_is_in_order : FormIsInOrder
form_is_in_order = assumption
