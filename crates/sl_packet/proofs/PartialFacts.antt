-- The needs of known octets, computed from the definition.
use Rattle.std.proofs.Common.{◌≡◌, [], ◌∷◌, ◌++◌, List, ℕ, refl}
use Rattle.sl_packet.specs.Partial.{need_of}
use Rattle.sl_packet.specs.declared.partial.Need.TheVariants.{Foreign, Header, Octets, Whole}

-- a telemetry packet of APID 1 in two parts: its header and first octet of data, and its other three octets
abbrev front_part : List ℕ
front_part = 0x00 ∷ 0x01 ∷ 0xC0 ∷ 0x00 ∷ 0x00 ∷ 0x03 ∷ 0xAA ∷ []

abbrev other_part : List ℕ
other_part = 0xBB ∷ 0xCC ∷ 0xDD ∷ []

pub record AreNeeds : Type 0 where
  pub nothing : need_of [] ≡ Header 6
  pub one_octet : need_of (0x00 ∷ []) ≡ Header 5
  pub three_octets : need_of (0x00 ∷ 0x03 ∷ 0xC0 ∷ []) ≡ Header 3
  pub version_one : need_of (0x20 ∷ []) ≡ Foreign
  pub header : need_of (0x00 ∷ 0x01 ∷ 0xC0 ∷ 0x00 ∷ 0x00 ∷ 0x03 ∷ []) ≡ Octets 4
  pub one_octet_of_data : need_of front_part ≡ Octets 3
  pub whole : need_of (front_part ++ other_part) ≡ Whole 10
  -- octets after a packet don't belong to it
  pub more : need_of (front_part ++ other_part ++ 0x20 ∷ []) ≡ Whole 10

pub needs : AreNeeds
needs = record {
  nothing = refl;
  one_octet = refl;
  three_octets = refl;
  version_one = refl;
  header = refl;
  one_octet_of_data = refl;
  whole = refl;
  more = refl;
}
