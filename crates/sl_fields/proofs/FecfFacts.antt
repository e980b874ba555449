-- Frame error control fields that the definition has to give: those of the table in docs/tm.md, and those of two frames
-- of this project. A wrong definition would fail these facts.
use Rattle.std.proofs.Common.{◌≡◌, true, false, [], ◌∷◌, codes, replicate, refl}
use Rattle.sl_fields.specs.Fecf.{fecf_of, fecf_is_good, register_of}
use Rattle.sl_fields.specs.FecfFolds.{part_of}
use Rattle.sl_fields.specs.FecfWords.{word_of}

pub record AreVectors : Type 0 where
  pub empty : fecf_of [] ≡ 0xFFFF
  pub two_zeros : fecf_of (0 ∷ 0 ∷ []) ≡ 0x1D0F
  pub three_zeros : fecf_of (0 ∷ 0 ∷ 0 ∷ []) ≡ 0xCC9C
  pub four_octets : fecf_of (0xAB ∷ 0xCD ∷ 0xEF ∷ 0x01 ∷ []) ≡ 0x04A2
  pub digits : fecf_of (codes "123456789") ≡ 0x29B1
  -- this project's own: an Unlock command, and a TM frame, each without its field
  pub unlock : fecf_of (0x30 ∷ 0x01 ∷ 0x00 ∷ 0x07 ∷ 0x00 ∷ 0x00 ∷ []) ≡ 0x0E5D
  pub frame :
      fecf_of (0x00 ∷ 0x10 ∷ 0x00 ∷ 0x00 ∷ 0x18 ∷ 0x00
      ∷ 0x00 ∷ 0x01 ∷ 0xC0 ∷ 0x00 ∷ 0x00 ∷ 0x03 ∷ 0xAA ∷ 0xBB ∷ 0xCC ∷ 0xDD
      ∷ 0x07 ∷ 0xFF ∷ 0xC0 ∷ 0x00 ∷ 0x00 ∷ 0x09 ∷ replicate 10 0) ≡ 0x5E0C

pub vectors : AreVectors
unfolding fecf_of register_of
vectors = record {
  empty = refl;
  two_zeros = refl;
  three_zeros = refl;
  four_octets = refl;
  digits = refl;
  unlock = refl;
  frame = refl;
}

-- octets with and without their field
pub record AreCases : Type 0 where
  pub with_field : fecf_is_good (0xAB ∷ 0xCD ∷ 0xEF ∷ 0x01 ∷ 0x04 ∷ 0xA2 ∷ []) ≡ true
  pub turned_round : fecf_is_good (0xAB ∷ 0xCD ∷ 0xEF ∷ 0x01 ∷ 0xA2 ∷ 0x04 ∷ []) ≡ false
  pub bit_changed : fecf_is_good (0xAB ∷ 0xCD ∷ 0xEE ∷ 0x01 ∷ 0x04 ∷ 0xA2 ∷ []) ≡ false
  pub two_octets : fecf_is_good (0xFF ∷ 0xFF ∷ []) ≡ false
  pub none : fecf_is_good [] ≡ false

pub cases : AreCases
unfolding fecf_of register_of
cases = record {
  with_field = refl;
  turned_round = refl;
  bit_changed = refl;
  two_octets = refl;
  none = refl;
}

-- the words of last octets
pub record AreKnownWords : Type 0 where
  pub of_0 : word_of 0 0 ≡ 0x0000
  pub of_1 : word_of 0 1 ≡ 0x1021
  pub of_225 : word_of 0 225 ≡ 0xED0F
  pub of_255 : word_of 0 255 ≡ 0x1EF0

pub known_words : AreKnownWords
unfolding part_of
known_words = record { of_0 = refl; of_1 = refl; of_225 = refl; of_255 = refl }
