-- Fronts of known octets. A wrong definition would fail these facts.
use Rattle.std.proofs.Common.{◌≡◌, ℕ, List, [], ◌∷◌, ◌++◌, refl}
use Rattle.sl_tcframe.specs.TcFraming.{Incomplete, BelowLeast, WholeFrame, len_by_four, frame_front}
use Rattle.sl_tcframe.proofs.TcFrameFacts.{carrier, format, with_error_control}

-- the first four octets of a header, with this octet as the last of the frame length field
abbrev stating : ℕ → List ℕ
stating length = 0x00 ∷ 0x01 ∷ 0x00 ∷ length ∷ []

pub record Fronts : Type 0 where
  pub nothing : frame_front (format 16) [] ≡ Incomplete
  pub three_octets : frame_front (format 16) (0x00 ∷ 0x01 ∷ 0x00 ∷ []) ≡ Incomplete
  pub four_stated : frame_front (format 16) (stating 0x03) ≡ BelowLeast
  pub five_stated : frame_front (format 16) (stating 0x04) ≡ Incomplete
  pub six_stated : frame_front (with_error_control 16) (stating 0x05) ≡ BelowLeast
  pub seven_stated : frame_front (with_error_control 16) (stating 0x06) ≡ Incomplete
  pub more_behind : frame_front (format 16) (stating 0x02 ++ carrier) ≡ BelowLeast
  pub least : frame_front (format 16) (stating 0x04 ++ 0xEE ∷ []) ≡ WholeFrame 5
  pub whole : frame_front (format 16) (carrier ++ 0xEE ∷ []) ≡ WholeFrame 16
  pub both_octets_of_the_length : len_by_four (0x00 ∷ 0x01 ∷ 0xFD ∷ 0x03 ∷ 0xFF ∷ []) ≡ 260

pub fronts : Fronts
fronts = record {
  nothing = refl;
  three_octets = refl;
  four_stated = refl;
  five_stated = refl;
  six_stated = refl;
  seven_stated = refl;
  more_behind = refl;
  least = refl;
  whole = refl;
  both_octets_of_the_length = refl;
}
