-- A space packet's header is its fields with their widths.
use Rattle.std.proofs.Common.{ℕ, List, [], ◌∷◌, refl, arith}
use Rattle.sl_fields.specs.PacketHeader.{packet_fields, PacketFields, FitsPacketHeader}
use Rattle.sl_fields.proofs.Flags.{value_at, flag_at, flag_of-bit, bit_of-flag, bit_fits}
use Rattle.sl_fields.proofs.HeaderLayout.{IsLayout}

-- the widths of the fields, in their order
abbrev packet_widths : List ℕ
packet_widths = 3 ∷ 1 ∷ 1 ∷ 11 ∷ 2 ∷ 14 ∷ 16 ∷ []

-- the header with these values
abbrev packet_of : List (ℕ × ℕ) → PacketFields
packet_of fs =
    record {
      version = value_at fs 0;
      kind = value_at fs 1;
      secondary = flag_at fs 2;
      apid = value_at fs 3;
      flags = value_at fs 4;
      count = value_at fs 5;
      length = value_at fs 6;
    }

pub packet_layout : IsLayout 6 packet_widths FitsPacketHeader packet_fields packet_of
packet_layout = record {
  fills = refl;
  in_order = λ h. refl;
  fit = λ h f. omega (arith, bit_fits);
  header = λ h. simp flag_of-bit;
  fields = λ n. simp bit_of-flag;
}
