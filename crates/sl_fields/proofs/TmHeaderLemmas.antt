-- A TM header is its fields with their widths.
use Rattle.std.proofs.Common.{ℕ, List, [], ◌∷◌, refl, arith}
use Rattle.sl_fields.specs.TmHeader.{tm_fields, TmFields, FitsTmHeader}
use Rattle.sl_fields.proofs.Flags.{value_at, flag_at, flag_of-bit, bit_of-flag, bit_fits}
use Rattle.sl_fields.proofs.HeaderLayout.{IsLayout}

-- the widths of the fields, in their order
abbrev tm_widths : List ℕ
tm_widths = 2 ∷ 10 ∷ 3 ∷ 1 ∷ 8 ∷ 8 ∷ 1 ∷ 1 ∷ 1 ∷ 2 ∷ 11 ∷ []

-- the header with these values
abbrev tm_of : List (ℕ × ℕ) → TmFields
tm_of fs =
    record {
      version = value_at fs 0;
      spacecraft = value_at fs 1;
      vc = value_at fs 2;
      control = flag_at fs 3;
      mc = value_at fs 4;
      vcc = value_at fs 5;
      secondary = flag_at fs 6;
      sync = flag_at fs 7;
      order = flag_at fs 8;
      segment = value_at fs 9;
      first = value_at fs 10;
    }

pub tm_layout : IsLayout 6 tm_widths FitsTmHeader tm_fields tm_of
tm_layout = record {
  fills = refl;
  in_order = λ h. refl;
  fit = λ h f. omega (arith, bit_fits);
  header = λ h. simp flag_of-bit;
  fields = λ n. simp bit_of-flag;
}
