-- A CLCW is its fields with their widths.
use Rattle.std.proofs.Common.{ℕ, List, [], ◌∷◌, refl, arith}
use Rattle.sl_fields.specs.Clcw.{ClcwFields, FitsClcw, clcw_fields}
use Rattle.sl_fields.proofs.Flags.{value_at, flag_at, flag_of-bit, bit_of-flag, bit_fits}
use Rattle.sl_fields.proofs.HeaderLayout.{IsLayout}

-- the widths of the fields, in their order
abbrev clcw_widths : List ℕ
clcw_widths = 1 ∷ 2 ∷ 3 ∷ 2 ∷ 6 ∷ 2 ∷ 1 ∷ 1 ∷ 1 ∷ 1 ∷ 1 ∷ 2 ∷ 1 ∷ 8 ∷ []

-- the word with these values
abbrev clcw_from : List (ℕ × ℕ) → ClcwFields
clcw_from fs =
    record {
      word = value_at fs 0;
      version = value_at fs 1;
      status = value_at fs 2;
      cop = value_at fs 3;
      vc = value_at fs 4;
      spare = value_at fs 5;
      no_rf = flag_at fs 6;
      no_lock = flag_at fs 7;
      lockout = flag_at fs 8;
      wait = flag_at fs 9;
      retransmit = flag_at fs 10;
      farm_b = value_at fs 11;
      spare_end = flag_at fs 12;
      report = value_at fs 13;
    }

pub clcw_layout : IsLayout 4 clcw_widths FitsClcw clcw_fields clcw_from
clcw_layout = record {
  fills = refl;
  in_order = λ w. refl;
  fit = λ w f. omega (arith, bit_fits);
  header = λ w. simp flag_of-bit;
  fields = λ n. simp bit_of-flag;
}
