-- A TC header is its fields with their widths.
use Rattle.std.proofs.Common.{ℕ, List, [], ◌∷◌, refl, arith}
use Rattle.sl_fields.specs.TcHeader.{tc_fields, TcFields, FitsTcHeader}
use Rattle.sl_fields.proofs.Flags.{value_at, flag_at, flag_of-bit, bit_of-flag, bit_fits}
use Rattle.sl_fields.proofs.HeaderLayout.{IsLayout}

-- the widths of the fields, in their order
abbrev tc_widths : List ℕ
tc_widths = 2 ∷ 1 ∷ 1 ∷ 2 ∷ 10 ∷ 6 ∷ 10 ∷ 8 ∷ []

-- the header with these values
abbrev tc_of : List (ℕ × ℕ) → TcFields
tc_of fs =
    record {
      version = value_at fs 0;
      bypass = flag_at fs 1;
      command = flag_at fs 2;
      spare = value_at fs 3;
      spacecraft = value_at fs 4;
      vc = value_at fs 5;
      length = value_at fs 6;
      ns = value_at fs 7;
    }

pub tc_layout : IsLayout 5 tc_widths FitsTcHeader tc_fields tc_of
tc_layout = record {
  fills = refl;
  in_order = λ h. refl;
  fit = λ h f. omega (arith, bit_fits);
  header = λ h. simp flag_of-bit;
  fields = λ n. simp bit_of-flag;
}
