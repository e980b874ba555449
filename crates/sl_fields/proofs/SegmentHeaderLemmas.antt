-- A segment header is its fields with their widths.
use Rattle.std.proofs.Common.{ℕ, List, [], ◌∷◌, refl, arith}
use Rattle.sl_fields.specs.SegmentHeader.{segment_fields, SegmentFields, FitsSegmentHeader}
use Rattle.sl_fields.proofs.Flags.{value_at}
use Rattle.sl_fields.proofs.HeaderLayout.{IsLayout}

-- the widths of the fields, in their order
abbrev segment_widths : List ℕ
segment_widths = 2 ∷ 6 ∷ []

-- the header with these values
abbrev segment_of : List (ℕ × ℕ) → SegmentFields
segment_of fs =
    record {
      flags = value_at fs 0;
      map = value_at fs 1;
    }

pub segment_layout : IsLayout 1 segment_widths FitsSegmentHeader segment_fields segment_of
segment_layout = record {
  fills = refl;
  in_order = λ h. refl;
  fit = λ h f. omega arith;
  header = λ h. refl;
  fields = λ n. refl;
}
