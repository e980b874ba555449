-- Headers whose fields have given widths, stand one after another and fill the header's octets.
use Rattle.std.proofs.Common.{◌≡◌, ℕ, ◌^◌, ◌<◌, List, length, sym, ◌∙◌, ap}
use Rattle.std.proofs.Math.Nat.{mod-eq_of_lt}
use Rattle.byteorder.specs.Endian.{big_bytes}
use Rattle.byteorder.specs.Numbers.{length-bytes_high_first}
use Rattle.sl_fields.specs.Field.{IsOctets, number_of, packed, FitWidths}
use Rattle.sl_fields.proofs.Octets.{number_of_lt, number_of-bytes, octets-bytes, number_of_injective}
use Rattle.sl_fields.proofs.Packing.{total, widths, unpacked, unpacked-packed, packed-unpacked}

-- A header of `size` octets consists of fields of these widths: `with_widths` gives the fields of a header with their
-- widths, `header_of` the header of fields. `tm_header octets` computes to `tm_of (unpacked tm_widths (number_of octets))`,
-- and so do the others, since each bit position is the sum of the widths before it: `write` needs no lemma for this.
pub record IsLayout {H : Type 0} (size : ℕ) (ws : List ℕ) (Fits : H → Type 0) (with_widths : H → List (ℕ × ℕ)) (header_of : List (ℕ × ℕ) → H) : Type 0 where
  pub fills : 2 ^ total ws ≡ 256 ^ size
  pub in_order : (h : H) → widths (with_widths h) ≡ ws
  pub fit : (h : H) → Fits h → FitWidths (with_widths h)
  pub header : (h : H) → header_of (with_widths h) ≡ h
  pub fields : (n : ℕ) → with_widths (header_of (unpacked ws n)) ≡ unpacked ws n

module _ {H : Type 0} {size : ℕ} {ws : List ℕ} {Fits : H → Type 0} {with_widths : H → List (ℕ × ℕ)} {header_of : List (ℕ × ℕ) → H} (layout : IsLayout size ws Fits with_widths header_of) (h : H) (n : ℕ) where
  -- the octets of the packed fields' number read back as the header
  pub reads_back : Fits h → n < 256 ^ size → n ≡ packed (with_widths h) → header_of (unpacked ws (number_of (big_bytes size n))) ≡ h
  reads_back fit below value =
      let fs = with_widths h in
      let packed_is : number_of (big_bytes size n) ≡ packed fs = number_of-bytes size n below ∙ value in
      ap (λ k. header_of (unpacked ws k)) packed_is ∙ ap (λ vs. header_of (unpacked vs (packed fs))) (sym (layout.in_order h))
      ∙ ap header_of (unpacked-packed fs (layout.fit h fit)) ∙ layout.header h

  -- no other octets read as the header
  pub reads_back_only : n < 256 ^ size → n ≡ packed (with_widths h) → (octets : List ℕ) → length octets ≡ size → IsOctets octets → header_of (unpacked ws (number_of octets)) ≡ h → octets ≡ big_bytes size n
  reads_back_only below value octets long each same =
      let m = number_of octets in
      let fits : m < 2 ^ total ws = rw (layout.fills, ← long) (number_of_lt octets each) in
      let packed_is : m ≡ packed (with_widths h) =
      sym (mod-eq_of_lt fits) ∙ sym (packed-unpacked ws m) ∙ ap packed (sym (layout.fields m)) ∙ ap (λ v. packed (with_widths v)) same in
      number_of_injective octets (big_bytes size n) each (octets-bytes size n) (long ∙ sym (length-bytes_high_first size n)) (packed_is ∙ sym value ∙ sym (number_of-bytes size n below))
