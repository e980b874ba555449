-- Octets with an incomplete front become a frame.
use Rattle.std.proofs.Common.{◌≡◌, ℕ, ◌-◌, ◌<◌, ◌≤◌, List, [], ◌∷◌, ◌++◌, length, replicate, inl, inr, rules, sym, ◌∙◌, ap, subst, arith, append_assoc, length-append}
use Rattle.std.proofs.lemmas.Bool.Decides.{leb_tells}
use Rattle.std.proofs.lemmas.List.{length-replicate}
use Rattle.std.proofs.lemmas.List.Elements.{All-append, All-replicate}
use Rattle.sl_fields.specs.Field.{IsOctets}
use Rattle.sl_fields.proofs.FecfLemmas.{fecf_len_le}
use Rattle.sl_tcframe.specs.TcFrame.{TcFormat, least_of}
use Rattle.sl_tcframe.specs.TcFraming.{Incomplete, IncompleteBecomesFrame, WholeFrame, frame_front, len_by_four}
use Rattle.sl_tcframe.proofs.FramingLemmas.{front_tells, front_whole, len_by_four-append}

abbrev Becomes : TcFormat → List ℕ → Type 0
Becomes format octets = (more : List ℕ) × IsOctets more × (frame_front format (octets ++ more) ≡ WholeFrame (length (octets ++ more)))

-- zeros complete a frame where four octets state its length
becomes_whole : (format : TcFormat) (octets : List ℕ) → 4 ≤ length octets → least_of format ≤ len_by_four octets → length octets ≤ len_by_four octets → Becomes format octets
becomes_whole format octets four enough short =
    let wanted : ℕ = len_by_four octets - length octets in
    let more : List ℕ = replicate wanted 0 in
    let same = len_by_four-append octets more four in
    let size : length (octets ++ more) ≡ len_by_four octets = omega (arith, short, length-append octets more, length-replicate {A = ℕ} wanted 0) in (
      more,
      All-replicate (λ octet. octet < 256) wanted 0 (omega arith),
      front_whole format (octets ++ more) (omega (arith, four, short, size)) (omega (arith, enough, same)) (omega (arith, same, size)) ∙ ap WholeFrame (same ∙ sym size),
    )

-- fewer than four octets, filled up to four that state 256 octets or more
record Header (octets : List ℕ) : Type 0 where
  pub pad : List ℕ
  pub each : IsOctets pad
  pub four : length (octets ++ pad) ≡ 4
  pub many : 256 ≤ len_by_four (octets ++ pad)

header : (octets : List ℕ) → length octets < 4 → Header octets
header [] few = record { pad = 0 ∷ 0 ∷ 0 ∷ 255 ∷ []; each = search rules; four = omega arith; many = omega arith }
header (a ∷ []) few = record { pad = 0 ∷ 0 ∷ 255 ∷ []; each = search rules; four = omega arith; many = omega arith }
header (a ∷ b ∷ []) few = record { pad = 0 ∷ 255 ∷ []; each = search rules; four = omega arith; many = omega arith }
header (a ∷ b ∷ c ∷ []) few = record { pad = 255 ∷ []; each = search rules; four = omega arith; many = omega arith }
header (a ∷ b ∷ c ∷ d ∷ more) few = absurd (omega arith)

least_few : (format : TcFormat) → least_of format ≤ 7
least_few format = omega (arith, fecf_len_le format.fecf)

pub incomplete_becomes_frame : IncompleteBecomesFrame
incomplete_becomes_frame format octets each incomplete =
    elim (leb_tells 4 (length octets)) [
      | inl (is, four) ↦
          elim (front_tells format octets Incomplete incomplete) [
            | inl few ↦ absurd (omega (arith, few, four))
            | inr (enough, short) ↦ becomes_whole format octets four enough (omega (arith, short))
          ]
      | inr (is, few) ↦
          let h = header octets (omega (arith, few)) in
          let four : 4 ≤ length (octets ++ h.pad) = omega (arith, h.four) in
          let (more, are, whole) = becomes_whole format (octets ++ h.pad) four (omega (arith, h.many, least_few format)) (omega (arith, h.many, h.four)) in (
            h.pad ++ more,
            All-append (λ octet. octet < 256) h.pad more h.each are,
            subst (λ l. frame_front format l ≡ WholeFrame (length l)) (append_assoc octets h.pad more) whole,
          )
    ]
