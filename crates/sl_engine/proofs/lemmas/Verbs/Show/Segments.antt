-- The texts of segment headers, by their octet.
use Rattle.std.proofs.Common.{ℕ, ◌+◌, ◌*◌, ◌/◌, ◌%◌, ◌<◌, ◌≤◌, ◌≡◌, List, [], map, take, get_or, slice_index, refl, sym, ap, ◌∙◌, arith}
use Rattle.std.specs.Prelude.{replicate}
use Rattle.std.specs.Fmt.{digits}
use Rattle.std.specs.List.{range_with_len}
use Rattle.std.proofs.lemmas.List.{get_or-map}
use Rattle.std.proofs.lemmas.Simd.{get_or-replicate}
use Rattle.std.proofs.lemmas.List.FromFn.{get_or-map-range_with_len}
use Rattle.sl_engine.specs.Verbs.Show.Tc.{segment_header_text}
use Rattle.sl_engine.specs.declared.verbs.show.segment_texts.TheConstants.{TEXTS}

-- the text that places hold whose last one says how long it is
abbrev pub text_in : List ℕ → List ℕ
text_in places = take (slice_index places 31) places

-- the text of a header by its octet
abbrev pub text_of_octet : ℕ → List ℕ
text_of_octet octet = segment_header_text (octet / 64) (octet % 64)

-- the table has these texts: computed
are_texts : map text_in TEXTS ≡ map text_of_octet (range_with_len 0 256)
unfolding digits
are_texts = refl

-- none of them longer than its places
are_short : map (λ places. slice_index places 31 / 32) TEXTS ≡ replicate 256 0
are_short = refl

fields_of_octet : (flags map_id : ℕ) → map_id < 64 → text_of_octet (64 * flags + map_id) ≡ segment_header_text flags map_id
fields_of_octet flags map_id below =
    let flags_is : (64 * flags + map_id) / 64 ≡ flags = omega (arith, below) in
    let map_is : (64 * flags + map_id) % 64 ≡ map_id = omega (arith, below) in
    rw (flags_is, map_is) refl

pub header_at : (octet flags map_id : ℕ) → octet ≡ 64 * flags + map_id → flags < 4 → map_id < 64
    → text_in (get_or TEXTS octet []) ≡ segment_header_text flags map_id
header_at octet flags map_id is few below =
    sym (get_or-map text_in TEXTS octet [] [] (omega (arith, is, few, below)))
    ∙ ap (λ all. get_or all octet []) are_texts
    ∙ get_or-map-range_with_len text_of_octet 0 256 octet octet [] (omega (arith, is, few, below)) (omega arith)
    ∙ ap text_of_octet is ∙ fields_of_octet flags map_id below

pub header_short : (octet : ℕ) → octet < 256 → slice_index (get_or TEXTS octet []) 31 ≤ 31
header_short octet inside =
    let quotient : slice_index (get_or TEXTS octet []) 31 / 32 ≡ 0 =
    sym (get_or-map (λ places. slice_index places 31 / 32) TEXTS octet [] 1 inside)
    ∙ ap (λ (all : List ℕ). get_or all octet 1) are_short ∙ get_or-replicate 256 octet 0 1 inside in
    omega (arith, quotient)
