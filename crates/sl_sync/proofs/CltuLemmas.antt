-- What is seen of CLTUs.
use Rattle.std.proofs.Common.{◌≡◌, ℕ, ◌+◌, ◌-◌, ◌*◌, ◌≤◌, Bool, true, false, ◌&&◌, List, ◌++◌, length}
use Rattle.std.proofs.Common.{drop, refl, sym, ◌∙◌, ap, arith, length-append, length-drop}
use Rattle.std.proofs.lemmas.Bool.{le-leb}
use Rattle.std.proofs.lemmas.List.{drop-append-le}
use Rattle.std.specs.List.{concat}
use Rattle.std.specs.Prelude.{not}
use Rattle.sl_sync.specs.Cltu.{has_sequence, start_sequence, tail_sequence, cltu_begins, block_count, cltu_size, cltu_data}
use Rattle.sl_sync.specs.Cltu.{frames_in, cut_octets, is_refused, cltu_content, cltu_rule}
use Rattle.sl_sync.specs.CodeBlock.{is_block, blocks, data_of}
use Rattle.sl_sync.specs.Marker.{Marker}
use Rattle.sl_sync.specs.Randomiser.{randomised_if}
use Rattle.sl_sync.specs.Units.{Content, IsSound}
use Rattle.sl_sync.specs.declared.cltu.CltuShape.{CltuShape}
use Rattle.sl_sync.specs.declared.randomiser.Randomiser.TheVariants.{Tc}
use Rattle.sl_sync.specs.declared.units.Place.{Place}
use Rattle.sl_sync.proofs.CodeBlockLemmas.{is_block-more, is_block-long, blocks-more, blocks_most, data-same}
use Rattle.sl_sync.proofs.MarkerLemmas.{is_marked-more}

-- octets that are seen to know what a CLTU is
abbrev seen : ℕ
seen = 8202

pub has_sequence-more : (s : CltuShape) (sequence octets more : List ℕ) → length sequence ≤ length octets
    → has_sequence s sequence (octets ++ more) ≡ has_sequence s sequence octets
has_sequence-more s sequence octets more h =
    let m : Marker = record { octets = sequence; errors = s.errors } in is_marked-more m octets more h

second_true : (a b : Bool) → (a && b) ≡ true → b ≡ true
second_true true b h = h
second_true false b h = cc

both_same : {a a' b b' : Bool} → a ≡ a' → b ≡ b' → (a && b) ≡ (a' && b')
both_same p q = cc

pub cltu_begins-more : (s : CltuShape) (place : Place) (octets more : List ℕ) → 10 ≤ length octets
    → cltu_begins s place (octets ++ more) ≡ cltu_begins s place octets
unfolding cltu_begins
cltu_begins-more s place octets more h =
    both_same (has_sequence-more s start_sequence octets more (omega arith))
    (ap is_block (drop-append-le 2 octets more (omega arith)) ∙ is_block-more (drop 2 octets) more (omega (arith, length-drop 2 octets)))

no_first : (a b : Bool) → a ≡ false → (a && b) ≡ false
no_first false b h = refl
no_first true b h = cc

-- no CLTU begins where no start sequence is
pub unstarted : (s : CltuShape) (place : Place) (octets : List ℕ) → has_sequence s start_sequence octets ≡ false
    → cltu_begins s place octets ≡ false
unfolding cltu_begins
unstarted s place octets h = no_first _ _ h

-- where a CLTU begins a code block is
pub cltu_begins-long : (s : CltuShape) (place : Place) (octets : List ℕ) → cltu_begins s place octets ≡ true → 10 ≤ length octets
unfolding cltu_begins
cltu_begins-long s place octets h = omega (arith, is_block-long (drop 2 octets) (second_true _ _ h), length-drop 2 octets)

count-seen : (octets more : List ℕ) → seen ≤ length octets → block_count (octets ++ more) ≡ block_count octets
count-seen octets more h =
    ap (λ (x : List ℕ). blocks 1024 x) (drop-append-le 2 octets more (omega arith))
    ∙ blocks-more 1024 (drop 2 octets) more (omega (arith, length-drop 2 octets))

pub count-most : (octets : List ℕ) → block_count octets ≤ 1024
count-most octets = blocks_most 1024 (drop 2 octets)

size-seen : (octets more : List ℕ) → seen ≤ length octets → cltu_size (octets ++ more) ≡ cltu_size octets
size-seen octets more h = ap (λ (n : ℕ). 8 * n + 2) (count-seen octets more h)

data-seen : (s : CltuShape) (octets more : List ℕ) → seen ≤ length octets → cltu_data s (octets ++ more) ≡ cltu_data s octets
data-seen s octets more h =
    let long : 8 * block_count octets ≤ length (drop 2 octets) = omega (arith, count-most octets, length-drop 2 octets) in
    ap (λ (n : ℕ). randomised_if s.randomised Tc (data_of n (drop 2 (octets ++ more)))) (count-seen octets more h)
    ∙ ap (λ (x : List ℕ). randomised_if s.randomised Tc (data_of (block_count octets) x)) (drop-append-le 2 octets more (omega arith))
    ∙ ap (λ (x : List ℕ). randomised_if s.randomised Tc x) (data-same (block_count octets) (drop 2 octets) more long)

refused-more : (s : CltuShape) (octets more : List ℕ) → 8 ≤ length octets → is_refused s (octets ++ more) ≡ is_refused s octets
refused-more s octets more h =
    both_same (le-leb 8 (length (octets ++ more)) (omega (arith, length-append octets more)) ∙ sym (le-leb 8 (length octets) h))
    (ap not (has_sequence-more s tail_sequence octets more h))

refused-seen : (s : CltuShape) (octets more : List ℕ) → seen ≤ length octets
    → is_refused s (drop (cltu_size (octets ++ more)) (octets ++ more)) ≡ is_refused s (drop (cltu_size octets) octets)
refused-seen s octets more h =
    let n = cltu_size octets in
    let inside : n + 8 ≤ length octets = omega (arith, count-most octets) in
    ap (λ (k : ℕ). is_refused s (drop k (octets ++ more))) (size-seen octets more h)
    ∙ ap (λ (x : List ℕ). is_refused s x) (drop-append-le n octets more (omega arith))
    ∙ refused-more s (drop n octets) more (omega (arith, length-drop n octets))

-- what a CLTU holds, of the data of its code blocks and of what follows them
unfoldable pub content_by : List ℕ → Bool → Content
content_by octets refused = record {
  frames = frames_in octets;
  marked = true;
  cut = cut_octets (length octets - length (concat (frames_in octets)));
  refused = refused;
}

pub content-by : (s : CltuShape) (octets : List ℕ)
    → cltu_content s octets ≡ content_by (cltu_data s octets) (is_refused s (drop (cltu_size octets) octets))
unfolding content_by cltu_content
content-by s octets = refl

content-seen : (s : CltuShape) (octets more : List ℕ) → seen ≤ length octets → cltu_content s (octets ++ more) ≡ cltu_content s octets
content-seen s octets more h =
    content-by s (octets ++ more)
    ∙ ap (λ (x : List ℕ). content_by x (is_refused s (drop (cltu_size (octets ++ more)) (octets ++ more)))) (data-seen s octets more h)
    ∙ ap (λ (b : Bool). content_by (cltu_data s octets) b) (refused-seen s octets more h) ∙ sym (content-by s octets)

pub cltu_rule_is_sound : (s : CltuShape) → IsSound (cltu_rule s)
cltu_rule_is_sound s = record {
  begins_seen = λ place octets more h. cltu_begins-more s place octets more (omega arith);
  size_seen = size-seen;
  content_seen = content-seen s;
  behind_seen = λ place octets more h. refl;
  has_octet = λ place octets b. omega (arith, cltu_begins-long s place octets b);
  size_some = λ octets. omega arith;
  size_most = λ octets. omega (arith, count-most octets);
}
