-- What is seen of units of one length.
use Rattle.std.proofs.Common.{◌≡◌, ℕ, ◌+◌, ◌*◌, ◌≤◌, Bool, true, false, ◌&&◌, ◌||◌, List, [], ◌∷◌, ◌++◌, length}
use Rattle.std.proofs.Common.{take, drop, refl, sym, ◌∙◌, ap, arith, length-append, length-drop}
use Rattle.std.proofs.lemmas.List.{drop-append-le, take-append-le}
use Rattle.std.proofs.lemmas.Bool.{leb-true, le-leb}
use Rattle.std.specs.Prelude.{nat_le, if◌then◌else◌}
use Rattle.sl_sync.specs.Cadu.{before, needed, stride, has_marker, is_next, cadu_begins, cadu_behind, cadu_content, cadu_rule, frame_of}
use Rattle.sl_sync.specs.Randomiser.{randomised_if}
use Rattle.sl_sync.specs.Units.{Content, IsSound}
use Rattle.sl_sync.specs.declared.cadu.CaduShape.{CaduShape}
use Rattle.sl_sync.specs.declared.randomiser.Randomiser.TheVariants.{Tm}
use Rattle.sl_sync.specs.declared.units.Place.{Place}
use Rattle.sl_sync.specs.declared.units.Place.TheVariants.{Start, Next, Astray}
use Rattle.sl_sync.proofs.MarkerLemmas.{is_marked-more, is_marked-behind}

-- the octets of a unit that are seen to know what it is
abbrev pub seen : CaduShape → ℕ
seen s = 2 * stride s + length s.marker.octets

first_true : (a b : Bool) → (a && b) ≡ true → a ≡ true
first_true true b h = refl
first_true false b h = cc

-- where a unit begins its frame is whole
pub begins-whole : (s : CaduShape) (place : Place) (octets : List ℕ) → cadu_begins s place octets ≡ true → needed s ≤ length octets
unfolding cadu_begins
begins-whole s place octets b = leb-true (needed s) (length octets) (first_true _ _ b)

no_test : (a next b c : Bool) → next ≡ false → b ≡ false → (a && ((next || b) && c)) ≡ false
no_test true false false c p q = refl
no_test false next b c p q = refl
no_test true true b c p q = cc
no_test true false true c p q = cc

-- no unit begins where none ended and no marker is
pub unmarked : (s : CaduShape) (place : Place) (octets : List ℕ) → is_next place ≡ false → has_marker s octets ≡ false
    → cadu_begins s place octets ≡ false
unfolding cadu_begins
unmarked s place octets n h = no_test _ (is_next place) _ _ n h

-- the frame is whole or not, whatever comes after the octets that are seen
whole-seen : (s : CaduShape) (octets more : List ℕ) → seen s ≤ length octets
    → nat_le (needed s) (length (octets ++ more)) ≡ nat_le (needed s) (length octets)
whole-seen s octets more h =
    le-leb (needed s) (length (octets ++ more)) (omega (arith, length-append octets more))
    ∙ sym (le-leb (needed s) (length octets) (omega arith))

same_test : (next : Bool) {a a' b b' c c' d d' : Bool} → a ≡ a' → b ≡ b' → c ≡ c' → d ≡ d'
    → (a && ((next || b) && (c || d))) ≡ (a' && ((next || b') && (c' || d')))
same_test next p q r s = cc

begins-seen : (s : CaduShape) (place : Place) (octets more : List ℕ) → seen s ≤ length octets
    → cadu_begins s place (octets ++ more) ≡ cadu_begins s place octets
unfolding cadu_begins
begins-seen s place octets more h =
    same_test (is_next place) (whole-seen s octets more h) (is_marked-more s.marker octets more (omega arith))
    (is_marked-behind s.marker (stride s) octets more (omega arith))
    (is_marked-behind s.marker (2 * stride s) octets more (omega arith))

-- the frame of a unit, whatever comes after the octets of the unit
pub frame_of-more : (s : CaduShape) (octets more : List ℕ) → needed s ≤ length octets
    → frame_of s (octets ++ more) ≡ frame_of s octets
frame_of-more s octets more h =
    let long : s.len ≤ length (drop (before s) octets) = omega (arith, length-drop (before s) octets) in
    ap (λ (x : List ℕ). randomised_if s.randomised Tm (take s.len x)) (drop-append-le (before s) octets more (omega arith))
    ∙ ap (λ (x : List ℕ). randomised_if s.randomised Tm x) (take-append-le s.len (drop (before s) octets) more long)

unfoldable pub content_by : Bool → List ℕ → Content
content_by marked frame = record { frames = frame ∷ []; marked = marked; cut = 0; refused = false }

content-seen : (s : CaduShape) (octets more : List ℕ) → seen s ≤ length octets
    → cadu_content s (octets ++ more) ≡ cadu_content s octets
unfolding content_by
content-seen s octets more h =
    ap (λ (x : List ℕ). content_by (has_marker s (octets ++ more)) x) (frame_of-more s octets more (omega arith))
    ∙ ap (λ (x : Bool). content_by x (frame_of s octets)) (is_marked-more s.marker octets more (omega arith))

behind-seen : (s : CaduShape) (place : Place) (octets more : List ℕ) → seen s ≤ length octets
    → cadu_behind s place (octets ++ more) ≡ cadu_behind s place octets
behind-seen s Start octets more h = refl
behind-seen s Next octets more h = ap (λ (b : Bool). if b then Astray else Next) (whole-seen s octets more h)
behind-seen s Astray octets more h = refl

pub cadu_rule_is_sound : (s : CaduShape) → IsSound (cadu_rule s)
cadu_rule_is_sound s = record {
  begins_seen = begins-seen s;
  size_seen = λ octets more h. refl;
  content_seen = content-seen s;
  behind_seen = behind-seen s;
  has_octet = λ place octets b. omega (arith, s.some, begins-whole s place octets b);
  size_some = λ octets. omega (arith, s.some);
  size_most = λ octets. omega arith;
}
