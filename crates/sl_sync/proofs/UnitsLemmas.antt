-- The parts of a file, from a place on.
use Rattle.std.proofs.Common.{◌≡◌, ℕ, zero, suc, ◌-◌, ◌≤◌, Bool, true, false, List, [], ◌∷◌, ◌++◌, length}
use Rattle.std.proofs.Common.{drop, refl, sym, ◌∙◌, ap, arith, append_assoc}
use Rattle.std.specs.List.{concat}
use Rattle.sl_sync.specs.Units.{Rule, Part, unit, stray, parts_from, parts_of, text_of}
use Rattle.sl_sync.specs.declared.units.Place.{Place}
use Rattle.sl_sync.specs.declared.units.Place.TheVariants.{Next}

-- the octets that belong to the last unit are passed over
pub parts-skip : (r : Rule) (k : ℕ) (place : Place) (octets : List ℕ) → parts_from r k place octets ≡ parts_of r place (drop k octets)
parts-skip r zero place octets = refl
parts-skip r (suc k) place [] = refl
parts-skip r (suc k) place (o ∷ octets) = parts-skip r k place octets

-- the parts from an octet on, by whether a unit begins there
parts_by : Rule → Place → ℕ → List ℕ → Bool → List Part
parts_by r place o octets true = unit (r.content (o ∷ octets)) ∷ parts_from r (r.size (o ∷ octets) - 1) Next octets
parts_by r place o octets false =
    stray (r.behind place (o ∷ octets)) ∷ parts_from r zero (r.behind place (o ∷ octets)) octets

parts-by : (r : Rule) (place : Place) (o : ℕ) (octets : List ℕ)
    → parts_of r place (o ∷ octets) ≡ parts_by r place o octets (r.begins place (o ∷ octets))
unfolding parts_by
parts-by r place o octets = refl

-- a unit comes first
pub parts-unit : (r : Rule) (place : Place) (octets : List ℕ) → 1 ≤ length octets → 1 ≤ r.size octets
    → r.begins place octets ≡ true
    → parts_of r place octets ≡ unit (r.content octets) ∷ parts_of r Next (drop (r.size octets) octets)
unfolding parts_by
parts-unit r place [] long some b = absurd (omega arith)
parts-unit r place (o ∷ octets) long some b =
    let n = r.size (o ∷ octets) in
    let e : n ≡ suc (n - 1) = omega arith in
    let rest : parts_from r (n - 1) Next octets ≡ parts_of r Next (drop n (o ∷ octets)) =
    parts-skip r (n - 1) Next octets ∙ ap (λ (k : ℕ). parts_of r Next (drop k (o ∷ octets))) (sym e) in
    parts-by r place o octets ∙ ap (λ (x : Bool). parts_by r place o octets x) b
    ∙ ap (λ (parts : List Part). unit (r.content (o ∷ octets)) ∷ parts) rest

-- a stray octet comes first
pub parts-stray : (r : Rule) (place : Place) (octets : List ℕ) → 1 ≤ length octets → r.begins place octets ≡ false
    → parts_of r place octets ≡ stray (r.behind place octets) ∷ parts_of r (r.behind place octets) (drop 1 octets)
unfolding parts_by
parts-stray r place [] long b = absurd (omega arith)
parts-stray r place (o ∷ octets) long b = parts-by r place o octets ∙ ap (λ (x : Bool). parts_by r place o octets x) b

-- the text of parts, and of more
pub text-append : (xs ys : List Part) → text_of (xs ++ ys) ≡ text_of xs ++ text_of ys
text-append [] ys = refl
text-append (unit c ∷ xs) ys =
    ap (λ (t : List ℕ). concat c.frames ++ t) (text-append xs ys) ∙ sym (append_assoc (concat c.frames) (text_of xs) (text_of ys))
text-append (stray place ∷ xs) ys = text-append xs ys
