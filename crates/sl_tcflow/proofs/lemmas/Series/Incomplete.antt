-- The series that is reported as incomplete after the last segment of a list is incomplete, and is the only one.
use Rattle.std.proofs.Common.{◌≡◌, ℕ, ◌<◌, ◌==◌, true, false, List, [], ◌∷◌, ◌++◌, length, Some, inl, inr, refl, sym, ◌∙◌, arith, append_assoc, eqb-true, eq-eqb, ne_eqb}
use Rattle.std.specs.List.{AllByRecursion}
use Rattle.std.proofs.lemmas.Bool.{cases_lt}
use Rattle.sl_tcflow.specs.Incomplete.{IsIncomplete, if_fits, are_continuing, incomplete_of, WhatIsToldIsIncomplete, IncompleteIsTold, OneBegins, OneIsIncomplete, IncompleteFits}
use Rattle.sl_tcflow.specs.Series.{flags_of, reassembled}
use Rattle.sl_tcflow.proofs.lemmas.Series.Fit.{fits_some, fits_are}
use Rattle.sl_tcflow.proofs.lemmas.Series.Listed.{IsContinuing}
use Rattle.std.proofs.lemmas.Bool.{and_left, and_parts, and_right}

-- ---- continuing segments

pub continuing_each : (later : List (List ℕ)) → are_continuing later ≡ true → AllByRecursion IsContinuing later
continuing_each [] continuing = tt
continuing_each (segment ∷ later) continuing =
    let (this, rest) = and_parts (flags_of segment == 0) (are_continuing later) continuing in
    (eqb-true (flags_of segment) 0 this, continuing_each later rest)

pub each_continuing : (later : List (List ℕ)) → AllByRecursion IsContinuing later → are_continuing later ≡ true
each_continuing [] each = refl
each_continuing (segment ∷ later) each = grind (arith, eq-eqb, each_continuing later each.1)

-- a first segment isn't a continuing one
pub not_continuing : (earlier : List (List ℕ)) (first : List ℕ) (later : List (List ℕ)) → flags_of first ≡ 1 → are_continuing (earlier ++ first ∷ later) ≡ false
not_continuing [] first later begins = grind (arith, and_left, ne_eqb)
not_continuing (segment ∷ earlier) first later begins = grind (arith, and_right, not_continuing earlier first later begins)

-- ---- a series that is reported

told_first : (list earlier : List (List ℕ)) (first : List ℕ) (later : List (List ℕ)) (octets : List ℕ) → list ≡ earlier ++ first ∷ later
    → flags_of first ≡ 1 → are_continuing later ≡ true → if_fits (reassembled (first ∷ later)) ≡ Some octets → IsIncomplete list octets
told_first list earlier first later octets all begins continuing fit = grind (arith, fits_are, continuing_each)

told_from : (list earlier part : List (List ℕ)) (octets : List ℕ) → list ≡ earlier ++ part → incomplete_of part ≡ Some octets → IsIncomplete list octets
told_from list earlier [] octets all told = absurd (cc)
told_from list earlier (segment ∷ later) octets all told = grind (arith, append_assoc, and_parts, told_first, eqb-true, told_from list (earlier ++ segment ∷ []) later octets (all ∙ sym (append_assoc earlier (segment ∷ []) later)))

pub what_is_told_is_incomplete : WhatIsToldIsIncomplete
what_is_told_is_incomplete list octets told = told_from list [] list octets refl told

-- ---- a series that is incomplete

told_later : (earlier : List (List ℕ)) (first : List ℕ) (later : List (List ℕ)) → flags_of first ≡ 1 → are_continuing later ≡ true
    → incomplete_of (earlier ++ first ∷ later) ≡ if_fits (reassembled (first ∷ later))
told_later [] first later begins continuing = grind (arith, eq-eqb)
told_later (segment ∷ earlier) first later begins continuing = grind (arith, not_continuing, told_later earlier first later begins continuing)

pub incomplete_is_told : IncompleteIsTold
incomplete_is_told list octets incomplete = grind (arith, told_later, each_continuing, fits_some)

-- a first segment isn't among the segments that follow another first one in its series
first_is_not_later : (earlier later : List (List ℕ)) (first : List ℕ) (earlier' later' : List (List ℕ)) (first' : List ℕ)
    → earlier ++ first ∷ later ≡ earlier' ++ first' ∷ later' → are_continuing later ≡ true → flags_of first' ≡ 1 → length earlier < length earlier' → ⊥
first_is_not_later [] later first [] later' first' same continuing begins less = absurd (omega arith)
first_is_not_later [] later first (segment ∷ earlier') later' first' same continuing begins less = grind (arith, not_continuing)
first_is_not_later (segment ∷ earlier) later first [] later' first' same continuing begins less = absurd (omega arith)
first_is_not_later (segment ∷ earlier) later first (other ∷ earlier') later' first' same continuing begins less = grind (arith, first_is_not_later earlier later first earlier' later' first' (cc) continuing begins (omega arith))

not_later : (list : List (List ℕ)) (octets others : List ℕ) (one : IsIncomplete list octets) (other : IsIncomplete list others)
    → length one.earlier < length other.earlier → ⊥
not_later list octets others one other less = grind (arith, first_is_not_later, each_continuing)

pub one_begins : OneBegins
one_begins list octets others one other =
    elim (cases_lt (length one.earlier) (length other.earlier)) [
      | inl before ↦ absurd (not_later list octets others one other before)
      | inr by_then ↦ elim (cases_lt (length other.earlier) (length one.earlier)) [
        | inl after ↦ absurd (not_later list others octets other one after)
        | inr same ↦ omega arith
      ]
    ]

pub one_is_incomplete : OneIsIncomplete
one_is_incomplete list octets others one other =
    let both : Some octets ≡ Some others = sym (incomplete_is_told list octets one) ∙ incomplete_is_told list others other in cc

pub incomplete_fits : IncompleteFits
incomplete_fits list octets told = (what_is_told_is_incomplete list octets told).fits
