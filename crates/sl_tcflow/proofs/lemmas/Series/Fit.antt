-- Octets of service data units, and whether they are too many.
use Rattle.std.proofs.Common.{◌≡◌, ℕ, ◌<◌, ◌≤◌, Bool, true, if◌then◌else◌, List, [], ◌∷◌, ◌++◌, length, None, Some, ap, arith, append-nil, length-append, le-leb}
use Rattle.std.proofs.lemmas.Bool.Decides.{leb_tells}
use Rattle.std.proofs.lemmas.List.{map-append}
use Rattle.std.proofs.lemmas.List.Folds.{concat-append}
use Rattle.sl_tcflow.specs.Incomplete.{if_fits}
use Rattle.sl_tcflow.specs.IncompleteSteps.{extended}
use Rattle.sl_tcflow.specs.Series.{segment_data, reassembled}

pub reassembled-push : (segments : List (List ℕ)) (next : List ℕ) → reassembled (segments ++ next ∷ []) ≡ reassembled segments ++ segment_data next
reassembled-push segments next = grind (arith, map-append, concat-append, append-nil)

pub fits_some : (octets : List ℕ) → length octets ≤ 65542 → if_fits octets ≡ Some octets
fits_some octets few = ap (λ b. if b then Some octets else None) (le-leb (length octets) 65542 few)

pub fits_none : (octets : List ℕ) → 65542 < length octets → if_fits octets ≡ None
fits_none octets many = grind (arith, leb_tells)

-- octets that fit, extended by some more, are the octets together where these fit
pub extended_fits : (before octets : List ℕ) → extended (if_fits before) octets ≡ if_fits (before ++ octets)
extended_fits before octets = grind (arith, leb_tells, fits_some, fits_none, length-append)

fits_test : (b : Bool) (octets others : List ℕ) → (if b then Some octets else None) ≡ Some others → (b ≡ true) × (octets ≡ others)
fits_test b octets others fit = grind arith

-- the octets that fit, and their length
pub fits_are : (octets others : List ℕ) → if_fits octets ≡ Some others → (octets ≡ others) × (length others ≤ 65542)
fits_are octets others fit = grind (arith, fits_test, leb_tells)
