-- The place of a word.
use Rattle.std.proofs.Common.{◌≡◌, ℕ, zero, suc, ◌+◌, ◌<◌, Bool, false, List, [], ◌∷◌, drop, length, refl, arith}
use Rattle.std.specs.List.{position_from, slice_index_or}

-- what doesn't stand at a place may stand later
pub stands_later : {K : Type 0} (test : K → Bool) (list : List K) (place from : ℕ) (default : K) → place < length list → test (slice_index_or list place default) ≡ false
    → position_from test from (drop place list) ≡ position_from test (from + 1) (drop (place + 1) list)
stands_later test [] place from default inside fails = absurd (omega (arith, inside))
stands_later test (first ∷ others) zero from default inside fails = rw fails refl
stands_later test (first ∷ others) (suc place) from default inside fails =
    let next : suc place + 1 ≡ suc (place + 1) = omega arith in
    rw next (stands_later test others place from default (omega (arith, inside)) fails)
