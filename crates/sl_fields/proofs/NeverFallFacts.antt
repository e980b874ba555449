-- Numbers that never fall, and numbers that do.
use Rattle.std.proofs.Common.{[], ◌∷◌, arith}
use Rattle.sl_fields.specs.NeverFall.{NeverFall}

pub record NumbersNeverFall : Type 0 where
  pub none : NeverFall 5 []
  pub rising : NeverFall 0 (0 ∷ 0 ∷ 3 ∷ [])
  pub below_the_least : NeverFall 1 (0 ∷ 3 ∷ []) → ⊥
  pub falling : NeverFall 0 (3 ∷ 0 ∷ []) → ⊥

pub numbers_never_fall : NumbersNeverFall
numbers_never_fall =
    record {
      none = tt;
      rising = (omega arith, (omega arith, (omega arith, tt)));
      below_the_least = λ fall. let low = fall.0 in omega (arith, low);
      falling = λ fall. let low = fall.1.0 in omega (arith, low);
    }
