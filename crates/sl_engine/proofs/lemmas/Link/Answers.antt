-- What follows from what a call answers.
use Rattle.std.proofs.Common.{◌≡◌, Option, None, Some, Result, Ok, Err, subst, sym}
use Rattle.std.specs.Prelude.{IfErr, IfOk, IfNone, IfSome, OnOk}
use Rattle.std.specs.Result.{IsErrAnd, OnErr}

-- from what holds where there is no value
pub none_then : {X P Q : Type 0} (o : Option X) → IfNone o P → (P → Q) → IfNone o Q
none_then None p f = f p
none_then (Some x) p f = tt

-- from two things that hold of the value
pub both_some : {X : Type 0} {P Q T : X → Type 0} (o : Option X) → IfSome o P → IfSome o Q → ((x : X) → P x → Q x → T x) → IfSome o T
both_some None p q f = tt
both_some (Some x) p q f = f x p q

-- from two things that hold at `Ok`
pub both_ok : {T E P Q X : Type 0} (r : Result T E) → OnOk r P → OnOk r Q → (P → Q → X) → OnOk r X
both_ok (Ok t) p q f = f p q
both_ok (Err e) p q f = tt

-- from what holds at any error, and what holds of the error
pub both_err : {T E P : Type 0} {Q X : E → Type 0} (r : Result T E) → OnErr r P → IfErr r Q → (P → (e : E) → Q e → X e) → IfErr r X
both_err (Ok t) p q f = tt
both_err (Err e) p q f = f p e q

-- from what holds of the value, or of the error
pub either_way : {T E X : Type 0} {P : T → Type 0} {Q : E → Type 0} (r : Result T E) → IfOk r P → IfErr r Q → ((t : T) → P t → X) → ((e : E) → Q e → X) → X
either_way (Ok t) p q f g = f t p
either_way (Err e) p q f g = g e q

-- a fault that `?` passes up as it is
pub passed_up : {T E : Type 0} {e : E} (r : Result T E) (P : E → Type 0) → IsErrAnd r (λ y. y ≡ e) → P e → IfErr r P
passed_up (Ok x) P given p = tt
passed_up (Err y) P given p = subst P (sym given) p
