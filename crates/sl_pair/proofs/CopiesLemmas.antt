-- Copies of a packet: how many there are, and which packet is among others.
use Rattle.std.proofs.Common.{◌≡◌, ◌⊎◌, ℕ, ◌+◌, ◌<◌, true, false, ◌||◌, cond, List, [], ◌∷◌, ◌++◌, inl, inr, refl, sym, ◌∙◌, ap, arith}
use Rattle.std.specs.Prelude.{bytes_eq}
use Rattle.std.proofs.lemmas.Bool.{cases_Bool, false≢true, cond-true, cond-false}
use Rattle.std.proofs.lemmas.Slice.Eq.{bytes_eq-Decides}
use Rattle.sl_pair.specs.OnlyIn.{Packets, copies, is_among, without_first}

-- two packets are the same, or the test tells them apart
pub same_or_other : (x p : List ℕ) → ((x ≡ p) × (bytes_eq x p ≡ true)) ⊎ (bytes_eq x p ≡ false)
same_or_other x p = elim (cases_Bool (bytes_eq x p)) [
  | inl passes ↦ inl ((bytes_eq-Decides x p).0 passes, passes)
  | inr fails ↦ inr fails
]

pub same_self : (p : List ℕ) → bytes_eq p p ≡ true
same_self p = (bytes_eq-Decides p p).1 refl

-- the test has the same answer from either side
pub other_self : (x p : List ℕ) → bytes_eq x p ≡ false → bytes_eq p x ≡ false
other_self x p other = elim (same_or_other p x) [
  | inl same ↦ absurd (false≢true (sym other ∙ (bytes_eq-Decides x p).1 (sym same.0)))
  | inr fails ↦ fails
]

-- ---- how many copies

-- what a packet adds to the copies of `x`
abbrev pub adds : List ℕ → List ℕ → ℕ
adds x p = cond (bytes_eq x p) 1 0

pub adds-same : (x p : List ℕ) → bytes_eq x p ≡ true → adds x p ≡ 1
adds-same x p same = cond-true (bytes_eq x p) 1 0 same

pub adds-other : (x p : List ℕ) → bytes_eq x p ≡ false → adds x p ≡ 0
adds-other x p other = cond-false (bytes_eq x p) 1 0 other

pub copies-append : (x : List ℕ) (ps qs : Packets) → copies x (ps ++ qs) ≡ copies x ps + copies x qs
copies-append x [] qs = let n : copies x qs ≡ 0 + copies x qs = omega arith in n
copies-append x (p ∷ ps) qs =
    let n : adds x p + copies x (ps ++ qs) ≡ (adds x p + copies x ps) + copies x qs = omega (arith, copies-append x ps qs) in n

pub copies-push : (x p : List ℕ) (ps : Packets) → copies x (ps ++ p ∷ []) ≡ copies x ps + adds x p
copies-push x p ps = let n : copies x (p ∷ []) ≡ adds x p = omega arith in omega (arith, copies-append x ps (p ∷ []))

-- ---- which packet is among others

pub none_among : (p : List ℕ) (qs : Packets) → is_among p qs ≡ false → copies p qs ≡ 0
none_among p [] none = refl
none_among p (q ∷ qs) none = elim (cases_Bool (bytes_eq p q)) [
  | inl same ↦ absurd (false≢true (sym none ∙ ap (λ b. b || is_among p qs) same))
  | inr other ↦
      let later : copies p qs ≡ 0 = none_among p qs (sym (ap (λ b. b || is_among p qs) other) ∙ none) in
      let n : adds p q + copies p qs ≡ 0 = omega (arith, adds-other p q other) in
      n
]

pub some_among : (p : List ℕ) (qs : Packets) → is_among p qs ≡ true → 0 < copies p qs
some_among p [] some = absurd (false≢true some)
some_among p (q ∷ qs) some = elim (cases_Bool (bytes_eq p q)) [
  | inl same ↦ omega (arith, adds-same p q same)
  | inr other ↦ omega (arith, some_among p qs (sym (ap (λ b. b || is_among p qs) other) ∙ some))
]

pub among_by_copies : (p : List ℕ) (qs : Packets) → 0 < copies p qs → is_among p qs ≡ true
among_by_copies p qs some = elim (cases_Bool (is_among p qs)) [
  | inl among ↦ among
  | inr not ↦ absurd (omega (arith, none_among p qs not))
]

-- without its first copy a packet has one copy fewer, and another packet has as many
pub copies-without_first : (x p : List ℕ) (qs : Packets) → is_among p qs ≡ true → copies x qs ≡ adds x p + copies x (without_first p qs)
copies-without_first x p [] among = absurd (false≢true among)
copies-without_first x p (q ∷ qs) among = elim (same_or_other p q) [
  | inl same ↦ rw same.1 (ap (λ r. adds x r + copies x qs) (sym same.0))
  | inr other ↦
      let later : copies x qs ≡ adds x p + copies x (without_first p qs) =
      copies-without_first x p qs (sym (ap (λ b. b || is_among p qs) other) ∙ among) in
      let n : adds x q + copies x qs ≡ adds x p + (adds x q + copies x (without_first p qs)) = omega arith in
      rw other n
]

-- another packet that isn't among them has no copies, or is not this one
pub apart : (x p : List ℕ) (qs : Packets) → is_among p qs ≡ false → (copies x qs ≡ 0) ⊎ (adds x p ≡ 0)
apart x p qs none = elim (same_or_other x p) [
  | inl same ↦ inl (ap (λ y. copies y qs) same.0 ∙ none_among p qs none)
  | inr other ↦ inr (adds-other x p other)
]
