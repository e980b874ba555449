-- Lists, and tests of numbers.
use Rattle.std.proofs.Common.{◌≡◌, ◌↔◌, ℕ, zero, suc, ◌+◌, ◌≤◌, Bool, true, cond, List, [], ◌∷◌, ◌++◌, leb, inl, inr, sym, ◌∙◌, ap, arith}
use Rattle.std.specs.List.{Contains, filter, range_with_len}
use Rattle.std.specs.List.Sorted.{IsStrictlyIncreasing}
use Rattle.std.proofs.lemmas.Bool.{cases_Bool, cases_lt, false≢true, le-leb, lt-leb}
use Rattle.std.proofs.lemmas.List.{map-id}
use Rattle.std.proofs.lemmas.List.Elements.{Contains-append_cases, Contains-append_left, Contains-append_right}
use Rattle.std.proofs.lemmas.List.FromFn.{filter_of_map_range_with_len_more, get_or-range_with_len, length-range_with_len}

-- the element of a list of one
pub first_is : {X : Type 0} (y x : X) → Contains (y ∷ []) x → y ≡ x
first_is y x (zero, inside, is) = is
first_is y x (suc k, inside, is) = absurd (omega arith)

one_more : {X : Type 0} (y : X) (ys zs : List X) (x : X) → (Contains ys x → Contains zs x) → Contains (y ∷ ys) x → Contains (y ∷ zs) x
one_more y ys zs x step there = elim (Contains-append_cases (y ∷ []) ys x there) [
  | inl here ↦ Contains-append_left (y ∷ []) zs x here
  | inr later ↦ Contains-append_right (y ∷ []) zs x (step later)
]

-- an element that passes a test is in a list where it is among those that pass
pub kept_member : {X : Type 0} (test : X → Bool) (x : X) → test x ≡ true → (xs : List X) → Contains xs x ↔ Contains (filter test xs) x
kept_member test x passes [] = ((λ c. c), (λ c. c))
kept_member test x passes (y ∷ ys) =
    let same = kept_member test x passes ys in
    elim (cases_Bool (test y)) [
      | inl kept ↦ rw kept (one_more y ys (filter test ys) x (same.0), one_more y (filter test ys) ys x (same.1))
      | inr not ↦ rw not (
        (λ there. elim (Contains-append_cases (y ∷ []) ys x there) [
          | inl here ↦ absurd (false≢true (sym not ∙ ap test (first_is y x here) ∙ passes))
          | inr later ↦ same.0 later
        ]),
        (λ there. Contains-append_right (y ∷ []) ys x (same.1 there)),
      )
    ]

-- two tests of numbers have the same answer where both numbers rise together
pub leb-alike : (a b c d : ℕ) → (a ≤ b) ↔ (c ≤ d) → leb a b ≡ leb c d
leb-alike a b c d alike = elim (cases_lt b a) [
  | inl less ↦ elim (cases_lt d c) [
    | inl also ↦ lt-leb a b less ∙ sym (lt-leb c d also)
    | inr not ↦ absurd (omega (arith, alike.1 not))
  ]
  | inr within ↦ le-leb a b within ∙ sym (le-leb c d (alike.0 within))
]

-- the numbers that pass a test, with one number more
pub filter_range_more : (test : ℕ → Bool) (n : ℕ)
    → filter test (range_with_len 0 (n + 1)) ≡ filter test (range_with_len 0 n) ++ cond (test n) (n ∷ []) []
filter_range_more test n =
    let here : 0 + n ≡ n = omega arith in
    ap (filter test) (sym (map-id (range_with_len 0 (n + 1))))
    ∙ filter_of_map_range_with_len_more test (λ k. k) 0 n n here
    ∙ ap (λ l. filter test l ++ cond (test n) (n ∷ []) []) (map-id (range_with_len 0 n))

pub range_rises : (n : ℕ) → IsStrictlyIncreasing (range_with_len 0 n)
range_rises n k inside =
    omega (arith, length-range_with_len 0 n, get_or-range_with_len 0 n k 0, get_or-range_with_len 0 n (k + 1) 0)
