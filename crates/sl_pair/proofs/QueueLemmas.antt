-- Maps with the octets of packets as their keys, and the queues in them.
use Rattle.std.proofs.Common.{◌≡◌, ◌↔◌, ◌⊎◌, ℕ, Bool, true, false, cond, Option, None, Some, List, [], ◌∷◌, ◌++◌, HashMap, drop, length, inl, inr, refl, sym, ◌∙◌, ap, ap₂, append-nil}
use Rattle.std.specs.Prelude.{bytes_eq}
use Rattle.std.specs.HashMap.{get_by, UpdatesBy}
use Rattle.std.specs.Cmp.Lexicographic.{nat_list_eq_equiv}
use Rattle.std.specs.List.{slice_get}
use Rattle.std.specs.Map.{lookup}
use Rattle.std.specs.Option.{option_to_list}
use Rattle.std.proofs.lemmas.Bool.{cases_Bool}
use Rattle.std.proofs.lemmas.List.{nil_from_length}
use Rattle.std.proofs.lemmas.Map.Made.{nil_from_lookup}
use Rattle.std.proofs.lemmas.Slice.Eq.{bytes_eq-Decides}
use Rattle.std.specs.declared.collections.VecDeque.{VecDeque}
use Rattle.sl_pair.specs.declared.waiting.Place.{Place}
use Rattle.sl_pair.specs.Queue.{places_in, queued}

-- octets are the same, or the test says that they aren't
pub told : (q p : List ℕ) → ((q ≡ p) × (bytes_eq q p ≡ true)) ⊎ (bytes_eq q p ≡ false)
told q p = elim (cases_Bool (bytes_eq q p)) [
  | inl holds ↦ inl ((bytes_eq-Decides q p).0 holds, holds)
  | inr fails ↦ inr fails
]

pub bytes_eq-sym : (q p : List ℕ) → bytes_eq q p ≡ bytes_eq p q
bytes_eq-sym q p = elim (told q p) [
  | inl same ↦ ap (λ r. bytes_eq r p) same.0 ∙ ap (λ r. bytes_eq p r) (sym same.0)
  | inr other ↦ elim (told p q) [
    | inl same ↦ ap (λ r. bytes_eq q r) same.0 ∙ ap (λ r. bytes_eq r q) (sym same.0)
    | inr also ↦ other ∙ sym also
  ]
]

-- a function of the key, where the key is this one
pub at_key : {Y : Type 0} (f : List ℕ → Y) (q p : List ℕ) (other : Y) → cond (bytes_eq q p) (f p) other ≡ cond (bytes_eq q p) (f q) other
at_key f q p other = elim (told q p) [
  | inl same ↦ ap (λ r. cond (bytes_eq q p) (f r) other) (sym same.0)
  | inr apart ↦ ap (λ b. cond b (f p) other) apart ∙ sym (ap (λ b. cond b (f q) other) apart)
]

pub of-cond : {X Y : Type 0} (f : X → Y) (b : Bool) (x y : X) → f (cond b x y) ≡ cond b (f x) (f y)
of-cond f true x y = refl
of-cond f false x y = refl

module _ {X S : Type 0} where
  -- what a map has after an update at one key
  pub get-updated : (p : List ℕ) (m n : HashMap (List ℕ) X S) (w : Option X) → UpdatesBy bytes_eq (bytes_eq p) m n w
      → (q : List ℕ) → get_by (bytes_eq q) n ≡ cond (bytes_eq q p) w (get_by (bytes_eq q) m)
  get-updated p m n w updates q = updates.0 q ∙ ap (λ b. cond b w (get_by (bytes_eq q) m)) (bytes_eq-sym p q)

-- ---- queues

module _ {A S : Type 0} where
  queued-updated : (p : List ℕ) (m n : HashMap (List ℕ) (VecDeque Place A) S) (w : Option (VecDeque Place A)) → UpdatesBy bytes_eq (bytes_eq p) m n w
      → (q : List ℕ) → queued n q ≡ cond (bytes_eq q p) (places_in w) (queued m q)
  queued-updated p m n w updates q =
      ap places_in (get-updated p m n w updates q) ∙ of-cond places_in (bytes_eq q p) w (get_by (bytes_eq q) m)

  -- the queues of other packets stay
  pub queued-other : (p : List ℕ) (m n : HashMap (List ℕ) (VecDeque Place A) S) (w : Option (VecDeque Place A)) → UpdatesBy bytes_eq (bytes_eq p) m n w
      → (q : List ℕ) → bytes_eq q p ≡ false → queued n q ≡ queued m q
  queued-other p m n w updates q other = queued-updated p m n w updates q ∙ ap (λ b. cond b (places_in w) (queued m q)) other

  -- a queue without its first place
  pub queued-popped : (p : List ℕ) (m n : HashMap (List ℕ) (VecDeque Place A) S) (w : Option (VecDeque Place A)) → UpdatesBy bytes_eq (bytes_eq p) m n w
      → places_in w ≡ drop 1 (queued m p) → (q : List ℕ) → queued n q ≡ cond (bytes_eq q p) (drop 1 (queued m q)) (queued m q)
  queued-popped p m n w updates is q =
      queued-updated p m n w updates q ∙ ap (λ l. cond (bytes_eq q p) l (queued m q)) is
      ∙ at_key (λ r. drop 1 (queued m r)) q p (queued m q)

  -- a queue without its only place, that is taken out then
  pub queued-emptied : (p : List ℕ) (m mid n : HashMap (List ℕ) (VecDeque Place A) S) (w : VecDeque Place A) → UpdatesBy bytes_eq (bytes_eq p) m mid (Some w)
      → UpdatesBy bytes_eq (bytes_eq p) mid n None → w.items ≡ drop 1 (queued m p) → w.items ≡ []
      → (q : List ℕ) → queued n q ≡ cond (bytes_eq q p) (drop 1 (queued m q)) (queued m q)
  queued-emptied p m mid n w popped taken rest none q =
      queued-updated p mid n None taken q ∙ ap (cond (bytes_eq q p) []) (queued-updated p m mid (Some w) popped q)
      ∙ cases (bytes_eq q p) ∙ ap (λ l. cond (bytes_eq q p) l (queued m q)) (sym none ∙ rest)
      ∙ at_key (λ r. drop 1 (queued m r)) q p (queued m q)
    where
      cases : (b : Bool) → cond b [] (cond b w.items (queued m q)) ≡ cond b [] (queued m q)
      cases true = refl
      cases false = refl

  -- a queue with one place more, that was taken out and put back
  pub queued-pushed : (p : List ℕ) (m mid n : HashMap (List ℕ) (VecDeque Place A) S) (w : VecDeque Place A) (place : Place) → UpdatesBy bytes_eq (bytes_eq p) m mid None
      → UpdatesBy bytes_eq (bytes_eq p) mid n (Some w) → w.items ≡ queued m p ++ place ∷ [] → (q : List ℕ)
      → queued n q ≡ queued m q ++ cond (bytes_eq q p) (place ∷ []) []
  queued-pushed p m mid n w place taken put is q =
      queued-updated p mid n (Some w) put q ∙ ap (cond (bytes_eq q p) w.items) (queued-updated p m mid None taken q)
      ∙ ap (λ l. cond (bytes_eq q p) l (cond (bytes_eq q p) [] (queued m q))) is
      ∙ at_key (λ r. queued m r ++ place ∷ []) q p (cond (bytes_eq q p) [] (queued m q))
      ∙ cases (bytes_eq q p)
    where
      cases : (b : Bool) → cond b (queued m q ++ place ∷ []) (cond b [] (queued m q)) ≡ queued m q ++ cond b (place ∷ []) []
      cases true = refl
      cases false = sym (append-nil (queued m q))

-- ---- the newest place, after those in a queue

module _ {S : Type 0} (p : List ℕ) (m n : HashMap (List ℕ) Place S) where
  -- one that takes the place of another one, which goes to the queue
  pub waiting-added : (place : Place) (before : Option Place) → UpdatesBy bytes_eq (bytes_eq p) m n (Some place) → before ≡ get_by (bytes_eq p) m
      → (q : List ℕ) (queue queue' : List Place) → queue' ≡ queue ++ cond (bytes_eq q p) (option_to_list before) []
      → queue' ++ option_to_list (get_by (bytes_eq q) n) ≡ (queue ++ option_to_list (get_by (bytes_eq q) m)) ++ cond (bytes_eq q p) (place ∷ []) []
  waiting-added place before updates was q queue queue' grown =
      ap (λ l. l ++ option_to_list (get_by (bytes_eq q) n)) grown
      ∙ ap (λ o. (queue ++ cond (bytes_eq q p) (option_to_list before) []) ++ option_to_list o) (get-updated p m n (Some place) updates q)
      ∙ ap (λ o. (queue ++ cond (bytes_eq q p) (option_to_list o) []) ++ option_to_list (cond (bytes_eq q p) (Some place) (get_by (bytes_eq q) m))) was
      ∙ ap (λ l. (queue ++ l) ++ option_to_list (cond (bytes_eq q p) (Some place) (get_by (bytes_eq q) m))) (at_key (λ r. option_to_list (get_by (bytes_eq r) m)) q p [])
      ∙ cases (bytes_eq q p) (option_to_list (get_by (bytes_eq q) m)) (get_by (bytes_eq q) m) refl
    where
      cases : (b : Bool) (l : List Place) (o : Option Place) → l ≡ option_to_list o
          → (queue ++ cond b l []) ++ option_to_list (cond b (Some place) o) ≡ (queue ++ l) ++ cond b (place ∷ []) []
      cases true l o is = refl
      cases false l o is =
          ap (λ k. k ++ option_to_list o) (append-nil queue) ∙ ap (λ k. queue ++ k) (sym is) ∙ sym (append-nil (queue ++ l))

  -- one that is taken, where no place is in the queue
  pub waiting-taken : UpdatesBy bytes_eq (bytes_eq p) m n None → (queue queue' : List ℕ → List Place) → queue p ≡ []
      → ((q : List ℕ) → queue' q ≡ cond (bytes_eq q p) (drop 1 (queue q)) (queue q))
      → (q : List ℕ) → queue' q ++ option_to_list (get_by (bytes_eq q) n)
      ≡ cond (bytes_eq q p) (drop 1 (queue q ++ option_to_list (get_by (bytes_eq q) m))) (queue q ++ option_to_list (get_by (bytes_eq q) m))
  waiting-taken updates queue queue' none popped q = elim (told q p) [
    | inl same ↦
        let empty : queue q ≡ [] = ap queue same.0 ∙ none in
        let o = get_by (bytes_eq q) m in
        ap (λ l. l ++ option_to_list (get_by (bytes_eq q) n)) (popped q)
        ∙ ap (λ t. cond (bytes_eq q p) (drop 1 (queue q)) (queue q) ++ option_to_list t) (get-updated p m n None updates q)
        ∙ ap (λ b. cond b (drop 1 (queue q)) (queue q) ++ option_to_list (cond b None o)) same.1
        ∙ ap (λ l. drop 1 l ++ []) empty ∙ sym (short o)
        ∙ ap (λ l. drop 1 (l ++ option_to_list o)) (sym empty)
        ∙ sym (ap (λ b. cond b (drop 1 (queue q ++ option_to_list o)) (queue q ++ option_to_list o)) same.1)
    | inr apart ↦
        let o = get_by (bytes_eq q) m in
        ap (λ l. l ++ option_to_list (get_by (bytes_eq q) n)) (popped q)
        ∙ ap (λ t. cond (bytes_eq q p) (drop 1 (queue q)) (queue q) ++ option_to_list t) (get-updated p m n None updates q)
        ∙ ap (λ b. cond b (drop 1 (queue q)) (queue q) ++ option_to_list (cond b None o)) apart
        ∙ sym (ap (λ b. cond b (drop 1 (queue q ++ option_to_list o)) (queue q ++ option_to_list o)) apart)
  ]
    where
      short : (o : Option Place) → drop 1 ([] ++ option_to_list o) ≡ []
      short None = refl
      short (Some place) = refl

-- ---- where no newest place is, no place is in the queue

module _ {S : Type 0} (p : List ℕ) (m n : HashMap (List ℕ) Place S) (before after : List ℕ → List Place)
    (kept : (q : List ℕ) → get_by (bytes_eq q) m ≡ None → before q ≡ []) where
  -- with a newest place more, whatever goes to that packet's queue
  pub none_queued-added : (place : Place) → UpdatesBy bytes_eq (bytes_eq p) m n (Some place)
      → ((q : List ℕ) → bytes_eq q p ≡ false → after q ≡ before q)
      → (q : List ℕ) → get_by (bytes_eq q) n ≡ None → after q ≡ []
  none_queued-added place updates others q none = elim (told q p) [
    | inl same ↦
        let there : Some place ≡ None = sym (get-updated p m n (Some place) updates q ∙ ap (λ b. cond b (Some place) (get_by (bytes_eq q) m)) same.1) ∙ none in
        absurd (cc)
    | inr apart ↦
        let had : get_by (bytes_eq q) n ≡ get_by (bytes_eq q) m =
        get-updated p m n (Some place) updates q ∙ ap (λ b. cond b (Some place) (get_by (bytes_eq q) m)) apart in
        others q apart ∙ kept q (sym had ∙ none)
  ]

  -- without the newest place of a packet whose queue has none
  pub none_queued-taken : UpdatesBy bytes_eq (bytes_eq p) m n None → before p ≡ []
      → ((q : List ℕ) → after q ≡ cond (bytes_eq q p) (drop 1 (before q)) (before q))
      → (q : List ℕ) → get_by (bytes_eq q) n ≡ None → after q ≡ []
  none_queued-taken updates empty popped q none = elim (told q p) [
    | inl same ↦
        let gone : before q ≡ [] = ap before same.0 ∙ empty in
        popped q ∙ ap (λ b. cond b (drop 1 (before q)) (before q)) same.1 ∙ ap (drop 1) gone
    | inr apart ↦
        let had : get_by (bytes_eq q) n ≡ get_by (bytes_eq q) m =
        get-updated p m n None updates q ∙ ap (λ b. cond b None (get_by (bytes_eq q) m)) apart in
        popped q ∙ ap (λ b. cond b (drop 1 (before q)) (before q)) apart ∙ kept q (sym had ∙ none)
  ]

-- none waits exactly where there is no newest place
pub none_waits_iff : (newest : List (List ℕ × Place)) (queue : List ℕ → List Place) → ((q : List ℕ) → lookup (bytes_eq q) newest ≡ None → queue q ≡ [])
    → (length newest ≡ 0) ↔ ((q : List ℕ) → queue q ++ option_to_list (lookup (bytes_eq q) newest) ≡ [])
none_waits_iff newest queue kept = (
  (λ zero q.
      let none : lookup (bytes_eq q) newest ≡ None = ap (lookup (bytes_eq q)) (nil_from_length newest zero) in
      ap₂ (λ l o. l ++ option_to_list o) (kept q none) none),
  (λ none. ap length (nil_from_lookup nat_list_eq_equiv newest (λ q. no_place (queue q) (lookup (bytes_eq q) newest) (none q)))),
)
  where
    no_place : (places : List Place) (place : Option Place) → places ++ option_to_list place ≡ [] → place ≡ None
    no_place places None is = refl
    no_place [] (Some place) is = cc
    no_place (first ∷ places) (Some place) is = cc

-- ---- lists and tests

-- a list without a first element
pub none_at_front : {X : Type 0} (xs : List X) → None ≡ slice_get xs 0 → xs ≡ []
none_at_front [] none = refl
none_at_front (x ∷ xs) none = cc

pub same_either : {X : Type 0} (b : Bool) (x : X) → cond b x x ≡ x
same_either true x = refl
same_either false x = refl
