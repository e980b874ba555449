-- Texts before and after a separator, and texts of several items that a separator joins.
use Rattle.std.proofs.Common.{◌≡◌, ◌≢◌, ℕ, zero, suc, ◌<◌, ◌==◌, Bool, true, false, if◌then◌else◌, List, [], ◌∷◌, ◌++◌, map, length, drop, slice_index_or, refl, sym, ap, ◌∙◌, arith}
use Rattle.std.specs.List.{AllByRecursion, join_with_byte}
use Rattle.std.proofs.lemmas.Bool.{eqb-false}

-- ---- before and after a separator

-- the text doesn't have this character
abbrev pub HasNo : ℕ → List ℕ → Type 0
HasNo c text = (i : ℕ) → i < length text → slice_index_or text i 0 ≢ c

pub has_no-cons : (c x : ℕ) (text : List ℕ) → x ≢ c → HasNo c text → HasNo c (x ∷ text)
has_no-cons c x text other none zero inside = other
has_no-cons c x text other none (suc i) inside = none i (omega arith)

pub has_no-append : (c : ℕ) (a b : List ℕ) → HasNo c a → HasNo c b → HasNo c (a ++ b)
has_no-append c [] b na nb = nb
has_no-append c (x ∷ a) b na nb = has_no-cons c x (a ++ b) (na 0 (omega arith)) (has_no-append c a b (λ i inside. na (suc i) (omega arith)) nb)

-- whether a text doesn't have this character
abbrev pub is_without : ℕ → List ℕ → Bool
is_without c [] = true
is_without c (x ∷ text) = if x == c then false else is_without c text

pub has_no : (c : ℕ) (text : List ℕ) → is_without c text ≡ true → HasNo c text
has_no c [] without = λ i inside. absurd (omega (arith, inside))
has_no c (x ∷ text) without = by (x == c) refl without (has_no c text)
  where
    by : (same : Bool) → (x == c) ≡ same → (if same then false else is_without c text) ≡ true → (is_without c text ≡ true → HasNo c text) → HasNo c (x ∷ text)
    by true is never later = absurd (omega (arith, ap {B = ℕ} (λ b. if b then 1 else 0) never))
    by false is rest later = has_no-cons c x text (eqb-false x c is) (later rest)

-- a text without the separator isn't split at a separator
pub separated : (c : ℕ) (a s b : List ℕ) → b ≡ a ++ c ∷ s → HasNo c b → ⊥
separated c [] s b is nb = nb 0 (omega (arith, ap length is)) (ap (λ l. slice_index_or l 0 0) is)
separated c (x ∷ a) s [] is nb = absurd (omega (arith, ap length is))
separated c (x ∷ a) s (y ∷ b) is nb = separated c a s b (ap (drop 1) is) (λ i inside. nb (suc i) (omega arith))

-- there is one way to split a text at its first separator
pub one_split : (c : ℕ) (a b s t : List ℕ) → HasNo c a → HasNo c b → a ++ c ∷ s ≡ b ++ c ∷ t → (a ≡ b) × (s ≡ t)
one_split c [] [] s t na nb is = (refl, ap (drop 1) is)
one_split c [] (y ∷ b) s t na nb is = absurd (nb 0 (omega arith) (sym (ap (λ l. slice_index_or l 0 0) is)))
one_split c (x ∷ a) [] s t na nb is = absurd (na 0 (omega arith) (ap (λ l. slice_index_or l 0 0) is))
one_split c (x ∷ a) (y ∷ b) s t na nb is =
    let rest = one_split c a b s t (λ i inside. na (suc i) (omega arith)) (λ i inside. nb (suc i) (omega arith)) (ap (drop 1) is) in
    (ap (λ v. v ∷ a) (ap (λ l. slice_index_or l 0 0) is) ∙ ap (λ l. y ∷ l) rest.0, rest.1)

-- ---- items that a separator joins

-- the parts of a text before and after its first separator, where the text lists items
pub record HasFirst {A : Type 0} (c : ℕ) (write : A → List ℕ) (first rest : List ℕ) (items : List A) : Type 0 where
  pub item : A
  pub others : List A
  pub some : 0 < length others
  pub written : first ≡ write item
  pub joined : rest ≡ join_with_byte c (map write others)
  pub both : items ≡ item ∷ others

pub has_first : {A : Type 0} (c : ℕ) (write : A → List ℕ) (text first rest : List ℕ) (items : List A) → text ≡ first ++ c ∷ rest → HasNo c first → 0 < length items
    → AllByRecursion (λ item. HasNo c (write item)) items → text ≡ join_with_byte c (map write items) → HasFirst c write first rest items
has_first c write text first rest [] split none some clear is = absurd (omega (arith, some))
has_first c write text first rest (item ∷ []) split none some clear is = absurd (separated c first rest (write item) (sym is ∙ split) clear.0)
has_first c write text first rest (item ∷ next ∷ items) split none some clear is =
    let two = one_split c first (write item) rest (join_with_byte c (map write (next ∷ items))) none clear.0 (sym split ∙ is) in
    record { item = item; others = next ∷ items; some = omega arith; written = two.0; joined = two.1; both = refl }

-- the item of a text without a separator
pub record HasOnly {A : Type 0} (write : A → List ℕ) (text : List ℕ) (items : List A) : Type 0 where
  pub item : A
  pub written : text ≡ write item
  pub alone : items ≡ item ∷ []

pub has_only : {A : Type 0} (c : ℕ) (write : A → List ℕ) (text : List ℕ) (items : List A) → HasNo c text → 0 < length items → text ≡ join_with_byte c (map write items) → HasOnly write text items
has_only c write text [] none some is = absurd (omega (arith, some))
has_only c write text (item ∷ []) none some is = record { item = item; written = is; alone = refl }
has_only c write text (item ∷ next ∷ items) none some is = absurd (separated c (write item) (join_with_byte c (map write (next ∷ items))) text is none)

-- an item in front of the items of a text
pub joined_more : {A : Type 0} (c : ℕ) (write : A → List ℕ) (text first rest : List ℕ) (item : A) (items : List A) → text ≡ first ++ c ∷ rest → first ≡ write item → 0 < length items
    → rest ≡ join_with_byte c (map write items) → text ≡ join_with_byte c (map write (item ∷ items))
joined_more c write text first rest item [] split written some is = absurd (omega (arith, some))
joined_more c write text first rest item (next ∷ items) split written some is = split ∙ ap (λ l. l ++ c ∷ rest) written ∙ ap (λ l. write item ++ c ∷ l) is

-- a text lists items in one way, where each item is written in one way and without a separator
pub joined_once : {A : Type 0} (c : ℕ) (write : A → List ℕ) (Is : A → Type 0) → ((item : A) → Is item → HasNo c (write item))
    → ((item other : A) → Is item → Is other → write item ≡ write other → item ≡ other) → (items others : List A) → AllByRecursion Is items → AllByRecursion Is others
    → 0 < length items → 0 < length others → join_with_byte c (map write items) ≡ join_with_byte c (map write others) → items ≡ others
joined_once c write Is clear once [] others are other some one is = absurd (omega (arith, some))
joined_once c write Is clear once (item ∷ items) [] are other some one is = absurd (omega (arith, one))
joined_once c write Is clear once (item ∷ []) (item' ∷ []) are other some one is = ap (λ i. i ∷ []) (once item item' are.0 other.0 is)
joined_once c write Is clear once (item ∷ []) (item' ∷ next ∷ others) are other some one is =
    absurd (separated c (write item') (join_with_byte c (map write (next ∷ others))) (write item) is (clear item are.0))
joined_once c write Is clear once (item ∷ next ∷ items) (item' ∷ []) are other some one is =
    absurd (separated c (write item) (join_with_byte c (map write (next ∷ items))) (write item') (sym is) (clear item' other.0))
joined_once c write Is clear once (item ∷ next ∷ items) (item' ∷ next' ∷ others) are other some one is =
    let two = one_split c (write item) (write item') (join_with_byte c (map write (next ∷ items))) (join_with_byte c (map write (next' ∷ others))) (clear item are.0) (clear item' other.0) is in
    ap (λ i. i ∷ next ∷ items) (once item item' are.0 other.0 two.0)
    ∙ ap (λ l. item' ∷ l) (joined_once c write Is clear once (next ∷ items) (next' ∷ others) are.1 other.1 (omega arith) (omega arith) two.1)
