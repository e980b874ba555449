-- The V(R) of all virtual channels, with some of them changed.
use Rattle.std.proofs.Common.{◌≡◌, ◌≢◌, ℕ, zero, suc, ◌+◌, ◌<◌, ◌≤◌, ◌==◌, Bool, true, false, if◌then◌else◌, List, [], ◌∷◌, length, slice_index_or, slice_set, replicate, All, refl, sym, ap, ◌∙◌, arith}
use Rattle.std.proofs.lemmas.Bool.{eq-eqb, ne_eqb, eqb-true, eqb-false}
use Rattle.std.proofs.lemmas.List.{get_or-set_same, get_or-set_other, length-set}
use Rattle.std.proofs.lemmas.List.Elements.{All-cons, All-replicate, All-set, All-head, All-tail}
use Rattle.sl_cop.specs.Starts.{AreItems, AreStarts, IsItem, Item, over_from, starts_over, vr_of}

-- ---- one virtual channel

pub all_are_starts : (vr : ℕ) → vr < 256 → AreStarts (replicate 64 vr)
all_are_starts vr small = record { count = refl; each = All-replicate (λ n. n < 256) 64 vr small }

-- a virtual channel that is given a V(R) has this value, and every other virtual channel keeps its
-- own
pub one_is_changed : (starts : List ℕ) (vc vr v : ℕ) → vc < length starts → slice_index_or (slice_set starts vc vr) v 0 ≡ (if v == vc then vr else slice_index_or starts v 0)
one_is_changed starts vc vr v inside = by (v == vc) refl
  where
    by : (same : Bool) → (v == vc) ≡ same → slice_index_or (slice_set starts vc vr) v 0 ≡ (if same then vr else slice_index_or starts v 0)
    by true is = ap (λ n. slice_index_or (slice_set starts vc vr) n 0) (eqb-true v vc is) ∙ get_or-set_same starts vc vr 0 inside
    by false is = get_or-set_other starts vc v vr 0 (eqb-false v vc is)

pub changed_are_starts : (starts : List ℕ) (vc vr : ℕ) → AreStarts starts → vr < 256 → AreStarts (slice_set starts vc vr)
changed_are_starts starts vc vr are small = record { count = length-set starts vc vr ∙ are.count; each = All-set (λ n. n < 256) starts vc vr small are.each }

-- ---- several virtual channels

-- an item doesn't name a virtual channel after its own one
passed_start : (vc : ℕ) (starts : List ℕ) (item : Item) (items : List Item) → item.vc < vc → over_from vc starts (item ∷ items) ≡ over_from vc starts items
unfolding over_from
passed_start vc [] item items low = refl
passed_start vc (own ∷ starts) item items low =
    rw (ne_eqb vc item.vc (λ e. omega arith)) (ap (λ l. vr_of items vc own ∷ l) (passed_start (suc vc) starts item items (omega arith)))

-- one more item changes the V(R) of one virtual channel
set_over_from : (first : ℕ) (starts : List ℕ) (item : Item) (items : List Item) (k : ℕ) → item.vc ≡ first + k → k < length starts
    → slice_set (over_from first starts items) k item.vr ≡ over_from first starts (item ∷ items)
unfolding over_from
set_over_from first [] item items k is inside = absurd (omega (arith, inside))
set_over_from first (own ∷ starts) item items zero is inside =
    rw (eq-eqb first item.vc (omega arith)) (ap (λ l. item.vr ∷ l) (sym (passed_start (suc first) starts item items (omega arith))))
set_over_from first (own ∷ starts) item items (suc k) is inside =
    rw (ne_eqb first item.vc (λ e. omega arith)) (ap (λ l. vr_of items first own ∷ l) (set_over_from (suc first) starts item items k (omega arith) (omega arith)))

-- items change no number of virtual channels
length_over_from : (first : ℕ) (starts : List ℕ) (items : List Item) → length (over_from first starts items) ≡ length starts
unfolding over_from
length_over_from first [] items = refl
length_over_from first (own ∷ starts) items = ap suc (length_over_from (suc first) starts items)

-- the same of all virtual channels
pub set_over : (starts changed : List ℕ) (item : Item) (items : List Item) → changed ≡ slice_set (starts_over starts items) item.vc item.vr → AreStarts changed → item.vc ≤ 63 → changed ≡ starts_over starts (item ∷ items)
set_over starts changed item items is are high =
    let many : length starts ≡ 64 = omega (arith, are.count, ap length is, length-set (starts_over starts items) item.vc item.vr, length_over_from 0 starts items) in
    is ∙ set_over_from 0 starts item items item.vc (omega arith) (omega arith)

-- no items change no V(R)
none_over_from : (first : ℕ) (starts : List ℕ) → over_from first starts [] ≡ starts
unfolding over_from
none_over_from first [] = refl
none_over_from first (own ∷ starts) = ap (λ l. own ∷ l) (none_over_from (suc first) starts)

-- one item changes the V(R) of its virtual channel
pub one_over : (starts changed : List ℕ) (item : Item) → changed ≡ slice_set starts item.vc item.vr → AreStarts changed → item.vc ≤ 63 → changed ≡ starts_over starts (item ∷ [])
one_over starts changed item is are high = set_over starts changed item [] (is ∙ ap (λ l. slice_set l item.vc item.vr) (sym (none_over_from 0 starts))) are high

-- ---- laws

-- the V(R) of a virtual channel is the one that the items name for it, or its own
at_over_from : (first : ℕ) (starts : List ℕ) (items : List Item) (k vc : ℕ) → vc ≡ first + k → k < length starts
    → slice_index_or (over_from first starts items) k 0 ≡ vr_of items vc (slice_index_or starts k 0)
unfolding over_from
at_over_from first [] items k vc is inside = absurd (omega (arith, inside))
at_over_from first (own ∷ starts) items zero vc is inside = ap (λ n. vr_of items n own) (omega arith)
at_over_from first (own ∷ starts) items (suc k) vc is inside = at_over_from (suc first) starts items k vc (omega arith) (omega arith)

-- each item has a virtual channel from `least` to 63 and a V(R) of 255 at most
item_at : (least : ℕ) (items : List Item) (k : ℕ) (d : Item) → AreItems least items → k < length items → IsItem least (slice_index_or items k d)
item_at least [] k d rising inside = absurd (omega (arith, inside))
item_at least (item ∷ items) zero d rising inside = rising.0
item_at least (item ∷ items) (suc k) d rising inside =
    let is = item_at (suc item.vc) items k d rising.1 (omega arith) in
    record { low = omega (arith, rising.0.low, is.low); high = is.high; octet = is.octet }

-- the V(R) of an item's virtual channel is the item's
vr_at : (least : ℕ) (items : List Item) (k : ℕ) (d : Item) (own : ℕ) → AreItems least items → k < length items
    → vr_of items (slice_index_or items k d).vc own ≡ (slice_index_or items k d).vr
vr_at least [] k d own rising inside = absurd (omega (arith, inside))
vr_at least (item ∷ items) zero d own rising inside = rw (eq-eqb item.vc item.vc refl) refl
vr_at least (item ∷ items) (suc k) d own rising inside =
    let is = item_at (suc item.vc) items k d rising.1 (omega arith) in
    rw (ne_eqb (slice_index_or items k d).vc item.vc (λ e. omega (arith, e, is.low))) (vr_at (suc item.vc) items k d own rising.1 (omega arith))

pub named_are_taken : (least : ℕ) (starts : List ℕ) (items : List Item) → length starts ≡ 64 → AreItems least items → All (λ item. slice_index_or (starts_over starts items) item.vc 0 ≡ item.vr) items
named_are_taken least starts items count rising k d inside =
    let item = slice_index_or items k d in
    let is = item_at least items k d rising inside in
    at_over_from 0 starts items item.vc item.vc (omega arith) (omega (arith, count, is.high)) ∙ vr_at least items k d (slice_index_or starts item.vc 0) rising inside

-- items of other virtual channels name nothing for this one
others_name_none : (items : List Item) (vc own : ℕ) → All (λ item. item.vc ≢ vc) items → vr_of items vc own ≡ own
others_name_none [] vc own other = refl
others_name_none (item ∷ items) vc own other =
    rw (ne_eqb vc item.vc (λ e. All-head (λ i. i.vc ≢ vc) item items other (sym e))) (others_name_none items vc own (All-tail (λ i. i.vc ≢ vc) item items other))

-- a virtual channel that no item names keeps its V(R)
kept_from : (first : ℕ) (starts : List ℕ) (items : List Item) (k vc : ℕ) → vc ≡ first + k → All (λ item. item.vc ≢ vc) items
    → slice_index_or (over_from first starts items) k 0 ≡ slice_index_or starts k 0
unfolding over_from
kept_from first [] items k vc is other = refl
kept_from first (own ∷ starts) items zero vc is other = ap (λ n. vr_of items n own) (omega arith) ∙ others_name_none items vc own other
kept_from first (own ∷ starts) items (suc k) vc is other = kept_from (suc first) starts items k vc (omega arith) other

pub others_are_kept : (starts : List ℕ) (items : List Item) (vc : ℕ) → All (λ item. item.vc ≢ vc) items → slice_index_or (starts_over starts items) vc 0 ≡ slice_index_or starts vc 0
others_are_kept starts items vc other = kept_from 0 starts items vc vc (omega arith) other

-- the V(R) that items name is 255 at most
octet_of : (least : ℕ) (items : List Item) (vc own : ℕ) → AreItems least items → own < 256 → vr_of items vc own < 256
octet_of least [] vc own rising small = small
octet_of least (item ∷ items) vc own rising small = by (vc == item.vc) (octet_of (suc item.vc) items vc own rising.1 small)
  where
    by : (same : Bool) → vr_of items vc own < 256 → (if same then item.vr else vr_of items vc own) < 256
    by true rest = omega (arith, rising.0.octet)
    by false rest = rest

-- with items over them, all V(R) are 255 at most
octets_from : (least first : ℕ) (starts : List ℕ) (items : List Item) → All (λ vr. vr < 256) starts → AreItems least items → All (λ vr. vr < 256) (over_from first starts items)
unfolding over_from
octets_from least first [] items each rising = each
octets_from least first (own ∷ starts) items each rising =
    All-cons (λ vr. vr < 256) (vr_of items first own) (over_from (suc first) starts items)
    (octet_of least items first own rising (All-head (λ vr. vr < 256) own starts each))
    (octets_from least (suc first) starts items (All-tail (λ vr. vr < 256) own starts each) rising)

pub named_are_starts : (least : ℕ) (starts : List ℕ) (items : List Item) → AreStarts starts → AreItems least items → AreStarts (starts_over starts items)
named_are_starts least starts items are rising =
    record { count = length_over_from 0 starts items ∙ are.count; each = octets_from least 0 starts items are.each rising }
