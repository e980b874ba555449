-- A text of items, and how it is split.
use Rattle.std.proofs.Common.{◌≡◌, ℕ, suc, ◌≤◌, List, [], ◌∷◌, ◌++◌, inl, inr, refl, sym, ap, subst, ◌∙◌, arith}
use Rattle.std.specs.Fmt.{decimal}
use Rattle.std.specs.List.{AllByRecursion}
use Rattle.std.proofs.lemmas.Fmt.{decimal_injective}
use Rattle.sl_cop.specs.Starts.{AreItems, IsItem, Item, Lists, item_text}
use Rattle.sl_fields.proofs.DecimalLemmas.{decimal_has_no}
use Rattle.sl_fields.proofs.JoinedLemmas.{HasNo, has_first, has_no-append, has_no-cons, has_only, joined_more, joined_once, one_split, separated}

-- ---- one item

-- a number in decimal has no colon
no_colon : (n : ℕ) → n ≤ 255 → HasNo 58 (decimal n)
no_colon n small = decimal_has_no 58 n (inr (omega arith)) small

-- the numbers of an item stand before and after its colon
pub item_parts : (least : ℕ) (text first rest : List ℕ) (item : Item) → text ≡ first ++ 58 ∷ rest → HasNo 58 first → IsItem least item → text ≡ item_text item
    → (first ≡ decimal item.vc) × (rest ≡ decimal item.vr)
item_parts least text first rest item split none is written =
    one_split 58 first (decimal item.vc) rest (decimal item.vr) none (no_colon item.vc (omega (arith, is.high))) (sym split ∙ written)

-- a text without a colon isn't that of an item
pub has_colon : (text : List ℕ) (item : Item) → HasNo 58 text → text ≡ item_text item → ⊥
has_colon text item none written = separated 58 (decimal item.vc) (decimal item.vr) text written none

-- a number in decimal has no comma
no_comma : (n : ℕ) → n ≤ 255 → HasNo 44 (decimal n)
no_comma n small = decimal_has_no 44 n (inl (omega arith)) small

-- the text of an item has no comma
no_comma_in : (item : Item) → IsItem 0 item → HasNo 44 (item_text item)
no_comma_in item is =
    has_no-append 44 (decimal item.vc) (58 ∷ decimal item.vr) (no_comma item.vc (omega (arith, is.high))) (has_no-cons 44 58 (decimal item.vr) (λ e. omega (arith, e)) (no_comma item.vr is.octet))

-- an item is written in one way
item_once : (item other : Item) → IsItem 0 item → IsItem 0 other → item_text item ≡ item_text other → item ≡ other
item_once item other is are same =
    let parts = item_parts 0 (item_text item) (decimal item.vc) (decimal item.vr) other refl (no_colon item.vc (omega (arith, is.high))) are same in
    let vc : item.vc ≡ other.vc = decimal_injective item.vc other.vc (omega (arith, is.high)) (omega (arith, are.high)) parts.0 in
    let vr : item.vr ≡ other.vr = decimal_injective item.vr other.vr (omega (arith, is.octet)) (omega (arith, are.octet)) parts.1 in
    let with_vc : ℕ → Item = λ n. record { vc = n; vr = item.vr } in
    let with_vr : ℕ → Item = λ n. record { vc = other.vc; vr = n } in
    ap with_vc vc ∙ ap with_vr vr

-- ---- several items

-- each of the items is an item
each_item : (least : ℕ) (items : List Item) → AreItems least items → AllByRecursion (IsItem 0) items
each_item least [] are = tt
each_item least (item ∷ items) are = (record { low = omega arith; high = are.0.high; octet = are.0.octet }, each_item (suc item.vc) items are.1)

-- the text of each item has no comma
clear : (least : ℕ) (items : List Item) → AreItems least items → AllByRecursion (λ item. HasNo 44 (item_text item)) items
clear least [] are = tt
clear least (item ∷ items) are = (no_comma_in item (each_item least (item ∷ items) are).0, clear (suc item.vc) items are.1)

-- the parts of a text before and after its first comma, where it lists items
pub record HasMore (least : ℕ) (first rest : List ℕ) (items : List Item) : Type 0 where
  pub item : Item
  pub above : List Item
  pub is_item : IsItem least item
  pub written : first ≡ item_text item
  pub listed : Lists (suc item.vc) rest above
  pub both : items ≡ item ∷ above

pub has_more : (least : ℕ) (text first rest : List ℕ) (items : List Item) → text ≡ first ++ 44 ∷ rest → HasNo 44 first → Lists least text items → HasMore least first rest items
has_more least text first rest items split none listed =
    let it = has_first 44 item_text text first rest items split none listed.some (clear least items listed.rising) listed.written in
    let rising = subst (AreItems least) it.both listed.rising in
    record {
      item = it.item;
      above = it.others;
      is_item = rising.0;
      written = it.written;
      listed = record { some = it.some; rising = rising.1; written = it.joined };
      both = it.both;
    }

-- the item of a text without a comma that lists items
pub record HasOne (least : ℕ) (text : List ℕ) (items : List Item) : Type 0 where
  pub item : Item
  pub is_item : IsItem least item
  pub written : text ≡ item_text item
  pub alone : items ≡ item ∷ []

pub has_one : (least : ℕ) (text : List ℕ) (items : List Item) → HasNo 44 text → Lists least text items → HasOne least text items
has_one least text items none listed =
    let it = has_only 44 item_text text items none listed.some listed.written in
    record { item = it.item; is_item = (subst (AreItems least) it.alone listed.rising).0; written = it.written; alone = it.alone }

-- an item in front of the items of a text, and an item alone
pub lists_more : (least : ℕ) (text first rest : List ℕ) (item : Item) (items : List Item) → text ≡ first ++ 44 ∷ rest → IsItem least item → first ≡ item_text item → Lists (suc item.vc) rest items
    → Lists least text (item ∷ items)
lists_more least text first rest item items split is written listed =
    record { some = omega arith; rising = (is, listed.rising); written = joined_more 44 item_text text first rest item items split written listed.some listed.written }

pub lists_one : (least : ℕ) (text : List ℕ) (item : Item) → IsItem least item → text ≡ item_text item → Lists least text (item ∷ [])
lists_one least text item is written = record { some = omega arith; rising = (is, tt); written = written }

-- a text lists items in one way
pub lists_once : (least : ℕ) (text : List ℕ) (items others : List Item) → Lists least text items → Lists least text others → items ≡ others
lists_once least text items others listed other =
    joined_once 44 item_text (IsItem 0) no_comma_in item_once items others (each_item least items listed.rising) (each_item least others other.rising) listed.some other.some
    (sym listed.written ∙ other.written)
