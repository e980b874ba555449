-- Changed V(R), texts that name some, and texts that name none. A wrong definition would fail these
-- facts.
use Rattle.std.proofs.Common.{◌≡◌, ℕ, suc, ◌≤◌, true, List, [], ◌∷◌, ◌++◌, length, slice_index_or, replicate, refl, ap, arith}
use Rattle.std.specs.Fmt.{decimal, digits}
use Rattle.std.proofs.lemmas.Fmt.{decimal_injective, decimal_nonempty}
use Rattle.sl_cop.specs.Starts.{Item, Lists, over_from, starts_over}
use Rattle.sl_cop.proofs.StartsTextLemmas.{has_colon, has_more, has_one, item_parts}
use Rattle.sl_fields.proofs.DecimalLemmas.{unpadded}
use Rattle.sl_fields.proofs.JoinedLemmas.{has_no, is_without}

-- an item
abbrev of : ℕ → ℕ → Item
of vc vr = record { vc = vc; vr = vr }

abbrev sevens : List ℕ
sevens = 7 ∷ 7 ∷ 7 ∷ []

pub record AreChanged : Type 0 where
  pub none : over_from 0 sevens [] ≡ sevens
  pub first : over_from 0 sevens (of 0 255 ∷ []) ≡ 255 ∷ 7 ∷ 7 ∷ []
  pub later : over_from 0 sevens (of 1 0 ∷ of 2 9 ∷ []) ≡ 7 ∷ 0 ∷ 9 ∷ []
  pub above : over_from 0 sevens (of 3 255 ∷ []) ≡ sevens
  pub fifth : slice_index_or (starts_over (replicate 64 0) (of 5 255 ∷ [])) 5 0 ≡ 255
  pub beside : slice_index_or (starts_over (replicate 64 0) (of 5 255 ∷ [])) 6 0 ≡ 0
  pub greatest : slice_index_or (starts_over (replicate 64 9) (of 0 0 ∷ of 63 255 ∷ [])) 63 0 ≡ 255
  pub least : slice_index_or (starts_over (replicate 64 9) (of 0 0 ∷ of 63 255 ∷ [])) 0 9 ≡ 0
  pub between : slice_index_or (starts_over (replicate 64 9) (of 0 0 ∷ of 63 255 ∷ [])) 62 0 ≡ 9

pub are_changed : AreChanged
unfolding over_from
are_changed = record { none = refl; first = refl; later = refl; above = refl; fifth = refl; beside = refl; greatest = refl; least = refl; between = refl }

-- `5:255`
pub lists_one_channel : Lists 0 (0x35 ∷ 0x3A ∷ 0x32 ∷ 0x35 ∷ 0x35 ∷ []) (of 5 255 ∷ [])
unfolding digits
lists_one_channel = record { some = omega arith; rising = (record { low = omega arith; high = omega arith; octet = omega arith }, tt); written = refl }

-- `0:0,63:255`
pub lists_least_and_greatest : Lists 0 (0x30 ∷ 0x3A ∷ 0x30 ∷ 0x2C ∷ 0x36 ∷ 0x33 ∷ 0x3A ∷ 0x32 ∷ 0x35 ∷ 0x35 ∷ []) (of 0 0 ∷ of 63 255 ∷ [])
unfolding digits
lists_least_and_greatest =
    record {
      some = omega arith;
      rising = (record { low = omega arith; high = omega arith; octet = omega arith }, (record { low = omega arith; high = omega arith; octet = omega arith }, tt));
      written = refl;
    }

-- ---- refused

-- the text lists no items
abbrev pub IsRefused : List ℕ → Type 0
IsRefused text = (items : List Item) → Lists 0 text items → ⊥

-- the parts of an item's text: one before its colon and one after it
pub record HasNumbers (least : ℕ) (first rest : List ℕ) : Type 0 where
  pub vc : ℕ
  pub vr : ℕ
  pub low : least ≤ vc
  pub high : vc ≤ 63
  pub octet : vr ≤ 255
  pub before : first ≡ decimal vc
  pub after : rest ≡ decimal vr

-- a text without a comma that lists items has the two numbers
numbers : (least : ℕ) (first rest : List ℕ) (items : List Item) → is_without 58 first ≡ true → is_without 44 (first ++ 58 ∷ rest) ≡ true → Lists least (first ++ 58 ∷ rest) items → HasNumbers least first rest
numbers least first rest items colon comma listed =
    let only = has_one least (first ++ 58 ∷ rest) items (has_no 44 (first ++ 58 ∷ rest) comma) listed in
    let is = only.is_item in
    let parts = item_parts least (first ++ 58 ∷ rest) first rest only.item refl (has_no 58 first colon) is only.written in
    record { vc = only.item.vc; vr = only.item.vr; low = is.low; high = is.high; octet = is.octet; before = parts.0; after = parts.1 }

-- a text without a comma and without a colon lists no items
no_colon : (least : ℕ) (text : List ℕ) (items : List Item) → is_without 58 text ≡ true → is_without 44 text ≡ true → Lists least text items → ⊥
no_colon least text items colon comma listed =
    let only = has_one least text items (has_no 44 text comma) listed in
    has_colon text only.item (has_no 58 text colon) only.written

-- two numbers with the same digits are equal
is_number : (n m : ℕ) → n ≤ 256 → m ≤ 256 → decimal n ≡ decimal m → n ≡ m
is_number n m small other is = decimal_injective n m (omega arith) (omega arith) is

-- the empty text
pub empty : IsRefused []
empty items listed = no_colon 0 [] items refl refl listed

-- `5`
pub no_start : IsRefused (0x35 ∷ [])
no_start items listed = no_colon 0 (0x35 ∷ []) items refl refl listed

-- `5:`
pub empty_start : IsRefused (0x35 ∷ 0x3A ∷ [])
empty_start items listed =
    let it = numbers 0 (0x35 ∷ []) [] items refl refl listed in
    absurd (omega (arith, ap length it.after, decimal_nonempty it.vr (let octet = it.octet in omega arith)))

-- `:5`
pub empty_channel : IsRefused (0x3A ∷ 0x35 ∷ [])
empty_channel items listed =
    let it = numbers 0 [] (0x35 ∷ []) items refl refl listed in
    absurd (omega (arith, ap length it.before, decimal_nonempty it.vc (let high = it.high in omega arith)))

-- `5:256`
pub above_an_octet : IsRefused (0x35 ∷ 0x3A ∷ 0x32 ∷ 0x35 ∷ 0x36 ∷ [])
unfolding digits
above_an_octet items listed =
    let it = numbers 0 (0x35 ∷ []) (0x32 ∷ 0x35 ∷ 0x36 ∷ []) items refl refl listed in
    let octet = it.octet in
    absurd (omega (arith, is_number 256 it.vr (omega arith) (omega arith) it.after, octet))

-- `64:0`
pub above_the_greatest : IsRefused (0x36 ∷ 0x34 ∷ 0x3A ∷ 0x30 ∷ [])
unfolding digits
above_the_greatest items listed =
    let it = numbers 0 (0x36 ∷ 0x34 ∷ []) (0x30 ∷ []) items refl refl listed in
    let high = it.high in
    absurd (omega (arith, is_number 64 it.vc (omega arith) (omega arith) it.before, high))

-- `5:01`
pub padded_start : IsRefused (0x35 ∷ 0x3A ∷ 0x30 ∷ 0x31 ∷ [])
padded_start items listed =
    let it = numbers 0 (0x35 ∷ []) (0x30 ∷ 0x31 ∷ []) items refl refl listed in
    absurd (omega (arith, unpadded (0x30 ∷ 0x31 ∷ []) it.vr it.octet it.after (omega arith)))

-- `05:1`
pub padded_channel : IsRefused (0x30 ∷ 0x35 ∷ 0x3A ∷ 0x31 ∷ [])
padded_channel items listed =
    let it = numbers 0 (0x30 ∷ 0x35 ∷ []) (0x31 ∷ []) items refl refl listed in
    let high = it.high in
    absurd (omega (arith, unpadded (0x30 ∷ 0x35 ∷ []) it.vc (omega arith) it.before (omega arith)))

-- `5:+1`
pub plus_sign : IsRefused (0x35 ∷ 0x3A ∷ 0x2B ∷ 0x31 ∷ [])
plus_sign items listed =
    let it = numbers 0 (0x35 ∷ []) (0x2B ∷ 0x31 ∷ []) items refl refl listed in
    absurd (omega (arith, unpadded (0x2B ∷ 0x31 ∷ []) it.vr it.octet it.after (omega arith)))

-- `5:1,`
pub trailing : IsRefused (0x35 ∷ 0x3A ∷ 0x31 ∷ 0x2C ∷ [])
trailing items listed =
    let more = has_more 0 (0x35 ∷ 0x3A ∷ 0x31 ∷ 0x2C ∷ []) (0x35 ∷ 0x3A ∷ 0x31 ∷ []) [] items refl (has_no 44 (0x35 ∷ 0x3A ∷ 0x31 ∷ []) refl) listed in
    no_colon (suc more.item.vc) [] more.above refl refl more.listed

-- `5:1, 6:2`
pub blank : IsRefused (0x35 ∷ 0x3A ∷ 0x31 ∷ 0x2C ∷ 0x20 ∷ 0x36 ∷ 0x3A ∷ 0x32 ∷ [])
blank items listed =
    let more =
    has_more 0 (0x35 ∷ 0x3A ∷ 0x31 ∷ 0x2C ∷ 0x20 ∷ 0x36 ∷ 0x3A ∷ 0x32 ∷ []) (0x35 ∷ 0x3A ∷ 0x31 ∷ []) (0x20 ∷ 0x36 ∷ 0x3A ∷ 0x32 ∷ []) items refl (has_no 44 (0x35 ∷ 0x3A ∷ 0x31 ∷ []) refl)
    listed
    in
    let it = numbers (suc more.item.vc) (0x20 ∷ 0x36 ∷ []) (0x32 ∷ []) more.above refl refl more.listed in
    let high = it.high in
    absurd (omega (arith, unpadded (0x20 ∷ 0x36 ∷ []) it.vc (omega arith) it.before (omega arith)))

-- `5:1,5:2`
pub repeated : IsRefused (0x35 ∷ 0x3A ∷ 0x31 ∷ 0x2C ∷ 0x35 ∷ 0x3A ∷ 0x32 ∷ [])
unfolding digits
repeated items listed =
    let more =
    has_more 0 (0x35 ∷ 0x3A ∷ 0x31 ∷ 0x2C ∷ 0x35 ∷ 0x3A ∷ 0x32 ∷ []) (0x35 ∷ 0x3A ∷ 0x31 ∷ []) (0x35 ∷ 0x3A ∷ 0x32 ∷ []) items refl (has_no 44 (0x35 ∷ 0x3A ∷ 0x31 ∷ []) refl) listed
    in
    let parts = item_parts 0 (0x35 ∷ 0x3A ∷ 0x31 ∷ []) (0x35 ∷ []) (0x31 ∷ []) more.item refl (has_no 58 (0x35 ∷ []) refl) more.is_item more.written in
    let it = numbers (suc more.item.vc) (0x35 ∷ []) (0x32 ∷ []) more.above refl refl more.listed in
    let high = more.is_item.high in
    let above = it.high in
    absurd (omega (arith, is_number 5 more.item.vc (omega arith) (omega arith) parts.0, is_number 5 it.vc (omega arith) (omega arith) it.before, it.low))

-- `5:1,4:2`
pub falling : IsRefused (0x35 ∷ 0x3A ∷ 0x31 ∷ 0x2C ∷ 0x34 ∷ 0x3A ∷ 0x32 ∷ [])
unfolding digits
falling items listed =
    let more =
    has_more 0 (0x35 ∷ 0x3A ∷ 0x31 ∷ 0x2C ∷ 0x34 ∷ 0x3A ∷ 0x32 ∷ []) (0x35 ∷ 0x3A ∷ 0x31 ∷ []) (0x34 ∷ 0x3A ∷ 0x32 ∷ []) items refl (has_no 44 (0x35 ∷ 0x3A ∷ 0x31 ∷ []) refl) listed
    in
    let parts = item_parts 0 (0x35 ∷ 0x3A ∷ 0x31 ∷ []) (0x35 ∷ []) (0x31 ∷ []) more.item refl (has_no 58 (0x35 ∷ []) refl) more.is_item more.written in
    let it = numbers (suc more.item.vc) (0x34 ∷ []) (0x32 ∷ []) more.above refl refl more.listed in
    let high = more.is_item.high in
    let above = it.high in
    absurd (omega (arith, is_number 5 more.item.vc (omega arith) (omega arith) parts.0, is_number 4 it.vc (omega arith) (omega arith) it.before, it.low))
