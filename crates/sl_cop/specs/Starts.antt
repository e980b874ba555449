-- The initial V(R) of FARM-1, CCSDS 232.1-B, on each of the 64 virtual channels of TC frames, as a
-- list of numbers, and the text that names some of them. A separate value for each virtual channel,
-- and the form of the text, are this project's choice.
use Rattle.std.specs.Prelude.{◌≡◌, ◌≢◌, ℕ, suc, ◌<◌, ◌≤◌, ◌==◌, if◌then◌else◌, List, [], ◌∷◌, ◌++◌, map, length, slice_index_or, slice_set, All}
use Rattle.std.specs.Fmt.{decimal}
use Rattle.std.specs.List.{join_with_byte}

-- one initial V(R), 0 to 255, for each of the virtual channels 0 to 63
pub record AreStarts (starts : List ℕ) : Type 0 where
  pub count : length starts ≡ 64
  pub each : All (λ vr. vr < 256) starts

-- ---- changed for some virtual channels

-- a virtual channel and the initial V(R) that is named for it
pub record Item : Type 0 where
  pub vc : ℕ
  pub vr : ℕ

-- the initial V(R) that items name for the virtual channel `vc`, or `own` where the items name none
abbrev pub vr_of : List Item → ℕ → ℕ → ℕ
vr_of [] vc own = own
vr_of (item ∷ items) vc own = if vc == item.vc then item.vr else vr_of items vc own

-- The initial V(R) of the virtual channels from `vc` on. The list has their own values. A virtual
-- channel that the items name has the value of the items, and each other one has its own value.
unfoldable pub over_from : ℕ → List ℕ → List Item → List ℕ
over_from vc [] items = []
over_from vc (own ∷ starts) items = vr_of items vc own ∷ over_from (suc vc) starts items

-- The initial V(R) of all virtual channels: the values of the list, with those of the items over
-- them.
abbrev pub starts_over : List ℕ → List Item → List ℕ
starts_over starts items = over_from 0 starts items

-- ---- as text

-- an item: a virtual channel from `least` to 63, and a V(R) of 255 at most
pub record IsItem (least : ℕ) (item : Item) : Type 0 where
  pub low : least ≤ item.vc
  pub high : item.vc ≤ 63
  pub octet : item.vr ≤ 255

-- items whose virtual channels rise strictly from `least` on
abbrev pub AreItems : ℕ → List Item → Type 0
AreItems least [] = Unit {0}
AreItems least (item ∷ items) = IsItem least item × AreItems (suc item.vc) items

-- the text of an item: both numbers in decimal without leading zeros, with a colon (octet 58)
-- between them
abbrev pub item_text : Item → List ℕ
item_text item = decimal item.vc ++ 58 ∷ decimal item.vr

-- the text of items: joined by single commas (octet 44)
abbrev pub items_text : List Item → List ℕ
items_text items = join_with_byte 44 (map item_text items)

-- The text lists these items: one or more. Their virtual channels rise strictly and are `least` to
-- 63, and their V(R) are 0 to 255.
pub record Lists (least : ℕ) (text : List ℕ) (items : List Item) : Type 0 where
  pub some : 0 < length items
  pub rising : AreItems least items
  pub written : text ≡ items_text items

-- The values `starts` are the values `before` after the changes that the text lists. Each virtual
-- channel that the text names has the named V(R), and each other one has its V(R) of `before`.
pub record AreNamed (least : ℕ) (text before starts : List ℕ) : Type 0 where
  pub items : List Item
  pub listed : Lists least text items
  pub over : starts ≡ starts_over before items

-- ---- laws

-- A virtual channel that is given a V(R) has this value, and every other virtual channel keeps its
-- own.
abbrev pub OneIsChanged : Type 0
OneIsChanged =
    (starts : List ℕ) (vc vr v : ℕ) → vc < length starts
    → slice_index_or (slice_set starts vc vr) v 0 ≡ (if v == vc then vr else slice_index_or starts v 0)

-- Where a virtual channel is given a V(R), each of the 64 virtual channels still has one V(R), 0 to
-- 255.
abbrev pub ChangedAreStarts : Type 0
ChangedAreStarts = (starts : List ℕ) (vc vr : ℕ) → AreStarts starts → vr < 256 → AreStarts (slice_set starts vc vr)

-- Each virtual channel that an item names has the V(R) of this item.
abbrev pub NamedAreTaken : Type 0
NamedAreTaken =
    (least : ℕ) (starts : List ℕ) (items : List Item) → length starts ≡ 64 → AreItems least items
    → All (λ item. slice_index_or (starts_over starts items) item.vc 0 ≡ item.vr) items

-- Each virtual channel that no item names keeps its own V(R).
abbrev pub OthersAreKept : Type 0
OthersAreKept =
    (starts : List ℕ) (items : List Item) (vc : ℕ) → All (λ item. item.vc ≢ vc) items
    → slice_index_or (starts_over starts items) vc 0 ≡ slice_index_or starts vc 0

-- With the named values each of the 64 virtual channels still has one V(R), 0 to 255.
abbrev pub NamedAreStarts : Type 0
NamedAreStarts =
    (least : ℕ) (starts : List ℕ) (items : List Item) → AreStarts starts → AreItems least items
    → AreStarts (starts_over starts items)

-- No text lists two different lists of items.
abbrev pub ListsOnce : Type 0
ListsOnce =
    (least : ℕ) (text : List ℕ) (items others : List Item) → Lists least text items → Lists least text others
    → items ≡ others
