-- Packets that are the same on each channel.
use Rattle.std.proofs.Common.{◌≡◌, ℕ, ◌<◌, ◌≤◌, List, [], ◌∷◌, length, map, get_or, Bool, ◌&&◌, Decides, inl, inr, refl, sym, ◌∙◌, ap, arith}
use Rattle.std.specs.Prelude.{bytes_eq}
use Rattle.std.specs.Cmp.Lexicographic.{pointwise}
use Rattle.std.specs.Vec.{vec_items}
use Rattle.std.specs.declared.vec.Vec.{Vec}
use Rattle.std.proofs.lemmas.Bool.{cases_lt}
use Rattle.std.proofs.lemmas.List.{ext_get_or, get_or_past}
use Rattle.std.proofs.lemmas.Slice.Eq.{bytes_eq-Decides, slice_eq-Decides}
use Rattle.sl_packet.specs.Delivered.{channel_count}
use Rattle.sl_packet.specs.KeptLists.{with_empty_lists}
use Rattle.sl_packet.proofs.PaddedLemmas.{get_or-with_empty_lists, length-with_empty_lists}

module _ {X : Type 0} where
  -- vectors are compared as their items are
  items_compared : (xs ys : List (Vec ℕ X)) → pointwise (λ (x : Vec ℕ X) (y : Vec ℕ X). bytes_eq x.items y.items) xs ys ≡ pointwise bytes_eq (map vec_items xs) (map vec_items ys)
  items_compared [] [] = refl
  items_compared [] (y ∷ ys) = refl
  items_compared (x ∷ xs) [] = refl
  items_compared (x ∷ xs) (y ∷ ys) = ap (λ rest. bytes_eq x.items y.items && rest) (items_compared xs ys)

  pub same_items : (xs ys : List (Vec ℕ X)) (r : Bool) → r ≡ pointwise (λ (x : Vec ℕ X) (y : Vec ℕ X). bytes_eq x.items y.items) xs ys → Decides r (map vec_items xs ≡ map vec_items ys)
  same_items xs ys r e = slice_eq-Decides bytes_eq-Decides (map vec_items xs) (map vec_items ys) r (e ∙ items_compared xs ys)

-- the lists of the channels below one are the same
abbrev pub AreSameBelow : List (List (List ℕ)) → List (List (List ℕ)) → ℕ → Type 0
AreSameBelow lists others end = (channel : ℕ) → channel < end → get_or lists channel [] ≡ get_or others channel []

-- and so are all, where neither store keeps a list past it
module _ (lists kept : List (List (List ℕ))) (is : lists ≡ with_empty_lists kept) (fit : length kept ≤ channel_count) where
  length-padded : length lists ≡ channel_count
  length-padded = ap length is ∙ length-with_empty_lists kept

  none_past : (channel : ℕ) → length kept ≤ channel → get_or lists channel [] ≡ []
  none_past channel past = ap (λ l. get_or l channel []) is ∙ get_or-with_empty_lists kept channel fit ∙ get_or_past kept channel [] past

  pub same_padded : (others others_kept : List (List (List ℕ))) → others ≡ with_empty_lists others_kept → length others_kept ≤ channel_count
      → (end : ℕ) → length kept ≤ end → length others_kept ≤ end → AreSameBelow lists others end → lists ≡ others
  same_padded others others_kept others_are others_fit end reached others_reached same =
      ext_get_or [] lists others (length-padded ∙ sym (ap length others_are ∙ length-with_empty_lists others_kept)) (λ channel inside.
      elim (cases_lt channel end) [
        | inl below ↦ same channel below
        | inr past ↦
            none_past channel (omega arith)
            ∙ sym (ap (λ l. get_or l channel []) others_are ∙ get_or-with_empty_lists others_kept channel others_fit ∙ get_or_past others_kept channel [] (omega arith))
      ])
