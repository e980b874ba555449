-- The kept lists of packets, with an empty list for each channel after them.
use Rattle.std.proofs.Common.{◌≡◌, ℕ, ◌+◌, ◌-◌, ◌<◌, ◌≤◌, List, [], ◌∷◌, ◌++◌, length, take, replicate, get_or, set, inl, inr, sym, ◌∙◌, ap, arith, append_assoc, length-append}
use Rattle.std.proofs.lemmas.Bool.{cases_lt}
use Rattle.std.proofs.lemmas.List.{length-replicate, take-replicate, replicate-append-replicate, set-append_left, get_or-take, get_or_past, length-take, length-take-le}
use Rattle.sl_packet.specs.Delivered.{channel_count, empty_lists, with_packet}
use Rattle.sl_packet.proofs.Filling.{take_filled, get_or_filled, take_set}
use Rattle.sl_packet.specs.KeptLists.{with_empty_lists, IsGrown}

-- the lists of `n` channels

module _ (n : ℕ) where
  filled : List (List (List ℕ)) → List (List (List ℕ))
  filled lists = take n (lists ++ replicate n [])

  filled_none : filled [] ≡ replicate n []
  unfolding filled
  filled_none = take-replicate n n [] (omega arith)

  filled_more : (lists : List (List (List ℕ))) (k : ℕ) → filled (lists ++ replicate k []) ≡ filled lists
  unfolding filled
  filled_more lists k =
      ap (λ xs. take n xs) (append_assoc lists (replicate k []) (replicate n []) ∙ ap (λ xs. lists ++ xs) (replicate-append-replicate k n []))
      ∙ take_filled n lists [] (k + n) n (omega arith) (omega arith)

  length-filled : (lists : List (List (List ℕ))) → length (filled lists) ≡ n
  unfolding filled
  length-filled lists = length-take-le n (lists ++ replicate n []) (omega (arith, length-append lists (replicate n []), length-replicate {A = List (List ℕ)} n []))

  get_or-filled : (lists : List (List (List ℕ))) (i : ℕ) → length lists ≤ n → get_or (filled lists) i [] ≡ get_or lists i []
  unfolding filled
  get_or-filled lists i fit =
      elim (cases_lt i n) [
        | inl below ↦ get_or-take n (lists ++ replicate n []) i [] below ∙ get_or_filled lists n i []
        | inr above ↦
            get_or_past (filled lists) i [] (omega (arith, length-take n (lists ++ replicate n []))) ∙ sym (get_or_past lists i [] (omega arith))
      ]

  filled-set : (lists : List (List (List ℕ))) (i : ℕ) (list : List (List ℕ)) → i < length lists → filled (set lists i list) ≡ set (filled lists) i list
  unfolding filled
  filled-set lists i list h = ap (λ xs. take n xs) (sym (set-append_left lists (replicate n []) i list h)) ∙ take_set n (lists ++ replicate n []) i list

-- ---- the 4,096 channels

pub padded_none : with_empty_lists [] ≡ empty_lists
unfolding with_empty_lists empty_lists filled
padded_none = filled_none channel_count

pub length-with_empty_lists : (lists : List (List (List ℕ))) → length (with_empty_lists lists) ≡ channel_count
unfolding with_empty_lists empty_lists filled
length-with_empty_lists lists = length-filled channel_count lists

pub padded_grown : (old new : List (List (List ℕ))) → IsGrown old new → with_empty_lists new ≡ with_empty_lists old
unfolding with_empty_lists empty_lists filled
padded_grown old new h = ap with_empty_lists h ∙ filled_more channel_count old (length new - length old)

pub get_or-with_empty_lists : (lists : List (List (List ℕ))) (i : ℕ) → length lists ≤ channel_count → get_or (with_empty_lists lists) i [] ≡ get_or lists i []
unfolding with_empty_lists empty_lists filled
get_or-with_empty_lists lists i fit = get_or-filled channel_count lists i fit

pub with_empty_lists-set : (lists : List (List (List ℕ))) (i : ℕ) (list : List (List ℕ)) → i < length lists → with_empty_lists (set lists i list) ≡ set (with_empty_lists lists) i list
unfolding with_empty_lists empty_lists filled
with_empty_lists-set lists i list h = filled-set channel_count lists i list h

pub padded_with_packet : (old grown : List (List (List ℕ))) (channel : ℕ) (packet : List ℕ) → IsGrown old grown → channel < length grown → length grown ≤ channel_count → with_empty_lists (with_packet grown channel packet) ≡ with_packet (with_empty_lists old) channel packet
padded_with_packet old grown channel packet h inside fit =
    let list = get_or grown channel [] in
    with_empty_lists-set grown channel (list ++ packet ∷ []) inside
    ∙ ap (λ xs. set xs channel (list ++ packet ∷ [])) (padded_grown old grown h)
    ∙ ap (λ xs. set (with_empty_lists old) channel (xs ++ packet ∷ [])) (sym (get_or-with_empty_lists grown channel fit) ∙ ap (λ xs. get_or xs channel []) (padded_grown old grown h))
