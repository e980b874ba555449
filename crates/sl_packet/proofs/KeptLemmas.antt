-- The list of a channel among the kept lists, and the property of each packet in them.
use Rattle.std.proofs.Common.{◌≡◌, ℕ, ◌+◌, ◌-◌, max, ◌<◌, ◌≤◌, List, [], ◌∷◌, ◌++◌, length, map, take, replicate, get_or, set, refl, sym, ◌∙◌, ap, subst, arith, length-append, append_assoc}
use Rattle.std.proofs.lemmas.List.{get_or-map, get_or_past, length-map, map_push, map-set, set-get_or, length-replicate, replicate_more}
use Rattle.std.specs.List.{AllByRecursion}
use Rattle.std.specs.Vec.{vec_items}
use Rattle.std.specs.declared.vec.Vec.{Vec}
use Rattle.sl_fields.proofs.ListLemmas.{each-append, each-at, each-replicate, each-set, each-take}
use Rattle.sl_packet.specs.Delivered.{channel_count, empty_lists, IsDeliverable, with_packet}
use Rattle.sl_packet.specs.KeptLists.{with_empty_lists, IsGrown}
use Rattle.sl_packet.proofs.PaddedLemmas.{get_or-with_empty_lists}

module _ {X Y : Type 0} where
  -- the packets that a vector of vectors stands for
  abbrev packets_in : Vec (Vec ℕ X) Y → List (List ℕ)
  packets_in list = map vec_items (vec_items list)

  pub kept_at : (items kept : List (Vec (Vec ℕ X) Y)) (i : ℕ) (list : Vec (Vec ℕ X) Y) → items ≡ kept → length (map packets_in kept) ≤ channel_count → i < length items → list ≡ get_or items i list → packets_in list ≡ get_or (with_empty_lists (map packets_in kept)) i []
  kept_at items kept i list same fit inside is =
      let here : i < length kept = omega (arith, ap length same) in
      ap packets_in (is ∙ ap (λ xs. get_or xs i list) same) ∙ sym (get_or-map packets_in kept i list [] here) ∙ sym (get_or-with_empty_lists (map packets_in kept) i fit)

  pub none_kept_at : (items kept : List (Vec (Vec ℕ X) Y)) (i : ℕ) → items ≡ kept → length (map packets_in kept) ≤ channel_count → length items ≤ i → [] ≡ get_or (with_empty_lists (map packets_in kept)) i []
  none_kept_at items kept i same fit past =
      let after : length (map packets_in kept) ≤ i = omega (arith, ap length same, length-map kept packets_in) in
      sym (get_or-with_empty_lists (map packets_in kept) i fit ∙ get_or_past (map packets_in kept) i [] after)

  -- the lists where a packet was added to one channel's list
  pub packet_added : (items : List (Vec (Vec ℕ X) Y)) (channel : ℕ) (list new : Vec (Vec ℕ X) Y) (value : Vec ℕ X) (packet : List ℕ) → channel < length items → list ≡ get_or items channel list → vec_items new ≡ vec_items list ++ value ∷ [] → vec_items value ≡ packet → map packets_in (set items channel new) ≡ with_packet (map packets_in items) channel packet
  packet_added items channel list new value packet inside is added same =
      let before : packets_in list ≡ get_or (map packets_in items) channel [] = ap packets_in is ∙ sym (get_or-map packets_in items channel list [] inside) in
      let after : packets_in new ≡ packets_in list ++ packet ∷ [] = ap (map vec_items) added ∙ map_push vec_items (vec_items list) value ∙ ap (λ p. packets_in list ++ p ∷ []) same in
      map-set packets_in items channel new
      ∙ ap (λ packets. set (map packets_in items) channel packets) (after ∙ ap (λ packets. packets ++ packet ∷ []) before)

  -- the lists where one channel's list was written back unchanged
  pub nothing_added : (items : List (Vec (Vec ℕ X) Y)) (channel : ℕ) (list new : Vec (Vec ℕ X) Y) → channel < length items → list ≡ get_or items channel list → vec_items new ≡ vec_items list → map packets_in (set items channel new) ≡ map packets_in items
  nothing_added items channel list new inside is same =
      map-set packets_in items channel new
      ∙ ap (λ packets. set (map packets_in items) channel packets) (ap (map vec_items) same ∙ ap packets_in is ∙ sym (get_or-map packets_in items channel list [] inside))
      ∙ set-get_or (map packets_in items) channel []

  -- the lists with an empty list added at the end
  pub none_added : (items new : List (Vec (Vec ℕ X) Y)) (list : Vec (Vec ℕ X) Y) → new ≡ items ++ list ∷ [] → vec_items list ≡ [] → map packets_in new ≡ map packets_in items ++ [] ∷ []
  none_added items new list e empty = ap (map packets_in) e ∙ map_push packets_in items list ∙ ap (λ l. map packets_in items ++ map vec_items l ∷ []) empty

-- while empty lists are added, up to the list of a channel
pub record HasReached (old new : List (List (List ℕ))) (channel : ℕ) : Type 0 where
  pub grown : IsGrown old new
  pub no_further : length new ≤ max (length old) (channel + 1)

pub reached_more : (old lists new : List (List (List ℕ))) (channel : ℕ) → HasReached old lists channel → new ≡ lists ++ [] ∷ [] → length lists ≤ channel → HasReached old new channel
reached_more old lists new channel h e before =
    let k = length lists - length old in
    let bound = h.no_further in
    let longer : length lists ≡ length old + k = ap length h.grown ∙ length-append old (replicate k []) ∙ ap (λ n. length old + n) (length-replicate {A = List (List ℕ)} k []) in
    let one : length new ≡ length lists + 1 = ap length e ∙ length-append lists ([] ∷ []) in
    let more : k + 1 ≡ length new - length old = omega arith in
    record {
      grown = e ∙ ap (λ xs. xs ++ [] ∷ []) h.grown ∙ append_assoc old (replicate k []) ([] ∷ []) ∙ ap (λ xs. old ++ xs) (replicate_more k [] ∙ ap (λ n. replicate n []) more);
      no_further = omega arith;
    }

-- ---- the property of each packet

abbrev AllDeliverable : List (List ℕ) → Type 0
AllDeliverable packets = AllByRecursion IsDeliverable packets

pub due_at : (kept : List (List (List ℕ))) (i : ℕ) → length kept ≤ channel_count → AllByRecursion AllDeliverable kept → AllDeliverable (get_or (with_empty_lists kept) i [])
due_at kept i fit all = subst AllDeliverable (sym (get_or-with_empty_lists kept i fit)) (each-at AllDeliverable kept i [] tt all)

-- each list has the property, the empty lists after the kept ones included
filled_due : (n k : ℕ) (kept empty lists : List (List (List ℕ))) → empty ≡ replicate k [] → lists ≡ take n (kept ++ empty) → AllByRecursion AllDeliverable kept → AllByRecursion AllDeliverable lists
filled_due n k kept empty lists none is all =
    let after : AllByRecursion AllDeliverable empty = subst (AllByRecursion AllDeliverable) (sym none) (each-replicate AllDeliverable k [] tt) in
    subst (AllByRecursion AllDeliverable) (sym is) (each-take AllDeliverable n (kept ++ empty) (each-append AllDeliverable kept empty all after))

empty_lists_are : empty_lists ≡ replicate channel_count []
unfolding empty_lists
empty_lists_are = refl

with_empty_lists_are : (kept : List (List (List ℕ))) → with_empty_lists kept ≡ take channel_count (kept ++ empty_lists)
unfolding with_empty_lists
with_empty_lists_are kept = refl

pub all_due : (kept : List (List (List ℕ))) → AllByRecursion AllDeliverable kept → AllByRecursion AllDeliverable (with_empty_lists kept)
all_due kept all = filled_due channel_count channel_count kept empty_lists (with_empty_lists kept) empty_lists_are (with_empty_lists_are kept) all

pub grown_due : (old new : List (List (List ℕ))) → IsGrown old new → AllByRecursion AllDeliverable old → AllByRecursion AllDeliverable new
grown_due old new grown all =
    let empty = replicate (length new - length old) [] in
    subst (AllByRecursion AllDeliverable) (sym grown) (each-append AllDeliverable old empty all (each-replicate AllDeliverable (length new - length old) [] tt))

pub with_packet_due : (lists : List (List (List ℕ))) (channel : ℕ) (packet : List ℕ) → AllByRecursion AllDeliverable lists → IsDeliverable packet → AllByRecursion AllDeliverable (with_packet lists channel packet)
with_packet_due lists channel packet all due =
    let list = get_or lists channel [] in
    each-set AllDeliverable lists channel (list ++ packet ∷ [])
    (each-append IsDeliverable list (packet ∷ []) (each-at AllDeliverable lists channel [] tt all) (due, tt)) all
