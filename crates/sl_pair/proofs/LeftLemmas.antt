-- What a store lists as left of a recording: of each packet the copies that wait, and in the end all of them in order.
use Rattle.std.proofs.Common.{◌≡◌, ◌↔◌, ℕ, true, false, cond, Option, None, Some, List, [], ◌∷◌, ◌++◌, map, inl, inr, refl, sym, ◌∙◌, ap, ap₂, subst, append-nil, drop}
use Rattle.std.specs.Prelude.{bytes_eq}
use Rattle.std.specs.Cmp.Lexicographic.{nat_list_eq_equiv}
use Rattle.std.specs.List.{IsDistinct, filter}
use Rattle.std.specs.List.Sorted.{IsNonDecreasingBy, IsPermutation}
use Rattle.std.specs.Map.{keys_of, lookup}
use Rattle.std.specs.Option.{option_to_list}
use Rattle.std.specs.declared.collections.VecDeque.{VecDeque}
use Rattle.std.proofs.lemmas.Bool.{cases_Bool}
use Rattle.std.proofs.lemmas.List.Elements.{filter-append}
use Rattle.std.proofs.lemmas.List.Sorted.{IsPermutation-cons, IsPermutation-middle, IsPermutation-refl, IsPermutation-trans}
use Rattle.std.proofs.lemmas.Map.{lookup-none}
use Rattle.std.proofs.lemmas.Map.Entries.{lookup_head, lookup_tail, none_past_head}
use Rattle.std.proofs.lemmas.Map.Keys.{IsDistinct-tail}
use Rattle.sl_pair.specs.Left.{placed_at}
use Rattle.sl_pair.specs.OnlyIn.{Packets, only_in}
use Rattle.sl_pair.specs.Placed.{Placed, left_in}
use Rattle.sl_pair.specs.Queue.{places_in}
use Rattle.sl_pair.specs.Side.{place_of}
use Rattle.sl_pair.specs.Turns.{strike_out}
use Rattle.sl_pair.specs.Waiting.{same_packet, waiting}
use Rattle.sl_pair.specs.declared.waiting.Place.{Place}
use Rattle.sl_pair.proofs.CopiesLemmas.{same_or_other, same_self}
use Rattle.sl_pair.proofs.FormsLemmas.{packets_are}
use Rattle.sl_pair.proofs.PlacedLemmas.{numbers_rise, waiting-is}
use Rattle.sl_pair.proofs.QueueLemmas.{same_either}
use Rattle.sl_pair.proofs.RisingLemmas.{in_order}

-- ---- the entries of a map, of which each has the places of one packet

same_kept : (q p : List ℕ) (places : List Place) → bytes_eq q p ≡ true
    → filter (same_packet q) (map (placed_at p) places) ≡ map (placed_at p) places
same_kept q p [] same = refl
same_kept q p (place ∷ places) same = rw same (ap (λ l. placed_at p place ∷ l) (same_kept q p places same))

other_dropped : (q p : List ℕ) (places : List Place) → bytes_eq q p ≡ false
    → filter (same_packet q) (map (placed_at p) places) ≡ []
other_dropped q p [] other = refl
other_dropped q p (place ∷ places) other = rw other (other_dropped q p places other)

module _ {X : Type 0} (places_of : X → List Place) where
  -- the packets at all places
  abbrev pub all_placed : List (List ℕ × X) → List Placed
  all_placed [] = []
  all_placed (entry ∷ later) = map (placed_at entry.0) (places_of entry.1) ++ all_placed later

  -- the places that are found
  abbrev pub found : Option X → List Place
  found None = []
  found (Some x) = places_of x

  -- those of one packet are the ones at the places that its key finds
  pub filter-all_placed : (q : List ℕ) (entries : List (List ℕ × X)) → IsDistinct bytes_eq (keys_of entries)
      → filter (same_packet q) (all_placed entries) ≡ map (placed_at q) (found (lookup (bytes_eq q) entries))
  filter-all_placed q [] distinct = refl
  filter-all_placed q (entry ∷ later) distinct =
      let front = map (placed_at entry.0) (places_of entry.1) in
      let rest = filter-all_placed q later (IsDistinct-tail bytes_eq entry.0 (keys_of later) distinct) in
      filter-append (same_packet q) front (all_placed later)
      ∙ elim (same_or_other q entry.0) [
        | inl same ↦
            let none = lookup-none (bytes_eq q) later (none_past_head nat_list_eq_equiv q entry later distinct same.1) in
            ap₂ (λ l r. l ++ r) (same_kept q entry.0 (places_of entry.1) same.1) (rest ∙ ap (λ o. map (placed_at q) (found o)) none)
            ∙ append-nil front ∙ ap (λ k. map (placed_at k) (places_of entry.1)) (sym same.0)
            ∙ ap (λ o. map (placed_at q) (found o)) (sym (lookup_head (bytes_eq q) entry later same.1))
        | inr other ↦
            ap (λ l. l ++ filter (same_packet q) (all_placed later)) (other_dropped q entry.0 (places_of entry.1) other)
            ∙ rest ∙ ap (λ o. map (placed_at q) (found o)) (sym (lookup_tail (bytes_eq q) entry later other))
      ]

  -- once each entry was passed, the copies of a packet are those that were there, and those at the places that its key finds
  pub filter-added : (entries left : List (List ℕ × X)) (before added : List Placed) → IsDistinct bytes_eq (keys_of entries) → left ≡ []
      → added ++ all_placed left ≡ before ++ all_placed entries → (q : List ℕ)
      → filter (same_packet q) added ≡ filter (same_packet q) before ++ map (placed_at q) (found (lookup (bytes_eq q) entries))
  filter-added entries left before added distinct none is q =
      ap (filter (same_packet q)) (sym (append-nil added) ∙ ap (λ l. added ++ all_placed l) (sym none) ∙ is)
      ∙ filter-append (same_packet q) before (all_placed entries)
      ∙ ap (λ l. filter (same_packet q) before ++ l) (filter-all_placed q entries distinct)

-- one place for each packet
abbrev pub one_place : Place → List Place
one_place place = place ∷ []

pub one-found : (place : Option Place) → found one_place place ≡ option_to_list place
one-found None = refl
one-found (Some place) = refl

module _ {A : Type 0} where
  -- a queue for each packet
  abbrev pub queue_places : VecDeque Place A → List Place
  queue_places queue = queue.items

  pub queue-found : (queue : Option (VecDeque Place A)) → found queue_places queue ≡ places_in queue
  queue-found None = refl
  queue-found (Some queue) = refl

-- ---- lists that have the same copies of each packet

filter-struck : (q p : List ℕ) (all : List Placed)
    → filter (same_packet q) (strike_out p all) ≡ cond (bytes_eq q p) (drop 1 (filter (same_packet q) all)) (filter (same_packet q) all)
filter-struck q p [] = sym (same_either (bytes_eq q p) [])
filter-struck q p (one ∷ later) = elim (same_or_other p one.packet) [
  | inl here ↦ elim (cases_Bool (bytes_eq q p)) [
    | inl same ↦
        let also : bytes_eq q one.packet ≡ true = ap (bytes_eq q) (sym here.0) ∙ same in
        rw (here.1, same, also) refl
    | inr other ↦
        let also : bytes_eq q one.packet ≡ false = ap (bytes_eq q) (sym here.0) ∙ other in
        rw (here.1, other, also) refl
  ]
  | inr past ↦ elim (same_or_other q p) [
    | inl same ↦
        let also : bytes_eq q one.packet ≡ false = ap (λ k. bytes_eq k one.packet) same.0 ∙ past in
        rw (past, also) (filter-struck q p later)
    | inr other ↦ elim (cases_Bool (bytes_eq q one.packet)) [
      | inl is ↦ rw (past, is, other) (ap (λ l. one ∷ l) (rw other at (filter-struck q p later)))
      | inr not ↦ rw (past, not) (filter-struck q p later)
    ]
  ]
]

-- the first copy of a packet, in front of what is left without it
struck_first : (p : List ℕ) (all : List Placed) (first : Placed) (rest : List Placed)
    → filter (same_packet p) all ≡ first ∷ rest → IsPermutation all (first ∷ strike_out p all)
struck_first p [] first rest is = let none : ⊥ = cc in absurd none
struck_first p (one ∷ later) first rest is = elim (cases_Bool (bytes_eq p one.packet)) [
  | inl same ↦
      let front = rw same at is in
      let here : one ≡ first = cc in
      rw same (subst (λ x. IsPermutation (one ∷ later) (x ∷ later)) here (IsPermutation-refl (one ∷ later)))
  | inr other ↦
      let after = struck_first p later first rest (rw other at is) in
      rw other (IsPermutation-trans (one ∷ later) (one ∷ first ∷ strike_out p later) (first ∷ one ∷ strike_out p later)
      (IsPermutation-cons one later (first ∷ strike_out p later) after)
      (IsPermutation-middle (one ∷ []) first (strike_out p later)))
]

-- lists that have the same copies of each packet are the same in some order
pub same_copies_permute : (xs ys : List Placed) → ((q : List ℕ) → filter (same_packet q) xs ≡ filter (same_packet q) ys) → IsPermutation ys xs
same_copies_permute [] [] same = IsPermutation-refl []
same_copies_permute [] (y ∷ ys) same =
    let there = rw (same_self y.packet) at (same y.packet) in
    let none : ⊥ = cc in
    absurd none
same_copies_permute (x ∷ xs) ys same =
    let p = x.packet in
    let first : filter (same_packet p) ys ≡ x ∷ filter (same_packet p) xs = sym (same p) ∙ rw (same_self p) refl in
    IsPermutation-trans ys (x ∷ strike_out p ys) (x ∷ xs) (struck_first p ys x (filter (same_packet p) xs) first)
    (IsPermutation-cons x (strike_out p ys) xs (same_copies_permute xs (strike_out p ys) (λ q. elim (same_or_other q p) [
      | inl here ↦
          let shows = rw here.1 at (same q) in
          ap (drop 1) shows ∙ sym (rw here.1 at (filter-struck q p ys))
      | inr other ↦
          let shows = rw other at (same q) in
          shows ∙ sym (rw other at (filter-struck q p ys))
    ])))

-- ---- what waits is what is left

-- the packets of one packet's places
placed_back : (q : List ℕ) (all : List Placed)
    → map (placed_at q) (map place_of (filter (same_packet q) all)) ≡ filter (same_packet q) all
placed_back q [] = refl
placed_back q (one ∷ later) = elim (same_or_other q one.packet) [
  | inl same ↦ rw same.1 (ap₂ (λ k l. placed_at k (place_of one) ∷ l) same.0 (placed_back q later))
  | inr other ↦ rw other (placed_back q later)
]

module _ (packets others : Packets) (at : List ℕ → List Place) (waits : (q : List ℕ) → at q ≡ map place_of (waiting q packets others)) where
  -- a list of the copies of each packet that wait, once it is in order
  pub listed : (unsorted sorted : List Placed) → ((q : List ℕ) → filter (same_packet q) unsorted ≡ map (placed_at q) (at q))
      → IsPermutation unsorted sorted → IsNonDecreasingBy (λ (one : Placed). one.number) sorted → sorted ≡ left_in packets others
  listed unsorted sorted copies moved up =
      let all = left_in packets others in
      in_order (λ (one : Placed). one.number) all sorted (numbers_rise packets others)
      (IsPermutation-trans all unsorted sorted (same_copies_permute unsorted all (λ q.
      copies q ∙ ap (map (placed_at q)) (waits q ∙ ap (map place_of) (sym (waiting-is q packets others))) ∙ placed_back q all)) moved)
      up

  -- none waits exactly where each packet has its counterpart
  pub none_waits_iff : ((q : List ℕ) → at q ≡ []) ↔ (only_in packets others ≡ [])
  none_waits_iff =
      let all = left_in packets others in (
        (λ none. sym (packets_are packets others) ∙ ap (map (λ (one : Placed). one.packet)) (none_of_each all (λ q.
            waiting-is q packets others ∙ unmapped (waiting q packets others) (sym (waits q) ∙ none q)))),
        (λ none q. waits q ∙ ap (map place_of) (sym (waiting-is q packets others)
            ∙ ap (filter (same_packet q)) (unnamed all (packets_are packets others ∙ none)))),
      )
    where
      unmapped : (xs : List Placed) → map place_of xs ≡ [] → xs ≡ []
      unmapped [] is = refl
      unmapped (x ∷ xs) is = cc

      unnamed : (xs : List Placed) → map (λ (one : Placed). one.packet) xs ≡ [] → xs ≡ []
      unnamed [] is = refl
      unnamed (x ∷ xs) is = cc

      none_of_each : (xs : List Placed) → ((q : List ℕ) → filter (same_packet q) xs ≡ []) → xs ≡ []
      none_of_each [] none = refl
      none_of_each (x ∷ xs) none = let there = rw (same_self x.packet) at (none x.packet) in cc
