-- Packets with their numbers, and the copies of a packet that wait for a counterpart.
use Rattle.std.proofs.Common.{◌≡◌, ◌↔◌, ℕ, zero, suc, ◌+◌, ◌-◌, ◌<◌, ◌≤◌, Bool, true, false, cond, List, [], ◌∷◌, ◌++◌, length, map, take, drop, get_or, leb, inl, inr, refl, sym, ◌∙◌, ap, ap₂, subst, append_assoc, append-nil, arith}
use Rattle.std.specs.Prelude.{bytes_eq}
use Rattle.std.specs.List.{filter, range_with_len}
use Rattle.std.specs.List.Sorted.{IsStrictlyIncreasing}
use Rattle.std.proofs.lemmas.Bool.{cases_Bool, lt-leb}
use Rattle.std.proofs.lemmas.List.{drop-append-le, drop-drop, drop_all, length-append, length-drop, length-take-le, map-append, map-id, take_all, take_more}
use Rattle.std.proofs.lemmas.List.Elements.{filter-append}
use Rattle.std.proofs.lemmas.List.Kept.{IsStrictlyIncreasing-filter}
use Rattle.sl_pair.specs.OnlyIn.{Packets, copies, is_among, is_only_at, only_places, without_first}
use Rattle.sl_pair.specs.Placed.{Placed, all_placed_after, left_in, only_placed, placed, placed_after}
use Rattle.sl_pair.specs.Waiting.{same_packet, waiting}
use Rattle.sl_pair.proofs.ListLemmas.{filter_range_more, leb-alike, range_rises}
use Rattle.sl_pair.proofs.CopiesLemmas.{adds, adds-other, adds-same, apart, copies-push, copies-without_first, none_among, same_or_other, some_among}

-- ---- packets with their numbers

all_placed-push : (before packets : Packets) (packet : List ℕ)
    → all_placed_after before (packets ++ packet ∷ [])
    ≡ all_placed_after before packets ++ placed_after (before ++ packets) packet ∷ []
all_placed-push before [] packet = ap (λ l. placed_after l packet ∷ []) (sym (append-nil before))
all_placed-push before (first ∷ later) packet =
    let next = before ++ first ∷ [] in
    ap (λ l. placed_after before first ∷ l) (all_placed-push next later packet
    ∙ ap (λ l. all_placed_after next later ++ placed_after l packet ∷ []) (append_assoc before (first ∷ []) later))

pub placed-push : (packets : Packets) (packet : List ℕ)
    → placed (packets ++ packet ∷ []) ≡ placed packets ++ placed_after packets packet ∷ []
placed-push packets packet = all_placed-push [] packets packet

-- ---- the copies of one packet

-- there are as many with their numbers as there are copies
length-copies_after : (packet : List ℕ) (before packets : Packets)
    → length (filter (same_packet packet) (all_placed_after before packets)) ≡ copies packet packets
length-copies_after packet before [] = refl
length-copies_after packet before (first ∷ later) = elim (cases_Bool (bytes_eq packet first)) [
  | inl same ↦
      let rest = length-copies_after packet (before ++ first ∷ []) later in
      rw same (omega (arith, rest))
  | inr other ↦
      let rest = length-copies_after packet (before ++ first ∷ []) later in
      rw other (omega (arith, rest))
]

pub length-copies : (packet : List ℕ) (own : Packets) → length (filter (same_packet packet) (placed own)) ≡ copies packet own
length-copies packet own = length-copies_after packet [] own

-- of the copies that a recording has, those are left that are more than the others have
copies_left : (packet : List ℕ) (all : List Placed) (others : Packets)
    → filter (same_packet packet) (only_placed all others) ≡ drop (copies packet others) (filter (same_packet packet) all)
copies_left packet [] others = sym (drop_all (copies packet others) [] (omega arith))
copies_left packet (one ∷ later) others =
    let rest = without_first one.packet others in
    elim (cases_Bool (is_among one.packet others)) [
      | inl among ↦
          let less : copies packet others ≡ adds packet one.packet + copies packet rest =
          copies-without_first packet one.packet others among in
          elim (cases_Bool (bytes_eq packet one.packet)) [
            | inl same ↦
                let n : copies packet others ≡ suc (copies packet rest) = omega (arith, adds-same packet one.packet same) in
                rw (among, same, n) (copies_left packet later rest)
            | inr other ↦
                let n : copies packet others ≡ copies packet rest = omega (arith, adds-other packet one.packet other) in
                rw (among, other, n) (copies_left packet later rest)
          ]
      | inr none ↦ elim (same_or_other packet one.packet) [
        | inl same ↦
            let n : copies packet others ≡ zero = ap (λ q. copies q others) same.0 ∙ none_among one.packet others none in
            rw (none, same.1, n) (ap (λ l. one ∷ l) (rw n at (copies_left packet later others)))
        | inr other ↦ rw (none, other) (copies_left packet later others)
      ]
    ]

pub waiting-is : (packet : List ℕ) (own others : Packets)
    → filter (same_packet packet) (left_in own others) ≡ waiting packet own others
waiting-is packet own others = copies_left packet (placed own) others

-- ---- one packet more

-- the copies of a recording, with one packet more
copies_placed-push : (q packet : List ℕ) (own : Packets)
    → filter (same_packet q) (placed (own ++ packet ∷ []))
    ≡ filter (same_packet q) (placed own) ++ cond (bytes_eq q packet) (placed_after own packet ∷ []) []
copies_placed-push q packet own =
    ap (filter (same_packet q)) (placed-push own packet)
    ∙ filter-append (same_packet q) (placed own) (placed_after own packet ∷ [])

-- a packet that comes and finds no counterpart waits
pub waiting-own : (q packet : List ℕ) (own others : Packets) → copies packet others ≤ copies packet own
    → waiting q (own ++ packet ∷ []) others ≡ waiting q own others ++ cond (bytes_eq q packet) (placed_after own packet ∷ []) []
waiting-own q packet own others few =
    let had = filter (same_packet q) (placed own) in
    let more = placed_after own packet ∷ [] in
    elim (same_or_other q packet) [
      | inl same ↦
          let enough : copies q others ≤ copies q own = subst (λ p. copies p others ≤ copies p own) (sym same.0) few in
          let fits : copies q others ≤ length had = omega (arith, length-copies q own) in
          ap (drop (copies q others)) (copies_placed-push q packet own)
          ∙ rw same.1 (drop-append-le (copies q others) had more fits)
      | inr other ↦
          ap (drop (copies q others)) (copies_placed-push q packet own)
          ∙ rw other (ap (drop (copies q others)) (append-nil had) ∙ sym (append-nil (drop (copies q others) had)))
    ]

-- one that finds its counterpart doesn't wait
pub waiting-matched : (q packet : List ℕ) (own others : Packets) → copies packet own < copies packet others
    → waiting q (own ++ packet ∷ []) others ≡ waiting q own others
waiting-matched q packet own others some =
    let had = filter (same_packet q) (placed own) in
    let more = placed_after own packet ∷ [] in
    elim (same_or_other q packet) [
      | inl same ↦
          let enough : copies q own < copies q others = subst (λ p. copies p own < copies p others) (sym same.0) some in
          let long : length had ≡ copies q own = length-copies q own in
          ap (drop (copies q others)) (copies_placed-push q packet own)
          ∙ rw same.1 (drop_all (copies q others) (had ++ more) (omega (arith, length-append had more)))
          ∙ sym (drop_all (copies q others) had (omega arith))
      | inr other ↦
          ap (drop (copies q others)) (copies_placed-push q packet own)
          ∙ rw other (ap (drop (copies q others)) (append-nil had))
    ]

-- a packet that comes takes the oldest copy that waits on the other side
pub waiting-taken : (q packet : List ℕ) (own others : Packets)
    → waiting q others (own ++ packet ∷ []) ≡ cond (bytes_eq q packet) (drop 1 (waiting q others own)) (waiting q others own)
waiting-taken q packet own others =
    let had = filter (same_packet q) (placed others) in
    elim (cases_Bool (bytes_eq q packet)) [
      | inl same ↦
          let n : copies q (own ++ packet ∷ []) ≡ copies q own + 1 = omega (arith, copies-push q packet own, adds-same q packet same) in
          ap (λ k. drop k had) n ∙ rw same (sym (drop-drop 1 (copies q own) had))
      | inr other ↦
          let n : copies q (own ++ packet ∷ []) ≡ copies q own = omega (arith, copies-push q packet own, adds-other q packet other) in
          ap (λ k. drop k had) n ∙ rw other refl
    ]

-- ---- which packets wait

pub length-waiting : (packet : List ℕ) (own others : Packets) → length (waiting packet own others) ≡ copies packet own - copies packet others
length-waiting packet own others =
    omega (arith, length-copies packet own, length-drop (copies packet others) (filter (same_packet packet) (placed own)))

-- copies wait where a recording has more of them than the other one
pub waits-iff : (packet : List ℕ) (own others : Packets) → (0 < length (waiting packet own others)) ↔ (copies packet others < copies packet own)
waits-iff packet own others =
    let long = length-waiting packet own others in
    ((λ some. omega arith), (λ more. omega arith))

-- where none waits, the other recording has as many copies at least
pub none_waits : (packet : List ℕ) (own others : Packets) → length (waiting packet own others) ≡ 0 → copies packet own ≤ copies packet others
none_waits packet own others none = omega (arith, length-waiting packet own others)

-- ---- what is left of a recording

-- a packet at the end is left where the others have no more copies of it than stand before it
only_placed-push : (one : Placed) (all : List Placed) (others : Packets)
    → only_placed (all ++ one ∷ []) others
    ≡ only_placed all others
    ++ cond (leb (copies one.packet others) (length (filter (same_packet one.packet) all))) (one ∷ []) []
only_placed-push one [] others = elim (cases_Bool (is_among one.packet others)) [
  | inl among ↦ rw (among, lt-leb (copies one.packet others) 0 (some_among one.packet others among)) refl
  | inr none ↦ rw (none, none_among one.packet others none) refl
]
only_placed-push one (first ∷ later) others =
    let x = one.packet in
    let rest = without_first first.packet others in
    let had = length (filter (same_packet x) later) in
    let has = length (filter (same_packet x) (first ∷ later)) in
    let more : has ≡ adds x first.packet + had = elim (cases_Bool (bytes_eq x first.packet)) [
      | inl same ↦ rw same (omega arith)
      | inr other ↦ rw other (omega arith)
    ] in
    elim (cases_Bool (is_among first.packet others)) [
      | inl among ↦
          let less = copies-without_first x first.packet others among in
          let alike : leb (copies x rest) had ≡ leb (copies x others) has =
          leb-alike (copies x rest) had (copies x others) has ((λ h. omega arith), (λ h. omega arith)) in
          rw (among, ← alike) (only_placed-push one later rest)
      | inr none ↦
          let alike : leb (copies x others) had ≡ leb (copies x others) has =
          elim (apart x first.packet others none) [
            | inl none_of_it ↦ leb-alike (copies x others) had (copies x others) has ((λ h. omega arith), (λ h. omega arith))
            | inr other ↦ leb-alike (copies x others) had (copies x others) has ((λ h. omega arith), (λ h. omega arith))
          ] in
          rw (none, ← alike) (ap (λ l. first ∷ l) (only_placed-push one later others))
    ]

pub left_in-push : (packets others : Packets) (packet : List ℕ)
    → left_in (packets ++ packet ∷ []) others
    ≡ left_in packets others ++ cond (leb (copies packet others) (copies packet packets)) (placed_after packets packet ∷ []) []
left_in-push packets others packet =
    ap (λ l. only_placed l others) (placed-push packets packet)
    ∙ only_placed-push (placed_after packets packet) (placed packets) others
    ∙ ap (λ n. left_in packets others ++ cond (leb (copies packet others) n) (placed_after packets packet ∷ []) []) (length-copies packet packets)

-- the places of the packets that are left, and what is at these places
left_at : {X : Type 0} (at : ℕ → X) (of : Placed → X) (packets others : Packets)
    → ((n : ℕ) → n < length packets → at n ≡ of (placed_after (take n packets) (get_or packets n [])))
    → (n : ℕ) → n ≤ length packets
    → map at (filter (is_only_at packets others) (range_with_len 0 n)) ≡ map of (left_in (take n packets) others)
left_at at of packets others alike zero within = refl
left_at {X} at of packets others alike (suc n) within =
    let x = get_or packets n [] in
    let before = take n packets in
    let test = is_only_at packets others in
    let inside : n < length packets = omega arith in
    let below : n ≤ length packets = omega arith in
    let next : n + 1 ≡ suc n = omega arith in
    let range : filter test (range_with_len 0 (n + 1)) ≡ filter test (range_with_len 0 n) ++ cond (test n) (n ∷ []) [] =
    filter_range_more test n in
    ap (λ k. map at (filter test (range_with_len 0 k))) (sym next)
    ∙ ap (map at) range
    ∙ map-append at (filter test (range_with_len 0 n)) (cond (test n) (n ∷ []) [])
    ∙ ap₂ (λ l r. l ++ r) (left_at at of packets others alike n below)
    (chosen at of n (placed_after before x) (alike n inside) (test n))
    ∙ sym (map-append of (left_in before others) (cond (test n) (placed_after before x ∷ []) []))
    ∙ ap (map of) (sym (left_in-push before others x))
    ∙ ap (λ l. map of (left_in l others)) (sym (take_more packets n [] inside))
    ∙ ap (λ k. map of (left_in (take k packets) others)) next
  where
    chosen : {X : Type 0} (at : ℕ → X) (of : Placed → X) (n : ℕ) (one : Placed) → at n ≡ of one
        → (b : Bool) → map at (cond b (n ∷ []) []) ≡ map of (cond b (one ∷ []) [])
    chosen at of n one same true = ap (λ x. x ∷ []) same
    chosen at of n one same false = refl

-- the whole recording
left_at_all : {X : Type 0} (at : ℕ → X) (of : Placed → X) (packets others : Packets)
    → ((n : ℕ) → n < length packets → at n ≡ of (placed_after (take n packets) (get_or packets n [])))
    → map at (only_places packets others) ≡ map of (left_in packets others)
left_at_all at of packets others alike =
    let all : length packets ≤ length packets = omega arith in
    left_at at of packets others alike (length packets) all
    ∙ ap (λ l. map of (left_in l others)) (take_all (length packets) packets all)

-- the numbers are the places of the packets without a counterpart
pub numbers_are : (packets others : Packets) → map (λ (one : Placed). one.number) (left_in packets others) ≡ only_places packets others
numbers_are packets others =
    sym (left_at_all (λ n. n) (λ (one : Placed). one.number) packets others
    (λ n inside. sym (length-take-le n packets (omega arith))))
    ∙ map-id (only_places packets others)

-- the packets at these places
pub packets_at_places : (packets others : Packets)
    → map (λ place. get_or packets place []) (only_places packets others) ≡ map (λ (one : Placed). one.packet) (left_in packets others)
packets_at_places packets others = left_at_all (λ place. get_or packets place []) (λ (one : Placed). one.packet) packets others (λ n inside. refl)

-- they rise
pub numbers_rise : (own others : Packets) → IsStrictlyIncreasing (map (λ (one : Placed). one.number) (left_in own others))
numbers_rise own others =
    subst IsStrictlyIncreasing (sym (numbers_are own others))
    (IsStrictlyIncreasing-filter (is_only_at own others) (range_with_len 0 (length own)) (range_rises (length own)))
