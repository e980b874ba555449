-- A packet that comes strikes out the first copy of it that the other recording has left.
use Rattle.std.proofs.Common.{◌≡◌, ℕ, ◌≤◌, true, false, ◌||◌, cond, List, [], ◌∷◌, ◌++◌, inl, inr, refl, sym, ◌∙◌, ap, append-nil, arith}
use Rattle.std.specs.Prelude.{bytes_eq}
use Rattle.std.specs.List.{filter}
use Rattle.std.proofs.lemmas.Bool.{cases_Bool, false≢true, le-leb, lt-leb}
use Rattle.sl_pair.specs.OnlyIn.{Packets, copies, is_among, without_first}
use Rattle.sl_pair.specs.Placed.{Placed, left_in, only_placed, placed, placed_after}
use Rattle.sl_pair.specs.Turns.{is_left, number_left, strike_out}
use Rattle.sl_pair.specs.Waiting.{same_packet, waiting}
use Rattle.sl_pair.proofs.CopiesLemmas.{adds-other, adds-same, among_by_copies, copies-push, none_among, other_self, same_or_other, same_self, some_among}
use Rattle.sl_pair.proofs.CounterpartLemmas.{more_where_waits}
use Rattle.sl_pair.proofs.PlacedLemmas.{left_in-push}

-- ---- one packet more on the other side

not_among : (q : List ℕ) (ps : Packets) → copies q ps ≡ 0 → is_among q ps ≡ false
not_among q ps none = elim (cases_Bool (is_among q ps)) [
  | inl among ↦ absurd (omega (arith, some_among q ps among))
  | inr not ↦ not
]

among-push : (q p : List ℕ) (ps : Packets) → is_among q ps ≡ true → is_among q (ps ++ p ∷ []) ≡ true
among-push q p ps among = among_by_copies q (ps ++ p ∷ []) (omega (arith, some_among q ps among, copies-push q p ps))

among-last : (q p : List ℕ) (ps : Packets) → bytes_eq q p ≡ true → is_among q (ps ++ p ∷ []) ≡ true
among-last q p ps same = among_by_copies q (ps ++ p ∷ []) (omega (arith, copies-push q p ps, adds-same q p same))

not_among-push : (q p : List ℕ) (ps : Packets) → is_among q ps ≡ false → bytes_eq q p ≡ false → is_among q (ps ++ p ∷ []) ≡ false
not_among-push q p ps none other =
    not_among q (ps ++ p ∷ []) (omega (arith, none_among q ps none, copies-push q p ps, adds-other q p other))

without_first-push : (q p : List ℕ) (ps : Packets) → is_among q ps ≡ true → without_first q (ps ++ p ∷ []) ≡ without_first q ps ++ p ∷ []
without_first-push q p [] among = absurd (false≢true among)
without_first-push q p (r ∷ ps) among = elim (cases_Bool (bytes_eq q r)) [
  | inl same ↦ rw same refl
  | inr other ↦ rw other (ap (λ l. r ∷ l) (without_first-push q p ps (sym (ap (λ b. b || is_among q ps) other) ∙ among)))
]

without_first-last : (q p : List ℕ) (ps : Packets) → is_among q ps ≡ false → bytes_eq q p ≡ true → without_first q (ps ++ p ∷ []) ≡ ps
without_first-last q p [] none same = rw same refl
without_first-last q p (r ∷ ps) none same = elim (cases_Bool (bytes_eq q r)) [
  | inl there ↦ absurd (false≢true (sym none ∙ ap (λ b. b || is_among q ps) there))
  | inr other ↦ rw other (ap (λ l. r ∷ l) (without_first-last q p ps (sym (ap (λ b. b || is_among q ps) other) ∙ none) same))
]

struck : (all : List Placed) (others : Packets) (p : List ℕ) → only_placed all (others ++ p ∷ []) ≡ strike_out p (only_placed all others)
struck [] others p = refl
struck (one ∷ later) others p =
    let q = one.packet in
    elim (cases_Bool (is_among q others)) [
      | inl among ↦
          rw (among, among-push q p others among, without_first-push q p others among) (struck later (without_first q others) p)
      | inr none ↦ elim (same_or_other q p) [
        | inl same ↦
            let turned : bytes_eq p q ≡ true = ap (bytes_eq p) same.0 ∙ same_self p in
            rw (none, turned, among-last q p others same.1, without_first-last q p others none same.1) refl
        | inr other ↦
            let turned : bytes_eq p q ≡ false = other_self q p other in
            rw (none, turned, not_among-push q p others none other) (ap (λ l. one ∷ l) (struck later others p))
      ]
    ]

pub left_in-struck : (own others : Packets) (packet : List ℕ) → left_in others (own ++ packet ∷ []) ≡ strike_out packet (left_in others own)
left_in-struck own others packet = struck (placed others) own packet

-- ---- the first copy that is left

-- a copy of the packet is left, and the first one's number is this
pub record IsFirstLeft (packet : List ℕ) (left : List Placed) (head : Placed) : Type 0 where
  pub there : is_left packet left ≡ true
  pub number : number_left packet left ≡ head.number

-- none is left
pub record IsNotLeft (packet : List ℕ) (left : List Placed) : Type 0 where
  pub none : is_left packet left ≡ false
  pub kept : strike_out packet left ≡ left

pub first_left : (packet : List ℕ) (left : List Placed) (head : Placed) (later : List Placed) → filter (same_packet packet) left ≡ head ∷ later
    → IsFirstLeft packet left head
first_left packet [] head later is = absurd (cc)
first_left packet (one ∷ left) head later is = elim (cases_Bool (bytes_eq packet one.packet)) [
  | inl same ↦
      let front = rw same at is in
      let here : one ≡ head = cc in
      record { there = rw same refl; number = rw same (ap (λ (o : Placed). o.number) here) }
  | inr other ↦
      let rest = first_left packet left head later (rw other at is) in
      record { there = rw other rest.there; number = rw other rest.number }
]

pub none_left : (packet : List ℕ) (left : List Placed) → filter (same_packet packet) left ≡ [] → IsNotLeft packet left
none_left packet [] is = record { none = refl; kept = refl }
none_left packet (one ∷ left) is = elim (cases_Bool (bytes_eq packet one.packet)) [
  | inl same ↦
      let front = rw same at is in
      absurd (cc)
  | inr other ↦
      let rest = none_left packet left (rw other at is) in
      record { none = rw other rest.none; kept = rw other (ap (λ l. one ∷ l) rest.kept) }
]

-- ---- one packet more in the recording

-- a packet that finds a copy waiting isn't left
pub left_in-matched : (packet : List ℕ) (own others : Packets) (head : Placed) (later : List Placed) → waiting packet others own ≡ head ∷ later
    → left_in (own ++ packet ∷ []) others ≡ left_in own others
left_in-matched packet own others head later is =
    let test = lt-leb (copies packet others) (copies packet own) (more_where_waits packet others own head later is) in
    left_in-push own others packet
    ∙ ap (λ b. left_in own others ++ cond b (placed_after own packet ∷ []) []) test
    ∙ append-nil (left_in own others)

-- one that finds none is left
pub left_in-unmatched : (packet : List ℕ) (own others : Packets) → copies packet others ≤ copies packet own
    → left_in (own ++ packet ∷ []) others ≡ left_in own others ++ placed_after own packet ∷ []
left_in-unmatched packet own others few =
    left_in-push own others packet
    ∙ ap (λ b. left_in own others ++ cond b (placed_after own packet ∷ []) []) (le-leb (copies packet others) (copies packet own) few)
