-- Counterparts: which copy of a packet stands at which place, and what one packet more pairs.
use Rattle.std.proofs.Common.{◌≡◌, ◌↔◌, ◌⊎◌, ℕ, zero, suc, true, ◌+◌, ◌<◌, ◌≤◌, List, [], ◌∷◌, ◌++◌, length, take, drop, get_or, inl, inr, refl, sym, ◌∙◌, ap, subst, arith}
use Rattle.std.specs.Prelude.{bytes_eq}
use Rattle.std.specs.List.{filter}
use Rattle.std.proofs.Math.Seq.{get_or-append_seam}
use Rattle.std.proofs.lemmas.Bool.{cases_lt}
use Rattle.std.proofs.lemmas.List.{drop_all, get_or_append_left, length-append, length-drop, take-append-drop, take-append-le, take-take, take_all, take_at, take_more}
use Rattle.sl_pair.specs.OnlyIn.{Packets, copies}
use Rattle.sl_pair.specs.Placed.{AreCounterparts, Placed, all_placed_after, placed, placed_after}
use Rattle.sl_pair.specs.Waiting.{same_packet, waiting}
use Rattle.sl_pair.proofs.CopiesLemmas.{adds, adds-other, adds-same, copies-append, copies-push, same_or_other, same_self}
use Rattle.sl_pair.proofs.PlacedLemmas.{length-copies, waits-iff}

-- ---- which copy stands at a place

-- at this place stands a copy of the packet, and `k` copies stand before it
pub record IsCopy (packet : List ℕ) (packets : Packets) (k n : ℕ) : Type 0 where
  pub inside : n < length packets
  pub is : get_or packets n [] ≡ packet
  pub before : copies packet (take n packets) ≡ k

-- there are no fewer copies before a later place
copies-take : (packet : List ℕ) (packets : Packets) (n m : ℕ) → n ≤ m → copies packet (take n packets) ≤ copies packet (take m packets)
copies-take packet packets n m within =
    let cut : take n (take m packets) ≡ take n packets = take-take n m packets within in
    let divided : copies packet (take n (take m packets)) + copies packet (drop n (take m packets)) ≡ copies packet (take m packets) =
    sym (copies-append packet (take n (take m packets)) (drop n (take m packets)))
    ∙ ap (copies packet) (take-append-drop n (take m packets)) in
    omega (arith, ap (copies packet) cut)

-- and one copy more after a copy
copies-after : (packet : List ℕ) (packets : Packets) (k n : ℕ) → IsCopy packet packets k n → copies packet (take (n + 1) packets) ≡ k + 1
copies-after packet packets k n here =
    let inside : n < length packets = here.inside in
    let same : bytes_eq packet (get_or packets n []) ≡ true = ap (bytes_eq packet) here.is ∙ same_self packet in
    ap (copies packet) (take_more packets n [] inside)
    ∙ omega (arith, copies-push packet (get_or packets n []) (take n packets), adds-same packet (get_or packets n []) same, here.before)

pub copies-all : (packet : List ℕ) (packets : Packets) (k n : ℕ) → IsCopy packet packets k n → k < copies packet packets
copies-all packet packets k n here =
    let next : n + 1 ≤ length packets = omega (arith, here.inside) in
    let all : take (length packets) packets ≡ packets = take_all (length packets) packets (omega arith) in
    omega (arith, copies-after packet packets k n here, copies-take packet packets (n + 1) (length packets) next, ap (copies packet) all)

-- the `k`-th copy stands at one place
pub one_place : (packet : List ℕ) (packets : Packets) (k n m : ℕ) → IsCopy packet packets k n → IsCopy packet packets k m → n ≡ m
one_place packet packets k n m here there = elim (cases_lt n m) [
  | inl less ↦ absurd (omega (arith, copies-after packet packets k n here, copies-take packet packets (n + 1) m (omega arith), there.before))
  | inr not ↦ elim (cases_lt m n) [
    | inl less ↦ absurd (omega (arith, copies-after packet packets k m there, copies-take packet packets (m + 1) n (omega arith), here.before))
    | inr neither ↦ omega arith
  ]
]

-- ---- the first packet that waits

-- the number of a copy is its place, counted on from the packets before
abbrev IsNumbered : List ℕ → Packets → Packets → ℕ → Placed → Type 0
IsNumbered packet before packets k one = (m : ℕ) × (one.number ≡ length before + m) × IsCopy packet packets k m

numbered_later : (packet first : List ℕ) (before rest : Packets) (k j : ℕ) (one : Placed) → adds packet first + k ≡ j
    → IsNumbered packet (before ++ first ∷ []) rest k one → IsNumbered packet before (first ∷ rest) j one
numbered_later packet first before rest k j one sum (m, number, there) = (
  suc m,
  omega (arith, number, length-append before (first ∷ [])),
  record { inside = omega (arith, there.inside); is = there.is; before = ap (λ n. adds packet first + n) there.before ∙ sum },
)

copy_number : (packet : List ℕ) (before packets : Packets) (k : ℕ) (head : Placed) (later : List Placed)
    → drop k (filter (same_packet packet) (all_placed_after before packets)) ≡ head ∷ later
    → IsNumbered packet before packets k head
copy_number packet before [] k head later is =
    let none : drop k (filter (same_packet packet) (all_placed_after before [])) ≡ [] = drop_all k [] (omega arith) in
    absurd (cc)
copy_number packet before (first ∷ rest) zero head later is = elim (same_or_other packet first) [
  | inl same ↦
      let front = rw same.1 at is in
      let one : placed_after before first ≡ head = cc in
      (0, omega (arith, ap (λ (o : Placed). o.number) one), record { inside = omega arith; is = sym same.0; before = refl })
  | inr other ↦
      numbered_later packet first before rest 0 0 head (omega (arith, adds-other packet first other))
      (copy_number packet (before ++ first ∷ []) rest 0 head later (rw other at is))
]
copy_number packet before (first ∷ rest) (suc k) head later is = elim (same_or_other packet first) [
  | inl same ↦
      numbered_later packet first before rest k (suc k) head (omega (arith, adds-same packet first same.1))
      (copy_number packet (before ++ first ∷ []) rest k head later (rw same.1 at is))
  | inr other ↦
      numbered_later packet first before rest (suc k) (suc k) head (omega (arith, adds-other packet first other))
      (copy_number packet (before ++ first ∷ []) rest (suc k) head later (rw other at is))
]

-- the first packet that waits is the first copy that the others don't have
pub waiting_head : (packet : List ℕ) (own others : Packets) (head : Placed) (later : List Placed)
    → waiting packet own others ≡ head ∷ later → IsCopy packet own (copies packet others) head.number
waiting_head packet own others head later is =
    let (m, number, there) = copy_number packet [] own (copies packet others) head later is in
    let same : m ≡ head.number = omega arith in
    subst (IsCopy packet own (copies packet others)) same there

not_empty : {X : Type 0} (xs : List X) → 0 < length xs → (x : X) × (later : List X) × (xs ≡ x ∷ later)
not_empty [] some = absurd (omega arith)
not_empty (x ∷ later) some = (x, later, refl)

-- and only there
pub more_where_waits : (packet : List ℕ) (own others : Packets) (head : Placed) (later : List Placed)
    → waiting packet own others ≡ head ∷ later → copies packet others < copies packet own
more_where_waits packet own others head later is = (waits-iff packet own others).0 (omega (arith, ap length is))

-- each copy stands at some place
pub copy_exists : (packet : List ℕ) (packets : Packets) (k : ℕ) → k < copies packet packets → (n : ℕ) × IsCopy packet packets k n
copy_exists packet packets k within =
    let all = filter (same_packet packet) (placed packets) in
    let (head, later, is) = not_empty (drop k all) (omega (arith, length-drop k all, length-copies packet packets)) in
    let (n, number, there) = copy_number packet [] packets k head later is in
    (n, there)

-- ---- counterparts

-- copies of a packet with as many copies before them are counterparts
pub counterparts_from_copies : (packet : List ℕ) (packets others : Packets) (k n m : ℕ) → IsCopy packet packets k n → IsCopy packet others k m
    → AreCounterparts packets others n m
counterparts_from_copies packet packets others k n m here there =
    record {
      inside = here.inside;
      other_inside = there.inside;
      same = here.is ∙ sym there.is;
      as_many =
          ap (λ x. copies x (take n packets)) here.is ∙ here.before
          ∙ sym (ap (λ x. copies x (take m others)) there.is ∙ there.before);
    }

-- and the counterpart of a copy is such a copy
pub counterpart_copy : (packet : List ℕ) (packets others : Packets) (k n m : ℕ) → IsCopy packet packets k n → AreCounterparts packets others n m
    → IsCopy packet others k m
counterpart_copy packet packets others k n m here pair =
    let same : get_or others m [] ≡ packet = sym pair.same ∙ here.is in
    record {
      inside = pair.other_inside;
      is = same;
      before =
          sym (ap (λ x. copies x (take m others)) same) ∙ sym pair.as_many
          ∙ ap (λ x. copies x (take n packets)) here.is ∙ here.before;
    }

abbrev pub packet_at : Packets → ℕ → List ℕ
packet_at packets n = get_or packets n []

abbrev pub copies_before : Packets → ℕ → ℕ
copies_before packets n = copies (packet_at packets n) (take n packets)

pub copy_there : (packets : Packets) (n : ℕ) → n < length packets → IsCopy (packet_at packets n) packets (copies_before packets n) n
copy_there packets n inside = record { inside = inside; is = refl; before = refl }

pub counterparts-sym : (packets others : Packets) (n m : ℕ) → AreCounterparts packets others n m → AreCounterparts others packets m n
counterparts-sym packets others n m pair =
    record { inside = pair.other_inside; other_inside = pair.inside; same = sym pair.same; as_many = sym pair.as_many }

-- ---- one packet more

-- the packets before it stand where they stood
copy-push : (packet last : List ℕ) (packets : Packets) (k n : ℕ) → IsCopy packet packets k n → IsCopy packet (packets ++ last ∷ []) k n
copy-push packet last packets k n here =
    record {
      inside = omega (arith, here.inside, length-append packets (last ∷ []));
      is = get_or_append_left packets (last ∷ []) [] n here.inside ∙ here.is;
      before = ap (copies packet) (take-append-le n packets (last ∷ []) (omega (arith, here.inside))) ∙ here.before;
    }

copy-before : (packet last : List ℕ) (packets : Packets) (k n : ℕ) → n < length packets → IsCopy packet (packets ++ last ∷ []) k n → IsCopy packet packets k n
copy-before packet last packets k n inside there =
    record {
      inside = inside;
      is = sym (get_or_append_left packets (last ∷ []) [] n inside) ∙ there.is;
      before = ap (copies packet) (sym (take-append-le n packets (last ∷ []) (omega arith))) ∙ there.before;
    }

copy-last : (packet : List ℕ) (packets : Packets) → IsCopy packet (packets ++ packet ∷ []) (copies packet packets) (length packets)
copy-last packet packets =
    record {
      inside = omega (arith, length-append packets (packet ∷ []));
      is = get_or-append_seam packets packet [] [];
      before = ap (copies packet) (take_at packets (packet ∷ []) (length packets) refl);
    }

-- so do the counterparts
kept : (packet : List ℕ) (own others : Packets) (n m : ℕ) → AreCounterparts own others n m → AreCounterparts (own ++ packet ∷ []) others n m
kept packet own others n m pair =
    let x = packet_at own n in
    let k = copies_before own n in
    let here = copy_there own n pair.inside in
    counterparts_from_copies x (own ++ packet ∷ []) others k n m (copy-push x packet own k n here)
    (counterpart_copy x own others k n m here pair)

earlier : (packet : List ℕ) (own others : Packets) (n m : ℕ) → n < length own → AreCounterparts (own ++ packet ∷ []) others n m
    → AreCounterparts own others n m
earlier packet own others n m inside pair =
    let more = own ++ packet ∷ [] in
    let x = packet_at more n in
    let k = copies_before more n in
    let here = copy_there more n pair.inside in
    counterparts_from_copies x own others k n m (copy-before x packet own k n inside here)
    (counterpart_copy x more others k n m here pair)

-- the counterpart of the last packet
last : (packet : List ℕ) (own others : Packets) (n m : ℕ) → n ≡ length own → AreCounterparts (own ++ packet ∷ []) others n m
    → IsCopy packet others (copies packet own) m
last packet own others n m same pair =
    counterpart_copy packet (own ++ packet ∷ []) others (copies packet own) n m
    (subst (IsCopy packet (own ++ packet ∷ []) (copies packet own)) (sym same) (copy-last packet own)) pair

-- a packet before the last one, or the last one
place_of : (packet : List ℕ) (own : Packets) (n : ℕ) → n < length (own ++ packet ∷ []) → (n < length own) ⊎ (n ≡ length own)
place_of packet own n inside = elim (cases_lt n (length own)) [
  | inl less ↦ inl less
  | inr not ↦ inr (omega (arith, length-append own (packet ∷ [])))
]

-- a packet that finds none waiting has no counterpart
pub counterparts-unmatched : (packet : List ℕ) (own others : Packets) → copies packet others ≤ copies packet own
    → (n m : ℕ) → AreCounterparts (own ++ packet ∷ []) others n m ↔ AreCounterparts own others n m
counterparts-unmatched packet own others few n m = (
  (λ pair. elim (place_of packet own n pair.inside) [
    | inl inside ↦ earlier packet own others n m inside pair
    | inr same ↦ absurd (omega (arith, copies-all packet others (copies packet own) m (last packet own others n m same pair)))
  ]),
  (λ pair. kept packet own others n m pair),
)

-- one that finds copies of it waiting has the first of these
pub counterparts-matched : (packet : List ℕ) (own others : Packets) (head : Placed) (later : List Placed) → waiting packet others own ≡ head ∷ later
    → (n m : ℕ) → AreCounterparts (own ++ packet ∷ []) others n m ↔ (AreCounterparts own others n m ⊎ ((n ≡ length own) × (m ≡ head.number)))
counterparts-matched packet own others head later is n m =
    let k = copies packet own in
    let there : IsCopy packet others k head.number = waiting_head packet others own head later is in (
      (λ pair. elim (place_of packet own n pair.inside) [
        | inl inside ↦ inl (earlier packet own others n m inside pair)
        | inr same ↦ inr (same, one_place packet others k m head.number (last packet own others n m same pair) there)
      ]),
      (λ either. elim either [
        | inl pair ↦ kept packet own others n m pair
        | inr new ↦
            counterparts_from_copies packet (own ++ packet ∷ []) others k n m
            (subst (IsCopy packet (own ++ packet ∷ []) k) (sym new.0) (copy-last packet own))
            (subst (IsCopy packet others k) (sym new.1) there)
      ]),
    )

-- ---- one packet more among the others

pub counterparts-unmatched_other : (packet : List ℕ) (own others : Packets) → copies packet own ≤ copies packet others
    → (n m : ℕ) → AreCounterparts own (others ++ packet ∷ []) n m ↔ AreCounterparts own others n m
counterparts-unmatched_other packet own others few n m =
    let same = counterparts-unmatched packet others own few m n in (
      (λ pair. counterparts-sym others own m n (same.0 (counterparts-sym own (others ++ packet ∷ []) n m pair))),
      (λ pair. counterparts-sym (others ++ packet ∷ []) own m n (same.1 (counterparts-sym own others n m pair))),
    )

pub counterparts-matched_other : (packet : List ℕ) (own others : Packets) (head : Placed) (later : List Placed) → waiting packet own others ≡ head ∷ later
    → (n m : ℕ) → AreCounterparts own (others ++ packet ∷ []) n m ↔ (AreCounterparts own others n m ⊎ ((n ≡ head.number) × (m ≡ length others)))
counterparts-matched_other packet own others head later is n m =
    let pairs = counterparts-matched packet others own head later is m n in (
      (λ pair. elim (pairs.0 (counterparts-sym own (others ++ packet ∷ []) n m pair)) [
        | inl old ↦ inl (counterparts-sym others own m n old)
        | inr new ↦ inr (new.1, new.0)
      ]),
      (λ either. counterparts-sym (others ++ packet ∷ []) own m n (pairs.1 (elim either [
        | inl old ↦ inl (counterparts-sym own others n m old)
        | inr new ↦ inr (new.1, new.0)
      ]))),
    )
