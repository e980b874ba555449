-- The order of APIDs is stable, runs are what is left, and numbers count.
use Rattle.std.proofs.Common.{◌≡◌, ◌∙◌, ap, ap₂, sym, ℕ, ◌+◌, ◌<◌, ◌≤◌, zero, suc, drop, take, Bool, true, false, cond, List, [], ◌∷◌, ◌++◌, length, map, inl, inr, refl, arith}
use Rattle.std.proofs.Common.{eqb-true, eq-eqb, ne_eqb, length-append}
use Rattle.std.specs.Prelude.{flat_map}
use Rattle.std.specs.List.{AllByRecursion, filter, range_with_len}
use Rattle.std.proofs.lemmas.Bool.{cases_eq}
use Rattle.std.proofs.lemmas.Bool.Decides.{leb_tells}
use Rattle.sl_packet.specs.Packet.{apid_of}
use Rattle.sl_pair.specs.OnlyIn.{Packets}
use Rattle.sl_pair.specs.Placed.{NumbersCount, Placed, all_placed_after, count_apid, has_apid, placed_after}
use Rattle.sl_pair.specs.Runs.{AreLongestRuns, ByApidIsStable, RisesByApid, RunsAreJoined, by_apid, first_run, goes_on, put_by_apid, runs_of, with_first}
use Rattle.sl_pair.proofs.RunsLemmas.{by_permutes, put_all}
use Rattle.sl_pair.proofs.SideLemmas.{count_apid-push}

-- ---- the order of APIDs

above_all : (low high : ℕ) (xs : List Placed) → low ≤ high → AllByRecursion (λ x. high ≤ apid_of x.packet) xs → AllByRecursion (λ x. low ≤ apid_of x.packet) xs
above_all low high [] below all = tt
above_all low high (x ∷ xs) below all = (omega (arith, below, all.0), above_all low high xs below all.1)

put_rises : (one : Placed) (xs : List Placed) → RisesByApid xs → RisesByApid (put_by_apid one xs)
put_rises one [] rises = (tt, tt)
put_rises one (next ∷ later) rises = elim (leb_tells (apid_of one.packet) (apid_of next.packet)) [
  | inr (is, below) ↦
      rw is (put_all (λ x. apid_of next.packet ≤ apid_of x.packet) one later (omega (arith, below)) rises.0, put_rises one later rises.1)
  | inl (is, above) ↦
      rw is ((above, above_all (apid_of one.packet) (apid_of next.packet) later above rises.0), rises)
]

by_rises : (xs : List Placed) → RisesByApid (by_apid xs)
by_rises [] = tt
by_rises (one ∷ later) = put_rises one (by_apid later) (by_rises later)

-- two packets of which at most one passes may change places
changed : {X : Type 0} (p q : Bool) (one next : X) (front rest : List X) → front ≡ cond p (one ∷ rest) rest → (p ≡ true → q ≡ true → ⊥)
    → cond q (next ∷ front) front ≡ cond p (one ∷ cond q (next ∷ rest) rest) (cond q (next ∷ rest) rest)
changed true true one next front rest is apart = absurd (apart refl refl)
changed true false one next front rest is apart = is
changed false true one next front rest is apart = ap (λ l. next ∷ l) is
changed false false one next front rest is apart = is

put_keeps : (apid : ℕ) (one : Placed) (xs : List Placed) → filter (has_apid apid) (put_by_apid one xs) ≡ filter (has_apid apid) (one ∷ xs)
put_keeps apid one [] = refl
put_keeps apid one (next ∷ later) = elim (leb_tells (apid_of one.packet) (apid_of next.packet)) [
  | inr (is, below) ↦
      rw is (changed (has_apid apid one) (has_apid apid next) one next _ (filter (has_apid apid) later) (put_keeps apid one later)
      (λ a b. omega (arith, below, eqb-true (apid_of one.packet) apid a, eqb-true (apid_of next.packet) apid b)))
  | inl (is, above) ↦ rw is refl
]

by_keeps : (apid : ℕ) (xs : List Placed) → filter (has_apid apid) (by_apid xs) ≡ filter (has_apid apid) xs
by_keeps apid [] = refl
by_keeps apid (one ∷ later) =
    put_keeps apid one (by_apid later) ∙ ap (λ l. cond (has_apid apid one) (one ∷ l) l) (by_keeps apid later)

pub by_apid_is_stable : ByApidIsStable
by_apid_is_stable left = record { same = by_permutes left; rises = by_rises left; kept = λ apid. by_keeps apid left }

-- ---- runs

joined-with_first : (one : Placed) (runs : List (List Placed)) → flat_map (λ run. run) (with_first one runs) ≡ one ∷ flat_map (λ run. run) runs
joined-with_first one [] = refl
joined-with_first one ([] ∷ runs) = refl
joined-with_first one ((next ∷ later) ∷ runs) = go (goes_on one next)
  where
    go : (on : Bool) → flat_map (λ run. run) (cond on ((one ∷ next ∷ later) ∷ runs) ((one ∷ []) ∷ (next ∷ later) ∷ runs))
        ≡ one ∷ flat_map (λ run. run) ((next ∷ later) ∷ runs)
    go true = refl
    go false = refl

longest-with_first : (one : Placed) (runs : List (List Placed)) → AreLongestRuns runs → AreLongestRuns (with_first one runs)
longest-with_first one [] are = (tt, tt, tt)
longest-with_first one ([] ∷ runs) are = absurd are.0
longest-with_first one ((next ∷ later) ∷ runs) are = go (goes_on one next) refl
  where
    go : (on : Bool) → goes_on one next ≡ on → AreLongestRuns (cond on ((one ∷ next ∷ later) ∷ runs) ((one ∷ []) ∷ (next ∷ later) ∷ runs))
    go true is = ((is, are.0), are.1, are.2)
    go false is = (tt, is, are)

-- the first run has a packet, and no more than there are
pub first_some : (left : List Placed) → 0 < length left → (1 ≤ first_run left) × (first_run left ≤ length left)
first_some [] some = absurd (omega (arith, some))
first_some (one ∷ []) some = (omega arith, omega arith)
first_some (one ∷ next ∷ later) some = go (first_some (next ∷ later) (omega arith)) (goes_on one next) refl
  where
    go : (1 ≤ first_run (next ∷ later)) × (first_run (next ∷ later) ≤ length (next ∷ later)) → (goes : Bool) → goes_on one next ≡ goes
        → (1 ≤ first_run (one ∷ next ∷ later)) × (first_run (one ∷ next ∷ later) ≤ length (one ∷ next ∷ later))
    go more true is = rw is (omega (arith, more.0), omega (arith, more.1))
    go more false is = rw is (omega arith, omega arith)

-- the runs are the first one, and those of what is behind it
pub runs_split : (left : List Placed) → 0 < length left → runs_of left ≡ take (first_run left) left ∷ runs_of (drop (first_run left) left)
runs_split [] some = absurd (omega (arith, some))
runs_split (one ∷ []) some = refl
runs_split (one ∷ next ∷ later) some =
    go (first_run (next ∷ later)) (first_some (next ∷ later) (omega arith)).0 refl (runs_split (next ∷ later) (omega arith)) (goes_on one next) refl
  where
    go : (n : ℕ) → 1 ≤ n → first_run (next ∷ later) ≡ n → runs_of (next ∷ later) ≡ take (first_run (next ∷ later)) (next ∷ later) ∷ runs_of (drop (first_run (next ∷ later)) (next ∷ later))
        → (goes : Bool) → goes_on one next ≡ goes
        → runs_of (one ∷ next ∷ later) ≡ take (first_run (one ∷ next ∷ later)) (one ∷ next ∷ later) ∷ runs_of (drop (first_run (one ∷ next ∷ later)) (one ∷ next ∷ later))
    go zero some are behind goes is = absurd (omega (arith, some))
    go (suc m) some are behind true is =
        let n : suc m + 1 ≡ suc (suc m) = omega arith in
        rw (rw are at behind, is, are, n) refl
    go (suc m) some are behind false is = rw (rw are at behind, is) (ap (λ l. (one ∷ []) ∷ l) (sym (rw are at behind)))

pub runs_are_joined : RunsAreJoined
runs_are_joined left = record { joined = joined left; longest = longest left; first = runs_split left }
  where
    joined : (xs : List Placed) → flat_map (λ run. run) (runs_of xs) ≡ xs
    joined [] = refl
    joined (one ∷ later) = joined-with_first one (runs_of later) ∙ ap (λ l. one ∷ l) (joined later)

    longest : (xs : List Placed) → AreLongestRuns (runs_of xs)
    longest [] = tt
    longest (one ∷ later) = longest-with_first one (runs_of later) (longest later)

-- ---- numbers

all_numbers : (before later : Packets) → map (λ (one : Placed). one.number) (all_placed_after before later) ≡ range_with_len (length before) (length later)
all_numbers before [] = refl
all_numbers before (packet ∷ later) =
    let more : length (before ++ packet ∷ []) ≡ length before + 1 = omega (arith, length-append before (packet ∷ [])) in
    ap (λ l. length before ∷ l) (all_numbers (before ++ packet ∷ []) later ∙ ap (λ n. range_with_len n (length later)) more)

each_number : (apid : ℕ) (before later : Packets) → map (λ (one : Placed). one.apid_number) (filter (has_apid apid) (all_placed_after before later))
    ≡ range_with_len (count_apid apid before) (count_apid apid later)
each_number apid before [] = refl
each_number apid before (packet ∷ later) =
    let others = all_placed_after (before ++ packet ∷ []) later in
    let one = placed_after before packet in
    let count = count_apid apid before in
    let coming = count_apid apid later in
    let rest = each_number apid (before ++ packet ∷ []) later in
    elim (cases_eq (apid_of packet) apid) [
      | inl same ↦
          let own = eq-eqb (apid_of packet) apid same in
          let more = count_apid-push apid before packet ∙ ap (λ b. count + cond b 1 0) own in
          let next : 1 + coming ≡ suc coming = omega arith in
          ap (λ b. map (λ (it : Placed). it.apid_number) (cond b (one ∷ filter (has_apid apid) others) (filter (has_apid apid) others))) own
          ∙ ap₂ (λ n l. n ∷ l) (ap (λ a. count_apid a before) same) (rest ∙ ap (λ n. range_with_len n coming) more)
          ∙ ap (range_with_len count) (sym (ap (λ b. cond b 1 0 + coming) own ∙ next))
      | inr apart ↦
          let other = ne_eqb (apid_of packet) apid apart in
          let stays : count + 0 ≡ count = omega arith in
          let same : 0 + coming ≡ coming = omega arith in
          ap (λ b. map (λ (it : Placed). it.apid_number) (cond b (one ∷ filter (has_apid apid) others) (filter (has_apid apid) others))) other
          ∙ rest ∙ ap (λ n. range_with_len n coming) (count_apid-push apid before packet ∙ ap (λ b. count + cond b 1 0) other ∙ stays)
          ∙ ap (range_with_len count) (sym (ap (λ b. cond b 1 0 + coming) other ∙ same))
    ]

pub numbers_count : NumbersCount
numbers_count packets = record { all = all_numbers [] packets; each = λ apid. each_number apid [] packets }
