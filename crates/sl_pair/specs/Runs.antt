-- What only one recording has, APID by APID, and in runs.
use Rattle.std.specs.Prelude.{◌≡◌, ⊤, ℕ, ◌+◌, ◌%◌, ◌==◌, ◌<◌, ◌≤◌, ◌&&◌, Bool, true, false, nat_le, cond, List, [], ◌∷◌, drop, flat_map, length, take}
use Rattle.std.specs.List.{AllByRecursion, filter}
use Rattle.std.specs.List.Sorted.{IsPermutation}
use Rattle.sl_fields.specs.PacketHeader.{packet_header}
use Rattle.sl_packet.specs.Packet.{apid_of}
use Rattle.sl_pair.specs.Placed.{Placed, has_apid}

-- the sequence count of a packet
abbrev pub count_of : List ℕ → ℕ
count_of packet = (packet_header (take 6 packet)).count

-- ---- in the order of their APIDs

-- one packet more, before the first one with the same APID or a higher one
abbrev pub put_by_apid : Placed → List Placed → List Placed
put_by_apid one [] = one ∷ []
put_by_apid one (next ∷ later) =
    cond (nat_le (apid_of one.packet) (apid_of next.packet))
    (one ∷ next ∷ later)
    (next ∷ put_by_apid one later)

-- packets in the order of their APIDs; those of one APID keep the order that they had
abbrev pub by_apid : List Placed → List Placed
by_apid [] = []
by_apid (one ∷ later) = put_by_apid one (by_apid later)

-- ---- in runs

-- A packet goes on with a run after another one: it is the next of the same APID in the recording, so that none of that
-- APID which both recordings have stands between, and it has the next sequence count. After 16383 comes 0.
abbrev pub goes_on : Placed → Placed → Bool
goes_on one next =
    (apid_of next.packet == apid_of one.packet) && (next.apid_number == one.apid_number + 1)
    && (count_of next.packet == (count_of one.packet + 1) % 16384)

-- the runs, with one packet more before the first
abbrev pub with_first : Placed → List (List Placed) → List (List Placed)
with_first one [] = (one ∷ []) ∷ []
with_first one ([] ∷ runs) = (one ∷ []) ∷ runs
with_first one ((next ∷ later) ∷ runs) =
    cond (goes_on one next) ((one ∷ next ∷ later) ∷ runs) ((one ∷ []) ∷ (next ∷ later) ∷ runs)

-- packets in runs, each as long as may be
abbrev pub runs_of : List Placed → List (List Placed)
runs_of [] = []
runs_of (one ∷ later) = with_first one (runs_of later)

-- how many packets the first run has
abbrev pub first_run : List Placed → ℕ
first_run [] = 0
first_run (one ∷ []) = 1
first_run (one ∷ next ∷ later) = cond (goes_on one next) (first_run (next ∷ later) + 1) 1

-- ---- laws

-- no packet has a higher APID than a later one
abbrev pub RisesByApid : List Placed → Type 0
RisesByApid [] = ⊤
RisesByApid (one ∷ later) =
    AllByRecursion (λ next. apid_of one.packet ≤ apid_of next.packet) later × RisesByApid later

-- The order of APIDs has the same packets, and those of one APID in the order that they had.
pub record IsStablyByApid (left : List Placed) : Type 0 where
  pub same : IsPermutation (by_apid left) left
  pub rises : RisesByApid (by_apid left)
  pub kept : (apid : ℕ) → filter (has_apid apid) (by_apid left) ≡ filter (has_apid apid) left

abbrev pub ByApidIsStable : Type 0
ByApidIsStable = (left : List Placed) → IsStablyByApid left

-- of a run each packet goes on with it after the one before
abbrev pub IsRun : List Placed → Type 0
IsRun [] = ⊥
IsRun (one ∷ []) = ⊤
IsRun (one ∷ next ∷ later) = (goes_on one next ≡ true) × IsRun (next ∷ later)

-- what comes after a run doesn't go on with it
abbrev pub Ends : List Placed → List (List Placed) → Type 0
Ends [] runs = ⊤
Ends (one ∷ []) [] = ⊤
Ends (one ∷ []) ([] ∷ runs) = ⊤
Ends (one ∷ []) ((next ∷ later) ∷ runs) = goes_on one next ≡ false
Ends (one ∷ next ∷ later) runs = Ends (next ∷ later) runs

-- these are runs, each as long as may be
abbrev pub AreLongestRuns : List (List Placed) → Type 0
AreLongestRuns [] = ⊤
AreLongestRuns (run ∷ runs) = IsRun run × Ends run runs × AreLongestRuns runs

-- The runs, joined, are the packets, and each is as long as may be. The first one has as many packets as `first_run`
-- says, and the others are the runs of what is behind it.
pub record AreItsRuns (left : List Placed) : Type 0 where
  pub joined : flat_map (λ run. run) (runs_of left) ≡ left
  pub longest : AreLongestRuns (runs_of left)
  pub first : 0 < length left → runs_of left ≡ take (first_run left) left ∷ runs_of (drop (first_run left) left)

abbrev pub RunsAreJoined : Type 0
RunsAreJoined = (left : List Placed) → AreItsRuns left
