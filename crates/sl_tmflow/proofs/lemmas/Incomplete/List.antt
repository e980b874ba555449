-- The list of the incomplete packets of a channel: each listed packet is incomplete, and each incomplete packet is
-- listed. There is at most one, and it is short.
use Rattle.std.proofs.Common.{◌≡◌, ◌⊎◌, ℕ, ◌<◌, ◌≤◌, nat_lt, List, [], ◌∷◌, ◌++◌, length, drop, take, map, Option, Some, inl, inr, refl, sym, ◌∙◌, ap, ap₂, subst, arith, length-append, length-drop}
use Rattle.std.proofs.lemmas.Grind.{common_steps}
use Rattle.std.specs.List.{AllByRecursion, concat, flat_map}
use Rattle.std.proofs.lemmas.Bool.{both_ways, ltb-true}
use Rattle.std.proofs.lemmas.List.{take-append-drop}
use mathlib.Core.List.{IsPrefix}
use Rattle.sl_packet.specs.Packet.{version_of, stated_packet_len, IsPacket}
use Rattle.sl_packet.specs.Front.{Front, OtherVersion, Incomplete, WholePacket, is_foreign, front_of}
use Rattle.sl_packet.specs.Packets.{packets_of, rest_of}
use Rattle.sl_packet.proofs.FrontLemmas.{foreign_tests, not_foreign, packet_is_whole, whole_is_a_packet, incomplete_may_become_whole}
use Rattle.sl_packet.proofs.PacketLemmas.{version_of-append}
use Rattle.sl_tmframe.specs.TmFrame.{TmView, DataField, Packets}
use Rattle.sl_tmflow.specs.Among.{IsAmong}
use Rattle.sl_tmflow.specs.VirtualChannel.{packet_data, data_of, reassembly}
use Rattle.sl_tmflow.specs.PacketStart.{IsStart, starts_of}
use Rattle.sl_tmflow.specs.Delivery.{Outcome, StillIncomplete, outcome_of_front, outcome_of}
use Rattle.sl_tmflow.specs.Channel.{incomplete_in}
use Rattle.sl_tmflow.specs.Progress.{CanGoOn}
use Rattle.sl_tmflow.specs.Incomplete.{HasNoStart, IsIncomplete, IsIncompleteAt, incomplete_octets, incomplete_of, EachListedIsIncomplete, EachIncompleteIsListed, OneIsIncomplete, IncompleteIsShort, IncompleteIsCounted, WhatIsCountedIsIncomplete}
use Rattle.sl_fields.proofs.ListLemmas.{each-weaker}
use Rattle.sl_tmflow.proofs.lemmas.Places.{count_of_one, some_of_each}
use Rattle.sl_tmflow.proofs.lemmas.Incomplete.After.{last_of, outcome_incomplete, incomplete_outcome}
use Rattle.sl_tmflow.proofs.lemmas.Delivery.Start.{at_rest, at_starts, each_found, found_among, no_starts}
use Rattle.sl_tmflow.proofs.lemmas.Delivery.Step.{incomplete_is_no_packet}

-- ---- those that start in one frame, by its data field

abbrev pub field_incomplete : TmView → List TmView → DataField → List (List ℕ)
field_incomplete view later field = flat_map (λ start. incomplete_octets (outcome_of view (drop start (data_of field)) later)) (starts_of field)

-- the octets so far at a packet start of a frame
abbrev pub incomplete_at : ℕ → TmView → List TmView → ℕ → List (List ℕ)
incomplete_at number view later start = incomplete_octets (outcome_of view (drop start (packet_data view)) later)

-- a whole packet is not incomplete
none_at_packet : (view : TmView) (later : List TmView) (packet more : List ℕ) → IsPacket packet → incomplete_octets (outcome_of view (packet ++ more) later) ≡ []
none_at_packet view later packet more is_packet = ap (λ f. incomplete_octets (outcome_of_front f view (packet ++ more) later)) (packet_is_whole packet more is_packet)

none_of_each : (packets : List (List ℕ)) → flat_map {A = List ℕ} (λ packet. []) packets ≡ []
none_of_each [] = refl
none_of_each (packet ∷ packets) = none_of_each packets

-- only the octets after the packets may be incomplete
pub incomplete_from_pointer : (view : TmView) (later : List TmView) (pointer : ℕ) (octets : List ℕ)
    → field_incomplete view later (Packets (Some pointer) octets) ≡ at_rest (λ l. incomplete_octets (outcome_of view l later)) (rest_of (drop pointer octets))
incomplete_from_pointer view later pointer octets =
    let at = λ (l : List ℕ). incomplete_octets (outcome_of view l later) in
    at_starts at (λ packet. []) (none_at_packet view later) pointer octets
    ∙ ap (λ l. l ++ at_rest at (rest_of (drop pointer octets))) (none_of_each (packets_of (drop pointer octets)))

-- ---- at most one

-- at most one start of a frame has a packet that is incomplete later, and then no packet starts later
abbrev pub OneAtMost : List TmView → List (List ℕ) → Type 0
OneAtMost later held = (held ≡ []) ⊎ ((octets : List ℕ) × (held ≡ octets ∷ []) × AllByRecursion HasNoStart later)

one_of_outcome : (view : TmView) (octets : List ℕ) (later : List TmView) (outcome : Outcome) → outcome_of view octets later ≡ outcome → OneAtMost later (incomplete_octets outcome)
one_of_outcome view octets later (StillIncomplete so_far) is_outcome = inr (so_far, refl, (outcome_incomplete view octets later so_far is_outcome).no_start)
one_of_outcome view octets later outcome is_outcome = inl refl

one_of_rest : (view : TmView) (later : List TmView) (rest : List ℕ) → OneAtMost later (at_rest (λ l. incomplete_octets (outcome_of view l later)) rest)
one_of_rest view later [] = inl refl
one_of_rest view later (octet ∷ rest) = one_of_outcome view (octet ∷ rest) later (outcome_of view (octet ∷ rest) later) refl

pub one_of_field : (view : TmView) (later : List TmView) (field : DataField) → OneAtMost later (field_incomplete view later field)
one_of_field view later field = grind (arith, incomplete_from_pointer, one_of_rest)

none_without_starts : (channel : List TmView) → AllByRecursion HasNoStart channel → incomplete_of channel ≡ []
none_without_starts [] none = refl
none_without_starts (view ∷ later) none = grind (arith, no_starts, none_without_starts later none.1)

pub incomplete_cases : (channel : List TmView) → (incomplete_of channel ≡ []) ⊎ ((octets : List ℕ) × (incomplete_of channel ≡ octets ∷ []))
incomplete_cases [] = inl refl
incomplete_cases (view ∷ later) =
    elim (one_of_field view later view.field) [
      | inl none ↦ elim (incomplete_cases later) [
        | inl none' ↦ inl (ap₂ (λ xs ys. xs ++ ys) none none')
        | inr one ↦ inr (one.0, ap₂ (λ xs ys. xs ++ ys) none one.1)
      ]
      | inr one ↦ inr (one.0, ap₂ (λ xs ys. xs ++ ys) one.1 (none_without_starts later one.2))
    ]

pub one_is_incomplete : OneIsIncomplete
one_is_incomplete channel = grind (arith, incomplete_cases)

-- ---- octets that begin a packet

-- octets that begin a packet have version 0
begun_version : (octets : List ℕ) → front_of octets ≡ Incomplete → 1 ≤ length octets → version_of octets ≡ 0
begun_version octets incomplete some = grind (arith, incomplete_may_become_whole, version_of-append)

-- octets of version 0 begin a packet where no packet is whole
begins_packet : (octets : List ℕ) → version_of octets ≡ 0 → ((packet : List ℕ) → IsPacket packet → IsPrefix packet octets → ⊥) → front_of octets ≡ Incomplete
begins_packet octets version none = cases (front_of octets) refl
  where
    cases : (f : Front) → front_of octets ≡ f → f ≡ Incomplete
    cases OtherVersion is =
        let foreign = foreign_tests (is_foreign octets) (nat_lt (length octets) (stated_packet_len octets)) (stated_packet_len octets) is in
        absurd (both_ways (is_foreign octets) (not_foreign (length octets) (version_of octets) version) foreign)
    cases Incomplete is = refl
    cases (WholePacket len) is =
        absurd (none (take len octets) (whole_is_a_packet octets len is).0 (drop len octets, take-append-drop len octets))

-- ---- each listed packet is incomplete

-- the packet of a start is incomplete where the start's outcome says so
pub incomplete_at_start : (channel before : List TmView) (view : TmView) (later : List TmView) (first : Option ℕ) (field : List ℕ) (offset : ℕ) (so_far : List ℕ)
    → channel ≡ before ++ view ∷ later → view.field ≡ Packets first field → IsStart field first offset
    → outcome_of view (drop offset (packet_data view)) later ≡ StillIncomplete so_far → IsIncompleteAt channel (length before) offset so_far
incomplete_at_start channel before view later first field offset so_far all is is_start still =
    let w = outcome_incomplete view (drop offset (packet_data view)) later so_far still in
    let came : so_far ≡ reassembly (drop offset field) later = w.came ∙ ap (λ f. reassembly (drop offset (data_of f)) later) is in
    let inside = is_start.inside in
    let some : 1 ≤ length so_far = omega (arith, ap length came, length-append (drop offset field) (concat (map packet_data later)), length-drop offset field) in
    record {
      incomplete = record {
        before = before;
        view = view;
        run = later;
        in_order = all;
        first = first;
        field = field;
        carries = is;
        offset = offset;
        start = is_start;
        came = came;
        version = begun_version so_far w.incomplete some;
        no_packet = λ packet p prefix. incomplete_is_no_packet so_far packet p w.incomplete prefix;
        consecutive = w.consecutive;
        none_opaque = w.none_opaque;
        no_start = w.no_start;
      };
      in_frame = refl;
      at = refl;
    }

start_incomplete : (channel before : List TmView) (view : TmView) (later : List TmView) (first : Option ℕ) (field : List ℕ) (offset : ℕ)
    → channel ≡ before ++ view ∷ later → view.field ≡ Packets first field → IsStart field first offset
    → (outcome : Outcome) → outcome_of view (drop offset (packet_data view)) later ≡ outcome → AllByRecursion (IsIncomplete channel) (incomplete_octets outcome)
start_incomplete channel before view later first field offset all is is_start (StillIncomplete so_far) is_outcome =
    ((incomplete_at_start channel before view later first field offset so_far all is is_start is_outcome).incomplete, tt)
start_incomplete channel before view later first field offset all is is_start outcome is_outcome = tt

pub each_listed_is_incomplete : EachListedIsIncomplete
each_listed_is_incomplete channel =
    each_found incomplete_at (λ number. incomplete_of) (λ number. refl) (λ number view later. refl) (IsIncomplete channel) channel [] channel 0
    (λ before view later number first field offset all counted is s. start_incomplete channel before view later first field offset all is s (outcome_of view (drop offset (packet_data view)) later) refl) refl refl

-- ---- each incomplete packet is listed

-- the outcome of an incomplete packet's start says that it is incomplete
pub incomplete_start_outcome : (channel : List TmView) (octets : List ℕ) (is_incomplete : IsIncomplete channel octets) → outcome_of is_incomplete.view (drop is_incomplete.offset (packet_data is_incomplete.view)) is_incomplete.run ≡ StillIncomplete octets
incomplete_start_outcome channel octets is_incomplete =
    incomplete_outcome is_incomplete.view (drop is_incomplete.offset (packet_data is_incomplete.view)) is_incomplete.run (last_of is_incomplete.view is_incomplete.run) octets record {
      ended_by = refl;
      came = is_incomplete.came ∙ ap (λ f. reassembly (drop is_incomplete.offset (data_of f)) is_incomplete.run) (sym is_incomplete.carries);
      consecutive = is_incomplete.consecutive;
      none_opaque = is_incomplete.none_opaque;
      no_start = is_incomplete.no_start;
      incomplete = begins_packet octets is_incomplete.version is_incomplete.no_packet;
    }

pub each_incomplete_is_listed : EachIncompleteIsListed
each_incomplete_is_listed channel octets is_incomplete =
    subst (λ l. IsAmong octets (incomplete_of l)) (sym is_incomplete.in_order)
    (found_among incomplete_at (λ number. incomplete_of) (λ number. refl) (λ number view later. refl) octets is_incomplete.before is_incomplete.view is_incomplete.run 0 (length is_incomplete.before) is_incomplete.offset is_incomplete.first is_incomplete.field (omega arith) is_incomplete.carries is_incomplete.start
    (subst (λ outcome. IsAmong octets (incomplete_octets outcome)) (sym (incomplete_start_outcome channel octets is_incomplete)) (inl refl)))

-- ---- incomplete packets are short

-- an incomplete packet has fewer octets than its header states
pub fewer_than_stated : (octets : List ℕ) → front_of octets ≡ Incomplete → length octets < stated_packet_len octets
fewer_than_stated octets incomplete = grind (arith, ltb-true)

-- a header states 65,542 octets at most
pub stated_packet_len-most : (octets : List ℕ) → stated_packet_len octets ≤ 65542
stated_packet_len-most octets = omega arith

-- what is kept of octets after packets can go on
kept_of : (octets : List ℕ) (f : Front) → front_of octets ≡ f → CanGoOn (incomplete_in f octets)
kept_of octets Incomplete is = record { incomplete = is; few = omega (arith, fewer_than_stated octets is, stated_packet_len-most octets) }
kept_of octets OtherVersion is = record { incomplete = refl; few = omega arith }
kept_of octets (WholePacket len) is = record { incomplete = refl; few = omega arith }

pub kept_can_go_on : (octets held : List ℕ) → held ≡ incomplete_in (front_of octets) octets → CanGoOn held
kept_can_go_on octets held is = subst CanGoOn (sym is) (kept_of octets (front_of octets) refl)

pub incomplete_is_short : IncompleteIsShort
incomplete_is_short channel = grind (arith, common_steps, each-weaker, length-append, length-drop, fewer_than_stated, begins_packet, stated_packet_len-most, each_listed_is_incomplete)

-- ---- how many octets incomplete packets have

pub incomplete_is_counted : IncompleteIsCounted
incomplete_is_counted channel octets is_incomplete = search (arith, count_of_one, one_is_incomplete, each_incomplete_is_listed)

pub what_is_counted_is_incomplete : WhatIsCountedIsIncomplete
what_is_counted_is_incomplete channel some = grind (arith, some_of_each, each_listed_is_incomplete)
