-- The list of the incomplete packets that the next frame breaks off: each listed packet is broken off, each
-- broken-off packet is listed, and there is at most one.
use Rattle.std.proofs.Common.{◌≡◌, ℕ, ◌+◌, ◌≤◌, List, [], ◌∷◌, ◌++◌, length, drop, Option, inl, inr, refl, sym, ◌∙◌, ap, subst, arith, append-nil, append_assoc, length-append}
use Rattle.std.specs.List.{AllByRecursion, flat_map}
use Rattle.std.proofs.lemmas.Grind.{flat_map-append}
use Rattle.sl_tmframe.specs.TmFrame.{TmView, Packets}
use Rattle.sl_tmflow.specs.Among.{IsAmong}
use Rattle.sl_tmflow.specs.Anomaly.{IsBrokenOff, broken_octets, frame_broken, broken_off, EachListedIsBrokenOff, EachBrokenOffIsListed, OneIsBrokenOff, BrokenOffIsShort, BrokenOffIsTold, WhatIsToldIsBrokenOff}
use Rattle.sl_tmflow.specs.VirtualChannel.{packet_data}
use Rattle.sl_tmflow.specs.Delivery.{Delivery, IsDelivery, Outcome, Completes, StillIncomplete, Undelivered, Continuation, Ends, Continues, Breaks, continuation_of, outcome_of_continuation, outcome_of}
use Rattle.sl_tmflow.specs.Incomplete.{IsIncompleteAt, IsShort, incomplete_octets, frame_incomplete, incomplete_of}
use Rattle.sl_tmflow.specs.PacketStart.{IsStart, starts_of}
use Rattle.sl_tmflow.proofs.lemmas.Delivery.Start.{flat_map-pieces, each_found, found_among}
use Rattle.sl_tmflow.proofs.lemmas.Delivery.Listed.{delivery_outcome, delivery_with, from_frame, start_delivery}
use Rattle.sl_fields.proofs.ListLemmas.{each-weaker}
use Rattle.sl_tmflow.proofs.lemmas.Places.{each_among, count_of_one, few_each, some_of_each, has_last, same_place}
use Rattle.sl_tmflow.proofs.lemmas.Incomplete.After.{last_of}
use Rattle.sl_tmflow.proofs.lemmas.Incomplete.List.{each_incomplete_is_listed, incomplete_at, incomplete_at_start, incomplete_is_short, one_is_incomplete, incomplete_start_outcome}
use Rattle.sl_tmflow.proofs.lemmas.Delivery.OneMore.{by_frames, with_next, outcome_of-push}
use Rattle.sl_tmflow.proofs.lemmas.Delivery.Outcome.{delivered_step}

-- the outcome of a packet start of a frame
abbrev start_outcome : TmView → ℕ → List TmView → Outcome
start_outcome view start later = outcome_of view (drop start (packet_data view)) later

-- the octets of a packet start's packet, where the next frame breaks the packet off
abbrev broken_at : TmView → ℕ → TmView → List TmView → ℕ → List (List ℕ)
broken_at next number view later start = broken_octets (start_outcome view start later) (start_outcome view start (later ++ next ∷ []))

-- one more frame after a channel with these frames
one_frame_more : (channel before : List TmView) (view : TmView) (later : List TmView) (next : TmView) → channel ≡ before ++ view ∷ later
    → channel ++ next ∷ [] ≡ before ++ view ∷ (later ++ next ∷ [])
one_frame_more channel before view later next all = ap (λ l. l ++ next ∷ []) all ∙ append_assoc before (view ∷ later) (next ∷ [])

-- ---- the outcome of the start with these numbers

incomplete_there : (channel before : List TmView) (view : TmView) (later : List TmView) (start : ℕ) (octets : List ℕ) → channel ≡ before ++ view ∷ later
    → IsIncompleteAt channel (length before) start octets → start_outcome view start later ≡ StillIncomplete octets
incomplete_there channel before view later start octets all incomplete =
    let i = incomplete.incomplete in
    let there = same_place before i.before view i.view later i.run (sym all ∙ i.in_order) incomplete.in_frame in
    rw (there.0, there.1, incomplete.at) (incomplete_start_outcome channel octets i)

delivered_there : (channel before : List TmView) (view : TmView) (later : List TmView) (d : Delivery) → channel ≡ before ++ view ∷ later
    → d.frame ≡ length before → IsDelivery channel d → (passed : ℕ) × (start_outcome view d.start later ≡ Completes d.packet passed)
delivered_there channel before view later d all here is_d =
    let there = same_place before is_d.before view is_d.view later (is_d.run ++ is_d.after) (sym all ∙ from_frame channel d is_d) (sym here ∙ is_d.frame) in
    (length is_d.run, rw (there.0, there.1) (delivery_outcome channel d is_d))

-- ---- each listed packet is broken off

start_broken : (channel before : List TmView) (view : TmView) (later : List TmView) (next : TmView) (first : Option ℕ) (field : List ℕ) (start : ℕ)
    → channel ≡ before ++ view ∷ later → view.field ≡ Packets first field → IsStart field first start
    → (outcome next_outcome : Outcome) → start_outcome view start later ≡ outcome → start_outcome view start (later ++ next ∷ []) ≡ next_outcome
    → AllByRecursion (IsBrokenOff channel next) (broken_octets outcome next_outcome)
start_broken channel before view later next first field start all is is_start (StillIncomplete octets) Undelivered is_outcome after =
    let more = one_frame_more channel before view later next all in (
      record {
        frame = length before;
        start = start;
        before = incomplete_at_start channel before view later first field start octets all is is_start is_outcome;
        not_incomplete = λ longer x.
            let both : StillIncomplete longer ≡ Undelivered = sym (incomplete_there (channel ++ next ∷ []) before view (later ++ next ∷ []) start longer more x) ∙ after in cc;
        not_delivered = λ d x frame at ending.
            let (passed, is_delivered) = delivered_there (channel ++ next ∷ []) before view (later ++ next ∷ []) d more frame x in
            let both : Completes d.packet passed ≡ Undelivered = sym is_delivered ∙ ap (λ n. start_outcome view n (later ++ next ∷ [])) at ∙ after in cc;
      },
      tt,
    )
start_broken channel before view later next first field start all is is_start outcome next_outcome is_outcome after = tt

pub each_listed_is_broken_off : EachListedIsBrokenOff
each_listed_is_broken_off channel next =
    each_found (broken_at next) (λ number later. broken_off later next) (λ number. refl) (λ number view later. refl) (IsBrokenOff channel next) channel [] channel 0
    (λ before view later number first field start all counted is s.
    start_broken channel before view later next first field start all is s (start_outcome view start later) (start_outcome view start (later ++ next ∷ [])) refl refl) refl refl

-- ---- the outcome with one more frame

-- the octets of an incomplete packet that the next frame breaks off
abbrev pub lost : Continuation → List ℕ → List (List ℕ)
lost (Ends packet) octets = []
lost Continues octets = []
lost Breaks octets = octets ∷ []

abbrev pub lost_in : TmView → TmView → List ℕ → List (List ℕ)
lost_in last next octets = lost (continuation_of last octets next) octets

-- a packet that was incomplete ends in the next frame, if it is delivered then
ends_next : (view : TmView) (start : ℕ) (later : List TmView) (next : TmView) (octets packet : List ℕ) (passed : ℕ)
    → start_outcome view start later ≡ StillIncomplete octets → start_outcome view start (later ++ next ∷ []) ≡ Completes packet passed → length later + 1 ≡ passed
ends_next view start later next octets packet passed before after =
    let last = last_of view later in
    let rest = StillIncomplete (octets ++ packet_data next) in
    let e : outcome_of_continuation (continuation_of last octets next) (length later + 1) rest ≡ Completes packet passed =
    sym (outcome_of-push view (drop start (packet_data view)) later next ∙ ap (with_next (length later + 1) last next) before) ∙ after in
    elim (delivered_step (continuation_of last octets next) (length later + 1) rest packet passed e) [
      | inl here ↦ here.1
      | inr there ↦ absurd (let both : rest ≡ Completes packet passed = there.1 in cc)
    ]

-- ---- each broken-off packet is listed

outcome_listed : (channel : List TmView) (next : TmView) (octets : List ℕ) (broken : IsBrokenOff channel next octets) (outcome : Outcome)
    → start_outcome broken.before.incomplete.view broken.before.incomplete.offset (broken.before.incomplete.run ++ next ∷ []) ≡ outcome → IsAmong octets (broken_octets (StillIncomplete octets) outcome)
outcome_listed channel next octets broken (Completes packet passed) is_outcome =
    let i = broken.before.incomplete in
    let more = one_frame_more channel i.before i.view i.run next i.in_order in
    let number : length i.run + 1 ≡ passed = ends_next i.view i.offset i.run next octets packet passed (incomplete_start_outcome channel octets i) is_outcome in
    let all : length channel ≡ length i.before + (length i.run + 1) = omega (arith, ap length i.in_order, length-append i.before (i.view ∷ i.run)) in
    let there = start_delivery (channel ++ next ∷ []) i.before i.view (i.run ++ next ∷ []) (length i.before) i.first i.field i.offset more refl i.carries i.start (Completes packet passed) is_outcome in
    absurd (broken.not_delivered (delivery_with (length i.before) i.offset (length i.before + passed) packet) there.0 (sym broken.before.in_frame) (sym broken.before.at) (omega arith))
outcome_listed channel next octets broken (StillIncomplete so_far) is_outcome =
    let i = broken.before.incomplete in
    let more = one_frame_more channel i.before i.view i.run next i.in_order in
    let there = incomplete_at_start (channel ++ next ∷ []) i.before i.view (i.run ++ next ∷ []) i.first i.field i.offset so_far more i.carries i.start is_outcome in
    absurd (broken.not_incomplete so_far record { incomplete = there.incomplete; in_frame = broken.before.in_frame ∙ there.in_frame; at = broken.before.at ∙ there.at })
outcome_listed channel next octets broken Undelivered is_outcome = inl refl

pub each_broken_off_is_listed : EachBrokenOffIsListed
each_broken_off_is_listed channel next octets broken =
    let i = broken.before.incomplete in
    subst (λ l. IsAmong octets (broken_off l next)) (sym i.in_order)
    (found_among (broken_at next) (λ number later. broken_off later next) (λ number. refl) (λ number view later. refl) octets i.before i.view i.run 0 (length i.before) i.offset i.first i.field (omega arith) i.carries i.start
    (subst (λ outcome. IsAmong octets (broken_octets outcome (start_outcome i.view i.offset (i.run ++ next ∷ [])))) (sym (incomplete_start_outcome channel octets i))
    (outcome_listed channel next octets broken (start_outcome i.view i.offset (i.run ++ next ∷ [])) refl)))

-- ---- a broken-off packet was incomplete

lost_with_next : (passed : ℕ) (last next : TmView) (outcome : Outcome) → flat_map (lost_in last next) (incomplete_octets outcome) ≡ broken_octets outcome (with_next passed last next outcome)
lost_with_next passed last next outcome = grind arith

frame_broken-push : (view : TmView) (later : List TmView) (next : TmView)
    → flat_map (lost_in (last_of view later) next) (frame_incomplete view later) ≡ frame_broken view later next
frame_broken-push view later next =
    let gone = lost_in (last_of view later) next in
    flat_map-pieces (flat_map gone) refl (flat_map-append gone) (incomplete_at 0 view later) (broken_at next 0 view later)
    (λ start. lost_with_next (length later + 1) (last_of view later) next (start_outcome view start later)
    ∙ ap (broken_octets (start_outcome view start later)) (sym (outcome_of-push view (drop start (packet_data view)) later next)))
    (starts_of view.field)

-- the broken-off packets among those that were incomplete
pub broken_next : (before : List TmView) (last next : TmView)
    → broken_off (before ++ last ∷ []) next ≡ flat_map (lost_in last next) (incomplete_of (before ++ last ∷ []))
broken_next before last next =
    by_frames (λ view. lost_in view next) (length (before ++ last ∷ [])) (λ frame channel. broken_off channel next) [] refl
    (λ frame view later counted. ap (λ l. l ++ broken_off later next) (sym (frame_broken-push view later next))) 0 before last (omega arith)
    ∙ append-nil (flat_map (lost_in last next) (incomplete_of (before ++ last ∷ [])))

one_lost : (s : Continuation) (octets : List ℕ) → length (lost s octets) ≤ 1
one_lost s octets = grind arith

pub one_is_broken_off : OneIsBrokenOff
one_is_broken_off [] next = omega arith
one_is_broken_off (view ∷ later) next =
    let (before, last, same) = has_last view later in
    let few = few_each (lost_in last next) (λ octets. one_lost (continuation_of last octets next) octets) (incomplete_of (before ++ last ∷ [])) in
    omega (arith, ap (λ l. length (broken_off l next)) same, ap length (broken_next before last next), few, one_is_incomplete (before ++ last ∷ []))

-- ---- broken-off packets are short

pub broken_off_is_short : BrokenOffIsShort
broken_off_is_short channel next =
    each-weaker (IsBrokenOff channel next) IsShort
    (λ octets x. each_among IsShort octets (incomplete_of channel) (incomplete_is_short channel) (each_incomplete_is_listed channel octets x.before.incomplete))
    (broken_off channel next) (each_listed_is_broken_off channel next)

-- ---- how many octets broken-off packets have

pub broken_off_is_told : BrokenOffIsTold
broken_off_is_told channel next octets broken = search (arith, count_of_one, one_is_broken_off, each_broken_off_is_listed)

pub what_is_told_is_broken_off : WhatIsToldIsBrokenOff
what_is_told_is_broken_off channel next some = grind (arith, some_of_each, each_listed_is_broken_off)
