-- The packets that a channel delivers with one more frame: those before, and then those that end in this frame.
use Rattle.std.proofs.Common.{◌≡◌, ℕ, ◌+◌, ◌≤◌, List, [], ◌∷◌, ◌++◌, length, drop, None, Some, inl, inr, refl, sym, ◌∙◌, ap, ap₂, arith, length-append, length-drop, append-nil, append_assoc}
use Rattle.std.specs.List.{AllByRecursion, flat_map}
use Rattle.std.proofs.lemmas.List.{map-append, map-id, take_at}
use Rattle.std.proofs.lemmas.List.Concat.{flat_map_single}
use Rattle.sl_packet.specs.Packet.{IsPacket}
use Rattle.sl_packet.specs.Front.{Front, front_of}
use Rattle.sl_packet.specs.Packets.{whole_at, packets_of, rest_of}
use Rattle.sl_packet.proofs.FrontLemmas.{packet_is_whole}
use Rattle.sl_tmframe.specs.TmFrame.{TmView, DataField, Packets, Idle, Opaque}
use Rattle.sl_tmflow.specs.VirtualChannel.{data_of, packet_data}
use Rattle.sl_tmflow.specs.PacketStart.{starts_from, starts_of, whole_packets}
use Rattle.sl_tmflow.specs.Delivery.{Delivery, Outcome, Completes, StillIncomplete, Undelivered, Continuation, ended, continuation_of, outcome_of_front, outcome_of, delivery_of, frame_deliveries, deliveries_from, packets_delivered, packets_ending, PacketsEndOnce}
use Rattle.sl_tmflow.specs.Incomplete.{HasNoStart, incomplete_octets, frame_incomplete, incomplete_of}
use Rattle.sl_tmflow.proofs.lemmas.Delivery.Start.{flat_map-pieces, at_rest, at_starts, no_starts}
use Rattle.sl_packet.proofs.CountLemmas.{split_count, packets_within}
use Rattle.sl_tmflow.proofs.lemmas.Delivery.Listed.{field_deliveries}
use Rattle.sl_tmflow.proofs.lemmas.Places.{few_each, has_last}
use Rattle.sl_tmflow.proofs.lemmas.Incomplete.List.{field_incomplete, incomplete_from_pointer, one_of_field, one_is_incomplete}
use Rattle.sl_tmflow.proofs.lemmas.Delivery.OneMore.{with_next, outcome_of-push, packets_at, packets_at-append, at_last, ended_by_next, frame_ending-push, ending_first, ending_next}
use Rattle.sl_tmflow.proofs.lemmas.Incomplete.After.{last_of}

-- ---- the packets of a frame's starts

-- the packet of a start that is delivered
abbrev pub completed_packet : Outcome → List (List ℕ)
completed_packet (Completes packet passed) = packet ∷ []
completed_packet (StillIncomplete octets) = []
completed_packet Undelivered = []

is_completed : (frame start : ℕ) (outcome : Outcome) → packets_delivered (delivery_of frame start outcome) ≡ completed_packet outcome
is_completed frame start outcome = grind arith

delivered-append : (xs ys : List Delivery) → packets_delivered (xs ++ ys) ≡ packets_delivered xs ++ packets_delivered ys
delivered-append xs ys = map-append (λ d. d.packet) xs ys

at_packet : (view : TmView) (later : List TmView) (packet more : List ℕ) → IsPacket packet
    → completed_packet (outcome_of view (packet ++ more) later) ≡ packet ∷ []
at_packet view later packet more is_packet = grind (arith, packet_is_whole, take_at)

-- the packets of a frame's starts: those that lie whole in the data field, and that of the octets after them
pub from_pointer : (frame : ℕ) (view : TmView) (later : List TmView) (pointer : ℕ) (octets : List ℕ)
    → packets_delivered (field_deliveries frame view later (Packets (Some pointer) octets))
    ≡ packets_of (drop pointer octets) ++ at_rest (λ l. completed_packet (outcome_of view l later)) (rest_of (drop pointer octets))
from_pointer frame view later pointer octets =
    let at = λ (l : List ℕ). completed_packet (outcome_of view l later) in
    let whole = packets_of (drop pointer octets) in
    flat_map-pieces packets_delivered refl delivered-append (λ start. delivery_of frame start (outcome_of view (drop start octets) later))
    (λ start. at (drop start octets)) (λ start. is_completed frame start (outcome_of view (drop start octets) later)) (starts_from (Some pointer) octets)
    ∙ at_starts at (λ packet. packet ∷ []) (at_packet view later) pointer octets
    ∙ ap (λ l. l ++ at_rest at (rest_of (drop pointer octets))) (flat_map_single (λ packet. packet) whole ∙ map-id whole)

-- ---- one more frame after a start

outcome_more : (passed : ℕ) (last next : TmView) (outcome : Outcome)
    → completed_packet (with_next passed last next outcome) ≡ completed_packet outcome ++ flat_map (ended_by_next last next) (incomplete_octets outcome)
outcome_more passed last next outcome = grind arith

rest_more : (view : TmView) (later : List TmView) (next : TmView) (rest : List ℕ)
    → at_rest (λ l. completed_packet (outcome_of view l (later ++ next ∷ []))) rest
    ≡ at_rest (λ l. completed_packet (outcome_of view l later)) rest
    ++ flat_map (ended_by_next (last_of view later) next) (at_rest (λ l. incomplete_octets (outcome_of view l later)) rest)
rest_more view later next [] = refl
rest_more view later next (octet ∷ rest) =
    ap completed_packet (outcome_of-push view (octet ∷ rest) later next)
    ∙ outcome_more (length later + 1) (last_of view later) next (outcome_of view (octet ∷ rest) later)

-- the packets of a frame that were incomplete and end in the next frame are delivered too
field_more : (frame : ℕ) (view : TmView) (later : List TmView) (next : TmView) (field : DataField)
    → packets_delivered (field_deliveries frame view (later ++ next ∷ []) field)
    ≡ packets_delivered (field_deliveries frame view later field) ++ flat_map (ended_by_next (last_of view later) next) (field_incomplete view later field)
field_more frame view later next (Packets (Some pointer) octets) =
    let ends = flat_map (ended_by_next (last_of view later) next) in
    let at = λ (l : List ℕ). completed_packet (outcome_of view l later) in
    let whole = packets_of (drop pointer octets) in
    let rest = rest_of (drop pointer octets) in
    let held = at_rest (λ l. incomplete_octets (outcome_of view l later)) rest in
    from_pointer frame view (later ++ next ∷ []) pointer octets ∙ ap (λ l. whole ++ l) (rest_more view later next rest)
    ∙ sym (append_assoc whole (at_rest at rest) (ends held))
    ∙ ap₂ (λ xs ys. xs ++ ends ys) (sym (from_pointer frame view later pointer octets)) (sym (incomplete_from_pointer view later pointer octets))
field_more frame view later next field = refl

-- ---- the last frame

at_channel_end : (frame start : ℕ) (view : TmView) (octets : List ℕ) (f : Front)
    → packets_delivered (delivery_of frame start (outcome_of_front f view octets [])) ≡ whole_at f octets
at_channel_end frame start view octets f = grind arith

-- a packet that starts in the last frame and is delivered ends in it
last_frame : (frame : ℕ) (view : TmView) → packets_delivered (frame_deliveries frame view []) ≡ packets_at frame (frame_deliveries frame view [])
last_frame frame view =
    let octets = λ (start : ℕ). drop start (packet_data view) in
    let at = λ (start : ℕ). delivery_of frame start (outcome_of view (octets start) []) in
    let whole = λ (start : ℕ). whole_at (front_of (octets start)) (octets start) in
    flat_map-pieces packets_delivered refl delivered-append at whole
    (λ start. at_channel_end frame start view (octets start) (front_of (octets start))) (starts_of view.field)
    ∙ sym (flat_map-pieces (packets_at frame) refl (packets_at-append frame) at whole
    (λ start. at_last frame start view (octets start) (front_of (octets start))) (starts_of view.field))

-- ---- no packet starts after one that is incomplete

none_without_starts : (frame : ℕ) (channel : List TmView) → AllByRecursion HasNoStart channel → deliveries_from frame channel ≡ []
none_without_starts frame [] none = refl
none_without_starts frame (view ∷ later) none = grind (arith, no_starts, none_without_starts (frame + 1) later none.1)

-- Either no packet of a frame is incomplete, or later frames deliver none, so the order of the two doesn't matter.
no_later_frame : (frame : ℕ) (view : TmView) (later : List TmView) (ends : List ℕ → List (List ℕ))
    → flat_map ends (frame_incomplete view later) ++ packets_delivered (deliveries_from frame later)
    ≡ packets_delivered (deliveries_from frame later) ++ flat_map ends (frame_incomplete view later)
no_later_frame frame view later ends =
    elim (one_of_field view later view.field) [
      | inl none ↦ rw (none) (sym (append-nil (packets_delivered (deliveries_from frame later))))
      | inr one ↦ rw (none_without_starts frame later one.2) (append-nil (flat_map ends (frame_incomplete view later)))
    ]

-- ---- one more frame

between : {X : Type 0} (xs ys zs ws : List X) → ys ++ zs ≡ zs ++ ys → (xs ++ ys) ++ (zs ++ ws) ≡ (xs ++ zs) ++ (ys ++ ws)
between xs ys zs ws same = grind (arith, append_assoc)

delivered_from : (number frame : ℕ) (channel : List TmView) (next : TmView) → frame + length channel ≡ number
    → packets_delivered (deliveries_from frame (channel ++ next ∷ []))
    ≡ packets_delivered (deliveries_from frame channel) ++ packets_at number (deliveries_from frame (channel ++ next ∷ []))
delivered_from number frame [] next here =
    let same : frame ≡ number = omega arith in
    let only : deliveries_from frame (next ∷ []) ≡ frame_deliveries frame next [] = append-nil (frame_deliveries frame next []) in
    ap packets_delivered only ∙ last_frame frame next ∙ ap₂ packets_at same (sym only)
delivered_from number frame (view ∷ later) next here =
    let ends = flat_map (ended_by_next (last_of view later) next) (frame_incomplete view later) in
    let now = frame_deliveries frame view later in
    let now' = frame_deliveries frame view (later ++ next ∷ []) in
    let rest = deliveries_from (frame + 1) later in
    let rest' = deliveries_from (frame + 1) (later ++ next ∷ []) in
    delivered-append now' rest'
    ∙ ap₂ (λ xs ys. xs ++ ys) (field_more frame view later next view.field) (delivered_from number (frame + 1) later next (omega arith))
    ∙ between (packets_delivered now) ends (packets_delivered rest) (packets_at number rest')
    (no_later_frame (frame + 1) view later (ended_by_next (last_of view later) next))
    ∙ ap₂ (λ xs ys. xs ++ (ys ++ packets_at number rest')) (sym (delivered-append now rest))
    (sym (frame_ending-push number frame view later next (omega arith)))
    ∙ ap (λ l. packets_delivered (now ++ rest) ++ l) (sym (packets_at-append number now' rest'))

-- the packets of a channel with one more frame are those before, and then those that end in this frame
pub delivered_push : PacketsEndOnce
delivered_push channel next = delivered_from (length channel) 0 channel next (omega arith)

-- ---- how many packets end

whole_few : (field : DataField) → length (whole_packets field) ≤ length (data_of field)
whole_few (Packets None octets) = omega arith
whole_few (Packets (Some pointer) octets) =
    omega (arith, split_count (packets_of (drop pointer octets)), packets_within (drop pointer octets), length-drop pointer octets)
whole_few Idle = omega arith
whole_few Opaque = omega arith

step_few : (s : Continuation) → length (ended s) ≤ 1
step_few s = grind arith

-- at most one packet more ends in a frame than the frame has octets of packets
pub ended_few : (channel : List TmView) (next : TmView) → length (packets_ending channel next) ≤ length (packet_data next) + 1
ended_few [] next = omega (arith, ap length (ending_first next), whole_few next.field)
ended_few (view ∷ later) next =
    let (before, last, same) = has_last view later in
    let few = few_each (ended_by_next last next) (λ octets. step_few (continuation_of last octets next)) (incomplete_of (before ++ last ∷ [])) in
    omega (
      arith,
      ap length (ap (λ l. packets_ending l next) same ∙ ending_next before last next),
      length-append (flat_map (ended_by_next last next) (incomplete_of (before ++ last ∷ []))) (whole_packets next.field),
      few,
      one_is_incomplete (before ++ last ∷ []),
      whole_few next.field,
    )
