-- What the next frame of a channel does: the packets that end in it, and the packet that is incomplete after it.
use Rattle.std.proofs.Common.{◌≡◌, ℕ, ◌+◌, ◌≤◌, List, [], ◌∷◌, ◌++◌, length, drop, None, Some, refl, sym, ◌∙◌, ap, ap₂, arith, length-append, append-nil, append_assoc, eq-eqb, ne_eqb}
use Rattle.std.specs.List.{flat_map}
use Rattle.std.proofs.lemmas.Grind.{flat_map-append}
use Rattle.std.proofs.lemmas.List.{map-append, map-id, take_at}
use Rattle.std.proofs.lemmas.List.Concat.{flat_map_single}
use Rattle.std.proofs.lemmas.List.Elements.{filter-append}
use Rattle.sl_packet.specs.Packet.{IsPacket}
use Rattle.sl_packet.specs.Front.{Front, WholePacket, front_of}
use Rattle.sl_packet.specs.Packets.{whole_at, packets_of, rest_of}
use Rattle.sl_packet.proofs.FrontLemmas.{packet_is_whole}
use Rattle.sl_tmframe.specs.TmFrame.{TmView, DataField, Packets, Idle, Opaque}
use Rattle.sl_tmflow.specs.VirtualChannel.{packet_data}
use Rattle.sl_tmflow.specs.PacketStart.{starts_from, starts_of, whole_packets}
use Rattle.sl_tmflow.specs.Delivery.{Delivery, Outcome, Completes, StillIncomplete, Undelivered, Continuation, Ends, Continues, Breaks, ended, continuation_of, outcome_of_continuation, outcome_after, outcome_of_front, outcome_of, delivery_of, frame_deliveries, deliveries_from, ending_in, packets_delivered, packets_ending}
use Rattle.sl_tmflow.specs.Incomplete.{incomplete_octets, frame_incomplete, incomplete_of}
use Rattle.sl_tmflow.proofs.lemmas.Incomplete.After.{last_of, last_of-push}
use Rattle.sl_tmflow.proofs.lemmas.Delivery.Outcome.{outcome_delivered}
use Rattle.sl_tmflow.proofs.lemmas.Delivery.Listed.{field_deliveries}
use Rattle.sl_tmflow.proofs.lemmas.Delivery.Start.{flat_map-pieces, at_rest, at_starts, none_in_rest}

-- ---- a packet start

-- the outcome of a packet start with one more frame, `passed` frames after the start
abbrev pub with_next : ℕ → TmView → TmView → Outcome → Outcome
with_next passed last next (Completes packet n) = Completes packet n
with_next passed last next (StillIncomplete octets) = outcome_of_continuation (continuation_of last octets next) passed (StillIncomplete (octets ++ packet_data next))
with_next passed last next Undelivered = Undelivered

with_next-step : (step : Continuation) (n passed : ℕ) (last next : TmView) (outcome : Outcome)
    → outcome_of_continuation step n (with_next passed last next outcome) ≡ with_next passed last next (outcome_of_continuation step n outcome)
with_next-step step n passed last next outcome = grind arith

outcome_after-push : (n : ℕ) (view : TmView) (octets : List ℕ) (later : List TmView) (next : TmView) (passed : ℕ) → n + (length later + 1) ≡ passed
    → outcome_after n view octets (later ++ next ∷ []) ≡ with_next passed (last_of view later) next (outcome_after n view octets later)
outcome_after-push n view octets [] next passed counted = grind (arith)
outcome_after-push n view octets (v ∷ later) next passed counted = grind (arith, with_next-step, outcome_after-push (n + 1) v (octets ++ packet_data v) later next passed (omega arith))

front-push : (f : Front) (view : TmView) (octets : List ℕ) (later : List TmView) (next : TmView)
    → outcome_of_front f view octets (later ++ next ∷ []) ≡ with_next (length later + 1) (last_of view later) next (outcome_of_front f view octets later)
front-push f view octets later next = grind (arith, outcome_after-push)

pub outcome_of-push : (view : TmView) (octets : List ℕ) (later : List TmView) (next : TmView)
    → outcome_of view octets (later ++ next ∷ []) ≡ with_next (length later + 1) (last_of view later) next (outcome_of view octets later)
outcome_of-push view octets later next = front-push (front_of octets) view octets later next

-- ---- the packet that is incomplete

-- the octets after the next frame, if the packet goes on
abbrev pub carried : Continuation → List ℕ → List (List ℕ)
carried (Ends packet) octets = []
carried Continues octets = octets ∷ []
carried Breaks octets = []

-- an incomplete packet after the next frame, if it goes on
abbrev pub carried_into : TmView → TmView → List ℕ → List (List ℕ)
carried_into last next octets = carried (continuation_of last octets next) (octets ++ packet_data next)

incomplete_with_next : (passed : ℕ) (last next : TmView) (outcome : Outcome) → flat_map (carried_into last next) (incomplete_octets outcome) ≡ incomplete_octets (with_next passed last next outcome)
incomplete_with_next passed last next outcome = grind arith

frame_incomplete-push : (view : TmView) (later : List TmView) (next : TmView)
    → flat_map (carried_into (last_of view later) next) (frame_incomplete view later) ≡ frame_incomplete view (later ++ next ∷ [])
frame_incomplete-push view later next =
    let carry = carried_into (last_of view later) next in
    flat_map-pieces (flat_map carry) refl (flat_map-append carry)
    (λ start. incomplete_octets (outcome_of view (drop start (packet_data view)) later))
    (λ start. incomplete_octets (outcome_of view (drop start (packet_data view)) (later ++ next ∷ [])))
    (λ start. incomplete_with_next (length later + 1) (last_of view later) next (outcome_of view (drop start (packet_data view)) later)
    ∙ ap incomplete_octets (sym (outcome_of-push view (drop start (packet_data view)) later next)))
    (starts_of view.field)

-- after the first frame of a channel, the incomplete packet starts in this frame
pub incomplete_first : (next : TmView) → incomplete_of (next ∷ []) ≡ frame_incomplete next []
incomplete_first next = append-nil (frame_incomplete next [])

-- what holds for the incomplete packets of each frame holds for those of the channel
module _ (carry : TmView → List ℕ → List (List ℕ)) (number : ℕ) (of : ℕ → List TmView → List (List ℕ)) (end : List (List ℕ)) (stop : of number [] ≡ end)
    (step : (frame : ℕ) (view : TmView) (later : List TmView) → frame + (length later + 1) ≡ number
    → of frame (view ∷ later) ≡ flat_map (carry (last_of view later)) (frame_incomplete view later) ++ of (frame + 1) later) where
  pub by_frames : (frame : ℕ) (before : List TmView) (last : TmView) → frame + length (before ++ last ∷ []) ≡ number
      → of frame (before ++ last ∷ []) ≡ flat_map (carry last) (incomplete_of (before ++ last ∷ [])) ++ end
  by_frames frame [] last counted = grind (arith, incomplete_first)
  by_frames frame (view ∷ before) last counted = grind (arith, last_of-push, append_assoc, flat_map-append, by_frames (frame + 1) before last (omega arith))

-- after each other frame, the incomplete packet is the one that goes on, or starts in this frame
pub incomplete_next : (before : List TmView) (last next : TmView)
    → incomplete_of ((before ++ last ∷ []) ++ next ∷ []) ≡ flat_map (carried_into last next) (incomplete_of (before ++ last ∷ [])) ++ frame_incomplete next []
incomplete_next before last next =
    by_frames (λ view. carried_into view next) (length (before ++ last ∷ [])) (λ frame channel. incomplete_of (channel ++ next ∷ [])) (frame_incomplete next []) (incomplete_first next)
    (λ frame view later counted. ap (λ l. l ++ incomplete_of (later ++ next ∷ [])) (sym (frame_incomplete-push view later next))) 0 before last (omega arith)

-- ---- the packets that end

-- the packets of the deliveries that end in the frame with this number
abbrev pub packets_at : ℕ → List Delivery → List (List ℕ)
packets_at number deliveries = packets_delivered (ending_in number deliveries)

pub packets_at-append : (number : ℕ) (xs ys : List Delivery) → packets_at number (xs ++ ys) ≡ packets_at number xs ++ packets_at number ys
packets_at-append number xs ys = grind (arith, filter-append, map-append)

-- ---- the packets that lie whole in the last frame

pub at_last : (frame start : ℕ) (view : TmView) (octets : List ℕ) (f : Front)
    → packets_at frame (delivery_of frame start (outcome_of_front f view octets [])) ≡ whole_at f octets
at_last frame start view octets f = grind (arith, eq-eqb)

packet_first : (packet more : List ℕ) → IsPacket packet → whole_at (front_of (packet ++ more)) (packet ++ more) ≡ packet ∷ []
packet_first packet more is_packet = grind (arith, packet_is_whole, take_at)

none_at_rest : (rest : List ℕ) → ((len : ℕ) → front_of rest ≡ WholePacket len → ⊥) → at_rest (λ l. whole_at (front_of l) l) rest ≡ []
none_at_rest rest none = grind arith

at_last_field : (frame : ℕ) (view : TmView) (field : DataField) → packets_at frame (field_deliveries frame view [] field) ≡ whole_packets field
at_last_field frame view (Packets None octets) = refl
at_last_field frame view (Packets (Some pointer) octets) =
    let whole = packets_of (drop pointer octets) in
    flat_map-pieces (packets_at frame) refl (packets_at-append frame)
    (λ start. delivery_of frame start (outcome_of view (drop start octets) [])) (λ start. whole_at (front_of (drop start octets)) (drop start octets))
    (λ start. at_last frame start view (drop start octets) (front_of (drop start octets))) (starts_from (Some pointer) octets)
    ∙ at_starts (λ l. whole_at (front_of l) l) (λ packet. packet ∷ []) packet_first pointer octets
    ∙ ap₂ (λ xs ys. xs ++ ys) (flat_map_single (λ packet. packet) whole ∙ map-id whole)
    (none_at_rest (rest_of (drop pointer octets)) (none_in_rest (drop pointer octets)))
    ∙ append-nil whole
at_last_field frame view Idle = refl
at_last_field frame view Opaque = refl

at_last_frame : (frame : ℕ) (view : TmView) → packets_at frame (deliveries_from frame (view ∷ [])) ≡ whole_packets view.field
at_last_frame frame view = ap (packets_at frame) (append-nil (frame_deliveries frame view [])) ∙ at_last_field frame view view.field

-- ---- the packets that were incomplete before the last frame

-- an incomplete packet that ends in the next frame
abbrev pub ended_by_next : TmView → TmView → List ℕ → List (List ℕ)
ended_by_next last next octets = ended (continuation_of last octets next)

step_ending : (number frame start : ℕ) (s : Continuation) (passed : ℕ) (octets : List ℕ) → frame + passed ≡ number
    → packets_at number (delivery_of frame start (outcome_of_continuation s passed (StillIncomplete octets))) ≡ ended s ++ []
step_ending number frame start s passed octets here = grind (arith, eq-eqb)

-- a packet that ended earlier doesn't end in the next frame
ending_with_next : (number frame start : ℕ) (last next : TmView) (passed : ℕ) (outcome : Outcome)
    → frame + passed ≡ number → ((packet : List ℕ) (n : ℕ) → outcome ≡ Completes packet n → n + 1 ≤ passed)
    → packets_at number (delivery_of frame start (with_next passed last next outcome)) ≡ flat_map (ended_by_next last next) (incomplete_octets outcome)
ending_with_next number frame start last next passed outcome here earlier = grind (arith, step_ending, ne_eqb)

ends_before : (view : TmView) (octets : List ℕ) (later : List TmView) (packet : List ℕ) (n : ℕ)
    → outcome_of view octets later ≡ Completes packet n → n + 1 ≤ length later + 1
ends_before view octets later packet n completes =
    let w = outcome_delivered view octets later packet n completes in omega (arith, w.passed_is, ap length w.in_order, length-append w.run w.after)

pub frame_ending-push : (number frame : ℕ) (view : TmView) (later : List TmView) (next : TmView) → frame + (length later + 1) ≡ number
    → packets_at number (frame_deliveries frame view (later ++ next ∷ [])) ≡ flat_map (ended_by_next (last_of view later) next) (frame_incomplete view later)
frame_ending-push number frame view later next here =
    let last = last_of view later in
    let octets = λ (start : ℕ). drop start (packet_data view) in
    let ends = λ (start : ℕ). flat_map (ended_by_next last next) (incomplete_octets (outcome_of view (octets start) later)) in
    flat_map-pieces (packets_at number) refl (packets_at-append number)
    (λ start. delivery_of frame start (outcome_of view (octets start) (later ++ next ∷ []))) ends
    (λ start. ap (λ o. packets_at number (delivery_of frame start o)) (outcome_of-push view (octets start) later next)
    ∙ ending_with_next number frame start last next (length later + 1) (outcome_of view (octets start) later) here (ends_before view (octets start) later))
    (starts_of view.field)
    ∙ sym (flat_map-pieces (flat_map (ended_by_next last next)) refl (flat_map-append (ended_by_next last next))
    (λ start. incomplete_octets (outcome_of view (octets start) later)) ends (λ start. refl) (starts_of view.field))

-- in the first frame of a channel, the packets that lie whole in it end
pub ending_first : (next : TmView) → packets_ending [] next ≡ whole_packets next.field
ending_first next = at_last_frame 0 next

-- in each other frame, the incomplete packet that ends there ends too
pub ending_next : (before : List TmView) (last next : TmView)
    → packets_ending (before ++ last ∷ []) next ≡ flat_map (ended_by_next last next) (incomplete_of (before ++ last ∷ [])) ++ whole_packets next.field
ending_next before last next =
    let number : ℕ = length (before ++ last ∷ []) in
    let from = λ (frame : ℕ) (later : List TmView). deliveries_from frame (later ++ next ∷ []) in
    by_frames (λ view. ended_by_next view next) number (λ frame channel. packets_at number (from frame channel)) (whole_packets next.field) (at_last_frame number next)
    (λ frame view later counted. packets_at-append number (frame_deliveries frame view (later ++ next ∷ [])) (from (frame + 1) later)
    ∙ ap (λ l. l ++ packets_at number (from (frame + 1) later)) (frame_ending-push number frame view later next counted)) 0 before last (omega arith)
