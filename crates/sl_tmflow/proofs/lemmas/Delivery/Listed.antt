-- The list of the deliveries of a channel: each listed one is a delivery, each delivery is listed, and they are in
-- order.
use Rattle.std.proofs.Common.{◌≡◌, ℕ, ◌+◌, ◌<◌, ◌≤◌, List, [], ◌∷◌, ◌++◌, length, drop, Option, inl, refl, sym, ◌∙◌, ap, subst, arith, append_assoc}
use Rattle.std.specs.List.{AllByRecursion, flat_map}
use Rattle.sl_tmframe.specs.TmFrame.{TmView, DataField, Packets}
use Rattle.sl_tmflow.specs.VirtualChannel.{data_of, packet_data}
use Rattle.sl_tmflow.specs.Among.{IsAmong}
use Rattle.sl_tmflow.specs.PacketStart.{IsStart, starts_of}
use Rattle.sl_tmflow.specs.Delivery.{Delivery, IsDeliveredBy, IsDelivery, Outcome, Completes, outcome_of, delivery_of, frame_deliveries, deliveries_from, deliveries_of, EachIsDelivery, EachIsListed, StartsBefore, AreInOrder, DeliveriesAreInOrder}
use Rattle.sl_fields.proofs.ListLemmas.{each-append, each-every, each-flat_map, each-weaker}
use Rattle.sl_tmflow.proofs.lemmas.Delivery.Start.{AreRising, each_found, field_starts_rise, found_among}
use Rattle.sl_tmflow.proofs.lemmas.Delivery.Outcome.{outcome_delivered, delivered_outcome}

-- the deliveries of the starts in a data field
abbrev pub field_deliveries : ℕ → TmView → List TmView → DataField → List Delivery
field_deliveries frame view later field =
    flat_map (λ start. delivery_of frame start (outcome_of view (drop start (data_of field)) later)) (starts_of field)

-- what is delivered from a packet start of a frame
abbrev pub delivery_at : ℕ → TmView → List TmView → ℕ → List Delivery
delivery_at frame view later start = delivery_of frame start (outcome_of view (drop start (packet_data view)) later)

-- the delivery with these numbers and this packet
abbrev pub delivery_with : ℕ → ℕ → ℕ → List ℕ → Delivery
delivery_with frame start ending packet = record { frame = frame; start = start; ending = ending; packet = packet }

-- the channel from a delivery's frame on
pub from_frame : (channel : List TmView) (d : Delivery) (is_d : IsDelivery channel d) → channel ≡ is_d.before ++ is_d.view ∷ (is_d.run ++ is_d.after)
from_frame channel d is_d = is_d.in_order ∙ append_assoc is_d.before (is_d.view ∷ is_d.run) is_d.after

-- ---- each listed one is a delivery

pub start_delivery : (channel before : List TmView) (view : TmView) (later : List TmView) (frame : ℕ) (first : Option ℕ) (octets : List ℕ) (start : ℕ)
    → channel ≡ before ++ view ∷ later → frame ≡ length before → view.field ≡ Packets first octets → IsStart octets first start
    → (outcome : Outcome) → outcome_of view (drop start (packet_data view)) later ≡ outcome → AllByRecursion (IsDelivery channel) (delivery_of frame start outcome)
start_delivery channel before view later frame first octets start all here is is_start (Completes packet passed) is_outcome =
    let w = outcome_delivered view (drop start (packet_data view)) later packet passed is_outcome in (
      record {
        before = before;
        view = view;
        run = w.run;
        after = w.after;
        in_order = all ∙ ap (λ l. before ++ view ∷ l) w.in_order ∙ sym (append_assoc before (view ∷ w.run) w.after);
        frame = here;
        ending = ap (λ n. frame + n) w.passed_is;
        first = first;
        octets = octets;
        field = is;
        start = is_start;
        delivered = subst (λ field. IsDeliveredBy view (drop start (data_of field)) w.run packet) is w.delivered;
      },
      tt,
    )
start_delivery channel before view later frame first octets start all here is is_start outcome is_outcome = tt

pub each_is_delivery : EachIsDelivery
each_is_delivery channel =
    each_found delivery_at deliveries_from (λ number. refl) (λ number view later. refl) (IsDelivery channel) channel [] channel 0
    (λ before view later frame first octets start all here is s. start_delivery channel before view later frame first octets start all here is s (outcome_of view (drop start (packet_data view)) later) refl) refl refl

-- ---- each delivery is listed

-- the outcome of a delivery's start is the delivery
pub delivery_outcome : (channel : List TmView) (d : Delivery) (is_d : IsDelivery channel d) → outcome_of is_d.view (drop d.start (packet_data is_d.view)) (is_d.run ++ is_d.after) ≡ Completes d.packet (length is_d.run)
delivery_outcome channel d is_d = grind (arith, delivered_outcome)

pub each_is_listed : EachIsListed
each_is_listed channel d is_d =
    let same : d ≡ delivery_with d.frame d.start (d.frame + length is_d.run) d.packet = ap (λ n. delivery_with d.frame d.start n d.packet) is_d.ending in
    subst (λ l. IsAmong d (deliveries_of l)) (sym (from_frame channel d is_d))
    (found_among delivery_at deliveries_from (λ number. refl) (λ number view later. refl) d is_d.before is_d.view (is_d.run ++ is_d.after) 0 d.frame d.start is_d.first is_d.octets (omega (arith, is_d.frame)) is_d.field is_d.start
    (subst (λ outcome. IsAmong d (delivery_of d.frame d.start outcome)) (sym (delivery_outcome channel d is_d)) (inl same)))

-- ---- deliveries are in order

pub in_order-append : (xs ys : List Delivery) → AreInOrder xs → AreInOrder ys → AllByRecursion (λ x. AllByRecursion (StartsBefore x) ys) xs → AreInOrder (xs ++ ys)
in_order-append [] ys left right between = right
in_order-append (x ∷ xs) ys left right between = grind (arith, each-append, in_order-append xs ys left.1 right between.1)

-- a delivery from this start in this frame
abbrev IsFrom : ℕ → ℕ → Delivery → Type 0
IsFrom frame start d = (d.frame ≡ frame) × (d.start ≡ start)

-- a delivery from a later start in this frame
abbrev IsPast : ℕ → ℕ → Delivery → Type 0
IsPast frame start d = (d.frame ≡ frame) × (start < d.start)

is_from : (frame start : ℕ) (outcome : Outcome) → AllByRecursion (IsFrom frame start) (delivery_of frame start outcome)
is_from frame start outcome = grind arith

at_most_one : (frame start : ℕ) (outcome : Outcome) → AreInOrder (delivery_of frame start outcome)
at_most_one frame start outcome = grind arith

past : (frame start : ℕ) (outcomes : ℕ → Outcome) (starts : List ℕ) → AllByRecursion (λ later. start < later) starts
    → AllByRecursion (IsPast frame start) (flat_map (λ s. delivery_of frame s (outcomes s)) starts)
past frame start outcomes starts each = grind (arith, each-flat_map, each-weaker, is_from)

in_order_starts : (frame : ℕ) (outcomes : ℕ → Outcome) (starts : List ℕ) → AreRising starts → AreInOrder (flat_map (λ s. delivery_of frame s (outcomes s)) starts)
in_order_starts frame outcomes [] rising = tt
in_order_starts frame outcomes (start ∷ starts) rising = grind (arith, in_order-append, at_most_one, each-weaker, past, is_from, in_order_starts frame outcomes starts rising.1)

frame_in_order : (frame : ℕ) (view : TmView) (later : List TmView) → AreInOrder (frame_deliveries frame view later)
frame_in_order frame view later = search (arith, in_order_starts, field_starts_rise)

-- the deliveries of a frame are of that frame
pub each_of_frame : (frame : ℕ) (view : TmView) (later : List TmView) → AllByRecursion (λ d. d.frame ≡ frame) (frame_deliveries frame view later)
each_of_frame frame view later = grind (arith, each-flat_map, each-every, each-weaker, is_from)

-- the deliveries from the frame with this number on have this number or a greater one
pub each_from_frame : (frame : ℕ) (channel : List TmView) → AllByRecursion (λ d. frame ≤ d.frame) (deliveries_from frame channel)
each_from_frame frame [] = tt
each_from_frame frame (view ∷ later) = grind (arith, each-append, each-weaker, each_of_frame, each_from_frame (frame + 1) later)

in_order_from : (frame : ℕ) (channel : List TmView) → AreInOrder (deliveries_from frame channel)
in_order_from frame [] = tt
in_order_from frame (view ∷ later) = grind (arith, in_order-append, frame_in_order, each-weaker, each_from_frame, each_of_frame, in_order_from (frame + 1) later)

pub are_in_order : DeliveriesAreInOrder
are_in_order channel = in_order_from 0 channel
