-- What the next frame does to an incomplete packet: it ends the packet, continues it, or breaks it off.
use Rattle.std.proofs.Common.{◌≡◌, ◌≢◌, ℕ, ◌+◌, ◌<◌, ◌≤◌, Bool, true, if◌then◌else◌, List, ◌++◌, length, take, drop, Option, None, is_some, refl, sym, ◌∙◌, ap, arith, append-nil, append_assoc, eqb-true, eq-eqb, le-ltb}
use Rattle.std.proofs.lemmas.Grind.{common_steps}
use Rattle.std.proofs.lemmas.List.{take-append-drop, take-append-le, take_at, length-take-le}
use mathlib.Core.List.{IsPrefix}
use Rattle.sl_packet.specs.Packet.{IsPacket}
use Rattle.sl_packet.specs.Front.{Front, Incomplete, WholePacket, front_of}
use Rattle.sl_packet.proofs.FrontLemmas.{whole_is_a_packet, packet_is_whole, foreign_is_no_packet, incomplete_may_become_whole}
use Rattle.sl_tmframe.specs.TmFrame.{TmView, DataField, Packets, Idle, Opaque}
use Rattle.sl_tmflow.specs.VirtualChannel.{is_consecutive, data_of}
use Rattle.sl_tmflow.specs.Delivery.{agreeing_pointer, Ends, Continues, Breaks, front_continuation, field_continuation, continuation_of}

-- ---- octets that begin a packet

-- a packet at the front of octets in two parts lies in the first part, unless it is longer than this part
pub prefix_of_first : (octets more packet rest : List ℕ) → octets ++ more ≡ packet ++ rest → length packet ≤ length octets → IsPrefix packet octets
prefix_of_first octets more packet rest same inside =
    let first : take (length packet) octets ≡ packet =
    sym (take-append-le (length packet) octets more inside) ∙ ap (take (length packet)) same ∙ take_at packet rest (length packet) refl in
    (drop (length packet) octets, ap (λ l. l ++ drop (length packet) octets) (sym first) ∙ take-append-drop (length packet) octets)

-- a packet isn't whole before its end
pub incomplete_before_end : (octets more packet rest : List ℕ) → IsPacket packet → octets ++ more ≡ packet ++ rest → length octets < length packet → front_of octets ≡ Incomplete
incomplete_before_end octets more packet rest is_packet same short = grind (arith, common_steps, foreign_is_no_packet, whole_is_a_packet, append_assoc, take-append-drop, length-take-le)

-- where no packet is whole, none was whole before
pub incomplete_before : (octets more : List ℕ) → front_of (octets ++ more) ≡ Incomplete → front_of octets ≡ Incomplete
incomplete_before octets more incomplete = grind (arith, common_steps, incomplete_may_become_whole, foreign_is_no_packet, append_assoc, append-nil, whole_is_a_packet, take-append-drop, packet_is_whole)

-- where no packet is whole, none lies at the front
pub incomplete_is_no_packet : (octets packet : List ℕ) → IsPacket packet → front_of octets ≡ Incomplete → IsPrefix packet octets → ⊥
incomplete_is_no_packet octets packet is_packet incomplete prefix = grind (arith, packet_is_whole)

-- ---- pointers

-- a packet that covers a data field to its end agrees with no pointer
pub agreeing_none : (len before : ℕ) (field : List ℕ) → before + length field ≤ len → agreeing_pointer len before field ≡ None
agreeing_none len before field covered = grind (arith, le-ltb)

-- ---- the three continuations

-- the packet ends in this data field, and the frame's pointer says so
pub record EndsIn (octets : List ℕ) (field : DataField) (packet : List ℕ) : Type 0 where
  pub first : Option ℕ
  pub carried : List ℕ
  pub is_packets : field ≡ Packets first carried
  pub is_packet : IsPacket packet
  pub ends : IsPrefix packet (octets ++ carried)
  pub agrees : first ≡ agreeing_pointer (length packet) (length octets) carried

-- the packet goes on past this data field, and the pointer doesn't say otherwise
pub record GoesOnPast (octets : List ℕ) (field : DataField) : Type 0 where
  pub is_read : field ≢ Opaque
  pub no_start : (first : Option ℕ) (carried : List ℕ) → field ≡ Packets first carried → first ≡ None
  pub incomplete : front_of (octets ++ data_of field) ≡ Incomplete

ends_test : (b : Bool) (whole packet : List ℕ) → (if b then Ends whole else Breaks) ≡ Ends packet → (b ≡ true) × (whole ≡ packet)
ends_test b whole packet ends = grind arith

no_end : (first : Option ℕ) (packet : List ℕ) → (if is_some first then Breaks else Continues) ≡ Ends packet → ⊥
no_end first packet ends = grind arith

front_ends : (first : Option ℕ) (before : ℕ) (field all : List ℕ) (f : Front) (packet : List ℕ) → front_continuation first before field all f ≡ Ends packet
    → (len : ℕ) × (f ≡ WholePacket len) × (first ≡ agreeing_pointer len before field) × (take len all ≡ packet)
front_ends first before field all f packet ends = grind (arith, no_end, ends_test, eqb-true)

pub field_ends : (octets : List ℕ) (field : DataField) (packet : List ℕ) → field_continuation octets field ≡ Ends packet → EndsIn octets field packet
field_ends octets (Packets first carried) packet is_end =
    let (len, is_whole, agrees, packet_is) = front_ends first (length octets) carried (octets ++ carried) (front_of (octets ++ carried)) packet is_end in
    let whole = whole_is_a_packet (octets ++ carried) len is_whole in
    let len_is : len ≡ length packet = sym (length-take-le len (octets ++ carried) whole.1) ∙ ap length packet_is in
    record {
      first = first;
      carried = carried;
      is_packets = refl;
      is_packet = rw (← packet_is) whole.0;
      ends = (drop len (octets ++ carried), ap (λ l. l ++ drop len (octets ++ carried)) (sym packet_is) ∙ take-append-drop len (octets ++ carried));
      agrees = agrees ∙ ap (λ n. agreeing_pointer n (length octets) carried) len_is;
    }
field_ends octets Idle packet is_end = absurd (cc)
field_ends octets Opaque packet is_end = absurd (cc)

pub ends_field : (octets : List ℕ) (field : DataField) (packet : List ℕ) → EndsIn octets field packet → field_continuation octets field ≡ Ends packet
ends_field octets field packet ending = grind (arith, packet_is_whole, take_at, eq-eqb)

no_pointer : (first : Option ℕ) → (if is_some first then Breaks else Continues) ≡ Continues → first ≡ None
no_pointer first continues = grind arith

front_continues : (first : Option ℕ) (before : ℕ) (field all : List ℕ) (f : Front) → front_continuation first before field all f ≡ Continues
    → (f ≡ Incomplete) × (first ≡ None)
front_continues first before field all f continues = grind (arith, no_pointer)

-- the next frame is consecutive where the packet isn't broken off
pub step_ends : (view : TmView) (octets : List ℕ) (next : TmView) (packet : List ℕ) → continuation_of view octets next ≡ Ends packet
    → (is_consecutive view next ≡ true) × EndsIn octets next.field packet
step_ends view octets next packet ends = grind (arith, common_steps, field_ends)

pub ends_step : (view : TmView) (octets : List ℕ) (next : TmView) (packet : List ℕ) → is_consecutive view next ≡ true → EndsIn octets next.field packet
    → continuation_of view octets next ≡ Ends packet
ends_step view octets next packet consecutive ending = grind (arith, common_steps, ends_field)

pub step_continues : (view : TmView) (octets : List ℕ) (next : TmView) → front_of octets ≡ Incomplete → continuation_of view octets next ≡ Continues
    → (is_consecutive view next ≡ true) × GoesOnPast octets next.field
step_continues view octets next incomplete continues = grind (arith, front_continues, append-nil)

pub continues_step : (view : TmView) (octets : List ℕ) (next : TmView) → is_consecutive view next ≡ true → GoesOnPast octets next.field
    → continuation_of view octets next ≡ Continues
continues_step view octets next consecutive past = grind arith
