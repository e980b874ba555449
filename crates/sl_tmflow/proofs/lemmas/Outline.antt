-- Counting by outlines: the packet that ends in a data field, and the state after frames.
use Rattle.std.proofs.Common.{◌≡◌, ℕ, ◌≤◌, ◌==◌, ◌&&◌, nat_lt, if◌then◌else◌, Bool, true, false, List, [], ◌∷◌, ◌++◌, length, Option, set, inl, inr, sym, refl, ◌∙◌, ap, subst, arith, length-append, append-nil}
use Rattle.std.specs.List.{AllByRecursion, concat, slice_index_or}
use Rattle.std.proofs.lemmas.Bool.{le-ltb}
use Rattle.std.proofs.lemmas.Bool.Decides.{eqb_tells}
use Rattle.std.proofs.lemmas.List.{get_or-set_other, get_or-set_same, take-append-le}
use Rattle.sl_fields.specs.Field.{field}
use Rattle.sl_packet.specs.Outline.{HasOutline}
use Rattle.sl_packet.specs.Packet.{apid_of, is_idle_packet}
use Rattle.sl_packet.specs.Packets.{only_idle, without_idle}
use Rattle.sl_packet.proofs.PacketLemmas.{packet_least}
use Rattle.sl_tmframe.specs.TmFrame.{Packets, TmView}
use Rattle.sl_tmflow.specs.Channel.{ChannelState, channel_after, packets_ended}
use Rattle.sl_tmflow.specs.Counter.{HasCounted, IsOutlineAfter, Outlines}
use Rattle.sl_tmflow.specs.Delivery.{Ends, ended, field_continuation, packets_ending}
use Rattle.sl_tmflow.specs.Extractor.{HasSeen, held_as}
use Rattle.sl_tmflow.specs.Incomplete.{IsShort, incomplete_of}
use Rattle.sl_tmflow.specs.VirtualChannel.{last_count, views_on}
use Rattle.sl_tmflow.specs.declared.channel_outline.ChannelOutline.{ChannelOutline}
use Rattle.sl_tmflow.specs.declared.counter.PacketCounter.{PacketCounter}
use Rattle.sl_tmflow.proofs.lemmas.Anomaly.{held_octets}
use Rattle.sl_tmflow.proofs.lemmas.Delivery.Channel.{one_more_frame, other_seen, same_seen, seen_more}
use Rattle.sl_tmflow.proofs.lemmas.Delivery.Step.{field_ends}
use Rattle.sl_tmflow.proofs.lemmas.Incomplete.List.{incomplete_is_short, one_is_incomplete}

-- ---- a packet that ends in a data field begins like all octets of it and of the field

idle_tests : (n m a : ℕ) → 2 ≤ n → 2 ≤ m → (nat_lt 1 n && (a == 2047)) ≡ (nat_lt 1 m && (a == 2047))
idle_tests n m a e f = grind (arith, le-ltb)

idle_front : (packet more : List ℕ) → 2 ≤ length packet → is_idle_packet (packet ++ more) ≡ is_idle_packet packet
idle_front packet more long =
    let same : apid_of (packet ++ more) ≡ apid_of packet = ap (λ l. field 2 5 11 l) (take-append-le 2 packet more long) in
    rw same (idle_tests (length (packet ++ more)) (length packet) (apid_of packet) (omega (arith, length-append packet more)) long)

idle_end : (octets carried packet : List ℕ) (first : Option ℕ) → field_continuation octets (Packets first carried) ≡ Ends packet → is_idle_packet (octets ++ carried) ≡ is_idle_packet packet
idle_end octets carried packet first e =
    let w = field_ends octets (Packets first carried) packet e in
    grind (arith, idle_front, packet_least)

idle_counts : (idle : Bool) (packet : List ℕ) → is_idle_packet packet ≡ idle → ((if idle then 0 else 1) ≡ length (without_idle (packet ∷ []))) × ((if idle then 1 else 0) ≡ length (only_idle (packet ∷ [])))
idle_counts true packet e = rw e (refl, refl)
idle_counts false packet e = rw e (refl, refl)

counts : (idle : Bool) (octets carried packet : List ℕ) (first : Option ℕ) → field_continuation octets (Packets first carried) ≡ Ends packet → idle ≡ is_idle_packet (octets ++ carried)
    → ((if idle then 0 else 1) ≡ length (without_idle (packet ∷ []))) × ((if idle then 1 else 0) ≡ length (only_idle (packet ∷ [])))
counts idle octets carried packet first e is = idle_counts idle packet (sym (is ∙ idle_end octets carried packet first e))

pub ended_packets : (idle : Bool) (octets carried packet : List ℕ) (first : Option ℕ) → field_continuation octets (Packets first carried) ≡ Ends packet → idle ≡ is_idle_packet (octets ++ carried)
    → (if idle then 0 else 1) ≡ length (without_idle (ended (field_continuation octets (Packets first carried))))
ended_packets idle octets carried packet first e is = (counts idle octets carried packet first e is).0 ∙ ap (λ c. length (without_idle (ended c))) (sym e)

pub ended_idle : (idle : Bool) (octets carried packet : List ℕ) (first : Option ℕ) → field_continuation octets (Packets first carried) ≡ Ends packet → idle ≡ is_idle_packet (octets ++ carried)
    → (if idle then 1 else 0) ≡ length (only_idle (ended (field_continuation octets (Packets first carried))))
ended_idle idle octets carried packet first e is = (counts idle octets carried packet first e is).1 ∙ ap (λ c. length (only_idle (ended c))) (sym e)

-- ---- the state after frames of a channel

abbrev pub state_after : List TmView → ChannelState
state_after channel = record { count = last_count channel; held = concat (incomplete_of channel) }

held_one : (packets : List (List ℕ)) → length packets ≤ 1 → AllByRecursion IsShort packets → held_as (concat packets) ≡ packets
held_one [] few short = refl
held_one ([] ∷ packets) few short = absurd (omega (arith, short.0.0))
held_one ((octet ∷ octets) ∷ []) few short = ap (λ l. (octet ∷ l) ∷ []) (append-nil octets)
held_one ((octet ∷ octets) ∷ packet ∷ packets) few short = absurd (omega arith)

pub seen_after : (channel : List TmView) → HasSeen (state_after channel) channel
seen_after channel =
    record { count = refl; held = held_one (incomplete_of channel) (one_is_incomplete channel) (incomplete_is_short channel) }

pub ended_after : (channel : List TmView) (next : TmView) → packets_ended (state_after channel) next ≡ packets_ending channel next
ended_after channel next = sym (one_more_frame (state_after channel) channel next (seen_after channel))

outline_seen : (outline : ChannelOutline) (state : ChannelState) (channel : List TmView) → Outlines outline state → HasSeen state channel → IsOutlineAfter outline channel
outline_seen outline state channel outlines seen =
    record {
      count = outlines.count ∙ seen.count;
      held = subst (λ l. HasOutline l outline.held) (sym (held_octets state.held) ∙ ap concat seen.held) outlines.held;
    }

-- ---- all channels

pub outline_at : (counter : PacketCounter) (views : List TmView) (at vc : ℕ) (past : ChannelOutline) → HasCounted counter views → vc ≤ 7 → at ≡ vc
    → Outlines (slice_index_or counter.channels at past) (state_after (views_on vc views))
outline_at counter views at vc past counted fits same =
    let kept = counted.each vc past (omega arith) in
    subst (λ i. Outlines (slice_index_or counter.channels i past) (state_after (views_on vc views))) (sym same)
    (record { count = kept.count; held = kept.held })

pub counted_more : (counter counter' : PacketCounter) (views : List TmView) (next : TmView) (at : ℕ) (after : ChannelOutline) → HasCounted counter views → length counter.channels ≡ 8
    → next.vc ≤ 7 → at ≡ next.vc → counter'.channels ≡ set counter.channels at after → Outlines after (channel_after (state_after (views_on next.vc views)) next)
    → HasCounted counter' (views ++ next ∷ [])
counted_more counter counter' views next at after counted eight fits same is outlines =
    let channels : counter'.channels ≡ set counter.channels next.vc after = is ∙ ap (λ i. set counter.channels i after) same in
    let channel = views_on next.vc views in
    record {
      each = λ vc past below.
          elim (eqb_tells next.vc vc) [
            | inl (test, this) ↦
                subst (λ c. IsOutlineAfter (slice_index_or counter'.channels c past) (views_on c (views ++ next ∷ []))) this
                (rw (channels, get_or-set_same counter.channels next.vc after past (omega arith), same_seen next.vc views next refl)
                (outline_seen after (channel_after (state_after channel) next) (channel ++ next ∷ []) outlines (seen_more (state_after channel) channel next (seen_after channel))))
            | inr (test, other) ↦
                rw (channels, get_or-set_other counter.channels next.vc vc after past (λ e. other (sym e)), other_seen vc views next other) (counted.each vc past below)
          ];
    }
