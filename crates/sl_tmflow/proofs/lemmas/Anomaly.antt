-- Gaps of a channel, and octets of another packet version in a data field, are reported where they are. The anomalies
-- at the next frame, and the octets that are held, from the state of the channel.
use Rattle.std.proofs.Common.{◌≡◌, ◌≢◌, ℕ, ◌+◌, ◌<◌, ◌%◌, ◌==◌, ◌&&◌, ◌||◌, nat_lt, Bool, true, false, not, if◌then◌else◌, List, [], ◌∷◌, ◌++◌, length, drop, None, Some, refl, sym, ◌∙◌, ap, subst, arith, append_assoc, length-drop, ◌⊎◌, inl, inr, append-nil}
use Rattle.std.specs.List.{AllByRecursion, concat, list_any, flat_map}
use Rattle.std.proofs.lemmas.Bool.Decides.{nat_tests}
use Rattle.std.proofs.lemmas.List.{drop-drop, drop_at}
use Rattle.sl_packet.specs.Packet.{version_of, IsPacket}
use Rattle.sl_packet.specs.Packets.{packets_of, rest_of}
use Rattle.sl_packet.specs.Front.{is_foreign}
use Rattle.sl_packet.proofs.PacketLemmas.{packet_least, version_of-append}
use Rattle.sl_packet.proofs.PacketsLemmas.{each_has_packets}
use Rattle.sl_tmframe.specs.TmFrame.{DataField, Packets, Idle, Opaque, TmView}
use Rattle.sl_tmflow.specs.Anomaly.{EachForeignStartIsTold, EachGapIsTold, EachToldIsAForeignStart, EachToldIsAGap, foreign_of, gap_after, gap_of, broken_off, dropped_of}
use Rattle.sl_tmflow.specs.VirtualChannel.{is_consecutive, views_on}
use Rattle.sl_tmflow.specs.Channel.{foreign_in, ChannelState, held_continuation, octets_dropped, broken_in, channel_after}
use Rattle.sl_tmflow.specs.PacketStart.{packet_offsets, starts_from}
use Rattle.sl_tmflow.proofs.lemmas.Delivery.Channel.{last_count-push, same_seen, seen_more}
use Rattle.sl_tmflow.proofs.lemmas.Places.{some_passes, has_last}
use Rattle.sl_tmflow.proofs.lemmas.Delivery.Start.{each_is_start, is_among}
use Rattle.sl_packet.proofs.FrontLemmas.{foreign_true, not_foreign}
use Rattle.std.proofs.Math.Bool.{or-false}
use Rattle.sl_tmflow.specs.Extractor.{HasSeen, IsIncompleteAround, held_as}
use Rattle.sl_tmflow.specs.Incomplete.{incomplete_of}
use Rattle.sl_tmflow.proofs.lemmas.Incomplete.BrokenOff.{broken_next, lost_in}

-- ---- gaps

pub each_gap_is_told : EachGapIsTold
each_gap_is_told channel next expected gap = grind (arith, last_count-push)

told_gap : (b : Bool) (n expected : ℕ) → (if b then None else Some n) ≡ Some expected → (b ≡ false) × (expected ≡ n)
told_gap b n expected found = grind arith

pub each_told_is_a_gap : EachToldIsAGap
each_told_is_a_gap [] next expected e = absurd (cc)
each_told_is_a_gap (view ∷ later) next expected e =
    let (earlier, last, same) = has_last view later in
    let told = told_gap (is_consecutive last next) ((last.vc_count + 1) % 256) expected
    (ap (λ c. gap_after c next.vc_count) (sym (last_count-push earlier last)) ∙ ap (λ l. gap_of l next) (sym same) ∙ e) in
    record { earlier = earlier; last = last; in_order = same; broken = told.0; value = told.1 }

-- ---- elements that pass a test

any_found : {X : Type 0} (P : X → Type 0) (p : X → Bool) (xs : List X) → AllByRecursion P xs → list_any p xs ≡ true → (x : X) × P x × (p x ≡ true)
any_found P p [] each test = absurd (cc)
any_found P p (x ∷ xs) each test = grind (arith, any_found P p xs each.1)

-- ---- octets of another version

foreign_test : (n version : ℕ) → 0 < n → version ≢ 0 → (nat_lt 0 n && not (version == 0)) ≡ true
foreign_test n version some other = grind (arith, nat_tests)

pub each_foreign_start_is_told : EachForeignStartIsTold
each_foreign_start_is_told field foreign =
    let inside = foreign.is_start.inside in
    let some : 0 < length (drop foreign.start foreign.octets) = omega (arith, length-drop foreign.start foreign.octets) in
    subst (λ f. foreign_of f ≡ true) (sym foreign.carries)
    (some_passes (λ start. is_foreign (drop start foreign.octets)) foreign.start (starts_from foreign.first foreign.octets) (is_among foreign.octets foreign.first foreign.start foreign.is_start)
    (foreign_test (length (drop foreign.start foreign.octets)) (version_of (drop foreign.start foreign.octets)) some foreign.version))

pub each_told_is_a_foreign_start : EachToldIsAForeignStart
each_told_is_a_foreign_start field e = grind (arith, any_found, each_is_start, foreign_true)

-- a packet has version 0
packet_not_foreign : (packet more : List ℕ) → IsPacket packet → is_foreign (packet ++ more) ≡ false
packet_not_foreign packet more is_packet = grind (arith, packet_least, not_foreign, version_of-append)

foreign_offsets : (octets : List ℕ) (offset : ℕ) (packets : List (List ℕ)) (rest : List ℕ) → AllByRecursion IsPacket packets → drop offset octets ≡ concat packets ++ rest
    → list_any (λ start. is_foreign (drop start octets)) (packet_offsets offset packets rest) ≡ is_foreign rest
foreign_offsets octets offset [] [] each parts = refl
foreign_offsets octets offset [] (octet ∷ rest) each parts = or-false (is_foreign (drop offset octets)) ∙ ap is_foreign parts
foreign_offsets octets offset (packet ∷ packets) rest each parts =
    let later : drop offset octets ≡ packet ++ (concat packets ++ rest) = parts ∙ append_assoc packet (concat packets) rest in
    let behind : drop (offset + length packet) octets ≡ concat packets ++ rest =
    sym (drop-drop (length packet) offset octets) ∙ ap (drop (length packet)) later ∙ drop_at packet (concat packets ++ rest) (length packet) refl in
    ap (λ b. b || list_any (λ start. is_foreign (drop start octets)) (packet_offsets (offset + length packet) packets rest))
    (ap is_foreign later ∙ packet_not_foreign packet (concat packets ++ rest) each.0)
    ∙ foreign_offsets octets (offset + length packet) packets rest each.1 behind

-- only the octets after the packets may be of another version
pub foreign_is : (field : DataField) → foreign_of field ≡ foreign_in field
foreign_is (Packets None octets) = refl
foreign_is (Packets (Some pointer) octets) =
    let has = each_has_packets (drop pointer octets) in
    foreign_offsets octets pointer (packets_of (drop pointer octets)) (rest_of (drop pointer octets)) has.each has.end_to_end
foreign_is Idle = refl
foreign_is Opaque = refl

-- ---- from the state of the channel

pub gap_seen : (state : ChannelState) (channel : List TmView) (next : TmView) → HasSeen state channel → gap_of channel next ≡ gap_after state.count next.vc_count
gap_seen state channel next seen = ap (λ c. gap_after c next.vc_count) (sym seen.count)

-- ---- the octets that are held

pub held_octets : (held : List ℕ) → concat (held_as held) ≡ held
held_octets held = grind (arith, append-nil)

pub held_seen : (state : ChannelState) (channel : List TmView) → HasSeen state channel → length state.held ≡ length (concat (incomplete_of channel))
held_seen state channel seen = ap length (sym (held_octets state.held) ∙ ap concat seen.held)

none_held : (held : List ℕ) → held_as held ≡ [] → held ≡ []
none_held held none = grind arith

-- ---- the packet that the next frame breaks off

lost_held : (last next : TmView) (held : List ℕ) → concat (flat_map (lost_in last next) (held_as held)) ≡ octets_dropped (held_continuation (Some last.vc_count) held next) held
lost_held last next held = grind (arith, append-nil)

dropped_after : (state : ChannelState) (before : List TmView) (last next : TmView) → HasSeen state (before ++ last ∷ [])
    → concat (broken_off (before ++ last ∷ []) next) ≡ broken_in state next
dropped_after state before last next seen = grind (arith, broken_next, lost_held, last_count-push)

pub dropped_seen : (state : ChannelState) (channel : List TmView) (next : TmView) → HasSeen state channel → dropped_of channel next ≡ length (broken_in state next)
dropped_seen state [] next seen =
    ap length (sym (ap (λ c. octets_dropped (held_continuation c state.held next) state.held) seen.count ∙ none_held state.held seen.held))
dropped_seen state (view ∷ later) next seen =
    let (before, last, same) = has_last view later in
    ap (λ l. dropped_of l next) same ∙ ap length (dropped_after state before last next (subst (HasSeen state) same seen))

-- ---- where a packet is incomplete

some_held : (held : List ℕ) → held ≢ [] → held_as held ≢ []
some_held held some none = some (none_held held none)

-- a packet is incomplete before or after the next frame, where the channel's state holds octets
pub incomplete_around : (state : ChannelState) (views : List TmView) (next : TmView) → HasSeen state (views_on next.vc views)
    → (state.held ≢ []) ⊎ ((channel_after state next).held ≢ []) → IsIncompleteAround views next
incomplete_around state views next has_seen (inl before) = inl (λ none. some_held state.held before (has_seen.held ∙ none))
incomplete_around state views next has_seen (inr after) =
    let seen = seen_more state (views_on next.vc views) next has_seen in
    inr (λ none. some_held (channel_after state next).held after (seen.held ∙ ap incomplete_of (sym (same_seen next.vc views next refl)) ∙ none))
