-- The state of a channel is the one that its frames lead to, frame by frame.
use Rattle.std.proofs.Common.{◌≡◌, ℕ, ◌<◌, ◌≤◌, Bool, false, List, [], ◌∷◌, ◌++◌, length, set, Option, Some, Result, inl, inr, refl, sym, ◌∙◌, ap, subst, arith, append-nil}
use Rattle.std.proofs.lemmas.Grind.{common_steps}
use Rattle.std.specs.List.{slice_index_or}
use Rattle.std.proofs.lemmas.Bool.Decides.{eqb_tells}
use Rattle.std.proofs.lemmas.List.{get_or_default, get_or-set_same, get_or-set_other}
use Rattle.std.proofs.lemmas.List.Elements.{filter-append}
use Rattle.sl_packet.specs.Front.{Front, front_of}
use Rattle.sl_packet.specs.Stopping.{HandsOver}
use Rattle.sl_packet.specs.declared.flow_fault.FlowFault.{FlowFault}
use Rattle.sl_packet.specs.declared.sink.SinkFault.{SinkFault}
use Rattle.sl_packet.proofs.StoppingLemmas.{hands_same}
use Rattle.sl_tmframe.specs.TmFrame.{TmView, DataField, Packets}
use Rattle.sl_tmflow.specs.VirtualChannel.{views_on, last_count}
use Rattle.sl_tmflow.specs.Channel.{ChannelState, ChannelWithMemory, new_channel, held_continuation, octets_held, held_before_starts, incomplete_in, held_at_field_end, channel_after, packets_ended}
use Rattle.sl_tmflow.specs.Delivery.{Continuation, ended, front_continuation, outcome_of, outcome_of_front, packets_ending}
use Rattle.sl_tmflow.specs.Incomplete.{frame_incomplete, incomplete_octets}
use Rattle.sl_tmflow.specs.Extractor.{ExtractorState, HasSeen, HasProcessed, ended_by, held_as}
use Rattle.sl_tmflow.specs.PacketStart.{whole_packets}
use Rattle.sl_tmflow.specs.StepReport.{StepReport, counts_of}
use Rattle.sl_tmflow.proofs.lemmas.Places.{has_last}
use Rattle.sl_tmflow.proofs.lemmas.Delivery.Start.{at_rest}
use Rattle.sl_tmflow.proofs.lemmas.Incomplete.List.{field_incomplete, incomplete_from_pointer}
use Rattle.sl_tmflow.proofs.lemmas.Delivery.OneMore.{carried, incomplete_first, incomplete_next, ending_first, ending_next}

-- ---- the last frame of a channel

pub last_count-push : (before : List TmView) (last : TmView) → last_count (before ++ last ∷ []) ≡ Some last.vc_count
last_count-push [] last = refl
last_count-push (view ∷ []) last = refl
last_count-push (view ∷ next ∷ before) last = last_count-push (next ∷ before) last

-- ---- the packets that end in the next frame

one_more_after : (state : ChannelState) (before : List TmView) (last next : TmView) → HasSeen state (before ++ last ∷ [])
    → packets_ending (before ++ last ∷ []) next ≡ packets_ended state next
one_more_after state before last next seen = grind (arith, ending_next, last_count-push, append-nil)

pub one_more_frame : (state : ChannelState) (channel : List TmView) (next : TmView) → HasSeen state channel → packets_ending channel next ≡ packets_ended state next
one_more_frame state [] next seen = ending_first next ∙ ap (λ c. ended (held_continuation c state.held next) ++ whole_packets next.field) (sym seen.count)
one_more_frame state (view ∷ later) next seen =
    let w = has_last view later in
    ap (λ l. packets_ending l next) w.2 ∙ one_more_after state w.0 w.1 next (subst (HasSeen state) w.2 seen)

-- ---- the octets that are held

goes_on : (s : Continuation) (octet : ℕ) (octets : List ℕ) → carried s (octet ∷ octets) ++ [] ≡ held_as (octets_held s (octet ∷ octets))
goes_on s octet octets = grind arith

-- where a packet starts, the incomplete one doesn't go on

not_past_start : (pointer before : ℕ) (field all : List ℕ) (f : Front) → octets_held (front_continuation (Some pointer) before field all f) all ≡ []
not_past_start pointer before field all f = grind arith

pub none_kept : (count : Option ℕ) (held : List ℕ) (next : TmView) (pointer : ℕ) (octets : List ℕ) → next.field ≡ Packets (Some pointer) octets
    → held_before_starts (held_continuation count held next) held next ≡ []
none_kept count held next pointer octets is = grind (arith, not_past_start)

-- the packets that start in the frame

rest_held : (view : TmView) (octet : ℕ) (rest : List ℕ) (f : Front) → held_as (incomplete_in f (octet ∷ rest)) ≡ incomplete_octets (outcome_of_front f view (octet ∷ rest) [])
rest_held view octet rest f = grind arith

held_at_rest : (view : TmView) (rest : List ℕ) → held_as (incomplete_in (front_of rest) rest) ≡ at_rest (λ l. incomplete_octets (outcome_of view l [])) rest
held_at_rest view rest = grind (arith, rest_held)

incomplete_in_field : (view : TmView) (field : DataField) (kept : List ℕ) → ((pointer : ℕ) (octets : List ℕ) → field ≡ Packets (Some pointer) octets → kept ≡ [])
    → held_as (held_at_field_end field kept) ≡ held_as kept ++ field_incomplete view [] field
incomplete_in_field view field kept none = grind (arith, held_at_rest, incomplete_from_pointer, append-nil)

held_by_frame : (count : Option ℕ) (held : List ℕ) (next : TmView)
    → held_as (held_at_field_end next.field (held_before_starts (held_continuation count held next) held next))
    ≡ held_as (held_before_starts (held_continuation count held next) held next) ++ frame_incomplete next []
held_by_frame count held next =
    incomplete_in_field next next.field (held_before_starts (held_continuation count held next) held next) (λ pointer octets is. none_kept count held next pointer octets is)

-- ---- one more frame

seen_first : (state : ChannelState) (next : TmView) → HasSeen state [] → HasSeen (channel_after state next) (next ∷ [])
seen_first state next seen = grind (arith, held_by_frame, incomplete_first)

seen_next : (state : ChannelState) (before : List TmView) (last next : TmView) → HasSeen state (before ++ last ∷ [])
    → HasSeen (channel_after state next) ((before ++ last ∷ []) ++ next ∷ [])
seen_next state before last next seen = grind (arith, last_count-push, held_by_frame, incomplete_next, goes_on)

pub seen_more : (state : ChannelState) (channel : List TmView) (next : TmView) → HasSeen state channel → HasSeen (channel_after state next) (channel ++ next ∷ [])
seen_more state [] next seen = seen_first state next seen
seen_more state (view ∷ later) next seen =
    let w = has_last view later in
    subst (λ l. HasSeen (channel_after state next) (l ++ next ∷ [])) (sym w.2) (seen_next state w.0 w.1 next (subst (HasSeen state) w.2 seen))

-- ---- one of the channels

pub same_seen : (vc : ℕ) (views : List TmView) (next : TmView) → next.vc ≡ vc → views_on vc (views ++ next ∷ []) ≡ views_on vc views ++ next ∷ []
same_seen vc views next same = grind (arith, filter-append, eqb_tells)

pub other_seen : (vc : ℕ) (views : List TmView) (next : TmView) → (next.vc ≡ vc → ⊥) → views_on vc (views ++ next ∷ []) ≡ views_on vc views
other_seen vc views next other = grind (arith, filter-append, eqb_tells, append-nil)

-- the state of each channel, where one of them has one more frame
pub each_seen : (states : List ChannelWithMemory) (after : ChannelWithMemory) (views : List TmView) (next : TmView) → next.vc < length states
    → after.state ≡ channel_after (slice_index_or states next.vc new_channel).state next
    → (vc : ℕ) → HasSeen (slice_index_or states vc new_channel).state (views_on vc views)
    → HasSeen (slice_index_or (set states next.vc after) vc new_channel).state (views_on vc (views ++ next ∷ []))
each_seen states after views next inside is vc seen =
    elim (eqb_tells next.vc vc) [
      | inl (test, same) ↦
          subst (λ c. HasSeen (slice_index_or (set states next.vc after) c new_channel).state (views_on c (views ++ next ∷ []))) same
          (rw (get_or-set_same states next.vc after new_channel inside, is, same_seen next.vc views next refl)
          (seen_more (slice_index_or states next.vc new_channel).state (views_on next.vc views) next
          (subst (λ c. HasSeen (slice_index_or states c new_channel).state (views_on c views)) (sym same) seen)))
      | inr (test, other) ↦
          rw (get_or-set_other states next.vc vc after new_channel (λ e. other (sym e)), other_seen vc views next other) seen
    ]

-- ---- all channels

-- the state of the channel with this number
pub seen_at : (old : ExtractorState) (views : List TmView) (states : List ChannelWithMemory) (at vc : ℕ) (d : ChannelWithMemory) → HasProcessed old views → states ≡ old.channels
    → length states ≡ 8 → vc ≤ 7 → at ≡ vc → HasSeen (slice_index_or states at d).state (views_on vc views)
seen_at old views states at vc d processed are eight fits same = grind (arith, get_or_default)

module _ (old : ExtractorState) (views : List TmView) (next : TmView) (states : List ChannelWithMemory) (at : ℕ) (d : ChannelWithMemory) where
  pub ended_now : HasProcessed old views → states ≡ old.channels → length states ≡ 8 → next.vc ≤ 7 → at ≡ next.vc
      → ended_by views next ≡ packets_ended (slice_index_or states at d).state next
  ended_now processed are eight fits same = grind (arith, common_steps, one_more_frame, seen_at)

  -- a step that hands over the packets of the state hands over those that end in the frame
  pub handed_now : {S : Type 0} {taking : S → ℕ → List ℕ → S → Type 0} {failing : S → ℕ → List ℕ → SinkFault → S → Type 0} {failures : S → ℕ}
      {sink sink' : S} {channel : ℕ} {result : Result StepReport FlowFault} → states ≡ old.channels → length states ≡ 8 → next.vc ≤ 7 → at ≡ next.vc
      → HandsOver taking failing failures counts_of sink channel (packets_ended (slice_index_or states at d).state next) result sink'
      → HasProcessed old views → HandsOver taking failing failures counts_of sink channel (ended_by views next) result sink'
  handed_now are eight fits same handed processed = hands_same refl (sym (ended_now processed are eight fits same)) handed

  pub processed_more : (after : ChannelWithMemory) → HasProcessed old views → states ≡ old.channels → length states ≡ 8 → next.vc ≤ 7 → at ≡ next.vc
      → after.state ≡ channel_after (slice_index_or states at d).state next
      → (failed : Bool) → failed ≡ false
      → HasProcessed (record { channels = set states at after; has_failed = failed }) (views ++ next ∷ [])
  processed_more after processed are eight fits same by failed working =
      let inside : next.vc < length states = omega arith in
      let now : after.state ≡ channel_after (slice_index_or states next.vc new_channel).state next =
      by ∙ ap (λ i. channel_after (slice_index_or states i d).state next) same
      ∙ ap (λ (s : ChannelWithMemory). channel_after s.state next) (get_or_default states next.vc d new_channel inside) in
      record {
        working = working;
        each = λ vc below.
            let seen : HasSeen (slice_index_or states vc new_channel).state (views_on vc views) =
            subst (λ l. HasSeen (slice_index_or l vc new_channel).state (views_on vc views)) (sym are) (processed.each vc below) in
            rw (same) (each_seen states after views next inside now vc seen);
      }
