-- Packets that an extractor or a receiver hands to a store, frame by frame: the lists of the store, and what is still to
-- come; and why it stops.
use Rattle.std.proofs.Common.{◌≡◌, ◌≢◌, ◌⊎◌, ℕ, ◌<◌, ◌≤◌, ◌==◌, if◌then◌else◌, List, [], ◌∷◌, ◌++◌, length, inl, inr, refl, sym, ◌∙◌, ap, arith, append_assoc, append-nil, length-append}
use Rattle.std.specs.List.{slice_index_or}
use Rattle.std.proofs.lemmas.Bool.Decides.{eqb_tells}
use Rattle.std.proofs.lemmas.List.{length-set, get_or-set_same, get_or-set_other}
use Rattle.sl_packet.specs.Delivered.{AddsPacket, PacketLists, channel_count, empty_lists}
use Rattle.sl_packet.specs.Stopping.{IsStopped}
use Rattle.sl_packet.specs.declared.flow_fault.FlowFault.{FlowFault}
use Rattle.sl_packet.specs.declared.flow_fault.FlowFault.TheVariants.{Failed, Memory, Sink}
use Rattle.sl_packet.specs.declared.sink.SinkFault.{SinkFault}
use Rattle.sl_packet.specs.declared.sink.SinkFault.TheVariants as sink
use Rattle.sl_packet.specs.Packets.{without_idle}
use Rattle.sl_packet.specs.Sink.{TakesAll}
use Rattle.sl_packet.proofs.DeliveredLemmas.{length-empty_lists, list_at-empty_lists}
use Rattle.sl_tcframe.specs.TcFrame.{TcView}
use Rattle.sl_tcflow.specs.Receiver as tc
use Rattle.sl_tcflow.specs.ReceptionParameters.{ReceptionParameters, is_plain}
use Rattle.sl_tcflow.proofs.lemmas.Reception.Channel.{small_map}
use Rattle.sl_tmframe.specs.TmFrame.{TmView}
use Rattle.sl_tmflow.specs.Extractor as tm
use Rattle.sl_callers.specs.Frames.{HoldsAtOne}

abbrev list_of : List (List (List ℕ)) → ℕ → List (List ℕ)
list_of lists channel = slice_index_or lists channel []

-- packets were added to the list of one channel
record IsExtended (old new : List (List (List ℕ))) (channel : ℕ) (packets : List (List ℕ)) : Type 0 where
  size : length new ≡ length old
  own : list_of new channel ≡ list_of old channel ++ packets
  other : (vc : ℕ) → vc ≢ channel → list_of new vc ≡ list_of old vc

extends : (packets : List (List ℕ)) (old new : PacketLists) (channel : ℕ) → channel < length old.lists
    → TakesAll AddsPacket old channel packets new → IsExtended old.lists new.lists channel packets
extends [] old new channel inside same =
    let is = ap (λ (d : PacketLists). d.lists) same in
    record {
      size = ap length is;
      own = ap (λ l. list_of l channel) is ∙ sym (append-nil (list_of old.lists channel));
      other = λ vc apart. ap (λ l. list_of l vc) is;
    }
extends (packet ∷ packets) old new channel inside t =
    let mid = t.0 in
    let before = list_of old.lists channel in
    let one = before ++ packet ∷ [] in
    let size : length mid.lists ≡ length old.lists = ap length t.1 ∙ length-set old.lists channel one in
    let rest = extends packets mid new channel (omega (arith, size, inside)) t.2 in
    record {
      size = rest.size ∙ size;
      own = rest.own ∙ ap (λ l. list_of l channel ++ packets) t.1
          ∙ ap (λ l. l ++ packets) (get_or-set_same old.lists channel one [] inside) ∙ append_assoc before (packet ∷ []) packets;
      other = λ vc apart. rest.other vc apart ∙ ap (λ l. list_of l vc) t.1 ∙ get_or-set_other old.lists channel vc one [] apart;
    }

-- ---- frames of a kind, and the packets that are handed over for a channel after some frames, out of frames that come next

module _ {View : Type 0} (channel_of : View → ℕ) (ended : List View → View → List (List ℕ)) (handed : ℕ → List View → List View → List (List ℕ)) where
  -- each frame hands over the packets that end in it, on its channel
  pub record HandsEachOver : Type 0 where
    pub none : (channel : ℕ) (views : List View) → handed channel views [] ≡ []
    pub next : (channel : ℕ) (views later : List View) (view : View) → handed channel views (view ∷ later)
        ≡ (if channel_of view == channel then without_idle (ended views view) else []) ++ handed channel (views ++ view ∷ []) later

  module _ {State : Type 0} (has_processed : State → List View → Type 0) where
    -- some of the frames were processed, and the lists have the packets that were handed over
    pub record IsHanding (all left : List View) (state : State) (lists : List (List (List ℕ))) : Type 0 where
      pub seen : List View
      pub processed : has_processed state seen
      pub in_order : seen ++ left ≡ all
      pub size : length lists ≡ channel_count
      pub each : (channel : ℕ) → list_of lists channel ++ handed channel seen left ≡ handed channel [] all

    pub none_handed : (all : List View) (state : State) (lists : List (List (List ℕ))) → has_processed state [] → lists ≡ empty_lists → IsHanding all all state lists
    none_handed all state lists processed none =
        record {
          seen = [];
          processed = processed;
          in_order = refl;
          size = ap length none ∙ length-empty_lists;
          each = λ channel. ap (λ l. list_of l channel ++ handed channel [] all) none ∙ ap (λ l. l ++ handed channel [] all) (list_at-empty_lists channel);
        }

    pub hands_next : HandsEachOver → (all left later : List View) (view : View) (state state' : State) (old new : PacketLists) → left ≡ view ∷ later → channel_of view < channel_count
        → ((views : List View) → has_processed state views → has_processed state' (views ++ view ∷ []))
        → ((views : List View) → has_processed state views → TakesAll AddsPacket old (channel_of view) (without_idle (ended views view)) new)
        → IsHanding all left state old.lists → IsHanding all later state' new.lists
    hands_next hands all left later view state state' old new is few processed taken h =
        let own = channel_of view in
        let packets = without_idle (ended h.seen view) in
        let after = λ (channel : ℕ). handed channel (h.seen ++ view ∷ []) later in
        let t = extends packets old new own (omega (arith, h.size, few)) (taken h.seen h.processed) in
        let next = λ (channel : ℕ).
        ap (λ l. list_of old.lists channel ++ l) (sym (hands.next channel h.seen later view))
        ∙ ap (λ l. list_of old.lists channel ++ handed channel h.seen l) (sym is) ∙ h.each channel in
        record {
          seen = h.seen ++ view ∷ [];
          processed = processed h.seen h.processed;
          in_order = append_assoc h.seen (view ∷ []) later ∙ ap (λ l. h.seen ++ l) (sym is) ∙ h.in_order;
          size = t.size ∙ h.size;
          each = λ channel.
              elim (eqb_tells own channel) [
                | inl (same, e) ↦
                    ap (λ c. list_of new.lists c ++ after channel) (sym e) ∙ ap (λ l. l ++ after channel) t.own ∙ append_assoc (list_of old.lists own) packets (after channel)
                    ∙ ap (λ c. list_of old.lists c ++ (packets ++ after channel)) e
                    ∙ ap (λ b. list_of old.lists channel ++ ((if b then packets else []) ++ after channel)) (sym same) ∙ next channel
                | inr (same, apart) ↦
                    ap (λ l. l ++ after channel) (t.other channel (λ e. apart (sym e)))
                    ∙ ap (λ b. list_of old.lists channel ++ ((if b then packets else []) ++ after channel)) (sym same) ∙ next channel
              ];
        }

    -- the next frame is one of those that were given
    pub holds_next : {holds : List View → View → Type 0} (all left later : List View) (view : View) (state : State) (lists : List (List (List ℕ))) → left ≡ view ∷ later
        → (h : IsHanding all left state lists) → holds h.seen view → HoldsAtOne holds all
    holds_next all left later view state lists is h at =
        record { before = h.seen; frame = view; later = later; in_order = sym h.in_order ∙ ap (λ l. h.seen ++ l) is; at_frame = at }

    pub all_handed : HandsEachOver → (all left : List View) (state : State) (lists : List (List (List ℕ))) → left ≡ [] → IsHanding all left state lists
        → (channel : ℕ) → list_of lists channel ≡ handed channel [] all
    all_handed hands all left state lists none h channel =
        sym (append-nil (list_of lists channel)) ∙ ap (λ l. list_of lists channel ++ l) (sym (hands.none channel h.seen))
        ∙ ap (λ l. list_of lists channel ++ handed channel h.seen l) (sym none) ∙ h.each channel

-- ---- why it stops

-- a store refuses a packet for want of memory alone
abbrev RefusesForMemory : PacketLists → ℕ → List ℕ → SinkFault → PacketLists → Type 0
RefusesForMemory old channel packet fault new = (fault ≡ sink.Memory) × (new.lists ≡ old.lists)

-- so who hands packets to a store stops for want of memory alone
pub stopped_for_memory : (old new : PacketLists) (channel : ℕ) (packets : List (List ℕ)) (flow : FlowFault)
    → IsStopped AddsPacket RefusesForMemory (λ (d : PacketLists). d.failures) old channel packets flow new → (flow ≡ Memory) ⊎ (flow ≡ Sink sink.Memory)
stopped_for_memory old new channel packets Memory stopped = inl refl
stopped_for_memory old new channel packets (Sink fault) stopped = inr (ap Sink stopped.0.fails.0)
stopped_for_memory old new channel packets Failed stopped = elim stopped [ ]

-- and where the store refused one, there was a packet to hand over
pub stopped_with_packet : (old new : PacketLists) (channel : ℕ) (packets : List (List ℕ)) (flow : FlowFault) → flow ≡ Sink sink.Memory
    → IsStopped AddsPacket RefusesForMemory (λ (d : PacketLists). d.failures) old channel packets flow new → packets ≢ []
stopped_with_packet old new channel packets flow is stopped none =
    let s = (rw is at stopped).0 in
    let empty : s.accepted ++ s.refused ∷ s.later ≡ [] = sym s.in_order ∙ none in
    absurd (omega (arith, ap length empty, length-append s.accepted (s.refused ∷ s.later)))

-- ---- an extractor, and a receiver under parameters `r`

abbrev pub IsHandingTm : List TmView → List TmView → tm.ExtractorState → List (List (List ℕ)) → Type 0
IsHandingTm = IsHanding (λ (view : TmView). view.vc) tm.ended_by tm.handed_over tm.HasProcessed

pub tm_hands_over : HandsEachOver (λ (view : TmView). view.vc) tm.ended_by tm.handed_over
tm_hands_over = record { none = λ channel views. refl; next = λ channel views later view. refl }

abbrev pub parameters : ℕ → List ℕ → List ℕ → ReceptionParameters
parameters window starts plain = record { window = window; starts = starts; plain = plain }

module _ (r : ReceptionParameters) where
  abbrev pub IsHandingTc : List TcView → List TcView → tc.ReceiverState → List (List (List ℕ)) → Type 0
  IsHandingTc = IsHanding (tc.unit_channel r) (tc.ended_by r) (tc.handed_over r) (tc.HasProcessed r)

  pub tc_hands_over : HandsEachOver (tc.unit_channel r) (tc.ended_by r) (tc.handed_over r)
  tc_hands_over = record { none = λ channel views. refl; next = λ channel views later view. refl }

  pub unit_channel_inside : (view : TcView) → view.vc ≤ 63 → tc.unit_channel r view < channel_count
  unit_channel_inside view few = omega (arith, few, small_map (is_plain r view.vc) view.content)
