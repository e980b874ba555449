-- The outcome of a packet start is a delivery exactly where a packet is delivered from the start.
use Rattle.std.proofs.Common.{◌≡◌, ◌≢◌, ◌⊎◌, ℕ, ◌+◌, ◌<◌, ◌≤◌, true, List, [], ◌∷◌, ◌++◌, length, take, drop, map, Option, inl, inr, refl, sym, ◌∙◌, ap, arith, length-append, append-nil, append_assoc}
use Rattle.std.specs.List.{AllByRecursion, concat}
use Rattle.std.proofs.lemmas.Bool.{cases_lt}
use Rattle.std.proofs.lemmas.List.{take-append-drop, same_from_push, take_at, length_push}
use Rattle.sl_packet.specs.Packet.{IsPacket}
use Rattle.sl_packet.specs.Front.{Front, OtherVersion, Incomplete, WholePacket, front_of}
use Rattle.sl_packet.proofs.FrontLemmas.{whole_is_a_packet, packet_is_whole}
use Rattle.sl_tmframe.specs.TmFrame.{TmView, DataField, Packets, Idle, Opaque}
use Rattle.sl_tmflow.specs.VirtualChannel.{is_consecutive, packet_data, data_of, reassembly}
use Rattle.sl_tmflow.specs.Delivery.{agreeing_pointer, IsDeliveredBy, Outcome, Completes, Continuation, Ends, Continues, continuation_of, outcome_of_continuation, outcome_after, outcome_of_front, outcome_of}
use Rattle.sl_tmflow.specs.Incomplete.{HasNoStart}
use Rattle.sl_fields.proofs.ListLemmas.{each-among, each-append}
use Rattle.sl_tmflow.proofs.lemmas.Places.{some_element, has_last, cases_last}
use Rattle.sl_tmflow.proofs.lemmas.Delivery.Step.{EndsIn, GoesOnPast, step_ends, ends_step, step_continues, continues_step, agreeing_none, prefix_of_first, incomplete_before_end, incomplete_is_no_packet}
use Rattle.sl_tmflow.proofs.lemmas.Incomplete.After.{IsIncompleteAfter, reassembly-append, reassembly-cons, reassembly-push, is_incomplete_at_start, is_incomplete_one_more, consecutive_to_last}

-- ---- an incomplete packet that ends in the next frame

-- octets that begin a packet that isn't there whole are fewer than the packet has
shorter_than_packet : (octets more packet rest : List ℕ) → IsPacket packet → octets ++ more ≡ packet ++ rest → front_of octets ≡ Incomplete → length octets < length packet
shorter_than_packet octets more packet rest is_packet same incomplete = grind (arith, cases_lt, incomplete_is_no_packet, prefix_of_first)

same_content : (a b : Option ℕ) (xs ys : List ℕ) → Packets a xs ≡ Packets b ys → (a ≡ b) × (xs ≡ ys)
same_content a b xs ys same = (cc, cc)

-- the pointer in the last frame
agreed_last : (octets : List ℕ) (next : TmView) (packet : List ℕ) (start : List ℕ) (run earlier : List TmView) (first : Option ℕ) (field : List ℕ)
    → EndsIn octets next.field packet → octets ≡ reassembly start run → run ≡ earlier → next.field ≡ Packets first field
    → first ≡ agreeing_pointer (length packet) (length (reassembly start earlier)) field
agreed_last octets next packet start run earlier first field ending came same is = grind (arith, same_content)

-- the pointer in an earlier frame
agreed_earlier : (packet start : List ℕ) (run earlier : List TmView) (next : TmView) (later : List TmView) (first : Option ℕ) (field : List ℕ)
    → length (reassembly start run) < length packet → AllByRecursion HasNoStart run → run ≡ earlier ++ next ∷ later → next.field ≡ Packets first field
    → first ≡ agreeing_pointer (length packet) (length (reassembly start earlier)) field
agreed_earlier packet start run earlier next later first field short none same is = grind (arith, each-among, agreeing_none, reassembly-append, length-append)

pub ends_delivered : (view : TmView) (start : List ℕ) (run : List TmView) (last : TmView) (octets : List ℕ) (next : TmView) (packet : List ℕ)
    → IsIncompleteAfter view start run last octets → is_consecutive last next ≡ true → EndsIn octets next.field packet
    → IsDeliveredBy view start (run ++ next ∷ []) packet
ends_delivered view start run last octets next packet held test ending =
    let carried : packet_data next ≡ ending.carried = ap data_of ending.is_packets in
    let all : reassembly start (run ++ next ∷ []) ≡ octets ++ ending.carried =
    reassembly-push start run next ∙ ap (λ l. l ++ packet_data next) (sym held.came) ∙ ap (λ l. octets ++ l) carried in
    let short : length octets < length packet = shorter_than_packet octets ending.carried packet ending.ends.0 ending.is_packet (sym ending.ends.1) held.incomplete in
    let short_run : length (reassembly start run) < length packet = rw (← held.came) short in
    record {
      is_packet = ending.is_packet;
      ends = (ending.ends.0, ending.ends.1 ∙ sym all);
      not_earlier = λ earlier last' same prefix.
          let run_is : run ≡ earlier = (same_from_push run earlier next last' same).0 in
          incomplete_is_no_packet octets packet ending.is_packet held.incomplete (prefix.0, prefix.1 ∙ ap (reassembly start) (sym run_is) ∙ sym held.came);
      consecutive = consecutive_to_last view start run last octets next held test;
      none_opaque = each-append (λ v. v.field ≢ Opaque) run (next ∷ []) held.none_opaque ((λ opaque. let both : Packets ending.first ending.carried ≡ Opaque = sym ending.is_packets ∙ opaque in cc), tt);
      agreed = λ earlier next' later first field same is.
          elim (cases_last run next earlier next' later same) [
            | inl here ↦ agreed_last octets next packet start run earlier first field ending held.came here.0 (ap (λ v. v.field) here.1 ∙ is)
            | inr there ↦ agreed_earlier packet start run earlier next' there.0 first field short_run held.no_start there.1 is
          ];
    }

-- ---- from the outcome to the relation

-- the packet is delivered at the end of the first `passed` of these frames
pub record IsDeliveredWithin (view : TmView) (octets : List ℕ) (later : List TmView) (packet : List ℕ) (passed : ℕ) : Type 0 where
  pub run : List TmView
  pub after : List TmView
  pub in_order : later ≡ run ++ after
  pub passed_is : passed ≡ length run
  pub delivered : IsDeliveredBy view octets run packet

-- a step to a delivery: the packet ends here, or it goes on and ends later
pub delivered_step : (s : Continuation) (passed : ℕ) (rest : Outcome) (packet : List ℕ) (n : ℕ) → outcome_of_continuation s passed rest ≡ Completes packet n
    → ((s ≡ Ends packet) × (passed ≡ n)) ⊎ ((s ≡ Continues) × (rest ≡ Completes packet n))
delivered_step s passed rest packet n completes = grind arith

pub delivered_after : (first : TmView) (start : List ℕ) (run : List TmView) (passed : ℕ) (view : TmView) (octets : List ℕ) (later : List TmView) (packet : List ℕ) (n : ℕ)
    → IsIncompleteAfter first start run view octets → passed ≡ length run → outcome_after passed view octets later ≡ Completes packet n
    → IsDeliveredWithin first start (run ++ later) packet n
delivered_after first start run passed view octets [] packet n held counted completes = absurd (cc)
delivered_after first start run passed view octets (next ∷ later) packet n held counted completes =
    let rest = outcome_after (passed + 1) next (octets ++ packet_data next) later in
    let one_more : passed + 1 ≡ length (run ++ next ∷ []) = omega (arith, length_push run next) in
    elim (delivered_step (continuation_of view octets next) (passed + 1) rest packet n completes) [
      | inl here ↦
          let (consecutive, ending) = step_ends view octets next packet here.0 in
          record {
            run = run ++ next ∷ [];
            after = later;
            in_order = sym (append_assoc run (next ∷ []) later);
            passed_is = sym here.1 ∙ one_more;
            delivered = ends_delivered first start run view octets next packet held consecutive ending;
          }
      | inr there ↦
          let (consecutive, past) = step_continues view octets next held.incomplete there.0 in
          let now = is_incomplete_one_more first start run view octets next held consecutive past in
          rw (← append_assoc run (next ∷ []) later)
          (delivered_after first start (run ++ next ∷ []) (passed + 1) next (octets ++ packet_data next) later packet n now one_more there.1)
    ]

whole_delivered : (view : TmView) (octets : List ℕ) (len : ℕ) → front_of octets ≡ WholePacket len → IsDeliveredBy view octets [] (take len octets)
whole_delivered view octets len whole =
    record {
      is_packet = (whole_is_a_packet octets len whole).0;
      ends = (drop len octets, take-append-drop len octets ∙ sym (append-nil octets));
      not_earlier = λ earlier last same prefix. some_element earlier last [] same;
      consecutive = tt;
      none_opaque = tt;
      agreed = λ earlier next later first field same is. absurd (some_element earlier next later same);
    }

same_outcome : (p q : List ℕ) (m n : ℕ) → Completes p m ≡ Completes q n → (p ≡ q) × (m ≡ n)
same_outcome p q m n same = (cc, cc)

pub outcome_delivered : (view : TmView) (octets : List ℕ) (later : List TmView) (packet : List ℕ) (n : ℕ) → outcome_of view octets later ≡ Completes packet n
    → IsDeliveredWithin view octets later packet n
outcome_delivered view octets later packet n completes = cases (front_of octets) refl completes
  where
    cases : (f : Front) → front_of octets ≡ f → outcome_of_front f view octets later ≡ Completes packet n → IsDeliveredWithin view octets later packet n
    cases OtherVersion is outcome = absurd (cc)
    cases Incomplete is outcome = delivered_after view octets [] 0 view octets later packet n (is_incomplete_at_start view octets is) refl outcome
    cases (WholePacket len) is outcome =
        let same = same_outcome (take len octets) packet 0 n outcome in
        record { run = []; after = later; in_order = refl; passed_is = sym same.1; delivered = rw (← same.0) (whole_delivered view octets len is) }

-- ---- from the relation to the outcome

-- the delivery seen from the next frame
pub delivered_tail : (view : TmView) (octets : List ℕ) (next : TmView) (run : List TmView) (packet : List ℕ) → IsDeliveredBy view octets (next ∷ run) packet
    → IsDeliveredBy next (octets ++ packet_data next) run packet
delivered_tail view octets next run packet delivered =
    record {
      is_packet = delivered.is_packet;
      ends = (delivered.ends.0, delivered.ends.1 ∙ reassembly-cons octets next run);
      not_earlier = λ earlier last same prefix.
          delivered.not_earlier (next ∷ earlier) last (ap (λ l. next ∷ l) same) (prefix.0, prefix.1 ∙ sym (reassembly-cons octets next earlier));
      consecutive = delivered.consecutive.1;
      none_opaque = delivered.none_opaque.1;
      agreed = λ earlier view' later first field same is.
          delivered.agreed (next ∷ earlier) view' later first field (ap (λ l. next ∷ l) same) is
          ∙ ap (λ l. agreeing_pointer (length packet) (length l) field) (reassembly-cons octets next earlier);
    }

-- where a packet takes another frame, it is longer than the octets before
pub longer_than_before : (view : TmView) (octets : List ℕ) (next : TmView) (run : List TmView) (packet : List ℕ) → IsDeliveredBy view octets (next ∷ run) packet
    → length octets < length packet
longer_than_before view octets next run packet delivered =
    elim (cases_lt (length octets) (length packet)) [
      | inl short ↦ short
      | inr long ↦
          let (earlier, last, same) = has_last next run in
          let (more, split) = prefix_of_first octets (concat (map packet_data (next ∷ run))) packet delivered.ends.0 (sym delivered.ends.1) long in
          absurd (delivered.not_earlier earlier last same (
            more ++ concat (map packet_data earlier),
            sym (append_assoc packet more (concat (map packet_data earlier))) ∙ ap (λ l. l ++ concat (map packet_data earlier)) split,
          ))
    ]

-- where a packet takes another frame, it isn't whole before
pub incomplete_before_more : (view : TmView) (octets : List ℕ) (next : TmView) (run : List TmView) (packet : List ℕ) → IsDeliveredBy view octets (next ∷ run) packet
    → front_of octets ≡ Incomplete
incomplete_before_more view octets next run packet delivered = grind (arith, incomplete_before_end, longer_than_before)

agreed_first : (view : TmView) (octets : List ℕ) (next : TmView) (run : List TmView) (packet : List ℕ) (first : Option ℕ) (field : List ℕ)
    → IsDeliveredBy view octets (next ∷ run) packet → next.field ≡ Packets first field → first ≡ agreeing_pointer (length packet) (length octets) field
agreed_first view octets next run packet first field delivered is =
    delivered.agreed [] next run first field refl is ∙ ap (λ l. agreeing_pointer (length packet) (length l) field) (append-nil octets)

-- the last frame of a run ends the packet
delivered_ends : (view : TmView) (octets : List ℕ) (next : TmView) (packet : List ℕ) → IsDeliveredBy view octets (next ∷ []) packet → EndsIn octets next.field packet
delivered_ends view octets next packet delivered = cases next.field refl
  where
    no_more : packet_data next ≡ [] → ⊥
    no_more none = delivered.not_earlier [] next refl (delivered.ends.0, delivered.ends.1 ∙ ap (λ l. octets ++ (l ++ [])) none)

    cases : (f : DataField) → next.field ≡ f → EndsIn octets f packet
    cases (Packets first field) is =
        record {
          first = first;
          carried = field;
          is_packets = refl;
          is_packet = delivered.is_packet;
          ends = (delivered.ends.0, delivered.ends.1 ∙ ap (λ l. octets ++ l) (append-nil (packet_data next)) ∙ ap (λ f. octets ++ data_of f) is);
          agrees = agreed_first view octets next [] packet first field delivered is;
        }
    cases Idle is = absurd (no_more (ap data_of is))
    cases Opaque is = absurd (delivered.none_opaque.0 is)

-- each other frame of a run continues the packet
pub delivered_goes_on : (view : TmView) (octets : List ℕ) (next second : TmView) (run : List TmView) (packet : List ℕ) → IsDeliveredBy view octets (next ∷ second ∷ run) packet
    → GoesOnPast octets next.field
delivered_goes_on view octets next second run packet delivered =
    let rest = delivered_tail view octets next (second ∷ run) packet delivered in
    let longer : length (octets ++ packet_data next) < length packet = longer_than_before next (octets ++ packet_data next) second run packet rest in
    record {
      is_read = delivered.none_opaque.0;
      no_start = λ first field is.
          let carried : length (packet_data next) ≡ length field = ap (λ f. length (data_of f)) is in
          let covered : length octets + length field ≤ length packet = omega (arith, length-append octets (packet_data next)) in
          agreed_first view octets next (second ∷ run) packet first field delivered is ∙ agreeing_none (length packet) (length octets) field covered;
      incomplete = incomplete_before_more next (octets ++ packet_data next) second run packet rest;
    }

pub delivered_outcome_after : (passed : ℕ) (view : TmView) (octets : List ℕ) (next : TmView) (run after : List TmView) (packet : List ℕ)
    → IsDeliveredBy view octets (next ∷ run) packet → outcome_after passed view octets (next ∷ run ++ after) ≡ Completes packet (passed + length (next ∷ run))
delivered_outcome_after passed view octets next [] after packet delivered =
    ap (λ s. outcome_of_continuation s (passed + 1) (outcome_after (passed + 1) next (octets ++ packet_data next) after))
    (ends_step view octets next packet delivered.consecutive.0 (delivered_ends view octets next packet delivered))
delivered_outcome_after passed view octets next (second ∷ run) after packet delivered =
    let counted : passed + 1 + length (second ∷ run) ≡ passed + length (next ∷ second ∷ run) = omega arith in
    ap (λ s. outcome_of_continuation s (passed + 1) (outcome_after (passed + 1) next (octets ++ packet_data next) (second ∷ run ++ after)))
    (continues_step view octets next delivered.consecutive.0 (delivered_goes_on view octets next second run packet delivered))
    ∙ delivered_outcome_after (passed + 1) next (octets ++ packet_data next) second run after packet (delivered_tail view octets next (second ∷ run) packet delivered)
    ∙ ap (Completes packet) counted

pub delivered_outcome : (view : TmView) (octets : List ℕ) (run after : List TmView) (packet : List ℕ) → IsDeliveredBy view octets run packet
    → outcome_of view octets (run ++ after) ≡ Completes packet (length run)
delivered_outcome view octets [] after packet delivered =
    let all : octets ≡ packet ++ delivered.ends.0 = sym (delivered.ends.1 ∙ append-nil octets) in
    ap (λ f. outcome_of_front f view octets after) (ap front_of all ∙ packet_is_whole packet delivered.ends.0 delivered.is_packet)
    ∙ ap (λ l. Completes (take (length packet) l) 0) all ∙ ap (λ l. Completes l 0) (take_at packet delivered.ends.0 (length packet) refl)
delivered_outcome view octets (next ∷ run) after packet delivered =
    ap (λ f. outcome_of_front f view octets (next ∷ run ++ after)) (incomplete_before_more view octets next run packet delivered)
    ∙ delivered_outcome_after 0 view octets next run after packet delivered ∙ ap (Completes packet) (let e : 0 + length (next ∷ run) ≡ length (next ∷ run) = omega arith in e)
