-- What frames deliver is delivered by the frames that they are within.
use Rattle.std.proofs.Common.{◌≡◌, ℕ, ◌+◌, false, List, [], ◌∷◌, ◌++◌, drop, Option, None, Some, inl, inr, refl, sym, ◌∙◌, ap, ap₂, subst, arith, if◌then◌else◌, length, length-append, append_assoc, ◌%◌, ◌<◌}
use Rattle.std.specs.List.{AllByRecursion, filter, flat_map}
use Rattle.std.proofs.lemmas.List.{length_push}
use Rattle.sl_packet.specs.Front.{Front, OtherVersion, Incomplete, WholePacket, front_of}
use Rattle.sl_packet.specs.Packet.{is_idle_packet}
use Rattle.sl_packet.specs.Packets.{without_idle}
use Rattle.std.specs.Prelude.{⊤, ◌⊎◌, Bool, true, ◌≤◌, not}
use Rattle.sl_tmframe.specs.TmFrame.{TmView}
use Rattle.sl_tmflow.specs.Delivery.{Delivery, Outcome, Completes, StillIncomplete, Undelivered, Continuation, Ends, Continues, Breaks, continuation_of, outcome_of_continuation, outcome_after, outcome_of_front, outcome_of, delivery_of, frame_deliveries, deliveries_from, deliveries_of, packets_delivered}
use Rattle.sl_tmflow.specs.Loss.{FewAreLost, HasNoGap, HasNumber, HaveNumbers, RiseFrom, keeps_run, recorded_channel, recorded_packets}
use Rattle.sl_tmflow.specs.Merge.{AreWithin, BestBreaksNoRun, BestIsExact, CountsTellNumbers, frames_later, numbers_after, IsAfterLoss, NoneIsLost, RecordedAreDelivered, WithinIsTransitive}
use Rattle.sl_tmflow.specs.PacketStart.{starts_of}
use Rattle.sl_tmflow.specs.Recording.{packets_of_channel, recorded_views}
use Rattle.sl_packet.specs.Sublist.{IsSublist}
use Rattle.sl_tmflow.specs.VirtualChannel.{AreConsecutive, follows, packet_data}
use Rattle.sl_tmflow.proofs.lemmas.Delivery.End.{longer_begins}
use Rattle.sl_tmflow.proofs.lemmas.Loss.KeptFrames.{count_later, no_gap_at, none_between}
use Rattle.sl_tmflow.proofs.lemmas.Places.{same_place}
use Rattle.sl_tmflow.specs.Among.{IsAmong}
use Rattle.sl_tmflow.proofs.lemmas.Loss.Kept.{recorded_are_kept, recorded_on, sublist_filter, test_tells_run}

-- ---- sublists

module _ {X : Type 0} where
  sublist_after : (zs xs ys : List X) → IsSublist xs ys → IsSublist xs (zs ++ ys)
  sublist_after [] xs ys within = within
  sublist_after (z ∷ zs) [] ys within = tt
  sublist_after (z ∷ zs) (x ∷ xs) ys within = inr (sublist_after zs (x ∷ xs) ys within)

  sublist-append : (xs ys xs' ys' : List X) → IsSublist xs ys → IsSublist xs' ys' → IsSublist (xs ++ xs') (ys ++ ys')
  sublist-append [] ys xs' ys' within later = sublist_after ys xs' ys' later
  sublist-append (x ∷ xs) [] xs' ys' within later = absurd within
  sublist-append (x ∷ xs) (y ∷ ys) xs' ys' (inl here) later = inl (here.0, sublist-append xs ys xs' ys' here.1 later)
  sublist-append (x ∷ xs) (y ∷ ys) xs' ys' (inr there) later = inr (sublist-append (x ∷ xs) ys xs' ys' there later)

-- ---- the outcome of a packet start

-- where the outcome of a packet is a delivery, so is the other outcome: the same one
abbrev IsKeptOutcome : Outcome → Outcome → Type 0
IsKeptOutcome outcome other = (packet : List ℕ) (passed : ℕ) → outcome ≡ Completes packet passed → other ≡ Completes packet passed

-- a frame after a loss breaks an incomplete packet off
after_loss_breaks : (view : TmView) (octets : List ℕ) (next : TmView) → IsAfterLoss (Some view.vc_count) next → continuation_of view octets next ≡ Breaks
after_loss_breaks view octets next lost = grind (arith)

same_step : (s : Continuation) (passed : ℕ) (rest other : Outcome) → IsKeptOutcome rest other
    → IsKeptOutcome (outcome_of_continuation s passed rest) (outcome_of_continuation s passed other)
same_step (Ends p) passed rest other kept packet n completes = completes
same_step Continues passed rest other kept packet n completes = kept packet n completes
same_step Breaks passed rest other kept packet n completes = absurd (cc)

after_kept : (passed : ℕ) (view : TmView) (octets : List ℕ) (frames more : List TmView) → AreWithin (Some view.vc_count) frames more
    → IsKeptOutcome (outcome_after passed view octets frames) (outcome_after passed view octets more)
after_kept passed view octets [] more within packet n completes = absurd (cc)
after_kept passed view octets (next ∷ frames) [] within packet n completes = absurd within
after_kept passed view octets (next ∷ frames) (other ∷ more) (inl here) packet n completes =
    subst (λ o. outcome_after passed view octets (o ∷ more) ≡ Completes packet n) here.0
    (same_step (continuation_of view octets next) (passed + 1)
    (outcome_after (passed + 1) next (octets ++ packet_data next) frames) (outcome_after (passed + 1) next (octets ++ packet_data next) more)
    (after_kept (passed + 1) next (octets ++ packet_data next) frames more here.1) packet n completes)
after_kept passed view octets (next ∷ frames) (other ∷ more) (inr there) packet n completes =
    let broken = after_loss_breaks view octets next there.0 in
    let rest = outcome_after (passed + 1) next (octets ++ packet_data next) frames in
    let undelivered : Undelivered ≡ Completes packet n =
    ap (λ s. outcome_of_continuation s (passed + 1) rest) (sym broken) ∙ completes in
    absurd (cc)

outcome_kept : (view : TmView) (octets : List ℕ) (frames more : List TmView) → AreWithin (Some view.vc_count) frames more
    → IsKeptOutcome (outcome_of view octets frames) (outcome_of view octets more)
outcome_kept view octets frames more within = cases (front_of octets)
  where
    cases : (f : Front) → IsKeptOutcome (outcome_of_front f view octets frames) (outcome_of_front f view octets more)
    cases OtherVersion packet n completes = completes
    cases Incomplete packet n completes = after_kept 0 view octets frames more within packet n completes
    cases (WholePacket len) packet n completes = completes

-- ---- the packets of the starts of a frame

delivered-append : (ds es : List Delivery) → packets_delivered (ds ++ es) ≡ packets_delivered ds ++ packets_delivered es
delivered-append [] es = refl
delivered-append (d ∷ ds) es = ap (λ l. d.packet ∷ l) (delivered-append ds es)

start_within : (n m start : ℕ) (outcome other : Outcome) → IsKeptOutcome outcome other
    → IsSublist (packets_delivered (delivery_of n start outcome)) (packets_delivered (delivery_of m start other))
start_within n m start (Completes packet passed) other kept =
    subst (λ o. IsSublist (packet ∷ []) (packets_delivered (delivery_of m start o))) (sym (kept packet passed refl)) (inl (refl, tt))
start_within n m start (StillIncomplete octets) other kept = tt
start_within n m start Undelivered other kept = tt

starts_within : (n m : ℕ) (outcomes others : ℕ → Outcome) → ((start : ℕ) → IsKeptOutcome (outcomes start) (others start)) → (starts : List ℕ)
    → IsSublist (packets_delivered (flat_map (λ s. delivery_of n s (outcomes s)) starts)) (packets_delivered (flat_map (λ s. delivery_of m s (others s)) starts))
starts_within n m outcomes others kept [] = tt
starts_within n m outcomes others kept (start ∷ starts) =
    subst (λ l. IsSublist l (packets_delivered (flat_map (λ s. delivery_of m s (others s)) (start ∷ starts))))
    (sym (delivered-append (delivery_of n start (outcomes start)) (flat_map (λ s. delivery_of n s (outcomes s)) starts)))
    (subst (λ l. IsSublist (packets_delivered (delivery_of n start (outcomes start)) ++ packets_delivered (flat_map (λ s. delivery_of n s (outcomes s)) starts)) l)
    (sym (delivered-append (delivery_of m start (others start)) (flat_map (λ s. delivery_of m s (others s)) starts)))
    (sublist-append (packets_delivered (delivery_of n start (outcomes start))) (packets_delivered (delivery_of m start (others start)))
    (packets_delivered (flat_map (λ s. delivery_of n s (outcomes s)) starts)) (packets_delivered (flat_map (λ s. delivery_of m s (others s)) starts))
    (start_within n m start (outcomes start) (others start) (kept start)) (starts_within n m outcomes others kept starts)))

frame_within : (n m : ℕ) (view : TmView) (frames more : List TmView) → AreWithin (Some view.vc_count) frames more
    → IsSublist (packets_delivered (frame_deliveries n view frames)) (packets_delivered (frame_deliveries m view more))
frame_within n m view frames more within =
    starts_within n m (λ start. outcome_of view (drop start (packet_data view)) frames) (λ start. outcome_of view (drop start (packet_data view)) more)
    (λ start. outcome_kept view (drop start (packet_data view)) frames more within) (starts_of view.field)

-- ---- the packets of a channel

within_from : (n m : ℕ) (last : Option ℕ) (frames more : List TmView) → AreWithin last frames more
    → IsSublist (packets_delivered (deliveries_from n frames)) (packets_delivered (deliveries_from m more))
within_from n m last [] more within = tt
within_from n m last (view ∷ frames) [] within = absurd within
within_from n m last (view ∷ frames) (other ∷ more) (inl here) =
    subst (λ o. IsSublist (packets_delivered (deliveries_from n (view ∷ frames))) (packets_delivered (deliveries_from m (o ∷ more)))) here.0
    (subst (λ l. IsSublist l (packets_delivered (deliveries_from m (view ∷ more))))
    (sym (delivered-append (frame_deliveries n view frames) (deliveries_from (n + 1) frames)))
    (subst (λ l. IsSublist (packets_delivered (frame_deliveries n view frames) ++ packets_delivered (deliveries_from (n + 1) frames)) l)
    (sym (delivered-append (frame_deliveries m view more) (deliveries_from (m + 1) more)))
    (sublist-append (packets_delivered (frame_deliveries n view frames)) (packets_delivered (frame_deliveries m view more))
    (packets_delivered (deliveries_from (n + 1) frames)) (packets_delivered (deliveries_from (m + 1) more))
    (frame_within n m view frames more here.1) (within_from (n + 1) (m + 1) (Some view.vc_count) frames more here.1))))
within_from n m last (view ∷ frames) (other ∷ more) (inr there) =
    subst (λ l. IsSublist (packets_delivered (deliveries_from n (view ∷ frames))) l)
    (sym (delivered-append (frame_deliveries m other more) (deliveries_from (m + 1) more)))
    (sublist_after (packets_delivered (frame_deliveries m other more)) (packets_delivered (deliveries_from n (view ∷ frames)))
    (packets_delivered (deliveries_from (m + 1) more)) (within_from n (m + 1) last (view ∷ frames) more there.1))

pub none_is_lost : NoneIsLost
none_is_lost frames more within = within_from 0 0 None frames more within

pub recorded_are_delivered : RecordedAreDelivered
recorded_are_delivered format spacecraft vc recording merged is =
    let some = packets_of_channel (recorded_views format spacecraft recording) vc in
    let all = packets_of_channel (recorded_views format spacecraft merged) vc in
    subst (λ l. IsSublist l (recorded_packets format spacecraft vc merged)) (sym (recorded_on format spacecraft vc recording is.channel))
    (subst (IsSublist (without_idle some)) (sym (recorded_on format spacecraft vc merged is.channel))
    (sublist_filter (λ packet. not (is_idle_packet packet)) some all
    (none_is_lost (recorded_channel format spacecraft vc recording) (recorded_channel format spacecraft vc merged) is.within)))

-- ---- the numbers of both recordings

module _ {X : Type 0} where
  among_left : (x : X) (xs ys : List X) → IsAmong x xs → IsAmong x (xs ++ ys)
  among_left x [] ys there = absurd there
  among_left x (y ∷ xs) ys (inl here) = inl here
  among_left x (y ∷ xs) ys (inr there) = inr (among_left x xs ys there)

  among_right : (x : X) (xs ys : List X) → IsAmong x ys → IsAmong x (xs ++ ys)
  among_right x [] ys there = there
  among_right x (y ∷ xs) ys there = inr (among_right x xs ys there)

  among_one : (x : X) (xs ys : List X) → IsAmong x (xs ++ ys) → IsAmong x xs ⊎ IsAmong x ys
  among_one x [] ys there = inr there
  among_one x (y ∷ xs) ys (inl here) = inl (inl here)
  among_one x (y ∷ xs) ys (inr there) = elim (among_one x xs ys there) [ inl left ↦ inl (inr left) | inr right ↦ inr right ]

same_test : (a b : Bool) → (a ≡ true → b ≡ true) → (b ≡ true → a ≡ true) → a ≡ b
same_test true true there back = refl
same_test true false there back = sym (there refl)
same_test false true there back = back refl
same_test false false there back = refl

run_of_more : (numbers more : List ℕ) (d : Delivery) → ((number : ℕ) → IsAmong number numbers → IsAmong number more)
    → keeps_run numbers d ≡ true → keeps_run more d ≡ true
run_of_more numbers more d all keeps =
    (test_tells_run more d).1 (λ number above below. all number ((test_tells_run numbers d).0 keeps number above below))

filter_same : (test other : Delivery → Bool) → ((d : Delivery) → test d ≡ other d) → (ds : List Delivery) → filter test ds ≡ filter other ds
filter_same test other same [] = refl
filter_same test other same (d ∷ ds) =
    ap₂ (λ (passes : Bool) (rest : List Delivery). if passes then d ∷ rest else rest) (same d) (filter_same test other same ds)

pub best_is_exact : BestIsExact
best_is_exact format spacecraft vc a b numbers whole one other merged best =
    recorded_are_kept format spacecraft vc numbers whole merged best.merged_has
    ∙ ap (λ ds. without_idle (packets_delivered ds))
    (filter_same (keeps_run numbers) (keeps_run (a ++ b))
    (λ d. same_test (keeps_run numbers d) (keeps_run (a ++ b) d) (run_of_more numbers (a ++ b) d there) (run_of_more (a ++ b) numbers d back))
    (deliveries_of (recorded_channel format spacecraft vc whole)))
  where
    there : (number : ℕ) → IsAmong number numbers → IsAmong number (a ++ b)
    there number among = elim (best.both.only number among) [
      | inl left ↦ among_left number a b left
      | inr right ↦ among_right number a b right
    ]

    back : (number : ℕ) → IsAmong number (a ++ b) → IsAmong number numbers
    back number among = elim (among_one number a b among) [
      | inl left ↦ best.both.of_one number left
      | inr right ↦ best.both.of_other number right
    ]

-- ---- counts tell numbers

same_later : (count m next : ℕ) → count < 256 → next ≡ (count + (m + 1)) % 256 → m < 256 → frames_later count next ≡ m + 1
same_later count m next small is few = omega arith

tells : (channel : List TmView) (number : ℕ) (view : TmView) (numbers : List ℕ) (later : List TmView) → HasNoGap channel
    → HasNumber channel number view → HaveNumbers channel numbers later → RiseFrom number numbers
    → AllByRecursion (λ v. v.vc_count < 256) (view ∷ later) → numbers ≡ numbers_after number view later
tells channel number view [] [] none here have rise small = refl
tells channel number view [] (next ∷ later) none here have rise small = absurd have
tells channel number view (other ∷ numbers) [] none here have rise small = absurd have
tells channel number view (other ∷ numbers) (next ∷ later) none here have rise small =
    let at = have.0 in
    let each : AreConsecutive view here.after = no_gap_at here.before view here.after (subst HasNoGap here.in_order none) in
    let (between, is, rest) = longer_begins (here.before ++ view ∷ []) here.after at.before (next ∷ at.after)
    (sym at.in_order ∙ here.in_order ∙ sym (append_assoc here.before (view ∷ []) here.after))
    (omega (arith, length_push here.before view, at.counted, here.counted, rise.0)) in
    let far : other ≡ number + (length between + 1) =
    omega (arith, ap length is, length-append (here.before ++ view ∷ []) between, length_push here.before view, at.counted, here.counted) in
    let count = count_later view between next at.after (subst (AreConsecutive view) rest each) in
    let m : frames_later view.vc_count next.vc_count ≡ length between + 1 =
    same_later view.vc_count (length between) next.vc_count small.0 count (omega (arith, far, rise.1)) in
    let same : other ≡ number + frames_later view.vc_count next.vc_count = far ∙ ap (λ n. number + n) (sym m) in
    subst (λ n. other ∷ numbers ≡ n ∷ numbers_after n next later) same
    (ap (λ l. other ∷ l) (tells channel other next numbers later none at have.1 rise.2 small.1))

pub counts_tell_numbers : CountsTellNumbers
counts_tell_numbers channel number view numbers later kept small =
    tells channel number view numbers later kept.no_gap kept.frames.0 kept.frames.1 kept.few_lost small

-- ---- a right merge breaks no run

-- a later number of a rising list is greater
above : (low : ℕ) (numbers : List ℕ) (number : ℕ) → RiseFrom low numbers → IsAmong number numbers → low < number
above low [] number rise there = absurd there
above low (next ∷ numbers) number rise (inl here) = omega (arith, rise.0, here)
above low (next ∷ numbers) number rise (inr there) = omega (arith, rise.0, above next numbers number rise.2 there)

-- the frames of one number are one frame
same_frame : (channel : List TmView) (n m : ℕ) (view other : TmView) → HasNumber channel n view → HasNumber channel m other → n ≡ m → view ≡ other
same_frame channel n m view other here there same =
    (same_place here.before there.before view other here.after there.after (sym here.in_order ∙ there.in_order)
    (omega (arith, here.counted, there.counted))).0

-- a frame at least two later doesn't follow
far_is_after_loss : (channel : List TmView) (n m : ℕ) (view next : TmView) → HasNoGap channel → HasNumber channel n view → HasNumber channel m next
    → n + 1 < m → m ≤ n + 256 → IsAfterLoss (Some view.vc_count) next
far_is_after_loss channel n m view next none here at low high =
    let each : AreConsecutive view here.after = no_gap_at here.before view here.after (subst HasNoGap here.in_order none) in
    let (between, is, rest) = longer_begins (here.before ++ view ∷ []) here.after at.before (next ∷ at.after)
    (sym at.in_order ∙ here.in_order ∙ sym (append_assoc here.before (view ∷ []) here.after))
    (omega (arith, length_push here.before view, at.counted, here.counted)) in
    let far : m ≡ n + (length between + 1) =
    omega (arith, ap length is, length-append (here.before ++ view ∷ []) between, length_push here.before view, at.counted, here.counted) in
    let after : AreConsecutive view (between ++ next ∷ at.after) = subst (AreConsecutive view) rest each in
    cases between after (omega (arith, far)) (omega (arith, far)) (follows view.vc_count next.vc_count) refl
  where
    cases : (between : List TmView) → AreConsecutive view (between ++ next ∷ at.after) → 0 < length between → length between < 256
        → (b : Bool) → follows view.vc_count next.vc_count ≡ b → follows view.vc_count next.vc_count ≡ false
    cases between after some few true test =
        let zero_between = none_between view between next at.after after test few in
        absurd (omega (arith, zero_between))
    cases between after some few false test = test

within_after : (channel : List TmView) (n m : ℕ) (view : TmView) (one numbers : List ℕ) (frames more : List TmView) → HasNoGap channel
    → HasNumber channel n view → n ≤ m → RiseFrom n one → RiseFrom m numbers → ((number : ℕ) → IsAmong number one → IsAmong number numbers)
    → HaveNumbers channel one frames → HaveNumbers channel numbers more → AreWithin (Some view.vc_count) frames more
within_after channel n m view one numbers [] more none here low rise rise' all have have' = tt
within_after channel n m view [] numbers (next ∷ frames) more none here low rise rise' all have have' = absurd have
within_after channel n m view (x ∷ one) [] (next ∷ frames) more none here low rise rise' all have have' = absurd (all x (inl refl))
within_after channel n m view (x ∷ one) (y ∷ numbers) (next ∷ frames) [] none here low rise rise' all have have' = absurd have'
within_after channel n m view (x ∷ one) (y ∷ numbers) (next ∷ frames) (other ∷ more) none here low rise rise' all have have' =
    elim (all x (inl refl)) [
      | inl same ↦ inl (
        same_frame channel x y next other have.0 have'.0 same,
        within_after channel x y next one numbers frames more none have.0 (omega (arith, same)) rise.2 rise'.2
            (λ number among. later number (above x one number rise.2 among) same (all number (inr among))) have.1 have'.1,
      )
      | inr there ↦
          let less = above y numbers x rise'.2 there in
          inr (
            far_is_after_loss channel n x view next none here have.0 (omega (arith, less, rise'.0, low)) rise.1,
            within_after channel n y view (x ∷ one) numbers (next ∷ frames) more none here (omega (arith, rise'.0, low)) rise rise'.2
                (λ number among. elim among [
                  | inl first ↦ subst (λ k. IsAmong k numbers) (sym first) there
                  | inr after ↦ past number (above x one number rise.2 after) less (all number (inr after))
                ]) have have'.1,
          )
    ]
  where
    later : (number : ℕ) → x < number → x ≡ y → IsAmong number (y ∷ numbers) → IsAmong number numbers
    later number greater same (inl first) = absurd (omega (arith, greater, same, first))
    later number greater same (inr after) = after

    past : (number : ℕ) → x < number → y < x → IsAmong number (y ∷ numbers) → IsAmong number numbers
    past number greater less (inl first) = absurd (omega (arith, greater, less, first))
    past number greater less (inr after) = after

few_later : (y : ℕ) (numbers : List ℕ) → RiseFrom y numbers → FewAreLost numbers
few_later y [] rise = tt
few_later y (z ∷ numbers) rise = rise.2

within_start : (channel : List TmView) (one numbers : List ℕ) (frames more : List TmView) → HasNoGap channel → FewAreLost one → FewAreLost numbers
    → ((number : ℕ) → IsAmong number one → IsAmong number numbers) → HaveNumbers channel one frames → HaveNumbers channel numbers more
    → AreWithin None frames more
within_start channel one numbers [] more none few few' all have have' = tt
within_start channel [] numbers (next ∷ frames) more none few few' all have have' = absurd have
within_start channel (x ∷ one) [] (next ∷ frames) more none few few' all have have' = absurd (all x (inl refl))
within_start channel (x ∷ one) (y ∷ numbers) (next ∷ frames) [] none few few' all have have' = absurd have'
within_start channel (x ∷ one) (y ∷ numbers) (next ∷ frames) (other ∷ more) none few few' all have have' =
    elim (all x (inl refl)) [
      | inl same ↦ inl (
        same_frame channel x y next other have.0 have'.0 same,
        within_after channel x y next one numbers frames more none have.0 (omega (arith, same)) few few'
            (λ number among. later number (above x one number few among) same (all number (inr among))) have.1 have'.1,
      )
      | inr there ↦
          let less = above y numbers x few' there in
          inr (
            tt,
            within_start channel (x ∷ one) numbers (next ∷ frames) more none few (few_later y numbers few')
                (λ number among. elim among [
                  | inl first ↦ subst (λ k. IsAmong k numbers) (sym first) there
                  | inr after ↦ past number (above x one number few after) less (all number (inr after))
                ]) have have'.1,
          )
    ]
  where
    later : (number : ℕ) → x < number → x ≡ y → IsAmong number (y ∷ numbers) → IsAmong number numbers
    later number greater same (inl first) = absurd (omega (arith, greater, same, first))
    later number greater same (inr after) = after

    past : (number : ℕ) → x < number → y < x → IsAmong number (y ∷ numbers) → IsAmong number numbers
    past number greater less (inl first) = absurd (omega (arith, greater, less, first))
    past number greater less (inr after) = after

pub best_breaks_no_run : BestBreaksNoRun
best_breaks_no_run channel one numbers frames merged left best all =
    within_start channel one numbers frames merged left.no_gap left.few_lost best.few_lost all left.frames best.frames

-- ---- merged one after another

-- the next of the frames comes right after the last one in the middle list, or a frame was lost before it
abbrev MayCome : Option ℕ → Option ℕ → List TmView → Type 0
MayCome last middle [] = ⊤
MayCome last middle (next ∷ frames) = (last ≡ middle) ⊎ IsAfterLoss last next

within_twice : (last middle : Option ℕ) (frames more most : List TmView) → MayCome last middle frames → AreWithin last frames more
    → AreWithin middle more most → AreWithin last frames most
within_twice last middle [] more most may within within' = tt
within_twice last middle (next ∷ frames) [] most may within within' = absurd within
within_twice last middle (next ∷ frames) (other ∷ more) [] may within within' = absurd within'
within_twice last middle (next ∷ frames) (other ∷ more) (third ∷ most) may (inl here) (inl here') =
    inl (
      here.0 ∙ here'.0,
      within_twice (Some next.vc_count) (Some other.vc_count) frames more most
          (both frames (ap (λ v. Some v.vc_count) here.0)) here.1 here'.1,
    )
  where
    both : (frames : List TmView) → Some next.vc_count ≡ Some other.vc_count → MayCome (Some next.vc_count) (Some other.vc_count) frames
    both [] same = tt
    both (one ∷ frames) same = inl same
within_twice last middle (next ∷ frames) (other ∷ more) (third ∷ most) may (inr there) (inl here') =
    inr (there.0, within_twice last (Some other.vc_count) (next ∷ frames) more most (inr there.0) there.1 here'.1)
within_twice last middle (next ∷ frames) (other ∷ more) (third ∷ most) (inl same) (inl here) (inr there') =
    inr (
      subst (λ l. IsAfterLoss l next) (sym same) (subst (λ v. IsAfterLoss middle v) (sym here.0) there'.0),
      within_twice last middle (next ∷ frames) (other ∷ more) most (inl same) (inl here) there'.1,
    )
within_twice last middle (next ∷ frames) (other ∷ more) (third ∷ most) (inr lost) (inl here) (inr there') =
    inr (lost, within_twice last middle (next ∷ frames) (other ∷ more) most (inr lost) (inl here) there'.1)
within_twice last middle (next ∷ frames) (other ∷ more) (third ∷ most) may (inr there) (inr there') =
    inr (there.0, within_twice last middle (next ∷ frames) (other ∷ more) most may (inr there) there'.1)

pub within_is_transitive : WithinIsTransitive
within_is_transitive frames more most within within' = within_twice None None frames more most (start frames) within within'
  where
    start : (frames : List TmView) → MayCome None None frames
    start [] = tt
    start (next ∷ frames) = inl refl
