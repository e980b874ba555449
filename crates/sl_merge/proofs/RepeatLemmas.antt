-- Frames that are the one before them once more: without them no packet is lost.
use Rattle.std.proofs.Common.{◌≡◌, ◌+◌, ◌<◌, ℕ, Bool, true, false, cond, List, [], ◌∷◌, ◌++◌, length, drop, Option, None, Some, inl, inr, refl, sym, ◌∙◌, ap, subst, arith}
use Rattle.std.specs.Prelude.{⊤, ◌⊎◌, bytes_eq}
use Rattle.std.specs.List.{count_by, filter, flat_map}
use Rattle.std.proofs.lemmas.Bool.{cases_Bool}
use Rattle.std.proofs.lemmas.Bool.Decides.{nat_tests}
use Rattle.std.proofs.lemmas.Slice.Eq.{bytes_eq-Decides}
use Rattle.sl_packet.specs.Front.{Front, OtherVersion, Incomplete, WholePacket, front_of}
use Rattle.sl_tmframe.specs.TmFrame.{TmFormat, TmView, view_of}
use Rattle.sl_tmflow.specs.Among.{IsAmong}
use Rattle.sl_tmflow.specs.Delivery.{Delivery, Outcome, Completes, StillIncomplete, Undelivered, Continuation, Ends, Continues, Breaks, continuation_of, deliveries_from, delivery_of, frame_deliveries, outcome_after, outcome_of, outcome_of_continuation, outcome_of_front, packets_delivered}
use Rattle.sl_tmflow.specs.PacketStart.{starts_of}
use Rattle.sl_tmflow.specs.VirtualChannel.{follows, packet_data}
use Rattle.sl_tmflow.proofs.lemmas.Places.{among-left, among-right}
use Rattle.sl_merge.specs.declared.fate.Fate.{Fate}
use Rattle.sl_merge.specs.declared.fate.Fate.TheVariants.{Both, First, FirstLeftOut, Second, SecondLeftOut}
use Rattle.sl_merge.specs.Fates.{Fated, fated, kept_first, of_first}
use Rattle.sl_merge.specs.Merge.{is_left_out, unless, without_repeats}
use Rattle.sl_merge.proofs.CountLemmas.{bit, count-cons}
use Rattle.sl_merge.proofs.WithinLemmas.{seen_as, those_on}

-- ---- elements of lists

module _ {X : Type 0} where
  among_either : (x : X) (xs ys : List X) → IsAmong x (xs ++ ys) → IsAmong x xs ⊎ IsAmong x ys
  among_either x [] ys among = inr among
  among_either x (y ∷ xs) ys (inl here) = inl (inl here)
  among_either x (y ∷ xs) ys (inr later) = elim (among_either x xs ys later) [ inl left ↦ inl (inr left) | inr right ↦ inr right ]

-- ---- the outcome of a packet start

-- The second frames are the first ones without those that are the one before them once more. `before` is the frame before
-- these, if there is one.
abbrev pub AreOnceMore : Option TmView → List TmView → List TmView → Type 0
AreOnceMore before [] fewer = fewer ≡ []
AreOnceMore before (next ∷ more) fewer =
    ((before ≡ Some next) × AreOnceMore before more fewer)
    ⊎ ((left : List TmView) × (fewer ≡ next ∷ left) × AreOnceMore (Some next) more left)

-- where one outcome is a delivery, so is the other: the same one
abbrev IsKeptOutcome : Outcome → Outcome → Type 0
IsKeptOutcome outcome other = (packet : List ℕ) (passed : ℕ) → outcome ≡ Completes packet passed → other ≡ Completes packet passed

never_follows : (count : ℕ) → follows count count ≡ false
never_follows count = grind (arith, nat_tests)

breaks_off : (view : TmView) (octets : List ℕ) (next : TmView) → Some view ≡ Some next → continuation_of view octets next ≡ Breaks
breaks_off view octets next same =
    let count : next.vc_count ≡ view.vc_count = ap (λ (v : TmView). v.vc_count) (let e : next ≡ view = cc in e) in
    let stays : follows view.vc_count next.vc_count ≡ false = ap (follows view.vc_count) count ∙ never_follows view.vc_count in
    rw stays refl

same_step : (s : Continuation) (passed : ℕ) (rest other : Outcome) → IsKeptOutcome rest other
    → IsKeptOutcome (outcome_of_continuation s passed rest) (outcome_of_continuation s passed other)
same_step (Ends p) passed rest other kept packet n completes = completes
same_step Continues passed rest other kept packet n completes = kept packet n completes
same_step Breaks passed rest other kept packet n completes = absurd (cc)

after_same : (passed : ℕ) (view : TmView) (octets : List ℕ) (more fewer : List TmView) → AreOnceMore (Some view) more fewer
    → IsKeptOutcome (outcome_after passed view octets more) (outcome_after passed view octets fewer)
after_same passed view octets [] fewer is packet n completes = absurd (cc)
after_same passed view octets (next ∷ more) fewer (inl here) packet n completes =
    let rest = outcome_after (passed + 1) next (octets ++ packet_data next) more in
    let undelivered : Undelivered ≡ Completes packet n =
    ap (λ s. outcome_of_continuation s (passed + 1) rest) (sym (breaks_off view octets next here.0)) ∙ completes in
    absurd (cc)
after_same passed view octets (next ∷ more) fewer (inr there) packet n completes =
    subst (λ l. outcome_after passed view octets l ≡ Completes packet n) (sym there.1)
    (same_step (continuation_of view octets next) (passed + 1) (outcome_after (passed + 1) next (octets ++ packet_data next) more)
    (outcome_after (passed + 1) next (octets ++ packet_data next) there.0)
    (after_same (passed + 1) next (octets ++ packet_data next) more there.0 there.2) packet n completes)

outcome_same : (view : TmView) (octets : List ℕ) (more fewer : List TmView) → AreOnceMore (Some view) more fewer
    → IsKeptOutcome (outcome_of view octets more) (outcome_of view octets fewer)
outcome_same view octets more fewer is = cases (front_of octets)
  where
    cases : (f : Front) → IsKeptOutcome (outcome_of_front f view octets more) (outcome_of_front f view octets fewer)
    cases OtherVersion packet n completes = completes
    cases Incomplete packet n completes = after_same 0 view octets more fewer is packet n completes
    cases (WholePacket len) packet n completes = completes

-- ---- the packets of the starts of a frame

delivered-append : (ds es : List Delivery) → packets_delivered (ds ++ es) ≡ packets_delivered ds ++ packets_delivered es
delivered-append [] es = refl
delivered-append (d ∷ ds) es = ap (λ l. d.packet ∷ l) (delivered-append ds es)

start_same : (packet : List ℕ) (n m start : ℕ) (outcome other : Outcome) → IsKeptOutcome outcome other
    → IsAmong packet (packets_delivered (delivery_of n start outcome)) → IsAmong packet (packets_delivered (delivery_of m start other))
start_same packet n m start (Completes p passed) other kept among =
    subst (λ o. IsAmong packet (packets_delivered (delivery_of m start o))) (sym (kept p passed refl)) among
start_same packet n m start (StillIncomplete octets) other kept among = absurd among
start_same packet n m start Undelivered other kept among = absurd among

starts_same : (packet : List ℕ) (n m : ℕ) (outcomes others : ℕ → Outcome) → ((start : ℕ) → IsKeptOutcome (outcomes start) (others start)) → (starts : List ℕ)
    → IsAmong packet (packets_delivered (flat_map (λ s. delivery_of n s (outcomes s)) starts))
    → IsAmong packet (packets_delivered (flat_map (λ s. delivery_of m s (others s)) starts))
starts_same packet n m outcomes others kept [] among = absurd among
starts_same packet n m outcomes others kept (start ∷ starts) among =
    let ours = flat_map (λ s. delivery_of n s (outcomes s)) starts in
    let theirs = flat_map (λ s. delivery_of m s (others s)) starts in
    let first = delivery_of n start (outcomes start) in
    let other = delivery_of m start (others start) in
    subst (IsAmong packet) (sym (delivered-append other theirs))
    (elim (among_either packet (packets_delivered first) (packets_delivered ours) (subst (IsAmong packet) (delivered-append first ours) among)) [
      | inl here ↦ among-left packet (packets_delivered other) (packets_delivered theirs) (start_same packet n m start (outcomes start) (others start) (kept start) here)
      | inr later ↦ among-right packet (packets_delivered other) (packets_delivered theirs) (starts_same packet n m outcomes others kept starts later)
    ])

abbrev packets_in : ℕ → TmView → List TmView → List (List ℕ)
packets_in n view later = packets_delivered (frame_deliveries n view later)

frame_same : (packet : List ℕ) (n m : ℕ) (view : TmView) (more fewer : List TmView) → AreOnceMore (Some view) more fewer
    → IsAmong packet (packets_in n view more) → IsAmong packet (packets_in m view fewer)
frame_same packet n m view more fewer is among =
    starts_same packet n m (λ start. outcome_of view (drop start (packet_data view)) more) (λ start. outcome_of view (drop start (packet_data view)) fewer)
    (λ start. outcome_same view (drop start (packet_data view)) more fewer is) (starts_of view.field) among

-- ---- the packets of a channel

abbrev IsInLast : List ℕ → ℕ → Option TmView → List TmView → Type 0
IsInLast packet k None fewer = ⊥
IsInLast packet k (Some view) fewer = IsAmong packet (packets_in k view fewer)

once_more_from : (packet : List ℕ) (n m k : ℕ) (before : Option TmView) (more fewer : List TmView) → AreOnceMore before more fewer
    → IsAmong packet (packets_delivered (deliveries_from n more)) → IsAmong packet (packets_delivered (deliveries_from m fewer)) ⊎ IsInLast packet k before fewer
once_more_from packet n m k before [] fewer is among = absurd among
once_more_from packet n m k before (next ∷ more) fewer (inl here) among =
    elim (among_either packet (packets_in n next more) (packets_delivered (deliveries_from (n + 1) more))
    (subst (IsAmong packet) (delivered-append (frame_deliveries n next more) (deliveries_from (n + 1) more)) among)) [
      | inl first ↦
          inr (subst (λ o. IsInLast packet k o fewer) (sym here.0)
          (frame_same packet n k next more fewer (subst (λ o. AreOnceMore o more fewer) here.0 here.1) first))
      | inr later ↦ once_more_from packet (n + 1) m k before more fewer here.1 later
    ]
once_more_from packet n m k before (next ∷ more) fewer (inr there) among =
    let left = there.0 in
    let ours = packets_in m next left in
    let rest = packets_delivered (deliveries_from (m + 1) left) in
    inl (subst (λ l. IsAmong packet (packets_delivered (deliveries_from m l))) (sym there.1)
    (subst (IsAmong packet) (sym (delivered-append (frame_deliveries m next left) (deliveries_from (m + 1) left)))
    (elim (among_either packet (packets_in n next more) (packets_delivered (deliveries_from (n + 1) more))
    (subst (IsAmong packet) (delivered-append (frame_deliveries n next more) (deliveries_from (n + 1) more)) among)) [
      | inl first ↦ among-left packet ours rest (frame_same packet n m next more left there.2 first)
      | inr later ↦ elim (once_more_from packet (n + 1) (m + 1) m (Some next) more left there.2 later) [
        | inl inside ↦ among-right packet ours rest inside
        | inr last ↦ among-left packet ours rest last
      ]
    ])))

-- frames without repeats deliver each packet that these deliver
pub once_more : (packet : List ℕ) (more fewer : List TmView) → AreOnceMore None more fewer
    → IsAmong packet (packets_delivered (deliveries_from 0 more)) → IsAmong packet (packets_delivered (deliveries_from 0 fewer))
once_more packet more fewer is among = elim (once_more_from packet 0 0 0 None more fewer is among) [ inl inside ↦ inside | inr last ↦ absurd last ]

-- ---- the frames of the first recording, and those of them that stand

abbrev pub firsts_of : List Fated → List Fated
firsts_of items = filter (λ item. of_first item.fate) items

module _ (format : TmFormat) (on : List ℕ → Bool) where
  abbrev IsLink : List ℕ → Option TmView → Type 0
  IsLink before last = (before ≡ []) ⊎ (last ≡ Some (view_of format before))

  abbrev pub AreFilled : List Fated → Type 0
  AreFilled [] = ⊤
  AreFilled (item ∷ rest) = (0 < length item.frame) × AreFilled rest

  abbrev RepeatsAre : List Fated → Type 0
  RepeatsAre rest =
      (before : List ℕ) (last : Option TmView) → IsLink before last → count_by is_left_out (without_repeats before (those_on format on rest)) ≡ 0
      → AreOnceMore last (seen_as format on (firsts_of rest)) (seen_as format on (kept_first rest))

  pub none_before : (p : Fated) (later : List Fated) → count_by is_left_out (p ∷ later) ≡ 0 → (is_left_out p ≡ false) × (count_by is_left_out later ≡ 0)
  none_before p later none = elim (cases_Bool (is_left_out p)) [
    | inl holds ↦ absurd (let e : 1 + count_by is_left_out later ≡ 0 = sym (count-cons is_left_out p later ∙ ap (λ b. bit b + count_by is_left_out later) holds) ∙ none in omega (arith, e))
    | inr fails ↦ (fails, (let e : 0 + count_by is_left_out later ≡ 0 = sym (count-cons is_left_out p later ∙ ap (λ b. bit b + count_by is_left_out later) fails) ∙ none in omega (arith, e)))
  ]

  repeats_of_fate : (fate : Fate) (frame : List ℕ) (rest : List Fated) → 0 < length frame → RepeatsAre rest → RepeatsAre (fated fate frame ∷ rest)
  repeats_of_fate Both frame rest filled ih before last link none = kept (on frame) none
    where
      kept : (b : Bool) → count_by is_left_out (without_repeats before (cond b (fated Both frame ∷ those_on format on rest) (those_on format on rest))) ≡ 0
          → AreOnceMore last (cond b (view_of format frame ∷ seen_as format on (firsts_of rest)) (seen_as format on (firsts_of rest)))
          (cond b (view_of format frame ∷ seen_as format on (kept_first rest)) (seen_as format on (kept_first rest)))
      kept true none =
          inr (
            seen_as format on (kept_first rest),
            refl,
            ih frame (Some (view_of format frame)) (inr refl)
                (none_before (fated Both frame) (without_repeats frame (those_on format on rest)) none).1,
          )
      kept false none = ih before last link none
  repeats_of_fate First frame rest filled ih before last link none = kept (on frame) none
    where
      kept : (b : Bool) → count_by is_left_out (without_repeats before (cond b (fated First frame ∷ those_on format on rest) (those_on format on rest))) ≡ 0
          → AreOnceMore last (cond b (view_of format frame ∷ seen_as format on (firsts_of rest)) (seen_as format on (firsts_of rest)))
          (cond b (view_of format frame ∷ seen_as format on (kept_first rest)) (seen_as format on (kept_first rest)))
      kept true none =
          inr (
            seen_as format on (kept_first rest),
            refl,
            ih frame (Some (view_of format frame)) (inr refl)
                (none_before (fated First frame) (without_repeats frame (those_on format on rest)) none).1,
          )
      kept false none = ih before last link none
  repeats_of_fate Second frame rest filled ih before last link none = other (on frame) none
    where
      other : (b : Bool) → count_by is_left_out (without_repeats before (cond b (fated Second frame ∷ those_on format on rest) (those_on format on rest))) ≡ 0
          → AreOnceMore last (seen_as format on (firsts_of rest)) (seen_as format on (kept_first rest))
      other true none = ih before last link (none_before (fated Second frame) (without_repeats before (those_on format on rest)) none).1
      other false none = ih before last link none
  repeats_of_fate SecondLeftOut frame rest filled ih before last link none = other (on frame) none
    where
      other : (b : Bool) → count_by is_left_out (without_repeats before (cond b (fated SecondLeftOut frame ∷ those_on format on rest) (those_on format on rest))) ≡ 0
          → AreOnceMore last (seen_as format on (firsts_of rest)) (seen_as format on (kept_first rest))
      other true none = ih before last link (none_before (fated SecondLeftOut frame) (without_repeats before (those_on format on rest)) none).1
      other false none = ih before last link none
  repeats_of_fate FirstLeftOut frame rest filled ih before last link none = out (on frame) none
    where
      repeat : bytes_eq before frame ≡ true → count_by is_left_out (without_repeats frame (those_on format on rest)) ≡ 0
          → AreOnceMore last (view_of format frame ∷ seen_as format on (firsts_of rest)) (seen_as format on (kept_first rest))
      repeat same none =
          let equal : before ≡ frame = (bytes_eq-Decides before frame).0 same in
          elim link [
            | inl nothing ↦ absurd (let e : length frame ≡ 0 = ap length (sym equal ∙ nothing) in omega (arith, e))
            | inr known ↦
                let here : last ≡ Some (view_of format frame) = known ∙ ap (λ o. Some (view_of format o)) equal in
                inl (here, ih frame last (inr here) none)
          ]

      out : (b : Bool) → count_by is_left_out (without_repeats before (cond b (fated FirstLeftOut frame ∷ those_on format on rest) (those_on format on rest))) ≡ 0
          → AreOnceMore last (cond b (view_of format frame ∷ seen_as format on (firsts_of rest)) (seen_as format on (firsts_of rest))) (seen_as format on (kept_first rest))
      out true none = elim (cases_Bool (bytes_eq before frame)) [
        | inl same ↦
            repeat same (ap (λ r. count_by is_left_out (unless r (fated FirstLeftOut frame) (without_repeats frame (those_on format on rest)))) (sym same) ∙ none)
        | inr other ↦
            absurd (let e : (true ≡ false) = (none_before (fated FirstLeftOut frame) (without_repeats frame (those_on format on rest))
            (ap (λ r. count_by is_left_out (unless r (fated FirstLeftOut frame) (without_repeats frame (those_on format on rest)))) (sym other) ∙ none)).0 in cc)
      ]
      out false none = ih before last link none

  pub repeats_are : (items : List Fated) → AreFilled items → RepeatsAre items
  repeats_are [] filled before last link none = refl
  repeats_are (item ∷ rest) filled before last link none =
      repeats_of_fate item.fate item.frame rest filled.0 (repeats_are rest filled.1) before last link none
