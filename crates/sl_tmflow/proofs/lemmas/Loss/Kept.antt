-- The packets that the kept frames deliver: a sublist of those of the whole channel, and those of it whose frames were
-- all kept. What a recording of the kept frames delivers.
use Rattle.std.proofs.Common.{◌≡◌, ℕ, zero, suc, ◌+◌, ◌-◌, ◌<◌, ◌≤◌, ◌==◌, Bool, true, false, not, if◌then◌else◌, List, [], ◌∷◌, inl, inr, refl, sym, ◌∙◌, ap, ap₂, subst, arith, eq-eqb}
use Rattle.std.specs.List.{AllByRecursion, filter, list_all, list_any, range_with_len}
use Rattle.std.proofs.lemmas.Bool.{and_from, and_parts, cases_eq, eqb-true, or_cases}
use Rattle.std.proofs.lemmas.List.FromFn.{get_or-map-range_with_len}
use Rattle.sl_packet.specs.Packet.{is_idle_packet}
use Rattle.sl_packet.specs.Packets.{without_idle}
use Rattle.sl_tmframe.specs.TmFrame.{TmFormat}
use Rattle.sl_tmflow.specs.Among.{IsAmong}
use Rattle.sl_tmflow.specs.Delivery.{AreInOrder, Delivery, IsDelivery, StartsBefore, deliveries_of, packets_delivered}
use Rattle.sl_tmflow.specs.Loss.{FewAreLost, IsSameDelivery, PacketsAreKept, PacketsAreSublist, RecordedAreKept, RecordedAreSublist, RunIsKept, TestTellsRun, keeps_run, recorded_channel, recorded_packets}
use Rattle.sl_tmflow.specs.Recording.{packets_of_channel, recorded_views}
use Rattle.sl_packet.specs.Sublist.{IsSublist}
use Rattle.sl_tmflow.proofs.lemmas.Delivery.Listed.{are_in_order, each_is_delivery, each_is_listed}
use Rattle.sl_fields.proofs.ListLemmas.{each-both, each-filter, each-weaker}
use Rattle.sl_tmflow.proofs.lemmas.Places.{each_among, some_passes}
use Rattle.sl_tmflow.proofs.lemmas.Loss.KeptRun.{apart, kept_runs_are_left, runs_are_kept}
use Rattle.sl_tmflow.proofs.lemmas.Loss.Local.{none_is_new}

-- ---- sublists

module _ {X : Type 0} where
  -- a sublist stays one where a test may put an element in front of the longer list
  sublist_more : (test : Bool) (y : X) (xs ys : List X) → IsSublist xs ys → IsSublist xs (if test then y ∷ ys else ys)
  sublist_more true y [] ys within = tt
  sublist_more true y (x ∷ xs) ys within = inr within
  sublist_more false y xs ys within = within

  -- a sublist stays one where a test may put the same element in front of both lists
  sublist_both : (test other : Bool) (x y : X) (xs ys : List X) → test ≡ other → x ≡ y → IsSublist xs ys
      → IsSublist (if test then x ∷ xs else xs) (if other then y ∷ ys else ys)
  sublist_both test other x y xs ys alike same within = grind arith

  -- the elements of a sublist that pass a test are a sublist of those of the list that pass it
  pub sublist_filter : (test : X → Bool) (xs ys : List X) → IsSublist xs ys → IsSublist (filter test xs) (filter test ys)
  sublist_filter test [] ys within = tt
  sublist_filter test (x ∷ xs) [] within = absurd within
  sublist_filter test (x ∷ xs) (y ∷ ys) (inl here) = grind (arith, sublist_both, sublist_filter test xs ys here.1)
  sublist_filter test (x ∷ xs) (y ∷ ys) (inr later) = grind (arith, sublist_more, sublist_filter test (x ∷ xs) ys later)

-- ---- the test

any_among : (number : ℕ) (numbers : List ℕ) → list_any (λ kept. kept == number) numbers ≡ true → IsAmong number numbers
any_among number [] passes = absurd (cc)
any_among number (first ∷ numbers) passes =
    elim (or_cases (first == number) (list_any (λ kept. kept == number) numbers) passes) [
      | inl here ↦ inl (sym (eqb-true first number here))
      | inr there ↦ inr (any_among number numbers there)
    ]

all_range : (test : ℕ → Bool) (from n : ℕ) → list_all test (range_with_len from n) ≡ true
    → (number : ℕ) → from ≤ number → number < from + n → test number ≡ true
all_range test from zero all number above below = absurd (omega arith)
all_range test from (suc n) all number above below =
    let parts = and_parts (test from) (list_all test (range_with_len (from + 1) n)) all in
    elim (cases_eq from number) [
      | inl here ↦ subst (λ k. test k ≡ true) here parts.0
      | inr other ↦ all_range test (from + 1) n parts.1 number (omega (arith, other)) (omega arith)
    ]

range_all : (test : ℕ → Bool) (from n : ℕ) → ((number : ℕ) → from ≤ number → number < from + n → test number ≡ true)
    → list_all test (range_with_len from n) ≡ true
range_all test from zero each = refl
range_all test from (suc n) each = grind (arith, and_from, range_all test (from + 1) n (λ number above below. each number (omega arith) (omega arith)))

run_from_test : (numbers : List ℕ) (whole : Delivery) → keeps_run numbers whole ≡ true → RunIsKept numbers whole
run_from_test numbers whole passes number above below =
    any_among number numbers
    (all_range (λ n. list_any (λ kept. kept == n) numbers) whole.frame (whole.ending + 1 - whole.frame) passes number above (omega arith))

test_from_run : (numbers : List ℕ) (whole : Delivery) → RunIsKept numbers whole → keeps_run numbers whole ≡ true
test_from_run numbers whole run =
    range_all (λ n. list_any (λ kept. kept == n) numbers) whole.frame (whole.ending + 1 - whole.frame)
    (λ number above below. some_passes (λ kept. kept == number) number numbers (run number above (omega arith)) (eq-eqb number number refl))

pub test_tells_run : TestTellsRun
test_tells_run numbers whole = (run_from_test numbers whole, test_from_run numbers whole)

-- ---- the elements that pass a test

module _ {X : Type 0} where
  among_kept : (b : Bool) (x y : X) (ys : List X) → IsAmong x ys → IsAmong x (if b then y ∷ ys else ys)
  among_kept b x y ys there = grind arith

  filter_among : (test : X → Bool) (x : X) (xs : List X) → IsAmong x xs → test x ≡ true → IsAmong x (filter test xs)
  filter_among test x [] there passes = absurd there
  filter_among test x (y ∷ ys) (inl here) passes = grind (arith)
  filter_among test x (y ∷ ys) (inr there) passes = among_kept (test y) x y (filter test ys) (filter_among test x ys there passes)

order_kept : (b : Bool) (d : Delivery) (deliveries : List Delivery) → AllByRecursion (StartsBefore d) deliveries → AreInOrder deliveries
    → AreInOrder (if b then d ∷ deliveries else deliveries)
order_kept b d deliveries after order = grind arith

in_order-filter : (test : Delivery → Bool) (deliveries : List Delivery) → AreInOrder deliveries → AreInOrder (filter test deliveries)
in_order-filter test [] order = tt
in_order-filter test (d ∷ deliveries) order =
    order_kept (test d) d (filter test deliveries)
    (each-filter (StartsBefore d) (StartsBefore d) test (λ e passes after. after) deliveries order.0) (in_order-filter test deliveries order.1)

-- ---- deliveries from the kept frames and from the whole channel

-- same deliveries of the whole channel are in the order of those from the kept frames
same_order : (numbers : List ℕ) (d e whole other : Delivery) → FewAreLost numbers → IsSameDelivery numbers d whole → IsSameDelivery numbers e other
    → StartsBefore d e → StartsBefore whole other
same_order numbers d e whole other near is_d is_e (inl less) =
    let far = apart numbers d.frame e.frame whole.frame other.frame near is_d.frame is_e.frame (omega arith) in
    inl (omega arith)
same_order numbers d e whole other near is_d is_e (inr same) =
    let far = apart numbers d.frame e.frame whole.frame other.frame near is_d.frame is_e.frame (omega (arith, same.0)) in
    let back = apart numbers e.frame d.frame other.frame whole.frame near is_e.frame is_d.frame (omega (arith, same.0)) in
    inr (omega (arith, same.0), omega (arith, same.1, is_d.start, is_e.start))

not_both_ways : (d e : Delivery) → StartsBefore d e → StartsBefore e d → ⊥
not_both_ways d e before after = grind arith

module _ (numbers : List ℕ) (near : FewAreLost numbers) where
  -- the delivery is the same as one in this list of the whole channel
  abbrev IsLeftOf : List Delivery → Delivery → Type 0
  IsLeftOf all d = (whole : Delivery) × IsAmong whole all × IsSameDelivery numbers d whole

  -- a delivery after one that is the same as the first one of a list is among the others
  left_later : (d whole : Delivery) (all : List Delivery) → IsSameDelivery numbers d whole → (e : Delivery) → StartsBefore d e → IsLeftOf (whole ∷ all) e → IsLeftOf all e
  left_later d whole all same e after (other, inl here, other_same) =
      let before = subst (StartsBefore whole) here (same_order numbers d e whole other near same other_same after) in
      absurd (not_both_ways whole whole before before)
  left_later d whole all same e after (other, inr there, other_same) = (other, there, other_same)

  -- the delivery is the same as one in this list from the kept frames
  abbrev IsKeptOf : List Delivery → Delivery → Type 0
  IsKeptOf deliveries whole = (d : Delivery) × IsAmong d deliveries × IsSameDelivery numbers d whole

  -- a delivery isn't the same as two different ones of the whole channel
  not_twice : (d whole other : Delivery) → IsSameDelivery numbers d whole → IsSameDelivery numbers d other → StartsBefore whole other → ⊥
  not_twice d whole other is_d is_e (inl less) =
      let back = apart numbers d.frame d.frame other.frame whole.frame near is_e.frame is_d.frame (omega arith) in
      omega arith
  not_twice d whole other is_d is_e (inr same) = omega (arith, same.1, is_d.start, is_e.start)

  -- the first deliveries of both lists are the same
  first_same : (d whole : Delivery) (deliveries all : List Delivery) → AllByRecursion (StartsBefore d) deliveries
      → AllByRecursion (StartsBefore whole) all → IsLeftOf (whole ∷ all) d → IsKeptOf (d ∷ deliveries) whole → IsSameDelivery numbers d whole
  first_same d whole deliveries all after whole_after (other, inl here, same) right = subst (IsSameDelivery numbers d) here same
  first_same d whole deliveries all after whole_after (other, inr there, same) (e, inl here, right) =
      subst (λ x. IsSameDelivery numbers x whole) here right
  first_same d whole deliveries all after whole_after (other, inr there, same) (e, inr later, right) =
      absurd (not_both_ways other whole (same_order numbers d e other whole near same right (each_among (StartsBefore d) e deliveries after later))
      (each_among (StartsBefore whole) other all whole_after there))

  -- the later deliveries of both lists are the same
  kept_later : (d whole : Delivery) (deliveries : List Delivery) → IsSameDelivery numbers d whole
      → (other : Delivery) → StartsBefore whole other → IsKeptOf (d ∷ deliveries) other → IsKeptOf deliveries other
  kept_later d whole deliveries same other after (e, inl here, right) =
      absurd (not_twice d whole other same (subst (λ x. IsSameDelivery numbers x other) here right) after)
  kept_later d whole deliveries same other after (e, inr there, right) = (e, there, right)

  same_packets_kept : (deliveries all : List Delivery) → AreInOrder deliveries → AreInOrder all → AllByRecursion (IsLeftOf all) deliveries
      → AllByRecursion (IsKeptOf deliveries) all → packets_delivered deliveries ≡ packets_delivered all
  same_packets_kept [] [] order whole_order each each_whole = refl
  same_packets_kept [] (whole ∷ all) order whole_order each ((d, among, same), each_whole) = absurd among
  same_packets_kept (d ∷ deliveries) [] order whole_order ((whole, among, same), each) each_whole = absurd among
  same_packets_kept (d ∷ deliveries) (whole ∷ all) order whole_order each each_whole =
      let same = first_same d whole deliveries all order.0 whole_order.0 each.0 each_whole.0 in
      ap₂ (λ p l. p ∷ l) same.packet (same_packets_kept deliveries all order.1 whole_order.1
      (each-both (StartsBefore d) (IsLeftOf (whole ∷ all)) (IsLeftOf all)
      (left_later d whole all same) deliveries order.0 each.1)
      (each-both (StartsBefore whole) (IsKeptOf (d ∷ deliveries)) (IsKeptOf deliveries) (kept_later d whole deliveries same) all whole_order.0 each_whole.1))

pub packets_are_kept : PacketsAreKept
packets_are_kept channel numbers kept left =
    let test = keeps_run numbers in
    let all = deliveries_of channel in
    same_packets_kept numbers left.few_lost (deliveries_of kept) (filter test all) (are_in_order kept) (in_order-filter test all (are_in_order channel))
    (each-weaker (IsDelivery kept) (IsLeftOf numbers left.few_lost (filter test all))
    (λ d x. let (whole, y, same) = none_is_new channel numbers kept d left x in (
      whole,
      filter_among test whole all (each_is_listed channel whole y)
          (test_from_run numbers whole (runs_are_kept numbers d whole left.few_lost same)),
      same,
    )) (deliveries_of kept) (each_is_delivery kept))
    (each-filter (IsDelivery channel) (IsKeptOf numbers left.few_lost (deliveries_of kept)) test
    (λ whole passes y. let (d, x, same) = kept_runs_are_left channel numbers kept whole left y (run_from_test numbers whole passes) in
    (d, each_is_listed kept d x, same)) all (each_is_delivery channel))

kept_sublist : (test : Delivery → Bool) (deliveries : List Delivery) → IsSublist (packets_delivered (filter test deliveries)) (packets_delivered deliveries)
kept_sublist test [] = tt
kept_sublist test (d ∷ deliveries) = cases (test d) (kept_sublist test deliveries)
  where
    cases : (b : Bool) → IsSublist (packets_delivered (filter test deliveries)) (packets_delivered deliveries)
        → IsSublist (packets_delivered (if b then d ∷ filter test deliveries else filter test deliveries)) (packets_delivered (d ∷ deliveries))
    cases true later = inl (refl, later)
    cases false later = sublist_more true d.packet (packets_delivered (filter test deliveries)) (packets_delivered deliveries) later

pub packets_are_sublist : PacketsAreSublist
packets_are_sublist channel numbers kept left = grind (arith, packets_are_kept, kept_sublist)

-- ---- recordings

-- the list of a virtual channel
pub recorded_on : (format : TmFormat) (spacecraft vc : ℕ) (recording : List ℕ) → vc < 8
    → recorded_packets format spacecraft vc recording ≡ without_idle (packets_of_channel (recorded_views format spacecraft recording) vc)
recorded_on format spacecraft vc recording below =
    let here : 0 + vc ≡ vc = omega arith in
    get_or-map-range_with_len (λ vc. without_idle (packets_of_channel (recorded_views format spacecraft recording) vc)) 0 8 vc vc [] below here

pub recorded_are_kept : RecordedAreKept
recorded_are_kept format spacecraft vc numbers whole recording is =
    recorded_on format spacecraft vc recording is.channel
    ∙ ap without_idle (packets_are_kept (recorded_channel format spacecraft vc whole) numbers (recorded_channel format spacecraft vc recording) is.kept)

pub recorded_are_sublist : RecordedAreSublist
recorded_are_sublist format spacecraft vc numbers whole recording is =
    let all = packets_of_channel (recorded_views format spacecraft whole) vc in
    let left = packets_of_channel (recorded_views format spacecraft recording) vc in
    subst (λ l. IsSublist l (recorded_packets format spacecraft vc whole)) (sym (recorded_on format spacecraft vc recording is.channel))
    (subst (IsSublist (without_idle left)) (sym (recorded_on format spacecraft vc whole is.channel))
    (sublist_filter (λ packet. not (is_idle_packet packet)) left all
    (packets_are_sublist (recorded_channel format spacecraft vc whole) numbers (recorded_channel format spacecraft vc recording) is.kept)))
