-- The anomalies of TC recordings: what `check tc` lists is what the relations say.
use Rattle.std.proofs.Common.{◌≡◌, ◌≢◌, ◌⊎◌, ℕ, ◌+◌, ◌-◌, ◌*◌, ◌/◌, ◌%◌, ◌^◌, ◌<◌, ◌≤◌, nat_lt, Bool, true, false, if◌then◌else◌, List, [], ◌∷◌, ◌++◌, length, map, take, Option, None, Some, Result, Ok, Err, inl, inr, refl, sym, ◌∙◌, ap, subst, arith, append_assoc, codes, length-append}
use Rattle.std.specs.Prelude.{is_some}
use Rattle.std.specs.List.{AllByRecursion, concat}
use Rattle.std.proofs.lemmas.Bool.{lt-ltb, ltb-true}
use Rattle.std.proofs.lemmas.Bool.Decides.{nat_tests}
use Rattle.std.proofs.lemmas.List.{length-map}
use Rattle.std.proofs.lemmas.Nat.{mod_below}
use Rattle.sl_fields.specs.Field.{number_of}
use Rattle.sl_cop.specs.declared.farm_event.FarmEvent.TheVariants as event
use Rattle.sl_cop.specs.declared.verdict.Verdict.{Verdict}
use Rattle.sl_cop.specs.declared.verdict.Verdict.TheVariants.{Accept, Early, Late, Outside, Refused}
use Rattle.sl_cop.specs.declared.verdict.Verdict.TheVariants as verdict
use Rattle.sl_cop.specs.Farm.{FarmState, IsStep, farm_step}
use Rattle.sl_cop.proofs.FarmLemmas.{each_has_step, has_step_once}
use Rattle.sl_packet.specs.Delivered.{channel_count}
use Rattle.sl_tcframe.specs.declared.tc_frame.TcSkip.{TcSkip}
use Rattle.sl_tcframe.specs.declared.tc_frame.TcSkip.TheVariants as tc
use Rattle.sl_tcframe.specs.TcDelimited.{tc_frames_of, tc_remainder_of}
use Rattle.sl_tcframe.specs.TcFrame.{Ad, Bd, Carries, Content, IsReadAs, SetVr, TcFormat, TcView, Unlock, is_cut, tc_header_of, tc_parts_of}
use Rattle.sl_tcframe.proofs.DelimitedLemmas.{delimited_once, each_is_delimited}
use Rattle.sl_tcframe.proofs.ReadLemmas.{is_read}
use Rattle.sl_tcflow.specs.Anomaly.{HasTail, dropped_by, dropped_of, long_by, long_of, of_accepted, stray_by, stray_of, tail_by, tail_of, told_of_segment}
use Rattle.sl_tcflow.specs.AcceptedUnit.{event_of, unit_by}
use Rattle.sl_tcflow.specs.Farms.{farm_of, verdict_on}
use Rattle.sl_tcflow.specs.Incomplete.{incomplete_of}
use Rattle.sl_tcflow.specs.Receiver.{map_of as map_of_content, segment_by, unit_channel, unit_map}
use Rattle.sl_tcflow.specs.Reception.{segments_of}
use Rattle.sl_tcflow.specs.ReceptionParameters.{ReceptionParameters, is_plain}
use Rattle.sl_tcflow.specs.Recording.{channel_at}
use Rattle.sl_tcflow.specs.Series.{header_at, segment_in}
use Rattle.sl_tcflow.proofs.lemmas.Anomaly.Tail.{tail_is_told, what_is_told_is_tail}
use Rattle.sl_tcflow.proofs.lemmas.Anomaly.Told.{dropped_is_told, long_is_told, stray_is_told, what_is_told_is_dropped, what_is_told_is_long, what_is_told_is_stray}
use Rattle.sl_tcflow.proofs.lemmas.Series.Incomplete.{incomplete_is_told, what_is_told_is_incomplete}
use Rattle.sl_tmflow.specs.Among.{IsAmong}
use Rattle.sl_tmflow.proofs.lemmas.Places.{among-left, among-right}
use Rattle.sl_engine.specs.Kind.Tc.{TcFinding, as_read, content_ns, found_after, tc_found, tc_kind, unit_channel_of}
use Rattle.sl_engine.specs.Link.Managed.{Parameters, reception_of, tc_format}
use Rattle.sl_engine.specs.Tally.{remainder_after}
use Rattle.sl_link.specs.Laws.Anomaly.{Anomaly, Finding, IsAnomalyIn, IsOfEnd, line_of, numbers_of}
use Rattle.sl_link.specs.Laws.Anomaly.{Discarded, Dropped, Foreign, Gap, Opaque, Open, Rest, Skip, Stray, Tail, TooLong}
use Rattle.sl_link.specs.Laws.Anomaly.Tc.{IsAccepted, IsIncompleteTc, TcAnomaliesAreCounted, TcAnomaliesAreListed, TcFinds, map_of, read_of, tc_reason}
use Rattle.sl_engine.specs.Verbs.Check.Lines.{event_anomaly, totals_line}
use Rattle.sl_engine.specs.Verbs.Check.Tc.{check_tc_counts, discarded_anomaly, discards, incomplete_anomaly, tc_anomalies_after, tc_anomaly_lines, tc_open}
use Rattle.sl_engine.specs.Verbs.Listing.{Frames}
use Rattle.sl_link.proofs.lemmas.Laws.Compared.{tc_numbers}
use Rattle.sl_engine.proofs.lemmas.Kind.Tc.{tc_adds_by_channel}
use Rattle.sl_link.proofs.lemmas.Laws.Anomaly.{AreWithin, Describes, all_all, all_anomalies, all_each, all_lines, all_ordered, among_either, at, counted, lines_both, when, when_among, when_line, when_there, within_both, within_none, within_one, within_when}

-- ---- a frame

abbrev discarded_found : ℕ → TcFinding → Option ℕ → List Anomaly
discarded_found offset found None = []
discarded_found offset found (Some ns) = at offset (Discarded found.verdict found.vc ns) ∷ []

abbrev discarded_by : Bool → ℕ → TcFinding → Option ℕ → List Anomaly
discarded_by holds offset found ns = if holds then discarded_found offset found ns else []

abbrev dropped_found : ℕ → TcFinding → Option ℕ → List Anomaly
dropped_found offset found None = []
dropped_found offset found (Some octets) = at offset (Dropped found.vc (Some found.map) octets) ∷ []

-- what is found of a frame, as anomalies
abbrev anomalies_found : ℕ → Result TcFinding TcSkip → List Anomaly
anomalies_found offset (Ok found) =
    discarded_by (discards found.verdict) offset found found.ns
    ++ (when found.stray (at offset (Stray found.vc found.map))
    ++ (dropped_found offset found found.dropped
    ++ (when found.long (at offset (TooLong found.vc found.map))
    ++ when (nat_lt 0 found.tail) (at offset (Tail found.vc found.map found.tail)))))
anomalies_found offset (Err reason) = at offset (Skip (tc_reason reason)) ∷ []

abbrev anomalies_of : Parameters → Frames → List ℕ → List Anomaly
anomalies_of p before frame = anomalies_found (length (concat before)) (tc_found p before frame)

-- they have the lines of the listing
discarded_lines : (holds : Bool) (offset : ℕ) (found : TcFinding) (ns : Option ℕ) → map line_of (discarded_by holds offset found ns) ≡ (if holds then discarded_anomaly offset found ns else [])
discarded_lines true offset found None = refl
discarded_lines true offset found (Some ns) = refl
discarded_lines false offset found ns = refl

dropped_lines : (offset : ℕ) (found : TcFinding) (dropped : Option ℕ) → map line_of (dropped_found offset found dropped) ≡ event_anomaly offset found.vc (Some found.map) (codes " dropped") (is_some dropped) dropped
dropped_lines offset found None = refl
dropped_lines offset found (Some octets) = refl

skip_line : (offset : ℕ) (reason : TcSkip) → map line_of (anomalies_found offset (Err reason)) ≡ tc_anomaly_lines offset (Err reason)
skip_line offset tc.Fecf = refl
skip_line offset tc.Version = refl
skip_line offset tc.Spacecraft = refl
skip_line offset tc.Long = refl
skip_line offset tc.Kind = refl
skip_line offset tc.Empty = refl
skip_line offset tc.Command = refl

found_lines : (offset : ℕ) (found : Result TcFinding TcSkip) → map line_of (anomalies_found offset found) ≡ tc_anomaly_lines offset found
found_lines offset (Ok found) =
    let discarded = if discards found.verdict then discarded_anomaly offset found found.ns else [] in
    let stray = event_anomaly offset found.vc (Some found.map) (codes " stray") found.stray None in
    let dropped = event_anomaly offset found.vc (Some found.map) (codes " dropped") (is_some found.dropped) found.dropped in
    let long = event_anomaly offset found.vc (Some found.map) (codes " long") found.long None in
    let tail = event_anomaly offset found.vc (Some found.map) (codes " tail") (nat_lt 0 found.tail) (Some found.tail) in
    lines_both (discarded_by (discards found.verdict) offset found found.ns) _ (discarded_lines (discards found.verdict) offset found found.ns)
    (lines_both (when found.stray (at offset (Stray found.vc found.map))) _ (when_line (at offset (Stray found.vc found.map)) found.stray)
    (lines_both (dropped_found offset found found.dropped) _ (dropped_lines offset found found.dropped)
    (lines_both (when found.long (at offset (TooLong found.vc found.map))) _ (when_line (at offset (TooLong found.vc found.map)) found.long)
    (when_line (at offset (Tail found.vc found.map found.tail)) (nat_lt 0 found.tail)))))
    ∙ sym (append_assoc (discarded ++ stray ++ dropped) long tail ∙ append_assoc (discarded ++ stray) dropped (long ++ tail) ∙ append_assoc discarded stray (dropped ++ (long ++ tail)))
found_lines offset (Err reason) = skip_line offset reason

-- they begin with the frame's offset, and are in order
discarded_within : (holds : Bool) (offset : ℕ) (found : TcFinding) (ns : Option ℕ) → AreWithin offset 0 3 (discarded_by holds offset found ns)
discarded_within true offset found None = within_none offset 0 3
discarded_within true offset found (Some ns) = within_one (at offset (Discarded found.verdict found.vc ns)) 0 3 (omega arith) (omega arith)
discarded_within false offset found ns = within_none offset 0 3

dropped_within : (offset : ℕ) (found : TcFinding) (dropped : Option ℕ) → AreWithin offset 4 5 (dropped_found offset found dropped)
dropped_within offset found None = within_none offset 4 5
dropped_within offset found (Some octets) = within_one (at offset (Dropped found.vc (Some found.map) octets)) 4 5 (omega arith) (omega arith)

found_within : (offset : ℕ) (found : Result TcFinding TcSkip) → AreWithin offset 0 9 (anomalies_found offset found)
found_within offset (Ok found) =
    let tail = within_when (at offset (Tail found.vc found.map found.tail)) (nat_lt 0 found.tail) 8 9 (omega arith) (omega arith) in
    let long = within_when (at offset (TooLong found.vc found.map)) found.long 5 8 (omega arith) (omega arith) in
    let stray = within_when (at offset (Stray found.vc found.map)) found.stray 3 4 (omega arith) (omega arith) in
    within_both offset 0 3 9 _ _ (omega arith) (omega arith) (discarded_within (discards found.verdict) offset found found.ns)
    (within_both offset 3 4 9 _ _ (omega arith) (omega arith) stray
    (within_both offset 4 5 9 _ _ (omega arith) (omega arith) (dropped_within offset found found.dropped) (within_both offset 5 8 9 _ _ (omega arith) (omega arith) long tail)))
found_within offset (Err reason) = within_one (at offset (Skip (tc_reason reason))) 0 9 (omega arith) (omega arith)

-- ---- the accepted segment

no_segment : (list : List (List ℕ)) (segment : List ℕ) → list ≡ [] → list ≡ segment ∷ [] → ⊥
no_segment list segment none some = cc

first_same : (one other : List ℕ) → one ∷ [] ≡ other ∷ [] → one ≡ other
first_same one other same = cc

segment_cases : (plain : Bool) (v : Verdict) (content : Content)
    → (map (segment_in plain) (unit_by v content) ≡ []) ⊎ ((segment : List ℕ) × (map (segment_in plain) (unit_by v content) ≡ segment ∷ []) × (map_of_content plain content ≡ (header_at segment).map))
segment_cases plain Accept (Ad ns unit) = inr (segment_in plain unit, refl, refl)
segment_cases plain Accept (Bd unit) = inr (segment_in plain unit, refl, refl)
segment_cases plain Accept Unlock = inl refl
segment_cases plain Accept (SetVr vr) = inl refl
segment_cases plain Early content = inl refl
segment_cases plain Late content = inl refl
segment_cases plain Outside content = inl refl
segment_cases plain Refused content = inl refl
segment_cases plain verdict.Command content = inl refl

module _ (r : ReceptionParameters) (views : List TcView) (view : TcView) where
  abbrev own : List (List ℕ)
  own = segments_of r view.vc (unit_map r view) views

  -- without a segment nothing is found
  by_none : {X : Type 0} (none : X) (told : List (List ℕ) → List ℕ → X) → segment_by r views view ≡ [] → of_accepted none told r views view ≡ none
  by_none none told is = ap (told_of_segment none (told own)) is

  by_segment : {X : Type 0} (none : X) (told : List (List ℕ) → List ℕ → X) (segment : List ℕ) → segment_by r views view ≡ segment ∷ [] → of_accepted none told r views view ≡ told own segment
  by_segment none told segment is = ap (told_of_segment none (told own)) is

  map_is : (segment : List ℕ) → segment_by r views view ≡ segment ∷ [] → unit_map r view ≡ (header_at segment).map
  map_is segment is = elim (segment_cases (is_plain r view.vc) (verdict_on r views view) view.content) [
    | inl none ↦ absurd (no_segment (segment_by r views view) segment none is)
    | inr (other, found, same) ↦ same ∙ ap (λ s. (header_at s).map) (first_same other segment (sym found ∙ is))
  ]

  -- what is told otherwise than without a segment has a segment
  has_segment : {X : Type 0} (none : X) (told : List (List ℕ) → List ℕ → X) (answer : X) → (none ≡ answer → ⊥) → of_accepted none told r views view ≡ answer
      → (segment : List ℕ) × (segment_by r views view ≡ segment ∷ []) × (told own segment ≡ answer)
  has_segment none told answer other is = elim (segment_cases (is_plain r view.vc) (verdict_on r views view) view.content) [
    | inl without ↦ absurd (other (sym (by_none none told without) ∙ is))
    | inr (segment, found, same) ↦ (segment, found, sym (by_segment none told segment found) ∙ is)
  ]

-- ---- each is one of the frame

discarded_is : (a : Anomaly) (holds : Bool) (offset : ℕ) (found : TcFinding) (ns : Option ℕ) → IsAmong a (discarded_by holds offset found ns)
    → (holds ≡ true) × ((n : ℕ) × (ns ≡ Some n) × (a ≡ at offset (Discarded found.verdict found.vc n)))
discarded_is a true offset found None there = absurd there
discarded_is a true offset found (Some n) (inl here) = (refl, (n, refl, here))
discarded_is a true offset found (Some n) (inr there) = absurd there
discarded_is a false offset found ns there = absurd there

dropped_is : (a : Anomaly) (offset : ℕ) (found : TcFinding) (dropped : Option ℕ) → IsAmong a (dropped_found offset found dropped)
    → (octets : ℕ) × (dropped ≡ Some octets) × (a ≡ at offset (Dropped found.vc (Some found.map) octets))
dropped_is a offset found None there = absurd there
dropped_is a offset found (Some octets) (inl here) = (octets, refl, here)
dropped_is a offset found (Some octets) (inr there) = absurd there

ns_is : (content : Content) (n : ℕ) → content_ns content ≡ Some n → (unit : List ℕ) × (content ≡ Ad n unit)
ns_is (Ad ns unit) n is = (unit, ap (λ m. Ad m unit) (same_some ns n is))
  where
    same_some : (x y : ℕ) → Some x ≡ Some y → x ≡ y
    same_some x y same = cc
ns_is (Bd unit) n is = absurd (cc)
ns_is Unlock n is = absurd (cc)
ns_is (SetVr vr) n is = absurd (cc)

not_accepted : (v : Verdict) → discards v ≡ true → v ≢ Accept
not_accepted v is same = false_true (sym (ap discards same) ∙ is)
  where
    false_true : false ≡ true → ⊥
    false_true wrong = cc

discarded_with : (w : ℕ) (s : FarmState) (ns : ℕ) (v : Verdict) (t : FarmState) → v ≢ Accept → IsStep w s (event.Ad ns) v t → discards v ≡ true
discarded_with w s ns Accept t other step = absurd (other refl)
discarded_with w s ns Early t other step = refl
discarded_with w s ns Late t other step = refl
discarded_with w s ns Outside t other step = refl
discarded_with w s ns Refused t other step = refl
discarded_with w s ns verdict.Command t other step = absurd step

false_true : false ≡ true → ⊥
false_true wrong = cc

none_some : (n : ℕ) → None ≡ Some n → ⊥
none_some n wrong = cc

-- what is found of a frame that is read
abbrev finding_of : ReceptionParameters → List TcView → TcView → TcFinding
finding_of r views view = record {
  vc = view.vc;
  map = unit_map r view;
  ns = content_ns view.content;
  verdict = verdict_on r views view;
  stray = stray_by r views view;
  dropped = dropped_by r views view;
  long = long_by r views view;
  tail = tail_by r views view;
}

module _ (p : Parameters) (before : Frames) (frame : List ℕ) where
  abbrev start : ℕ
  start = length (concat before)

  abbrev r : ReceptionParameters
  r = reception_of p

  abbrev views : List TcView
  views = read_of p before

  abbrev Finds : Anomaly → Type 0
  Finds a = TcFinds p before frame a.finding

  accepted : (view : TcView) (segment : List ℕ) → as_read p frame ≡ Ok view → segment_by r views view ≡ segment ∷ [] → IsAccepted p before frame view.vc (unit_map r view) segment
  accepted view segment is found = record { view = view; is_read = is; accepted = found; vc_is = refl; map_is = map_is r views view segment found }

  -- the parts of what is found of a frame that is read
  abbrev part_discarded : TcView → List Anomaly
  part_discarded view = discarded_by (discards (verdict_on r views view)) start (finding_of r views view) (content_ns view.content)

  abbrev part_stray : TcView → List Anomaly
  part_stray view = when (stray_by r views view) (at start (Stray view.vc (unit_map r view)))

  abbrev part_dropped : TcView → List Anomaly
  part_dropped view = dropped_found start (finding_of r views view) (dropped_by r views view)

  abbrev part_long : TcView → List Anomaly
  part_long view = when (long_by r views view) (at start (TooLong view.vc (unit_map r view)))

  abbrev part_tail : TcView → List Anomaly
  part_tail view = when (nat_lt 0 (tail_by r views view)) (at start (Tail view.vc (unit_map r view) (tail_by r views view)))

  each_discarded : (view : TcView) → as_read p frame ≡ Ok view → (a : Anomaly) → IsAmong a (part_discarded view) → Finds a
  each_discarded view is a there =
      let (told, ad) = discarded_is a (discards (verdict_on r views view)) start (finding_of r views view) (content_ns view.content) there in
      let (ns, is_ns, here) = ad in
      let (unit, carries) = ns_is view.content ns is_ns in
      let state = (farm_of r view.vc views).state in
      let step = each_has_step p.window state (event_of view.content) in
      subst Finds (sym here) (record {
        view = view;
        is_read = is;
        unit = unit;
        carries = carries;
        after = (farm_step p.window state (event_of view.content)).1;
        step = subst (λ e. IsStep p.window state e (verdict_on r views view) (farm_step p.window state (event_of view.content)).1) (ap event_of carries) step;
        discards = not_accepted (verdict_on r views view) told;
        vc_is = refl;
      })

  each_stray : (view : TcView) → as_read p frame ≡ Ok view → (a : Anomaly) → IsAmong a (part_stray view) → Finds a
  each_stray view is a there =
      let (told, here) = when_among a (at start (Stray view.vc (unit_map r view))) (stray_by r views view) there in
      let (segment, found, stray) = has_segment r views view false stray_of true false_true told in
      subst Finds (sym here) (segment, accepted view segment is found, what_is_told_is_stray (own r views view) segment stray)

  each_dropped : (view : TcView) → as_read p frame ≡ Ok view → (a : Anomaly) → IsAmong a (part_dropped view) → Finds a
  each_dropped view is a there =
      let (octets, told, here) = dropped_is a start (finding_of r views view) (dropped_by r views view) there in
      let (segment, found, dropped) = has_segment r views view None dropped_of (Some octets) (none_some octets) told in
      subst Finds (sym here) (segment, accepted view segment is found, what_is_told_is_dropped (own r views view) segment octets dropped)

  each_long : (view : TcView) → as_read p frame ≡ Ok view → (a : Anomaly) → IsAmong a (part_long view) → Finds a
  each_long view is a there =
      let (told, here) = when_among a (at start (TooLong view.vc (unit_map r view))) (long_by r views view) there in
      let (segment, found, long) = has_segment r views view false long_of true false_true told in
      subst Finds (sym here) (segment, accepted view segment is found, what_is_told_is_long (own r views view) segment long)

  each_tail : (view : TcView) → as_read p frame ≡ Ok view → (a : Anomaly) → IsAmong a (part_tail view) → Finds a
  each_tail view is a there =
      let (told, here) = when_among a (at start (Tail view.vc (unit_map r view) (tail_by r views view))) (nat_lt 0 (tail_by r views view)) there in
      let some : 0 < tail_by r views view = ltb-true 0 (tail_by r views view) told in
      let (segment, found, tail) = has_segment r views view 0 tail_of (tail_by r views view) (λ none. omega (arith, none, some)) refl in
      let whole : HasTail (own r views view) segment (tail_of (own r views view) segment) = what_is_told_is_tail (own r views view) segment (omega (arith, tail, some)) in
      subst Finds (sym here) (segment, accepted view segment is found, subst (HasTail (own r views view) segment) tail whole, some)

  view_each : (view : TcView) → as_read p frame ≡ Ok view → (a : Anomaly)
      → IsAmong a (part_discarded view ++ (part_stray view ++ (part_dropped view ++ (part_long view ++ part_tail view)))) → Finds a
  view_each view is a there = elim (among_either a (part_discarded view) _ there) [
    | inl first ↦ each_discarded view is a first
    | inr later ↦ elim (among_either a (part_stray view) _ later) [
      | inl second ↦ each_stray view is a second
      | inr after ↦ elim (among_either a (part_dropped view) _ after) [
        | inl third ↦ each_dropped view is a third
        | inr last ↦ elim (among_either a (part_long view) _ last) [
          | inl fourth ↦ each_long view is a fourth
          | inr fifth ↦ each_tail view is a fifth
        ]
      ]
    ]
  ]

  read_each : (read : Result TcView TcSkip) → as_read p frame ≡ read → (a : Anomaly) → IsAmong a (anomalies_found start (found_after r views read)) → Finds a
  read_each (Err reason) is a (inl here) = subst Finds (sym here) (reason, is, refl)
  read_each (Err reason) is a (inr there) = absurd there
  read_each (Ok view) is a there = view_each view is a there

  -- and all of the frame are there
  abbrev Lists : Finding → Result TcView TcSkip → Type 0
  Lists finding read = IsAmong (at start finding) (anomalies_found start (found_after r views read))

  discarded_there : (v : Verdict) (vc ns : ℕ) (holds : Bool) (found : TcFinding) (said : Option ℕ) → holds ≡ true → said ≡ Some ns → v ≡ found.verdict → vc ≡ found.vc
      → IsAmong (at start (Discarded v vc ns)) (discarded_by holds start found said)
  discarded_there v vc ns holds found said is told v_is vc_is =
      let same : at start (Discarded v vc ns) ≡ at start (Discarded found.verdict found.vc ns) = λ i. at start (Discarded (v_is i) (vc_is i) ns) in
      subst (λ b. IsAmong (at start (Discarded v vc ns)) (discarded_by b start found said)) (sym is)
      (subst (λ s. IsAmong (at start (Discarded v vc ns)) (discarded_found start found s)) (sym told) (inl same))

  dropped_there : (vc map_id octets : ℕ) (found : TcFinding) (said : Option ℕ) → said ≡ Some octets → vc ≡ found.vc → map_id ≡ found.map
      → IsAmong (at start (Dropped vc (Some map_id) octets)) (dropped_found start found said)
  dropped_there vc map_id octets found said told vc_is map_id_is =
      let same : at start (Dropped vc (Some map_id) octets) ≡ at start (Dropped found.vc (Some found.map) octets) = λ i. at start (Dropped (vc_is i) (Some (map_id_is i)) octets) in
      subst (λ s. IsAmong (at start (Dropped vc (Some map_id) octets)) (dropped_found start found s)) (sym told) (inl same)

  module _ {vc map_id : ℕ} {segment : List ℕ} (h : IsAccepted p before frame vc map_id segment) where
    same_map : map_id ≡ unit_map r h.view
    same_map = h.map_is ∙ sym (map_is r views h.view segment h.accepted)

    same_list : map_of p before vc map_id ≡ own r views h.view
    same_list = λ i. segments_of r (h.vc_is i) (same_map i) views

    told_is : {X : Type 0} (none : X) (told : List (List ℕ) → List ℕ → X) → of_accepted none told r views h.view ≡ told (map_of p before vc map_id) segment
    told_is none told = by_segment r views h.view none told segment h.accepted ∙ ap (λ l. told l segment) (sym same_list)

  all_found : (finding : Finding) → p.window ≤ 256 → TcFinds p before frame finding → Lists finding (as_read p frame)
  all_found (Skip reason) narrow h = subst (Lists (Skip reason)) (sym h.1) (inl (ap (λ s. at start (Skip s)) h.2))
  all_found (Discarded v vc ns) narrow h =
      let state = (farm_of r h.view.vc views).state in
      let once = has_step_once p.window state (event.Ad ns) v h.after (omega (arith, narrow)) h.step in
      let same : verdict_on r views h.view ≡ v = ap (λ c. (farm_step p.window state (event_of c)).0) h.carries ∙ once.0 in
      let told : discards (verdict_on r views h.view) ≡ true = ap discards same ∙ discarded_with p.window state ns v h.after h.discards h.step in
      subst (Lists (Discarded v vc ns)) (sym h.is_read)
      (among-left _ (part_discarded h.view) _
      (discarded_there v vc ns (discards (verdict_on r views h.view)) (finding_of r views h.view) (content_ns h.view.content) told (ap content_ns h.carries) (sym same) h.vc_is))
  all_found (Stray vc map_id) narrow h =
      let a = h.1 in
      let told : stray_by r views a.view ≡ true = told_is a false stray_of ∙ stray_is_told (map_of p before vc map_id) h.0 h.2 in
      let same : at start (Stray vc map_id) ≡ at start (Stray a.view.vc (unit_map r a.view)) = λ i. at start (Stray (a.vc_is i) (same_map a i)) in
      subst (Lists (Stray vc map_id)) (sym a.is_read)
      (among-right _ (part_discarded a.view) _ (among-left _ (part_stray a.view) _
      (when_there (at start (Stray vc map_id)) (at start (Stray a.view.vc (unit_map r a.view))) (stray_by r views a.view) told same)))
  all_found (Dropped vc (Some map_id) octets) narrow h =
      let a = h.1 in
      let told : dropped_by r views a.view ≡ Some octets = told_is a None dropped_of ∙ dropped_is_told (map_of p before vc map_id) h.0 octets h.2 in
      subst (Lists (Dropped vc (Some map_id) octets)) (sym a.is_read)
      (among-right _ (part_discarded a.view) _ (among-right _ (part_stray a.view) _ (among-left _ (part_dropped a.view) _
      (dropped_there vc map_id octets (finding_of r views a.view) (dropped_by r views a.view) told a.vc_is (same_map a)))))
  all_found (Dropped vc None octets) narrow h = absurd h
  all_found (TooLong vc map_id) narrow h =
      let a = h.1 in
      let told : long_by r views a.view ≡ true = told_is a false long_of ∙ long_is_told (map_of p before vc map_id) h.0 h.2 in
      let same : at start (TooLong vc map_id) ≡ at start (TooLong a.view.vc (unit_map r a.view)) = λ i. at start (TooLong (a.vc_is i) (same_map a i)) in
      subst (Lists (TooLong vc map_id)) (sym a.is_read)
      (among-right _ (part_discarded a.view) _ (among-right _ (part_stray a.view) _ (among-right _ (part_dropped a.view) _ (among-left _ (part_long a.view) _
      (when_there (at start (TooLong vc map_id)) (at start (TooLong a.view.vc (unit_map r a.view))) (long_by r views a.view) told same)))))
  all_found (Tail vc map_id octets) narrow h =
      let a = h.1 in
      let told : tail_by r views a.view ≡ octets = told_is a 0 tail_of ∙ tail_is_told (map_of p before vc map_id) h.0 octets h.2 in
      let some : 0 < tail_by r views a.view = omega (arith, told, h.3) in
      let same : at start (Tail vc map_id octets) ≡ at start (Tail a.view.vc (unit_map r a.view) (tail_by r views a.view)) = λ i. at start (Tail (a.vc_is i) (same_map a i) (sym told i)) in
      subst (Lists (Tail vc map_id octets)) (sym a.is_read)
      (among-right _ (part_discarded a.view) _ (among-right _ (part_stray a.view) _ (among-right _ (part_dropped a.view) _ (among-right _ (part_long a.view) _
      (when_there (at start (Tail vc map_id octets)) (at start (Tail a.view.vc (unit_map r a.view) (tail_by r views a.view))) (nat_lt 0 (tail_by r views a.view)) (lt-ltb 0 (tail_by r views a.view) some) same)))))
  all_found (Gap vc expected found) narrow h = absurd h
  all_found (Opaque vc) narrow h = absurd h
  all_found (Foreign vc) narrow h = absurd h
  all_found (Rest octets) narrow h = absurd h
  all_found (Open vc map_id octets) narrow h = absurd h

-- ---- after the last frame

abbrev open_found : ℕ → ℕ → ℕ → Option (List ℕ) → List Anomaly
open_found offset vc map_id None = []
open_found offset vc map_id (Some octets) = at offset (Open vc (Some map_id) (length octets)) ∷ []

abbrev opened : Parameters → ℕ → Frames → ℕ → List Anomaly
opened p offset frames channel = open_found offset (channel / 64) (channel % 64) (incomplete_of (map_of p frames (channel / 64) (channel % 64)))

open_lines : (offset vc map_id : ℕ) (held : Option (List ℕ)) → map line_of (open_found offset vc map_id held) ≡ incomplete_anomaly offset vc map_id held
open_lines offset vc map_id None = refl
open_lines offset vc map_id (Some octets) = refl

open_within : (offset vc map_id low : ℕ) (held : Option (List ℕ)) → low ≡ 10 + channel_at vc map_id → AreWithin offset low (low + 1) (open_found offset vc map_id held)
open_within offset vc map_id low None is = within_none offset low (low + 1)
open_within offset vc map_id low (Some octets) is = within_one (at offset (Open vc (Some map_id) (length octets))) low (low + 1) (omega (arith, is)) (omega (arith, is))

open_is : (a : Anomaly) (offset vc map_id : ℕ) (held : Option (List ℕ)) → IsAmong a (open_found offset vc map_id held)
    → (octets : List ℕ) × (held ≡ Some octets) × (a ≡ at offset (Open vc (Some map_id) (length octets)))
open_is a offset vc map_id None there = absurd there
open_is a offset vc map_id (Some octets) (inl here) = (octets, refl, here)
open_is a offset vc map_id (Some octets) (inr there) = absurd there

opens_each : (p : Parameters) (offset : ℕ) (frames : Frames) (channel : ℕ) (a : Anomaly) → channel < channel_count → IsAmong a (opened p offset frames channel) → IsOfEnd (IsIncompleteTc p frames) offset a
opens_each p offset frames channel a inside there =
    let list = map_of p frames (channel / 64) (channel % 64) in
    let (octets, told, here) = open_is a offset (channel / 64) (channel % 64) (incomplete_of list) there in
    record {
      vc = channel / 64;
      map_id = Some (channel % 64);
      octets = octets;
      incomplete = (omega (arith, inside), omega arith, what_is_told_is_incomplete list octets told);
      at = ap (λ (x : Anomaly). x.offset) here;
      found = ap (λ (x : Anomaly). x.finding) here;
    }

open_there : (a : Anomaly) (offset vc map_id : ℕ) (octets : List ℕ) (held : Option (List ℕ)) → held ≡ Some octets → a ≡ at offset (Open vc (Some map_id) (length octets)) → IsAmong a (open_found offset vc map_id held)
open_there a offset vc map_id octets held is same = subst (λ o. IsAmong a (open_found offset vc map_id o)) (sym is) (inl same)

opens_on : (p : Parameters) (offset : ℕ) (frames : Frames) (a : Anomaly) (vc : ℕ) (map_id : Option ℕ) (octets : List ℕ) → IsIncompleteTc p frames vc map_id octets → a ≡ at offset (Open vc map_id (length octets))
    → (channel : ℕ) × (channel < channel_count) × IsAmong a (opened p offset frames channel)
opens_on p offset frames a vc None octets h same = absurd h
opens_on p offset frames a vc (Some map_id) octets h same =
    let vc_is : channel_at vc map_id / 64 ≡ vc = omega (arith, h.1) in
    let map_id_is : channel_at vc map_id % 64 ≡ map_id = omega (arith, h.1) in
    let there : IsAmong a (open_found offset vc map_id (incomplete_of (map_of p frames vc map_id))) = open_there a offset vc map_id octets (incomplete_of (map_of p frames vc map_id)) (incomplete_is_told (map_of p frames vc map_id) octets h.2) same in (
      channel_at vc map_id,
      omega (arith, h.0, h.1),
      subst (λ v. IsAmong a (open_found offset v (channel_at vc map_id % 64) (incomplete_of (map_of p frames v (channel_at vc map_id % 64))))) (sym vc_is)
          (subst (λ m. IsAmong a (open_found offset vc m (incomplete_of (map_of p frames vc m)))) (sym map_id_is) there),
    )

opens_all : (p : Parameters) (offset : ℕ) (frames : Frames) (a : Anomaly) → IsOfEnd (IsIncompleteTc p frames) offset a → (channel : ℕ) × (channel < channel_count) × IsAmong a (opened p offset frames channel)
opens_all p offset frames a h =
    let same : a ≡ at offset (Open h.vc h.map_id (length h.octets)) = λ i. record { offset = h.at i; finding = h.found i } in
    opens_on p offset frames a h.vc h.map_id h.octets h.incomplete same

-- ---- a recording

tc_described : (p : Parameters) → p.window ≤ 256 → Describes channel_count (tc_anomalies_after p) (tc_open p) (TcFinds p) (IsIncompleteTc p) (anomalies_of p) (opened p)
tc_described p narrow = record {
  frame_lines = λ before frame. found_lines (length (concat before)) (tc_found p before frame);
  end_lines = λ offset frames channel. open_lines offset (channel / 64) (channel % 64) (incomplete_of (map_of p frames (channel / 64) (channel % 64)));
  finds_each = λ before frame a there. read_each p before frame (as_read p frame) refl a there;
  finds_all = λ before frame finding h. all_found p before frame finding narrow h;
  frame_within = λ before frame. found_within (length (concat before)) (tc_found p before frame);
  opens_each = λ offset frames channel a inside there. opens_each p offset frames channel a inside there;
  opens_all = λ offset frames a h. opens_all p offset frames a h;
  end_within = λ offset frames channel inside.
      let last : 10 + channel + 1 ≡ 11 + channel = omega arith in
      rw last at (open_within offset (channel / 64) (channel % 64) (10 + channel) (incomplete_of (map_of p frames (channel / 64) (channel % 64))) (omega arith));
}

one_octet : (format : TcFormat) (frame : List ℕ) → is_cut format frame ≡ true → 0 < length frame
one_octet format frame cut = grind (arith, nat_tests)

some_octets : (format : TcFormat) (frames : Frames) → AllByRecursion (λ frame. is_cut format frame ≡ true) frames → AllByRecursion (λ frame. 0 < length frame) frames
some_octets format [] each = tt
some_octets format (frame ∷ frames) each = (one_octet format frame each.0, some_octets format frames each.1)

pub tc_anomalies_are_listed : TcAnomaliesAreListed
tc_anomalies_are_listed p recording accepted narrow =
    let format = tc_format p in
    let frames = tc_frames_of format recording in
    let remainder = tc_remainder_of format recording in
    let left = remainder_after frames recording in
    let delimited = each_is_delimited format recording in
    let many : left ≡ length remainder = omega (arith, ap length delimited.end_to_end, length-append (concat frames) remainder) in
    let numbers = tc_numbers p recording in
    let channels = (tc_adds_by_channel p).all in
    let d = tc_described p narrow in
    let lines = all_lines d (tc_kind p) channels frames left in
    let anomalies = all_anomalies d (tc_kind p) channels frames left in
    record {
      anomalies = anomalies;
      lines = numbers.text_is ∙ ap (λ l. concat l ++ totals_line (check_tc_counts p recording)) (sym lines);
      exactly = λ a. (
        λ there. record {
          frames = frames;
          remainder = remainder;
          delimited = delimited;
          is = subst (λ n. IsAnomalyIn (TcFinds p) (IsIncompleteTc p) frames n a) many (all_each d (tc_kind p) channels frames left a there);
        },
        λ h.
            let once = delimited_once format recording h.frames h.remainder h.delimited in
            let rest : left ≡ length h.remainder = many ∙ ap length once.1 in
            all_all d (tc_kind p) channels frames left a
            (subst (λ fs. IsAnomalyIn (TcFinds p) (IsIncompleteTc p) fs left a) (sym once.0) (subst (λ n. IsAnomalyIn (TcFinds p) (IsIncompleteTc p) h.frames n a) (sym rest) h.is)),
      );
      in_order = all_ordered d (tc_kind p) channels frames left (some_octets format frames delimited.each);
      number = numbers.many ∙ ap length (sym lines) ∙ length-map anomalies line_of;
    }

-- ---- the numbers of its anomalies

module _ (p : Parameters) (before : Frames) (frame : List ℕ) where
  small_channel : (view : TcView) → as_read p frame ≡ Ok view → unit_channel (reception_of p) view < channel_count
  small_channel view is = subst (λ read. unit_channel_of (reception_of p) read < channel_count) is ((tc_adds_by_channel p).inside frame)

  small_ns : (view : TcView) (ns : ℕ) (unit : List ℕ) → as_read p frame ≡ Ok view → view.content ≡ Ad ns unit → ns < 256
  small_ns view ns unit is carries =
      let read = subst (IsReadAs (tc_format p) p.spacecraft frame) is (is_read (tc_format p) p.spacecraft frame) in
      let ad = subst (Carries (tc_header_of frame) (tc_parts_of (tc_format p) frame).field) carries read.2 in
      omega (arith, ad.3, mod_below (number_of (take 5 frame) / 2 ^ (8 * 5 - 32 - 8)) (2 ^ 8) (omega arith))

  module _ {vc map_id : ℕ} {segment : List ℕ} (h : IsAccepted p before frame vc map_id segment) where
    small_vc : vc < 64
    small_vc = omega (arith, h.vc_is, small_channel h.view h.is_read)

    small_map : map_id < 4096
    small_map = omega (arith, same_map p before frame h, small_channel h.view h.is_read)

  found_small : (finding : Finding) → TcFinds p before frame finding → AllByRecursion (λ n. n < 2 ^ 64) (numbers_of finding)
  found_small (Skip reason) h = tt
  found_small (Discarded v vc ns) h =
      (omega (arith, h.vc_is, small_channel h.view h.is_read), (omega (arith, small_ns h.view ns h.unit h.is_read h.carries), tt))
  found_small (Stray vc map_id) h = (omega (arith, small_vc h.1), (omega (arith, small_map h.1), tt))
  found_small (Dropped vc (Some map_id) octets) h =
      (omega (arith, small_vc h.1), (omega (arith, small_map h.1), (omega (arith, h.2.count_is, h.2.incomplete.fits), tt)))
  found_small (Dropped vc None octets) h = absurd h
  found_small (TooLong vc map_id) h = (omega (arith, small_vc h.1), (omega (arith, small_map h.1), tt))
  found_small (Tail vc map_id octets) h =
      let left = h.2 in
      let within = ap length left.are_packets.end_to_end ∙ length-append (concat left.packets) left.left in
      (omega (arith, small_vc h.1), (omega (arith, small_map h.1), (omega (arith, left.count_is, left.fits, within), tt)))
  found_small (Gap vc expected found) h = absurd h
  found_small (Opaque vc) h = absurd h
  found_small (Foreign vc) h = absurd h
  found_small (Rest octets) h = absurd h
  found_small (Open vc map_id octets) h = absurd h

open_small : (p : Parameters) (frames : Frames) (vc : ℕ) (map_id : Option ℕ) (octets : List ℕ) → IsIncompleteTc p frames vc map_id octets
    → AllByRecursion (λ n. n < 2 ^ 64) (numbers_of (Open vc map_id (length octets)))
open_small p frames vc None octets h = absurd h
open_small p frames vc (Some map_id) octets h = (omega (arith, h.0), (omega (arith, h.1), (omega (arith, h.2.fits), tt)))

pub tc_anomalies_are_counted : TcAnomaliesAreCounted
tc_anomalies_are_counted p recording a accepted small h =
    counted (TcFinds p) (IsIncompleteTc p) h.frames (length h.remainder) a h.is (λ before frame finding found. found_small p before frame finding found) (λ vc map_id octets incomplete. open_small p h.frames vc map_id octets incomplete)
    (subst (λ n. n < 2 ^ 64) (ap length h.delimited.end_to_end ∙ length-append (concat h.frames) h.remainder) small)
