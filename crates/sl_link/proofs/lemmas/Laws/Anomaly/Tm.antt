-- The anomalies of TM recordings: what `check tm` lists is what the relations say.
use Rattle.std.proofs.Common.{◌≡◌, ℕ, ◌+◌, ◌-◌, ◌*◌, ◌/◌, ◌^◌, ◌<◌, ◌≤◌, nat_lt, take, true, List, [], ◌∷◌, ◌++◌, length, map, Option, None, Some, Result, Ok, Err, inl, inr, refl, sym, ◌∙◌, ap, subst, arith, append_assoc, codes, length-append}
use Rattle.std.specs.List.{AllByRecursion, concat}
use Rattle.std.proofs.lemmas.Bool.{lt-ltb, ltb-true}
use Rattle.std.proofs.lemmas.List.{length-map}
use Rattle.std.proofs.lemmas.Nat.{mod_below}
use Rattle.sl_fields.specs.Field.{number_of}
use Rattle.sl_tmframe.specs.declared.tm_frame.TmSkip.{TmSkip}
use Rattle.sl_tmframe.specs.declared.tm_frame.TmSkip.TheVariants as tm
use Rattle.sl_tmframe.specs.TmDelimited.{tm_frames_of, tm_remainder_of}
use Rattle.sl_tmframe.specs.TmFrame.{TmView, DataField, read_as, skip_reason, view_of}
use Rattle.sl_tmframe.specs.TmFrame as content
use Rattle.sl_tmframe.proofs.DelimitedLemmas.{is_delimited, only_frames, only_remainder}
use Rattle.sl_tmflow.specs.Among.{IsAmong}
use Rattle.sl_tmflow.specs.Anomaly.{dropped_of, foreign_of, gap_of}
use Rattle.sl_tmflow.specs.Incomplete.{IsIncomplete, IsShort, incomplete_of}
use Rattle.sl_tmflow.specs.VirtualChannel.{views_of}
use Rattle.sl_tmflow.proofs.lemmas.Anomaly.{each_foreign_start_is_told, each_gap_is_told, each_told_is_a_foreign_start, each_told_is_a_gap}
use Rattle.sl_tmflow.proofs.lemmas.Incomplete.BrokenOff.{broken_off_is_short, broken_off_is_told, each_broken_off_is_listed, what_is_told_is_broken_off}
use Rattle.sl_tmflow.proofs.lemmas.Incomplete.List.{each_incomplete_is_listed, each_listed_is_incomplete, incomplete_is_short, one_is_incomplete}
use Rattle.sl_tmflow.proofs.lemmas.Places.{among-left, among-right, each_among}
use Rattle.sl_engine.specs.Kind.Tm.{TmFinding, as_read, found_after, is_opaque, tm_found, tm_kind, vc_of}
use Rattle.sl_engine.specs.Link.Managed.{Parameters, tm_format}
use Rattle.sl_engine.specs.Tally.{remainder_after}
use Rattle.sl_link.specs.Laws.Anomaly.{Anomaly, Finding, IsAnomalyIn, IsOfEnd, line_of, numbers_of}
use Rattle.sl_link.specs.Laws.Anomaly.{Dropped, Foreign, Gap, Opaque, Open, Skip}
use Rattle.sl_link.specs.Laws.Anomaly.{Discarded, Rest, Stray, Tail, TooLong}
use Rattle.sl_link.specs.Laws.Anomaly.Tm.{IsIncompleteTm, TmAnomaliesAreCounted, TmAnomaliesAreListed, TmFinds, channel_of, tm_reason}
use Rattle.sl_engine.specs.Verbs.Check.Lines.{event_anomaly, event_line, totals_line}
use Rattle.sl_engine.specs.Verbs.Check.Tm.{check_tm_counts, gap_anomaly, tm_anomalies_after, tm_anomaly_lines, tm_open}
use Rattle.sl_engine.specs.Verbs.Listing.{Frames}
use Rattle.sl_link.proofs.lemmas.Laws.Compared.{tm_numbers}
use Rattle.sl_engine.proofs.lemmas.Kind.Tm.{tm_adds_by_channel}
use Rattle.sl_engine.proofs.lemmas.Link.Managed.{managed_length}
use Rattle.sl_link.proofs.lemmas.Laws.Anomaly.{AreWithin, Describes, all_all, all_anomalies, all_each, all_lines, all_ordered, among_either, among_map, at, counted, lines_both, map_among, when, when_among, when_line, when_there, within_both, within_none, within_one, within_when}

-- ---- a frame

abbrev gap_found : ℕ → TmFinding → Option ℕ → List Anomaly
gap_found offset found None = []
gap_found offset found (Some expected) = at offset (Gap found.vc expected found.vc_count) ∷ []

-- what is found of a frame, as anomalies
abbrev anomalies_found : ℕ → Result TmFinding TmSkip → List Anomaly
anomalies_found offset (Ok found) =
    gap_found offset found found.gap
    ++ (when (nat_lt 0 found.dropped) (at offset (Dropped found.vc None found.dropped))
    ++ (when found.opaque (at offset (Opaque found.vc))
    ++ when found.foreign (at offset (Foreign found.vc))))
anomalies_found offset (Err reason) = at offset (Skip (tm_reason reason)) ∷ []

abbrev anomalies_of : Parameters → Frames → List ℕ → List Anomaly
anomalies_of p before frame = anomalies_found (length (concat before)) (tm_found p before frame)

-- they have the lines of the listing
gap_lines : (offset : ℕ) (found : TmFinding) (gap : Option ℕ) → map line_of (gap_found offset found gap) ≡ gap_anomaly offset found gap
gap_lines offset found None = refl
gap_lines offset found (Some expected) = refl

skip_line : (offset : ℕ) (reason : TmSkip) → map line_of (anomalies_found offset (Err reason)) ≡ tm_anomaly_lines offset (Err reason)
skip_line offset tm.Fecf = refl
skip_line offset tm.Version = refl
skip_line offset tm.Spacecraft = refl

found_lines : (offset : ℕ) (found : Result TmFinding TmSkip) → map line_of (anomalies_found offset found) ≡ tm_anomaly_lines offset found
found_lines offset (Ok found) =
    let gap = gap_anomaly offset found found.gap in
    let dropped = event_anomaly offset found.vc None (codes " dropped") (nat_lt 0 found.dropped) (Some found.dropped) in
    let opaque = event_anomaly offset found.vc None (codes " opaque") found.opaque None in
    let foreign = event_anomaly offset found.vc None (codes " foreign") found.foreign None in
    lines_both (gap_found offset found found.gap) _ (gap_lines offset found found.gap)
    (lines_both (when (nat_lt 0 found.dropped) (at offset (Dropped found.vc None found.dropped))) _ (when_line (at offset (Dropped found.vc None found.dropped)) (nat_lt 0 found.dropped))
    (lines_both (when found.opaque (at offset (Opaque found.vc))) _ (when_line (at offset (Opaque found.vc)) found.opaque)
    (when_line (at offset (Foreign found.vc)) found.foreign)))
    ∙ sym (append_assoc (gap ++ dropped) opaque foreign ∙ append_assoc gap dropped (opaque ++ foreign))
found_lines offset (Err reason) = skip_line offset reason

-- they begin with the frame's offset, and are in order
gap_within : (offset : ℕ) (found : TmFinding) (gap : Option ℕ) → AreWithin offset 0 4 (gap_found offset found gap)
gap_within offset found None = within_none offset 0 4
gap_within offset found (Some expected) = within_one (at offset (Gap found.vc expected found.vc_count)) 0 4 (omega arith) (omega arith)

found_within : (offset : ℕ) (found : Result TmFinding TmSkip) → AreWithin offset 0 9 (anomalies_found offset found)
found_within offset (Ok found) =
    let foreign = within_when (at offset (Foreign found.vc)) found.foreign 6 9 (omega arith) (omega arith) in
    let opaque = within_when (at offset (Opaque found.vc)) found.opaque 5 6 (omega arith) (omega arith) in
    let dropped = within_when (at offset (Dropped found.vc None found.dropped)) (nat_lt 0 found.dropped) 4 5 (omega arith) (omega arith) in
    within_both offset 0 4 9 _ _ (omega arith) (omega arith) (gap_within offset found found.gap)
    (within_both offset 4 5 9 _ _ (omega arith) (omega arith) dropped (within_both offset 5 6 9 _ _ (omega arith) (omega arith) opaque foreign))
found_within offset (Err reason) = within_one (at offset (Skip (tm_reason reason))) 0 9 (omega arith) (omega arith)

-- ---- each is one of the frame

gap_is : (a : Anomaly) (offset : ℕ) (found : TmFinding) (gap : Option ℕ) → IsAmong a (gap_found offset found gap) → (expected : ℕ) × (gap ≡ Some expected) × (a ≡ at offset (Gap found.vc expected found.vc_count))
gap_is a offset found None there = absurd there
gap_is a offset found (Some expected) (inl here) = (expected, refl, here)
gap_is a offset found (Some expected) (inr there) = absurd there

opaque_is : (field : DataField) → is_opaque field ≡ true → field ≡ content.Opaque
opaque_is (content.Packets first octets) is = absurd (cc)
opaque_is content.Idle is = absurd (cc)
opaque_is content.Opaque is = refl

-- what is found of a frame that is read, after the frames of its virtual channel
abbrev finding_of : List TmView → TmView → TmFinding
finding_of channel view = record {
  vc = view.vc;
  vc_count = view.vc_count;
  gap = gap_of channel view;
  dropped = dropped_of channel view;
  opaque = is_opaque view.field;
  foreign = foreign_of view.field;
}

module _ (p : Parameters) (before : Frames) (frame : List ℕ) where
  abbrev start : ℕ
  start = length (concat before)

  abbrev Finds : Anomaly → Type 0
  Finds a = TmFinds p before frame a.finding

  abbrev ahead : TmView → List TmView
  ahead view = channel_of p before view.vc

  view_each : (view : TmView) → as_read p frame ≡ Ok view → (a : Anomaly)
      → IsAmong a (gap_found start (finding_of (ahead view) view) (gap_of (ahead view) view)
      ++ (when (nat_lt 0 (dropped_of (ahead view) view)) (at start (Dropped view.vc None (dropped_of (ahead view) view)))
      ++ (when (is_opaque view.field) (at start (Opaque view.vc)) ++ when (foreign_of view.field) (at start (Foreign view.vc)))))
      → Finds a
  view_each view is a there = elim (among_either a (gap_found start (finding_of (ahead view) view) (gap_of (ahead view) view)) _ there) [
    | inl at_gap ↦
        let (expected, told, here) = gap_is a start (finding_of (ahead view) view) (gap_of (ahead view) view) at_gap in
        subst Finds (sym here) (view, is, each_told_is_a_gap (ahead view) view expected told, refl, refl)
    | inr later ↦ elim (among_either a (when (nat_lt 0 (dropped_of (ahead view) view)) (at start (Dropped view.vc None (dropped_of (ahead view) view)))) _ later) [
      | inl at_dropped ↦
          let (told, here) = when_among a (at start (Dropped view.vc None (dropped_of (ahead view) view))) (nat_lt 0 (dropped_of (ahead view) view)) at_dropped in
          let (packet, broken) = what_is_told_is_broken_off (ahead view) view (ltb-true 0 (dropped_of (ahead view) view) told) in
          subst Finds (sym here) (view, packet, is, broken, refl, refl, broken_off_is_told (ahead view) view packet broken)
      | inr last ↦ elim (among_either a (when (is_opaque view.field) (at start (Opaque view.vc))) _ last) [
        | inl at_opaque ↦
            let (told, here) = when_among a (at start (Opaque view.vc)) (is_opaque view.field) at_opaque in
            subst Finds (sym here) (view, is, opaque_is view.field told, refl)
        | inr at_foreign ↦
            let (told, here) = when_among a (at start (Foreign view.vc)) (foreign_of view.field) at_foreign in
            subst Finds (sym here) (view, is, each_told_is_a_foreign_start view.field told, refl)
      ]
    ]
  ]

  read_each : (read : Result TmView TmSkip) → as_read p frame ≡ read → (a : Anomaly)
      → IsAmong a (anomalies_found start (found_after (views_of (tm_format p) p.spacecraft before) read)) → Finds a
  read_each (Err reason) is a (inl here) = subst Finds (sym here) (reason, is, refl)
  read_each (Err reason) is a (inr there) = absurd there
  read_each (Ok view) is a there = view_each view is a there

  -- and all of the frame are there
  abbrev Lists : Finding → Result TmView TmSkip → Type 0
  Lists finding read = IsAmong (at start finding) (anomalies_found start (found_after (views_of (tm_format p) p.spacecraft before) read))

  gap_there : (vc count expected : ℕ) (found : TmFinding) (gap : Option ℕ) → gap ≡ Some expected → vc ≡ found.vc → count ≡ found.vc_count
      → IsAmong (at start (Gap vc expected count)) (gap_found start found gap)
  gap_there vc count expected found gap told vc_is count_is =
      let same : at start (Gap vc expected count) ≡ at start (Gap found.vc expected found.vc_count) = λ i. at start (Gap (vc_is i) expected (count_is i)) in
      subst (λ g. IsAmong (at start (Gap vc expected count)) (gap_found start found g)) (sym told) (inl same)

  all_found : (finding : Finding) → TmFinds p before frame finding → Lists finding (as_read p frame)
  all_found (Skip reason) h = subst (Lists (Skip reason)) (sym h.1) (inl (ap (λ r. at start (Skip r)) h.2))
  all_found (Gap vc expected count) h =
      let view = h.0 in
      let told = each_gap_is_told (ahead view) view expected h.2 in
      subst (Lists (Gap vc expected count)) (sym h.1)
      (among-left _ (gap_found start (finding_of (ahead view) view) (gap_of (ahead view) view)) _ (gap_there vc count expected (finding_of (ahead view) view) (gap_of (ahead view) view) told h.3 h.4))
  all_found (Dropped vc map_id octets) h =
      let view = h.0 in
      let packet = h.1 in
      let many : dropped_of (ahead view) view ≡ length packet = broken_off_is_told (ahead view) view packet h.3 in
      let short = each_among IsShort packet _ (broken_off_is_short (ahead view) view) (each_broken_off_is_listed (ahead view) view packet h.3) in
      let some : 0 < dropped_of (ahead view) view = omega (arith, many, short.0) in
      let is_many : octets ≡ dropped_of (ahead view) view = h.6 ∙ sym many in
      let same : at start (Dropped vc map_id octets) ≡ at start (Dropped view.vc None (dropped_of (ahead view) view)) = λ i. at start (Dropped (h.4 i) (h.5 i) (is_many i)) in
      subst (Lists (Dropped vc map_id octets)) (sym h.2)
      (among-right _ (gap_found start (finding_of (ahead view) view) (gap_of (ahead view) view)) _
      (among-left _ (when (nat_lt 0 (dropped_of (ahead view) view)) (at start (Dropped view.vc None (dropped_of (ahead view) view)))) _
      (when_there (at start (Dropped vc map_id octets)) (at start (Dropped view.vc None (dropped_of (ahead view) view))) (nat_lt 0 (dropped_of (ahead view) view)) (lt-ltb 0 (dropped_of (ahead view) view) some) same)))
  all_found (Opaque vc) h =
      let view = h.0 in
      subst (Lists (Opaque vc)) (sym h.1)
      (among-right _ (gap_found start (finding_of (ahead view) view) (gap_of (ahead view) view)) _
      (among-right _ (when (nat_lt 0 (dropped_of (ahead view) view)) (at start (Dropped view.vc None (dropped_of (ahead view) view)))) _
      (among-left _ (when (is_opaque view.field) (at start (Opaque view.vc))) _
      (when_there (at start (Opaque vc)) (at start (Opaque view.vc)) (is_opaque view.field) (ap is_opaque h.2) (ap (λ c. at start (Opaque c)) h.3)))))
  all_found (Foreign vc) h =
      let view = h.0 in
      subst (Lists (Foreign vc)) (sym h.1)
      (among-right _ (gap_found start (finding_of (ahead view) view) (gap_of (ahead view) view)) _
      (among-right _ (when (nat_lt 0 (dropped_of (ahead view) view)) (at start (Dropped view.vc None (dropped_of (ahead view) view)))) _
      (among-right _ (when (is_opaque view.field) (at start (Opaque view.vc))) _
      (when_there (at start (Foreign vc)) (at start (Foreign view.vc)) (foreign_of view.field) (each_foreign_start_is_told view.field h.2) (ap (λ c. at start (Foreign c)) h.3)))))
  all_found (Discarded verdict vc ns) h = absurd h
  all_found (Stray vc map_id) h = absurd h
  all_found (TooLong vc map_id) h = absurd h
  all_found (Tail vc map_id octets) h = absurd h
  all_found (Rest octets) h = absurd h
  all_found (Open vc map_id octets) h = absurd h

-- ---- after the last frame

abbrev opened : Parameters → ℕ → Frames → ℕ → List Anomaly
opened p offset frames vc = map (λ (octets : List ℕ). at offset (Open vc None (length octets))) (incomplete_of (channel_of p frames vc))

open_lines : (offset vc : ℕ) (packets : List (List ℕ))
    → map line_of (map (λ (octets : List ℕ). at offset (Open vc None (length octets))) packets)
    ≡ map (λ (octets : List ℕ). event_line offset vc None (codes " open") (Some (length octets))) packets
open_lines offset vc [] = refl
open_lines offset vc (packet ∷ packets) = ap (λ l. event_line offset vc None (codes " open") (Some (length packet)) ∷ l) (open_lines offset vc packets)

open_within : (offset vc : ℕ) (packets : List (List ℕ)) → length packets ≤ 1
    → AreWithin offset (10 + vc) (11 + vc) (map (λ (octets : List ℕ). at offset (Open vc None (length octets))) packets)
open_within offset vc [] few = within_none offset (10 + vc) (11 + vc)
open_within offset vc (packet ∷ []) few = within_one (at offset (Open vc None (length packet))) (10 + vc) (11 + vc) (omega arith) (omega arith)
open_within offset vc (packet ∷ other ∷ packets) few = absurd (omega (arith, few))

opens_each : (p : Parameters) (offset : ℕ) (frames : Frames) (vc : ℕ) (a : Anomaly) → vc < 8 → IsAmong a (opened p offset frames vc) → IsOfEnd (IsIncompleteTm p frames) offset a
opens_each p offset frames vc a inside there =
    let packets = incomplete_of (channel_of p frames vc) in
    let (octets, among, here) = among_map a (λ (octets : List ℕ). at offset (Open vc None (length octets))) packets there in
    record {
      vc = vc;
      map_id = None;
      octets = octets;
      incomplete = (inside, refl, each_among (IsIncomplete (channel_of p frames vc)) octets packets (each_listed_is_incomplete (channel_of p frames vc)) among);
      at = ap (λ (x : Anomaly). x.offset) here;
      found = ap (λ (x : Anomaly). x.finding) here;
    }

opens_all : (p : Parameters) (offset : ℕ) (frames : Frames) (a : Anomaly) → IsOfEnd (IsIncompleteTm p frames) offset a → (vc : ℕ) × (vc < 8) × IsAmong a (opened p offset frames vc)
opens_all p offset frames a h =
    let it = h.incomplete in
    let found : a.finding ≡ Open h.vc None (length h.octets) = h.found ∙ ap (λ m. Open h.vc m (length h.octets)) it.1 in
    let same : a ≡ at offset (Open h.vc None (length h.octets)) = λ i. record { offset = h.at i; finding = found i } in (
      h.vc,
      it.0,
      subst (λ x. IsAmong x (opened p offset frames h.vc)) (sym same)
          (map_among (λ (octets : List ℕ). at offset (Open h.vc None (length octets))) h.octets (incomplete_of (channel_of p frames h.vc)) (each_incomplete_is_listed (channel_of p frames h.vc) h.octets it.2)),
    )

-- ---- a recording

tm_described : (p : Parameters) → Describes 8 (tm_anomalies_after p) (tm_open p) (TmFinds p) (IsIncompleteTm p) (anomalies_of p) (opened p)
tm_described p = record {
  frame_lines = λ before frame. found_lines (length (concat before)) (tm_found p before frame);
  end_lines = λ offset frames vc. open_lines offset vc (incomplete_of (channel_of p frames vc));
  finds_each = λ before frame a there. read_each p before frame (as_read p frame) refl a there;
  finds_all = λ before frame finding h. all_found p before frame finding h;
  frame_within = λ before frame. found_within (length (concat before)) (tm_found p before frame);
  opens_each = λ offset frames vc a inside there. opens_each p offset frames vc a inside there;
  opens_all = λ offset frames a h. opens_all p offset frames a h;
  end_within = λ offset frames vc inside. open_within offset vc (incomplete_of (channel_of p frames vc)) (one_is_incomplete (channel_of p frames vc));
}

some_octets : (len : ℕ) (frames : Frames) → 0 < len → AllByRecursion (λ frame. length frame ≡ len) frames → AllByRecursion (λ frame. 0 < length frame) frames
some_octets len [] positive whole = tt
some_octets len (frame ∷ frames) positive whole = (omega (arith, positive, whole.0), some_octets len frames positive whole.1)

pub tm_anomalies_are_listed : TmAnomaliesAreListed
tm_anomalies_are_listed p recording accepted =
    let positive : 0 < p.tm_length = omega (arith, (managed_length p accepted.allowed).0) in
    let frames = tm_frames_of p.tm_length recording in
    let remainder = tm_remainder_of p.tm_length recording in
    let left = remainder_after frames recording in
    let delimited = is_delimited p.tm_length recording positive in
    let many : left ≡ length remainder = omega (arith, ap length delimited.end_to_end, length-append (concat frames) remainder) in
    let numbers = tm_numbers p recording in
    let d = tm_described p in
    let lines = all_lines d (tm_kind p) refl frames left in
    let anomalies = all_anomalies d (tm_kind p) refl frames left in
    record {
      anomalies = anomalies;
      lines = numbers.text_is ∙ ap (λ l. concat l ++ totals_line (check_tm_counts p recording)) (sym lines);
      exactly = λ a. (
        λ there. record {
          frames = frames;
          remainder = remainder;
          delimited = delimited;
          is = subst (λ n. IsAnomalyIn (TmFinds p) (IsIncompleteTm p) frames n a) many (all_each d (tm_kind p) refl frames left a there);
        },
        λ h.
            let same : frames ≡ h.frames = only_frames p.tm_length recording h.frames h.remainder positive h.delimited in
            let rest : left ≡ length h.remainder = many ∙ ap length (only_remainder p.tm_length recording h.frames h.remainder positive h.delimited) in
            all_all d (tm_kind p) refl frames left a
            (subst (λ fs. IsAnomalyIn (TmFinds p) (IsIncompleteTm p) fs left a) (sym same) (subst (λ n. IsAnomalyIn (TmFinds p) (IsIncompleteTm p) h.frames n a) (sym rest) h.is)),
      );
      in_order = all_ordered d (tm_kind p) refl frames left (some_octets p.tm_length frames positive delimited.whole);
      number = numbers.many ∙ ap length (sym lines) ∙ length-map anomalies line_of;
    }

-- ---- the numbers of its anomalies

same_view : (read : Result TmView TmSkip) (x y : TmView) → read ≡ Ok x → read ≡ Ok y → x ≡ y
same_view read x y one other = cc

not_read : (read : Result TmView TmSkip) (reason : TmSkip) (view : TmView) → read ≡ Err reason → read ≡ Ok view → ⊥
not_read read reason view one other = cc

small_count : (reason : Option TmSkip) (shown view : TmView) → read_as reason shown ≡ Ok view → shown.vc_count < 256 → view.vc_count < 256
small_count None shown view is small = subst (λ (v : TmView). v.vc_count < 256) (same_view (Ok shown) shown view refl is) small
small_count (Some reason) shown view is small = absurd (not_read (Err reason) reason view refl is)

module _ (p : Parameters) (before : Frames) (frame : List ℕ) where
  small_vc : (view : TmView) → as_read p frame ≡ Ok view → view.vc < 8
  small_vc view is = subst (λ r. vc_of r < 8) is ((tm_adds_by_channel p).inside frame)

  found_small : (finding : Finding) → TmFinds p before frame finding → AllByRecursion (λ n. n < 2 ^ 64) (numbers_of finding)
  found_small (Skip reason) h = tt
  found_small (Gap vc expected found) h =
      let count : h.0.vc_count < 256 = small_count (skip_reason (tm_format p) p.spacecraft frame) (view_of (tm_format p) frame) h.0 h.1 (mod_below (number_of (take 6 frame) / 2 ^ (8 * 6 - 24 - 8)) (2 ^ 8) (omega arith)) in
      (omega (arith, h.3, small_vc h.0 h.1), (omega (arith, h.2.value), (omega (arith, h.4, count), tt)))
  found_small (Dropped vc None octets) h =
      let channel = channel_of p before h.0.vc in
      let short = each_among IsShort h.1 _ (broken_off_is_short channel h.0) (each_broken_off_is_listed channel h.0 h.1 h.3) in
      (omega (arith, h.4, small_vc h.0 h.2), (omega (arith, h.6, short.1), tt))
  found_small (Dropped vc (Some map_id) octets) h = absurd (some_none map_id h.5)
    where
      some_none : (n : ℕ) → Some n ≡ None → ⊥
      some_none n wrong = cc
  found_small (Opaque vc) h = (omega (arith, h.3, small_vc h.0 h.1), tt)
  found_small (Foreign vc) h = (omega (arith, h.3, small_vc h.0 h.1), tt)
  found_small (Discarded verdict vc ns) h = absurd h
  found_small (Stray vc map_id) h = absurd h
  found_small (TooLong vc map_id) h = absurd h
  found_small (Tail vc map_id octets) h = absurd h
  found_small (Rest octets) h = absurd h
  found_small (Open vc map_id octets) h = absurd h

open_small : (p : Parameters) (frames : Frames) (vc : ℕ) (map_id : Option ℕ) (octets : List ℕ) → IsIncompleteTm p frames vc map_id octets
    → AllByRecursion (λ n. n < 2 ^ 64) (numbers_of (Open vc map_id (length octets)))
open_small p frames vc None octets h =
    let channel = channel_of p frames vc in
    let short = each_among IsShort octets _ (incomplete_is_short channel) (each_incomplete_is_listed channel octets h.2) in
    (omega (arith, h.0), (omega (arith, short.1), tt))
open_small p frames vc (Some map_id) octets h = absurd (some_none map_id h.1)
  where
    some_none : (n : ℕ) → Some n ≡ None → ⊥
    some_none n wrong = cc

pub tm_anomalies_are_counted : TmAnomaliesAreCounted
tm_anomalies_are_counted p recording a accepted small h =
    counted (TmFinds p) (IsIncompleteTm p) h.frames (length h.remainder) a h.is (λ before frame finding found. found_small p before frame finding found) (λ vc map_id octets incomplete. open_small p h.frames vc map_id octets incomplete)
    (subst (λ n. n < 2 ^ 64) (ap length h.delimited.end_to_end ∙ length-append (concat h.frames) h.remainder) small)
