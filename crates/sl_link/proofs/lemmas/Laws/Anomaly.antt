-- Anomalies in lists: what is among them, their lines and their order; then those of a whole listing, of either kind.

-- which line is whose
pub mod Line
-- TC recordings
pub mod Tc
-- TM recordings
pub mod Tm
use Rattle.std.proofs.Common.{◌≡◌, ◌⊎◌, ℕ, zero, suc, ◌+◌, ◌^◌, ◌<◌, ◌≤◌, Bool, true, false, if◌then◌else◌, List, [], ◌∷◌, ◌++◌, length, map, inl, inr, refl, sym, ◌∙◌, ap, ap₂, subst, arith, append_assoc, length-append, ◌==◌}
use Rattle.std.specs.Prelude.{Option, flat_map}
use Rattle.std.specs.List.{AllByRecursion, concat, range_with_len}
use Rattle.std.proofs.lemmas.Bool.Decides.{eqb_tells}
use Rattle.std.proofs.lemmas.List.{map-append}
use Rattle.std.proofs.lemmas.List.Folds.{concat-append}
use Rattle.sl_tmflow.specs.Among.{IsAmong}
use Rattle.sl_tmflow.proofs.lemmas.Places.{among-left, among-right, among-flat_map}
use Rattle.sl_engine.specs.Compare.Summarised.{check_lines}
use Rattle.sl_engine.specs.Kind.Delivery.{Kind}
use Rattle.sl_link.specs.Laws.Anomaly.{Anomaly, Finding, Open, Rest, AreInOrder, ComesBefore, IsAnomalyIn, IsCounted, IsOfEnd, IsOfFrame, IsOfRemainder, line_of, numbers_of, place_of}
use Rattle.sl_engine.specs.Verbs.Check.Lines.{remainder_anomaly}
use Rattle.sl_engine.specs.Verbs.Listing.{Frames, lines_from}
use Rattle.sl_engine.proofs.lemmas.Verbs.Lister.{lines_from-append}

-- ---- what is among the elements of a list

module _ {X : Type 0} where
  pub among_either : (x : X) (xs ys : List X) → IsAmong x (xs ++ ys) → IsAmong x xs ⊎ IsAmong x ys
  among_either x [] ys there = inr there
  among_either x (y ∷ xs) ys (inl here) = inl (inl here)
  among_either x (y ∷ xs) ys (inr there) = elim (among_either x xs ys there) [ inl left ↦ inl (inr left) | inr right ↦ inr right ]

  pub among_map : {Y : Type 0} (x : X) (f : Y → X) (ys : List Y) → IsAmong x (map f ys) → (y : Y) × IsAmong y ys × (x ≡ f y)
  among_map x f [] there = absurd there
  among_map x f (y ∷ ys) (inl here) = (y, inl refl, here)
  among_map x f (y ∷ ys) (inr there) = let (z, among, same) = among_map x f ys there in (z, inr among, same)

  pub map_among : {Y : Type 0} (f : Y → X) (y : Y) (ys : List Y) → IsAmong y ys → IsAmong (f y) (map f ys)
  map_among f y [] there = absurd there
  map_among f y (z ∷ ys) (inl here) = inl (ap f here)
  map_among f y (z ∷ ys) (inr there) = inr (map_among f y ys there)

  among_flat : {Y : Type 0} (x : X) (f : Y → List X) (ys : List Y) → IsAmong x (flat_map f ys) → (y : Y) × IsAmong y ys × IsAmong x (f y)
  among_flat x f [] there = absurd there
  among_flat x f (y ∷ ys) there = elim (among_either x (f y) (flat_map f ys) there) [
    | inl here ↦ (y, inl refl, here)
    | inr later ↦ let (z, among, it) = among_flat x f ys later in (z, inr among, it)
  ]

  all_from : (P : X → Type 0) (xs : List X) → ((x : X) → IsAmong x xs → P x) → AllByRecursion P xs
  all_from P [] each = tt
  all_from P (x ∷ xs) each = (each x (inl refl), all_from P xs (λ y there. each y (inr there)))

  all_both : (P : X → Type 0) (xs ys : List X) → AllByRecursion P xs → AllByRecursion P ys → AllByRecursion P (xs ++ ys)
  all_both P [] ys p q = q
  all_both P (x ∷ xs) ys p q = (p.0, all_both P xs ys p.1 q)

in_range : (i from n : ℕ) → IsAmong i (range_with_len from n) → (from ≤ i) × (i < from + n)
in_range i from zero there = absurd there
in_range i from (suc n) (inl here) = (omega (arith, here), omega (arith, here))
in_range i from (suc n) (inr there) = let h = in_range i (from + 1) n there in (omega (arith, h.0), omega (arith, h.1))

range_among : (i from n : ℕ) → from ≤ i → i < from + n → IsAmong i (range_with_len from n)
range_among i from zero above below = absurd (omega arith)
range_among i from (suc n) above below = elim (eqb_tells i from) [
  | inl (is, same) ↦ inl same
  | inr (is, other) ↦ inr (range_among i (from + 1) n (omega (arith, above, other)) (omega (arith, below)))
]

-- ---- the order

ordered-append : (xs ys : List Anomaly) → AreInOrder xs → AreInOrder ys → ((a b : Anomaly) → IsAmong a xs → IsAmong b ys → ComesBefore a b) → AreInOrder (xs ++ ys)
ordered-append [] ys p q cross = q
ordered-append (x ∷ xs) ys p q cross =
    (all_both (ComesBefore x) xs ys p.0 (all_from (ComesBefore x) ys (λ b there. cross x b (inl refl) there)), ordered-append xs ys p.1 q (λ a b here there. cross a b (inr here) there))

-- these begin with one offset, are in order, and have places from one on and below another
pub record AreWithin (offset low high : ℕ) (xs : List Anomaly) : Type 0 where
  pub ordered : AreInOrder xs
  pub each : (a : Anomaly) → IsAmong a xs → (a.offset ≡ offset) × (low ≤ place_of a.finding) × (place_of a.finding < high)

pub within_none : (offset low high : ℕ) → AreWithin offset low high []
within_none offset low high = record { ordered = tt; each = λ a there. absurd there }

one_is : {X : Type 0} (x y : X) → IsAmong x (y ∷ []) → x ≡ y
one_is x y (inl here) = here
one_is x y (inr there) = absurd there

pub within_one : (x : Anomaly) (low high : ℕ) → low ≤ place_of x.finding → place_of x.finding < high → AreWithin x.offset low high (x ∷ [])
within_one x low high above below =
    record {
      ordered = (tt, tt);
      each = λ a there. subst (λ (y : Anomaly). (y.offset ≡ x.offset) × (low ≤ place_of y.finding) × (place_of y.finding < high)) (sym (one_is a x there)) (refl, above, below);
    }

pub within_both : (offset low middle high : ℕ) (xs ys : List Anomaly) → low ≤ middle → middle ≤ high → AreWithin offset low middle xs → AreWithin offset middle high ys → AreWithin offset low high (xs ++ ys)
within_both offset low middle high xs ys above below p q =
    record {
      ordered = ordered-append xs ys p.ordered q.ordered
          (λ a b here there. let h = p.each a here in let k = q.each b there in inr (h.0 ∙ sym k.0, omega (arith, h.2, k.1)));
      each = λ a there. elim (among_either a xs ys there) [
        | inl left ↦ let h = p.each a left in (h.0, h.1, omega (arith, h.2, below))
        | inr right ↦ let k = q.each a right in (k.0, omega (arith, k.1, above), k.2)
      ];
    }

-- ---- one or none, by a test

abbrev pub at : ℕ → Finding → Anomaly
at offset finding = record { offset = offset; finding = finding }

abbrev pub when : Bool → Anomaly → List Anomaly
when holds a = if holds then a ∷ [] else []

pub when_among : (a b : Anomaly) (holds : Bool) → IsAmong a (when holds b) → (holds ≡ true) × (a ≡ b)
when_among a b true there = (refl, one_is a b there)
when_among a b false there = absurd there

pub among_when : (a : Anomaly) (holds : Bool) → holds ≡ true → IsAmong a (when holds a)
among_when a true is = inl refl
among_when a false is = absurd (false_true is)
  where
    false_true : false ≡ true → ⊥
    false_true same = cc

pub when_there : (a b : Anomaly) (holds : Bool) → holds ≡ true → a ≡ b → IsAmong a (when holds b)
when_there a b holds is same = subst (λ x. IsAmong x (when holds b)) (sym same) (among_when b holds is)

pub when_line : (a : Anomaly) (holds : Bool) → map line_of (when holds a) ≡ (if holds then line_of a ∷ [] else [])
when_line a true = refl
when_line a false = refl

pub within_when : (a : Anomaly) (holds : Bool) (low high : ℕ) → low ≤ place_of a.finding → place_of a.finding < high → AreWithin a.offset low high (when holds a)
within_when a true low high above below = within_one a low high above below
within_when a false low high above below = within_none a.offset low high

-- lines of anomalies one after another
pub lines_both : (xs ys : List Anomaly) {ls ms : List (List ℕ)} → map line_of xs ≡ ls → map line_of ys ≡ ms → map line_of (xs ++ ys) ≡ ls ++ ms
lines_both xs ys p q = map-append line_of xs ys ∙ ap₂ (λ (a b : List (List ℕ)). a ++ b) p q

-- ---- of the remainder

abbrev of_remainder : ℕ → ℕ → List Anomaly
of_remainder offset remainder = if remainder == 0 then [] else record { offset = offset; finding = Rest remainder } ∷ []

remainder_lines : (offset remainder : ℕ) → map line_of (of_remainder offset remainder) ≡ remainder_anomaly offset remainder
remainder_lines offset remainder = by (remainder == 0)
  where
    by : (none : Bool) → map line_of (if none then [] else record { offset = offset; finding = Rest remainder } ∷ []) ≡ (if none then [] else line_of (record { offset = offset; finding = Rest remainder }) ∷ [])
    by true = refl
    by false = refl

remainder_each : (frames : Frames) (remainder : ℕ) (a : Anomaly) → IsAmong a (of_remainder (length (concat frames)) remainder) → IsOfRemainder frames remainder a
remainder_each frames remainder a there = elim (eqb_tells remainder 0) [
  | inl (is, none) ↦
      let it : Anomaly = record { offset = length (concat frames); finding = Rest remainder } in
      absurd (subst (λ (b : Bool). IsAmong a (if b then [] else it ∷ [])) is there)
  | inr (is, some) ↦
      let it : Anomaly = record { offset = length (concat frames); finding = Rest remainder } in
      let here : a ≡ it = one_is a it (subst (λ (b : Bool). IsAmong a (if b then [] else it ∷ [])) is there) in
      record { some = omega (arith, some); at = ap (λ (x : Anomaly). x.offset) here; found = ap (λ (x : Anomaly). x.finding) here }
]

remainder_all : (frames : Frames) (remainder : ℕ) (a : Anomaly) → IsOfRemainder frames remainder a → IsAmong a (of_remainder (length (concat frames)) remainder)
remainder_all frames remainder a h = elim (eqb_tells remainder 0) [
  | inl (is, none) ↦ absurd (omega (arith, h.some, none))
  | inr (is, some) ↦
      let it : Anomaly = record { offset = length (concat frames); finding = Rest remainder } in
      let same : a ≡ it = λ i. record { offset = h.at i; finding = h.found i } in
      subst (λ (b : Bool). IsAmong a (if b then [] else it ∷ [])) (sym is) (inl same)
]

remainder_ordered : (offset remainder : ℕ) → AreInOrder (of_remainder offset remainder)
remainder_ordered offset remainder = by (remainder == 0)
  where
    by : (none : Bool) → AreInOrder (if none then [] else record { offset = offset; finding = Rest remainder } ∷ [])
    by true = tt
    by false = (tt, tt)

-- ---- what a kind lists, as anomalies

-- These anomalies of a frame, and at the end of a channel, have the lines of the listing, and they are those that the
-- relations say.
pub record Describes (limit : ℕ) (lines_at : Frames → List ℕ → List (List ℕ)) (open_lines : ℕ → Frames → ℕ → List (List ℕ))
    (finds : Frames → List ℕ → Finding → Type 0) (is_incomplete : Frames → ℕ → Option ℕ → List ℕ → Type 0)
    (found : Frames → List ℕ → List Anomaly) (opened : ℕ → Frames → ℕ → List Anomaly) : Type 0 where
  pub frame_lines : (before : Frames) (frame : List ℕ) → map line_of (found before frame) ≡ lines_at before frame
  pub end_lines : (offset : ℕ) (frames : Frames) (channel : ℕ) → map line_of (opened offset frames channel) ≡ open_lines offset frames channel
  pub finds_each : (before : Frames) (frame : List ℕ) (a : Anomaly) → IsAmong a (found before frame) → finds before frame a.finding
  pub finds_all : (before : Frames) (frame : List ℕ) (f : Finding) → finds before frame f → IsAmong (record { offset = length (concat before); finding = f }) (found before frame)
  pub frame_within : (before : Frames) (frame : List ℕ) → AreWithin (length (concat before)) 0 9 (found before frame)
  pub opens_each : (offset : ℕ) (frames : Frames) (channel : ℕ) (a : Anomaly) → channel < limit → IsAmong a (opened offset frames channel) → IsOfEnd (is_incomplete frames) offset a
  pub opens_all : (offset : ℕ) (frames : Frames) (a : Anomaly) → IsOfEnd (is_incomplete frames) offset a → (channel : ℕ) × (channel < limit) × IsAmong a (opened offset frames channel)
  pub end_within : (offset : ℕ) (frames : Frames) (channel : ℕ) → channel < limit → AreWithin offset (10 + channel) (11 + channel) (opened offset frames channel)

module _ {limit : ℕ} {lines_at : Frames → List ℕ → List (List ℕ)} {open_lines : ℕ → Frames → ℕ → List (List ℕ)}
    {finds : Frames → List ℕ → Finding → Type 0} {is_incomplete : Frames → ℕ → Option ℕ → List ℕ → Type 0}
    {found : Frames → List ℕ → List Anomaly} {opened : ℕ → Frames → ℕ → List Anomaly}
    (d : Describes limit lines_at open_lines finds is_incomplete found opened) where
  -- ---- of frames

  frames_lines : (before frames : Frames) → map line_of (lines_from found before frames) ≡ lines_from lines_at before frames
  frames_lines before [] = refl
  frames_lines before (frame ∷ frames) =
      lines_both (found before frame) (lines_from found (before ++ frame ∷ []) frames) (d.frame_lines before frame) (frames_lines (before ++ frame ∷ []) frames)

  frames_each : (all before frames : Frames) (a : Anomaly) → all ≡ before ++ frames → IsAmong a (lines_from found before frames) → IsOfFrame finds all a
  frames_each all before [] a is there = absurd there
  frames_each all before (frame ∷ frames) a is there = elim (among_either a (found before frame) (lines_from found (before ++ frame ∷ []) frames) there) [
    | inl here ↦ record { before = before; frame = frame; later = frames; in_order = is; at = ((d.frame_within before frame).each a here).0; found = d.finds_each before frame a here }
    | inr later ↦ frames_each all (before ++ frame ∷ []) frames a (is ∙ sym (append_assoc before (frame ∷ []) frames)) later
  ]

  frames_all : (frames : Frames) (a : Anomaly) → IsOfFrame finds frames a → IsAmong a (lines_from found [] frames)
  frames_all frames a h =
      let it : Anomaly = record { offset = length (concat h.before); finding = a.finding } in
      let whole : it ≡ a = λ i. record { offset = sym h.at i; finding = a.finding } in
      let here = subst (λ x. IsAmong x (found h.before h.frame)) whole (d.finds_all h.before h.frame a.finding h.found) in
      let there = among-right a (lines_from found [] h.before) (found h.before h.frame ++ lines_from found (h.before ++ h.frame ∷ []) h.later) (among-left a (found h.before h.frame) (lines_from found (h.before ++ h.frame ∷ []) h.later) here) in
      subst (λ fs. IsAmong a (lines_from found [] fs)) (sym h.in_order) (subst (IsAmong a) (sym (lines_from-append found [] h.before (h.frame ∷ h.later))) there)

  -- they begin no earlier than the frames, and before their end
  frames_from : (before frames : Frames) (a : Anomaly) → IsAmong a (lines_from found before frames) → length (concat before) ≤ a.offset
  frames_from before [] a there = absurd there
  frames_from before (frame ∷ frames) a there = elim (among_either a (found before frame) (lines_from found (before ++ frame ∷ []) frames) there) [
    | inl here ↦ omega (arith, ((d.frame_within before frame).each a here).0)
    | inr later ↦ omega (arith, frames_from (before ++ frame ∷ []) frames a later, ap length (concat-append before (frame ∷ [])), length-append (concat before) (concat (frame ∷ [])))
  ]

  frames_to : (before frames : Frames) (a : Anomaly) → AllByRecursion (λ frame. 0 < length frame) frames → IsAmong a (lines_from found before frames) → a.offset < length (concat before) + length (concat frames)
  frames_to before [] a some there = absurd there
  frames_to before (frame ∷ frames) a some there =
      let whole = length-append frame (concat frames) in
      elim (among_either a (found before frame) (lines_from found (before ++ frame ∷ []) frames) there) [
        | inl here ↦ omega (arith, ((d.frame_within before frame).each a here).0, some.0, whole)
        | inr later ↦ omega (arith, frames_to (before ++ frame ∷ []) frames a some.1 later, ap length (concat-append before (frame ∷ [])), length-append (concat before) (concat (frame ∷ [])), length-append frame [], whole)
      ]

  frames_ordered : (before frames : Frames) → AllByRecursion (λ frame. 0 < length frame) frames → AreInOrder (lines_from found before frames)
  frames_ordered before [] some = tt
  frames_ordered before (frame ∷ frames) some =
      ordered-append (found before frame) (lines_from found (before ++ frame ∷ []) frames) (d.frame_within before frame).ordered (frames_ordered (before ++ frame ∷ []) frames some.1)
      (λ a b here there. inl (omega (arith, ((d.frame_within before frame).each a here).0, some.0, frames_from (before ++ frame ∷ []) frames b there, ap length (concat-append before (frame ∷ [])), length-append (concat before) (concat (frame ∷ [])), length-append frame [])))

  -- ---- at the end, channel by channel

  ends_lines : (offset : ℕ) (frames : Frames) (channels : List ℕ) → map line_of (flat_map (opened offset frames) channels) ≡ flat_map (open_lines offset frames) channels
  ends_lines offset frames [] = refl
  ends_lines offset frames (channel ∷ channels) =
      lines_both (opened offset frames channel) (flat_map (opened offset frames) channels) (d.end_lines offset frames channel) (ends_lines offset frames channels)

  ends_within : (offset : ℕ) (frames : Frames) (from n : ℕ) → from + n ≤ limit → AreWithin offset (10 + from) (10 + from + n) (flat_map (opened offset frames) (range_with_len from n))
  ends_within offset frames from zero inside = within_none offset (10 + from) (10 + from + zero)
  ends_within offset frames from (suc n) inside =
      let later = ends_within offset frames (from + 1) n (omega (arith, inside)) in
      let low : 10 + (from + 1) ≡ 11 + from = omega arith in
      let high : 10 + (from + 1) + n ≡ 10 + from + suc n = omega arith in
      let items = flat_map (opened offset frames) (range_with_len (from + 1) n) in
      let rest = subst (λ h. AreWithin offset (11 + from) h items) high (subst (λ l. AreWithin offset l (10 + (from + 1) + n) items) low later) in
      within_both offset (10 + from) (11 + from) (10 + from + suc n) (opened offset frames from) (flat_map (opened offset frames) (range_with_len (from + 1) n)) (omega arith) (omega arith) (d.end_within offset frames from (omega (arith, inside))) rest

  -- ---- of a recording

  module _ (k : Kind) (channels_are : k.channels ≡ range_with_len 0 limit) (frames : Frames) (remainder : ℕ) where
    abbrev ends : List Anomaly
    ends = flat_map (opened (length (concat frames) + remainder) frames) k.channels

    abbrev pub all_anomalies : List Anomaly
    all_anomalies = lines_from found [] frames ++ (of_remainder (length (concat frames)) remainder ++ ends)

    pub all_lines : map line_of all_anomalies ≡ check_lines k lines_at open_lines frames remainder
    all_lines =
        lines_both (lines_from found [] frames) (of_remainder (length (concat frames)) remainder ++ ends) (frames_lines [] frames)
        (lines_both (of_remainder (length (concat frames)) remainder) ends (remainder_lines (length (concat frames)) remainder) (ends_lines (length (concat frames) + remainder) frames k.channels))

    ends_each : (a : Anomaly) → IsAmong a ends → IsOfEnd (is_incomplete frames) (length (concat frames) + remainder) a
    ends_each a there =
        let (channel, among, it) = among_flat a (opened (length (concat frames) + remainder) frames) k.channels there in
        let inside = in_range channel 0 limit (subst (IsAmong channel) channels_are among) in
        d.opens_each (length (concat frames) + remainder) frames channel a (omega (arith, inside.1)) it

    ends_all : (a : Anomaly) → IsOfEnd (is_incomplete frames) (length (concat frames) + remainder) a → IsAmong a ends
    ends_all a h =
        let (channel, inside, it) = d.opens_all (length (concat frames) + remainder) frames a h in
        among-flat_map a (opened (length (concat frames) + remainder) frames) channel k.channels (subst (IsAmong channel) (sym channels_are) (range_among channel 0 limit (omega arith) (omega (arith, inside)))) it

    pub all_each : (a : Anomaly) → IsAmong a all_anomalies → IsAnomalyIn finds is_incomplete frames remainder a
    all_each a there = elim (among_either a (lines_from found [] frames) (of_remainder (length (concat frames)) remainder ++ ends) there) [
      | inl first ↦ inl (frames_each frames [] frames a refl first)
      | inr later ↦ inr (elim (among_either a (of_remainder (length (concat frames)) remainder) ends later) [
        | inl here ↦ inl (remainder_each frames remainder a here)
        | inr last ↦ inr (ends_each a last)
      ])
    ]

    pub all_all : (a : Anomaly) → IsAnomalyIn finds is_incomplete frames remainder a → IsAmong a all_anomalies
    all_all a (inl h) = among-left a (lines_from found [] frames) (of_remainder (length (concat frames)) remainder ++ ends) (frames_all frames a h)
    all_all a (inr (inl h)) =
        among-right a (lines_from found [] frames) (of_remainder (length (concat frames)) remainder ++ ends) (among-left a (of_remainder (length (concat frames)) remainder) ends (remainder_all frames remainder a h))
    all_all a (inr (inr h)) =
        among-right a (lines_from found [] frames) (of_remainder (length (concat frames)) remainder ++ ends) (among-right a (of_remainder (length (concat frames)) remainder) ends (ends_all a h))

    ends_are_within : AreWithin (length (concat frames) + remainder) 10 (10 + limit) ends
    ends_are_within = subst (λ l. AreWithin (length (concat frames) + remainder) 10 (10 + limit) (flat_map (opened (length (concat frames) + remainder) frames) l)) (sym channels_are) (ends_within (length (concat frames) + remainder) frames 0 limit (omega arith))

    pub all_ordered : AllByRecursion (λ frame. 0 < length frame) frames → AreInOrder all_anomalies
    all_ordered some =
        ordered-append (lines_from found [] frames) (of_remainder (length (concat frames)) remainder ++ ends) (frames_ordered [] frames some)
        (ordered-append (of_remainder (length (concat frames)) remainder) ends (remainder_ordered (length (concat frames)) remainder) ends_are_within.ordered
        (λ a b here there. let h = remainder_each frames remainder a here in inl (omega (arith, h.at, h.some, (ends_are_within.each b there).0))))
        (λ a b here there. elim (among_either b (of_remainder (length (concat frames)) remainder) ends there) [
          | inl at_remainder ↦ inl (omega (arith, frames_to [] frames a some here, (remainder_each frames remainder b at_remainder).at))
          | inr at_end ↦ inl (omega (arith, frames_to [] frames a some here, (ends_are_within.each b at_end).0))
        ])

-- ---- the numbers of an anomaly are small

pub counted : (finds : Frames → List ℕ → Finding → Type 0) (is_incomplete : Frames → ℕ → Option ℕ → List ℕ → Type 0) (frames : Frames) (remainder : ℕ) (a : Anomaly) → IsAnomalyIn finds is_incomplete frames remainder a
    → ((before : Frames) (frame : List ℕ) (finding : Finding) → finds before frame finding → AllByRecursion (λ n. n < 2 ^ 64) (numbers_of finding))
    → ((vc : ℕ) (map_id : Option ℕ) (octets : List ℕ) → is_incomplete frames vc map_id octets → AllByRecursion (λ n. n < 2 ^ 64) (numbers_of (Open vc map_id (length octets))))
    → length (concat frames) + remainder < 2 ^ 64 → IsCounted a
counted finds is_incomplete frames remainder a (inl h) found_small open_small small =
    let whole = ap (λ fs. length (concat fs)) h.in_order ∙ ap length (concat-append h.before (h.frame ∷ h.later)) ∙ length-append (concat h.before) (concat (h.frame ∷ h.later)) in
    (omega (arith, small, h.at, whole), found_small h.before h.frame a.finding h.found)
counted finds is_incomplete frames remainder a (inr (inl h)) found_small open_small small =
    (omega (arith, small, h.at), subst (λ f. AllByRecursion (λ n. n < 2 ^ 64) (numbers_of f)) (sym h.found) (omega (arith, small), tt))
counted finds is_incomplete frames remainder a (inr (inr h)) found_small open_small small =
    (omega (arith, small, h.at), subst (λ f. AllByRecursion (λ n. n < 2 ^ 64) (numbers_of f)) (sym h.found) (open_small h.vc h.map_id h.octets h.incomplete))
