-- The list of the series of a list of segments: each listed one is a series, each series is listed, and they are
-- apart.
use Rattle.std.proofs.Common.{◌≡◌, ◌≢◌, ◌⊎◌, ℕ, ◌+◌, ◌≤◌, ◌==◌, if◌then◌else◌, List, [], ◌∷◌, ◌++◌, length, map, inl, inr, refl, sym, ◌∙◌, ap, subst, arith, append_assoc, Contains, ne_eqb}
use Rattle.std.specs.List.{AllByRecursion}
use Rattle.std.proofs.lemmas.Bool.{le-leb}
use Rattle.std.proofs.lemmas.Bool.Decides.{eqb_tells}
use Rattle.std.proofs.lemmas.List.{length_push}
use Rattle.std.proofs.lemmas.List.Elements.{Contains-append_right}
use Rattle.sl_tcflow.specs.Series.{flags_of, IsSeries, whole, segmented, SeriesAt, IsSeriesOf, past, completed, series_with, series_from, series_of, EachIsSeries, EachSeriesIsListed, AreApart, none, one, more, SeriesAreApart}
use Rattle.sl_fields.proofs.ListLemmas.{each-append, each-weaker}

abbrev pub IsContinuing : List ℕ → Type 0
IsContinuing segment = flags_of segment ≡ 0

abbrev pub series_at : ℕ → List (List ℕ) → SeriesAt
series_at before segments = record { before = before; segments = segments }

-- ---- by the sequence flags of the next segment

abbrev completed_by : ℕ → List (List ℕ) → List ℕ → List (List ℕ) → List (List (List ℕ))
completed_by flags so_far segment later =
    if flags == 0 then completed (so_far ++ segment ∷ []) later
    else if flags == 2 then (so_far ++ segment ∷ []) ∷ []
    else []

pub completed_continuing : (so_far : List (List ℕ)) (segment : List ℕ) (later : List (List ℕ)) → flags_of segment ≡ 0
    → completed so_far (segment ∷ later) ≡ completed (so_far ++ segment ∷ []) later
completed_continuing so_far segment later is = ap (λ flags. completed_by flags so_far segment later) is

pub completed_last : (so_far : List (List ℕ)) (segment : List ℕ) (later : List (List ℕ)) → flags_of segment ≡ 2
    → completed so_far (segment ∷ later) ≡ (so_far ++ segment ∷ []) ∷ []
completed_last so_far segment later is = ap (λ flags. completed_by flags so_far segment later) is

pub completed_other : (so_far : List (List ℕ)) (segment : List ℕ) (later : List (List ℕ)) → flags_of segment ≢ 0 → flags_of segment ≢ 2
    → completed so_far (segment ∷ later) ≡ []
completed_other so_far segment later not_0 not_2 = grind (arith, ne_eqb)

abbrev begun_by : ℕ → List ℕ → List (List ℕ) → List (List (List ℕ))
begun_by flags segment later =
    if flags == 3 then (segment ∷ []) ∷ []
    else if flags == 1 then completed (segment ∷ []) later
    else []

pub begins_whole : (segment : List ℕ) (later : List (List ℕ)) → flags_of segment ≡ 3 → series_with segment later ≡ (segment ∷ []) ∷ []
begins_whole segment later is = ap (λ flags. begun_by flags segment later) is

pub begins_divided : (segment : List ℕ) (later : List (List ℕ)) → flags_of segment ≡ 1 → series_with segment later ≡ completed (segment ∷ []) later
begins_divided segment later is = ap (λ flags. begun_by flags segment later) is

pub begins_none : (segment : List ℕ) (later : List (List ℕ)) → flags_of segment ≢ 3 → flags_of segment ≢ 1 → series_with segment later ≡ []
begins_none segment later not_3 not_1 = grind (arith, ne_eqb)

-- ---- how a series is completed

-- these segments so far become this series with later ones
pub record IsCompleted (so_far later series : List (List ℕ)) : Type 0 where
  pub middle : List (List ℕ)
  pub last : List ℕ
  pub more : List (List ℕ)
  pub in_order : later ≡ middle ++ last ∷ more
  pub goes_on : AllByRecursion IsContinuing middle
  pub ends : flags_of last ≡ 2
  pub series_is : series ≡ so_far ++ (middle ++ last ∷ [])

abbrev pub Completion : List (List ℕ) → List (List ℕ) → Type 0
Completion so_far later = (completed so_far later ≡ []) ⊎ ((series : List (List ℕ)) × (completed so_far later ≡ series ∷ []) × IsCompleted so_far later series)

completion_later : (so_far : List (List ℕ)) (segment : List ℕ) (later : List (List ℕ)) → flags_of segment ≡ 0 → Completion (so_far ++ segment ∷ []) later
    → Completion so_far (segment ∷ later)
completion_later so_far segment later is (inl no_series) = inl (completed_continuing so_far segment later is ∙ no_series)
completion_later so_far segment later is (inr (series, listed, c)) = inr (
  series,
  completed_continuing so_far segment later is ∙ listed,
  record {
    middle = segment ∷ c.middle;
    last = c.last;
    more = c.more;
    in_order = ap (λ l. segment ∷ l) c.in_order;
    goes_on = (is, c.goes_on);
    ends = c.ends;
    series_is = c.series_is ∙ append_assoc so_far (segment ∷ []) (c.middle ++ c.last ∷ []);
  },
)

pub completion : (so_far later : List (List ℕ)) → Completion so_far later
completion so_far [] = inl refl
completion so_far (segment ∷ later) =
    elim (eqb_tells (flags_of segment) 0) [
      | inl (test, is) ↦ completion_later so_far segment later is (completion (so_far ++ segment ∷ []) later)
      | inr (test, not_0) ↦
          elim (eqb_tells (flags_of segment) 2) [
            | inl (test', is) ↦ inr (
              so_far ++ segment ∷ [],
              completed_last so_far segment later is,
              record { middle = []; last = segment; more = later; in_order = refl; goes_on = tt; ends = is; series_is = refl },
            )
            | inr (test', not_2) ↦ inl (completed_other so_far segment later not_0 not_2)
          ]
    ]

-- ---- how a series begins

abbrev pub BeginsNone : List ℕ → Type 0
BeginsNone segment = (later : List (List ℕ)) → series_with segment later ≡ []

pub continuing_begins_none : (segment : List ℕ) → IsContinuing segment → BeginsNone segment
continuing_begins_none segment is later = begins_none segment later (λ e. absurd (omega (arith, e, is))) (λ e. absurd (omega (arith, e, is)))

pub last_begins_none : (segment : List ℕ) → flags_of segment ≡ 2 → BeginsNone segment
last_begins_none segment is later = begins_none segment later (λ e. absurd (omega (arith, e, is))) (λ e. absurd (omega (arith, e, is)))

-- this series begins with a segment, and no series begins in its later segments
pub record IsBegun (segment : List ℕ) (later series : List (List ℕ)) : Type 0 where
  pub tail : List (List ℕ)
  pub behind : List (List ℕ)
  pub in_order : later ≡ tail ++ behind
  pub series_is : series ≡ segment ∷ tail
  pub is_series : IsSeries series
  pub begin_none : AllByRecursion BeginsNone tail

abbrev pub Beginning : List ℕ → List (List ℕ) → Type 0
Beginning segment later = (series_with segment later ≡ []) ⊎ ((series : List (List ℕ)) × (series_with segment later ≡ series ∷ []) × IsBegun segment later series)

completed_begun : (segment : List ℕ) (later : List (List ℕ)) → flags_of segment ≡ 1 → Completion (segment ∷ []) later → Beginning segment later
completed_begun segment later is (inl no_series) = inl (begins_divided segment later is ∙ no_series)
completed_begun segment later is (inr (series, listed, c)) = inr (
  series,
  begins_divided segment later is ∙ listed,
  record {
    tail = c.middle ++ c.last ∷ [];
    behind = c.more;
    in_order = c.in_order ∙ sym (append_assoc c.middle (c.last ∷ []) c.more);
    series_is = c.series_is;
    is_series = subst IsSeries (sym c.series_is) (segmented segment c.last c.middle is c.goes_on c.ends);
    begin_none =
        each-append BeginsNone c.middle (c.last ∷ []) (each-weaker IsContinuing BeginsNone continuing_begins_none c.middle c.goes_on)
        (last_begins_none c.last c.ends, tt);
  },
)

pub beginning : (segment : List ℕ) (later : List (List ℕ)) → Beginning segment later
beginning segment later =
    elim (eqb_tells (flags_of segment) 3) [
      | inl (test, is) ↦ inr (
        segment ∷ [],
        begins_whole segment later is,
        record { tail = []; behind = later; in_order = refl; series_is = refl; is_series = whole segment is; begin_none = tt },
      )
      | inr (test, not_3) ↦
          elim (eqb_tells (flags_of segment) 1) [
            | inl (test', is) ↦ completed_begun segment later is (completion (segment ∷ []) later)
            | inr (test', not_1) ↦ inl (begins_none segment later not_3 not_1)
          ]
    ]

-- ---- each listed one is a series

begun_is_series : (list before : List (List ℕ)) (segment : List ℕ) (later : List (List ℕ)) (n : ℕ) → list ≡ before ++ segment ∷ later → n ≡ length before
    → Beginning segment later → AllByRecursion (IsSeriesOf list) (map (series_at n) (series_with segment later))
begun_is_series list before segment later n all here starts = grind (arith, append_assoc)

each_from : (list before later : List (List ℕ)) (n : ℕ) → list ≡ before ++ later → n ≡ length before → AllByRecursion (IsSeriesOf list) (series_from n later)
each_from list before [] n all here = tt
each_from list before (segment ∷ later) n all here = grind (arith, each-append, begun_is_series, beginning, append_assoc, length_push, each_from list (before ++ segment ∷ []) later (n + 1) (all ∙ sym (append_assoc before (segment ∷ []) later)) (omega (arith, here, length_push before segment)))

pub each_is_series : EachIsSeries
each_is_series list = each_from list [] list 0 refl refl

-- ---- each series is listed

pub completed_all : (so_far middle : List (List ℕ)) (last : List ℕ) (behind : List (List ℕ)) → AllByRecursion IsContinuing middle → flags_of last ≡ 2
    → completed so_far ((middle ++ last ∷ []) ++ behind) ≡ (so_far ++ (middle ++ last ∷ [])) ∷ []
completed_all so_far [] last behind goes_on ends = completed_last so_far last behind ends
completed_all so_far (segment ∷ middle) last behind goes_on ends = grind (arith, completed_continuing, append_assoc, completed_all (so_far ++ segment ∷ []) middle last behind goes_on.1 ends)

listed_here : (n : ℕ) (segments behind : List (List ℕ)) → IsSeries segments → Contains (series_from n (segments ++ behind)) (series_at n segments)
listed_here n segments behind is_series = grind (arith, begins_whole, begins_divided, completed_all)

listed_from : (n k : ℕ) (earlier segments behind : List (List ℕ)) → k ≡ n + length earlier → IsSeries segments
    → Contains (series_from n (earlier ++ segments ++ behind)) (series_at k segments)
listed_from n k [] segments behind here s =
    let same : n ≡ k = omega (arith, here) in
    subst (λ m. Contains (series_from n (segments ++ behind)) (series_at m segments)) same (listed_here n segments behind s)
listed_from n k (segment ∷ earlier) segments behind here s =
    let later = earlier ++ segments ++ behind in
    Contains-append_right (map (series_at n) (series_with segment later)) (series_from (n + 1) later) (series_at k segments)
    (listed_from (n + 1) k earlier segments behind (omega (arith, here)) s)

pub each_series_is_listed : EachSeriesIsListed
each_series_is_listed list s is_series =
    subst (λ l. Contains (series_of l) s) (sym is_series.in_order) (listed_from 0 s.before is_series.earlier s.segments is_series.later (omega (arith, is_series.here)) is_series.series)

-- ---- series are apart

-- no series begins where no segment begins one
pub none_begin : (n k : ℕ) (tail behind : List (List ℕ)) → k ≡ n + length tail → AllByRecursion BeginsNone tail
    → series_from n (tail ++ behind) ≡ series_from k behind
none_begin n k [] behind here each = ap (λ m. series_from m behind) (omega (arith, here))
none_begin n k (segment ∷ tail) behind here each = grind (arith, none_begin (n + 1) k tail behind (omega (arith, here)) each.1)

each_begins_at : (n k : ℕ) (series : List (List (List ℕ))) → k ≤ n → AllByRecursion (λ (t : SeriesAt). k ≤ t.before) (map (series_at n) series)
each_begins_at n k [] later = tt
each_begins_at n k (segments ∷ series) later = (later, each_begins_at n k series later)

each_begins_after : (n k : ℕ) (list : List (List ℕ)) → k ≤ n → AllByRecursion (λ (t : SeriesAt). k ≤ t.before) (series_from n list)
each_begins_after n k [] later = tt
each_begins_after n k (segment ∷ list) later =
    each-append (λ (t : SeriesAt). k ≤ t.before) (map (series_at n) (series_with segment list)) (series_from (n + 1) list)
    (each_begins_at n k (series_with segment list) later) (each_begins_after (n + 1) k list (omega (arith, later)))

apart_with : (s : SeriesAt) (ts : List SeriesAt) → AllByRecursion (λ (t : SeriesAt). past s ≤ t.before) ts → AreApart ts → AreApart (s ∷ ts)
apart_with s [] each apart = one s
apart_with s (t ∷ ts) each apart = more s t ts (le-leb (past s) t.before each.0) apart

apart_after : (n : ℕ) (segment : List ℕ) (later : List (List ℕ)) → AreApart (series_from (n + 1) later) → Beginning segment later
    → AreApart (map (series_at n) (series_with segment later) ++ series_from (n + 1) later)
apart_after n segment later apart (inl no_series) =
    subst (λ l. AreApart (map (series_at n) l ++ series_from (n + 1) later)) (sym no_series) apart
apart_after n segment later apart (inr (series, listed, b)) =
    let s = series_at n series in
    let k = past s in
    let skipped : series_from (n + 1) later ≡ series_from k b.behind =
    ap (series_from (n + 1)) b.in_order ∙ none_begin (n + 1) k b.tail b.behind (omega (arith, ap length b.series_is)) b.begin_none in
    subst (λ l. AreApart (map (series_at n) l ++ series_from (n + 1) later)) (sym listed)
    (apart_with s (series_from (n + 1) later)
    (subst (AllByRecursion (λ (t : SeriesAt). past s ≤ t.before)) (sym skipped) (each_begins_after k k b.behind (omega arith))) apart)

apart_from : (n : ℕ) (list : List (List ℕ)) → AreApart (series_from n list)
apart_from n [] = none
apart_from n (segment ∷ later) = apart_after n segment later (apart_from (n + 1) later) (beginning segment later)

pub series_are_apart : SeriesAreApart
series_are_apart list = apart_from 0 list
