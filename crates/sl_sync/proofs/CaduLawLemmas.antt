-- What is read of units of one length where nothing is wrong, where something is, and without markers.
use Rattle.std.proofs.Common.{◌≡◌, ℕ, zero, suc, ◌+◌, ◌-◌, ◌*◌, ◌/◌, ◌%◌, ◌≤◌, ◌<◌, Bool, true, false, ◌&&◌, ◌||◌, List, [], ◌∷◌, ◌++◌}
use Rattle.std.proofs.Common.{length, drop, map, refl, sym, ◌∙◌, ap, arith, length-append, length-drop, append_assoc}
use Rattle.std.proofs.Common.{inl, inr, append-nil, div-add-mod'}
use Rattle.std.proofs.Math.Seq.{drop-append_seam, drop-drop}
use Rattle.std.specs.List.{AllByRecursion, concat}
use Rattle.std.proofs.lemmas.List.{drop-append-le}
use Rattle.std.proofs.lemmas.Bool.{le-leb, lt-leb, cases_lt}
use Rattle.std.specs.Prelude.{nat_le}
use Rattle.sl_sync.specs.Cadu.{before, needed, stride, has_marker, is_next, cadu_begins, cadu_behind, cadu_content, cadu_rule, frame_of}
use Rattle.sl_sync.specs.Laws.{read_unit, IsWholeUnit, WholeUnitsAreRead, UnitsAroundAreRead, cuts, FixedCutsAreRead}
use Rattle.sl_sync.specs.Marker.{wrong_bits}
use Rattle.sl_sync.specs.Units.{Content, Part, unit, stray, parts_of, text_of}
use Rattle.sl_sync.specs.declared.cadu.CaduShape.{CaduShape}
use Rattle.sl_sync.specs.declared.units.Place.{Place}
use Rattle.sl_sync.specs.declared.units.Place.TheVariants.{Start, Next}
use Rattle.sl_sync.proofs.CaduLemmas.{content_by, frame_of-more}
use Rattle.sl_sync.proofs.MarkerLemmas.{is_marked-more, wrong_bits-nil}
use Rattle.sl_sync.proofs.UnitsLemmas.{parts-unit, parts-stray}

all_true : (next : Bool) {a b c : Bool} (d : Bool) → a ≡ true → b ≡ true → c ≡ true → (a && ((next || b) && (c || d))) ≡ true
all_true true d p q r = rw (p, r) refl
all_true false d p q r = rw (p, q, r) refl

none_behind : (a n b : Bool) {c d : Bool} → c ≡ false → d ≡ false → (a && ((n || b) && (c || d))) ≡ false
none_behind true true b p q = rw (p, q) refl
none_behind true false true p q = rw (p, q) refl
none_behind true false false p q = refl
none_behind false n b p q = refl

-- ---- one unit

module _ (s : CaduShape) where
  marked-front : (u rest : List ℕ) → IsWholeUnit s u → has_marker s (u ++ rest) ≡ true
  marked-front u rest h = is_marked-more s.marker u rest (omega (arith, h.long)) ∙ h.marked

  -- octets that begin with a marker, or no octets
  marked-units : (units : List (List ℕ)) → AllByRecursion (IsWholeUnit s) units → has_marker s (concat units) ≡ true
  marked-units [] all = le-leb (wrong_bits s.marker.octets []) s.marker.errors (omega (arith, wrong_bits-nil s.marker.octets))
  marked-units (u ∷ units) all = marked-front u (concat units) all.0

  behind-unit : (u rest : List ℕ) → IsWholeUnit s u → drop (stride s) (u ++ rest) ≡ rest
  behind-unit u rest h = ap (λ (n : ℕ). drop n (u ++ rest)) (sym h.long) ∙ drop-append_seam u rest

  -- a whole unit is read where a marker follows, or the file ends behind it
  begins-unit : (place : Place) (u rest : List ℕ) → IsWholeUnit s u → has_marker s rest ≡ true → cadu_begins s place (u ++ rest) ≡ true
  unfolding cadu_begins
  begins-unit place u rest h there =
      let whole : nat_le (needed s) (length (u ++ rest)) ≡ true = le-leb (needed s) (length (u ++ rest)) (omega (arith, length-append u rest, h.long)) in
      all_true (is_next place) (has_marker s (drop (2 * stride s) (u ++ rest))) whole (marked-front u rest h)
      (ap (λ (x : List ℕ). has_marker s x) (behind-unit u rest h) ∙ there)

  content-unit : (u rest : List ℕ) → IsWholeUnit s u → cadu_content s (u ++ rest) ≡ content_by true (frame_of s u)
  unfolding content_by
  content-unit u rest h =
      ap (λ (b : Bool). content_by b (frame_of s (u ++ rest))) (marked-front u rest h)
      ∙ ap (λ (f : List ℕ). content_by true f) (frame_of-more s u rest (omega (arith, h.long)))

  read-unit : (u : List ℕ) → unit (content_by true (frame_of s u)) ≡ read_unit s u
  unfolding content_by
  read-unit u = refl

  unit-read : (place : Place) (u rest : List ℕ) → IsWholeUnit s u → has_marker s rest ≡ true
      → parts_of (cadu_rule s) place (u ++ rest) ≡ read_unit s u ∷ parts_of (cadu_rule s) Next rest
  unit-read place u rest h there =
      parts-unit (cadu_rule s) place (u ++ rest) (omega (arith, length-append u rest, h.long, s.some)) (omega (arith, s.some)) (begins-unit place u rest h there)
      ∙ ap (λ (c : Content). unit c ∷ parts_of (cadu_rule s) Next (drop (stride s) (u ++ rest))) (content-unit u rest h)
      ∙ ap (λ (p : Part). p ∷ parts_of (cadu_rule s) Next (drop (stride s) (u ++ rest))) (read-unit u)
      ∙ ap (λ (x : List ℕ). read_unit s u ∷ parts_of (cadu_rule s) Next x) (behind-unit u rest h)

  -- ---- units on both sides of other octets

  -- a marker follows units, or stands before them
  front-marked : (units : List (List ℕ)) (rest : List ℕ) → AllByRecursion (IsWholeUnit s) units → has_marker s rest ≡ true
      → has_marker s (concat units ++ rest) ≡ true
  front-marked [] rest all there = there
  front-marked (u ∷ units) rest all there =
      ap (λ (x : List ℕ). has_marker s x) (append_assoc u (concat units) rest) ∙ marked-front u (concat units ++ rest) all.0

  -- units are read where a marker follows
  units-read : (place : Place) (units : List (List ℕ)) (rest : List ℕ) → AllByRecursion (IsWholeUnit s) units → has_marker s rest ≡ true
      → (place2 : Place) × (parts_of (cadu_rule s) place (concat units ++ rest) ≡ map (read_unit s) units ++ parts_of (cadu_rule s) place2 rest)
  units-read place [] rest all there = (place, refl)
  units-read place (u ∷ units) rest all there =
      let later = units-read Next units rest all.1 there in
      let marked : has_marker s (concat units ++ rest) ≡ true = front-marked units rest all.1 there in (
        later.0,
        ap (λ (x : List ℕ). parts_of (cadu_rule s) place x) (append_assoc u (concat units) rest)
            ∙ unit-read place u (concat units ++ rest) all.0 marked
            ∙ ap (λ (p : List Part). read_unit s u ∷ p) later.1,
      )

pub whole_units : WholeUnitsAreRead
whole_units s place [] all = refl
whole_units s place (u ∷ units) all =
    unit-read s place u (concat units) all.0 (marked-units s units all.1)
    ∙ ap (λ (p : List Part). read_unit s u ∷ p) (whole_units s Next units all.1)

-- ---- the units are found again

-- behind the first list, and some of the second
drop-past : (xs ys : List ℕ) (n d : ℕ) → length xs ≡ n → drop (n + d) (xs ++ ys) ≡ drop d ys
drop-past xs ys n d e =
    ap (λ (k : ℕ). drop (k + d) (xs ++ ys)) (sym e) ∙ sym (drop-drop d (length xs) (xs ++ ys))
    ∙ ap (λ (x : List ℕ). drop d x) (drop-append_seam xs ys)

-- these parts end with the units that are read of some octets
record EndsWith (parts units : List Part) : Type 0 where
  between : List Part
  all : parts ≡ between ++ units

ends-more : {parts units : List Part} (part : Part) → EndsWith parts units → EndsWith (part ∷ parts) units
ends-more part e = record { between = part ∷ e.between; all = ap (λ (p : List Part). part ∷ p) e.all }

ends-same : {parts parts' units : List Part} → parts' ≡ parts → EndsWith parts units → EndsWith parts' units
ends-same p e = record { between = e.between; all = p ∙ e.all }

module _ (s : CaduShape) (first : List ℕ) (units : List (List ℕ)) (h : IsWholeUnit s first) (all : AllByRecursion (IsWholeUnit s) units)
    (other : (j : ℕ) → 0 < j → j < stride s
    → (has_marker s (drop j (concat units)) ≡ false) × (has_marker s (drop (stride s + j) (concat units)) ≡ false)) where
  -- the first unit, and the others
  abbrev here : List ℕ
  here = first ++ concat units

  abbrev found : List Part
  found = map (read_unit s) units

  -- within the first unit, but not at its beginning, none begins
  none-within : (place : Place) (d : ℕ) → 0 < d → d < stride s → cadu_begins s place (drop d here) ≡ false
  unfolding cadu_begins
  none-within place d some inside =
      let octets = drop d here in
      let e1 : d + stride s ≡ stride s + d = omega arith in
      let e2 : d + 2 * stride s ≡ stride s + (stride s + d) = omega arith in
      let one : drop (stride s) octets ≡ drop d (concat units) =
      drop-drop (stride s) d here ∙ ap (λ (k : ℕ). drop k here) e1 ∙ drop-past first (concat units) (stride s) d h.long in
      let two : drop (2 * stride s) octets ≡ drop (stride s + d) (concat units) =
      drop-drop (2 * stride s) d here ∙ ap (λ (k : ℕ). drop k here) e2 ∙ drop-past first (concat units) (stride s) (stride s + d) h.long in
      let no = other d some inside in
      none_behind (nat_le (needed s) (length octets)) (is_next place) (has_marker s octets)
      (ap (λ (x : List ℕ). has_marker s x) one ∙ no.0) (ap (λ (x : List ℕ). has_marker s x) two ∙ no.1)

  -- from a place within the first unit on, the others are read
  found-within : (k : ℕ) (place : Place) (d : ℕ) → 0 < d → d + k ≡ stride s → EndsWith (parts_of (cadu_rule s) place (drop d here)) found
  found-within zero place d some e =
      let same : drop d here ≡ concat units = ap (λ (n : ℕ). drop n here) (omega (arith, e)) ∙ behind-unit s first (concat units) h in
      record { between = []; all = ap (λ (x : List ℕ). parts_of (cadu_rule s) place x) same ∙ whole_units s place units all }
  found-within (suc k) place d some e =
      let inside : d < stride s = omega arith in
      let long : 1 ≤ length (drop d here) = omega (arith, length-drop d here, length-append first (concat units), h.long) in
      let place2 = cadu_behind s place (drop d here) in
      let more : drop 1 (drop d here) ≡ drop (d + 1) here = drop-drop 1 d here in
      let step = parts-stray (cadu_rule s) place (drop d here) long (none-within place d some inside) in
      ends-same (step ∙ ap (λ (x : List ℕ). stray place2 ∷ parts_of (cadu_rule s) place2 x) more)
      (ends-more (stray place2) (found-within k place2 (d + 1) (omega arith) (omega arith)))

  -- a place that lies that far behind octets, before the first unit or within it
  found-past : (n k : ℕ) (o : ℕ) (octets : List ℕ) → length octets ≤ n → 1 ≤ k → k ≤ stride s
      → ((place : Place) (octets : List ℕ) → length octets ≤ n → EndsWith (parts_of (cadu_rule s) place (octets ++ here)) found)
      → (place : Place) → EndsWith (parts_of (cadu_rule s) place (drop k ((o ∷ octets) ++ here))) found
  found-past n k o octets short some most later place =
      elim (cases_lt (length (o ∷ octets)) k) [
        | inl past ↦ (let d = k - length (o ∷ octets) in
            let e : length (o ∷ octets) + d ≡ k = omega arith in
            let same : drop k ((o ∷ octets) ++ here) ≡ drop d here =
            ap (λ (m : ℕ). drop m ((o ∷ octets) ++ here)) (sym e) ∙ drop-past (o ∷ octets) here (length (o ∷ octets)) d refl in
            ends-same (ap (λ (x : List ℕ). parts_of (cadu_rule s) place x) same)
            (found-within (stride s - d) place d (omega arith) (omega arith)))
        | inr inside ↦ ends-same (ap (λ (x : List ℕ). parts_of (cadu_rule s) place x) (drop-append-le k (o ∷ octets) here inside))
            (later place (drop k (o ∷ octets)) (omega (arith, length-drop k (o ∷ octets))))
      ]

  -- whatever begins with an octet before the first unit, the others are read
  found-by : (n : ℕ) (place : Place) (o : ℕ) (octets : List ℕ) → length octets ≤ n
      → ((place : Place) (octets : List ℕ) → length octets ≤ n → EndsWith (parts_of (cadu_rule s) place (octets ++ here)) found)
      → (b : Bool) → cadu_begins s place ((o ∷ octets) ++ here) ≡ b
      → EndsWith (parts_of (cadu_rule s) place ((o ∷ octets) ++ here)) found
  found-by n place o octets short later true b =
      let x = (o ∷ octets) ++ here in
      ends-same (parts-unit (cadu_rule s) place x (omega arith) (omega (arith, s.some)) b)
      (ends-more (unit (cadu_content s x)) (found-past n (stride s) o octets short (omega (arith, s.some)) (omega arith) later Next))
  found-by n place o octets short later false b =
      let x = (o ∷ octets) ++ here in
      let place2 = cadu_behind s place x in
      ends-same (parts-stray (cadu_rule s) place x (omega arith) b)
      (ends-more (stray place2) (found-past n 1 o octets short (omega arith) (omega (arith, s.some)) later place2))

  found-behind : (n : ℕ) (place : Place) (octets : List ℕ) → length octets ≤ n
      → EndsWith (parts_of (cadu_rule s) place (octets ++ here)) found
  found-behind n place [] short = record {
    between = read_unit s first ∷ [];
    all = unit-read s place first (concat units) h (marked-units s units all) ∙ ap (λ (p : List Part). read_unit s first ∷ p) (whole_units s Next units all);
  }
  found-behind zero place (o ∷ octets) short = absurd (omega arith)
  found-behind (suc n) place (o ∷ octets) short =
      found-by n place o octets (omega arith) (λ p x h. found-behind n p x h) (cadu_begins s place ((o ∷ octets) ++ here)) refl

pub units_around : UnitsAroundAreRead
units_around s place before last octets first second third behind all h h1 more other =
    let units = second ∷ third ∷ behind in
    let rest = last ++ (octets ++ (first ++ concat units)) in
    let read = units-read s place before rest all (marked-front s last (octets ++ (first ++ concat units)) h) in
    let again = found-behind s first units h1 more other (length (last ++ octets)) read.0 (last ++ octets) (omega arith) in (
      again.between,
      read.1 ∙ ap (λ (p : List Part). map (read_unit s) before ++ p)
          (ap (λ (x : List ℕ). parts_of (cadu_rule s) read.0 x) (sym (append_assoc last octets (first ++ concat units))) ∙ again.all),
    )

-- ---- without a marker

module _ (s : CaduShape) (none : s.marker.octets ≡ []) where
  marked-any : (octets : List ℕ) → has_marker s octets ≡ true
  marked-any octets =
      ap (λ (m : List ℕ). nat_le (wrong_bits m octets) s.marker.errors) none ∙ le-leb 0 s.marker.errors (omega arith)

  begins-any : (place : Place) (octets : List ℕ) → needed s ≤ length octets → cadu_begins s place octets ≡ true
  unfolding cadu_begins
  begins-any place octets h =
      all_true (is_next place) (has_marker s (drop (2 * stride s) octets)) (le-leb (needed s) (length octets) h) (marked-any octets)
      (marked-any (drop (stride s) octets))

  begins-short : (place : Place) (octets : List ℕ) → length octets < needed s → cadu_begins s place octets ≡ false
  unfolding cadu_begins
  begins-short place octets h = let e : nat_le (needed s) (length octets) ≡ false = lt-leb (needed s) (length octets) h in rw e refl

  text-short : (place : Place) (octets : List ℕ) → length octets < needed s → text_of (parts_of (cadu_rule s) place octets) ≡ []
  text-short place [] h = refl
  text-short place (o ∷ octets) h =
      ap text_of (parts-stray (cadu_rule s) place (o ∷ octets) (omega arith) (begins-short place (o ∷ octets) h))
      ∙ text-short (cadu_behind s place (o ∷ octets)) octets (omega arith)

  text-cuts : (n : ℕ) (place : Place) (octets : List ℕ) → n * stride s ≤ length octets + s.trail
      → length octets + s.trail < n * stride s + stride s
      → text_of (parts_of (cadu_rule s) place octets) ≡ concat (cuts s n octets)
  text-cuts zero place octets low high = text-short place octets (omega arith)
  text-cuts (suc n) place octets low high =
      let whole : needed s ≤ length octets = omega arith in
      let left = length-drop (stride s) octets in
      ap text_of (parts-unit (cadu_rule s) place octets (omega (arith, s.some)) (omega (arith, s.some)) (begins-any place octets whole))
      ∙ ap (λ (t : List ℕ). (frame_of s octets ++ []) ++ t) (text-cuts n Next (drop (stride s) octets) (omega (arith, left, s.some)) (omega (arith, left, s.some)))
      ∙ ap (λ (x : List ℕ). x ++ concat (cuts s n (drop (stride s) octets))) (append-nil (frame_of s octets))

pub fixed_cuts : FixedCutsAreRead
fixed_cuts s file none =
    let n = (length file + s.trail) / stride s in
    let e = div-add-mod' (length file + s.trail) (stride s) in
    let r : (length file + s.trail) % stride s < stride s = omega (arith, s.some) in
    text-cuts s none n Start file (omega (arith, e)) (omega (arith, e, r))
