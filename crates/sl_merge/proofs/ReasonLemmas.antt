-- Stretches of frames, one frame after another.
use Rattle.std.proofs.Common.{◌≡◌, ◌≤◌, ℕ, ◌+◌, Bool, true, false, List, [], ◌∷◌, Option, None, Some, refl, sym, ◌∙◌, ap, ap₂, arith}
use Rattle.std.specs.Prelude.{◌&&◌}
use Rattle.sl_merge.specs.declared.channel.Tally.{Tally}
use Rattle.sl_merge.specs.declared.fate.Fate.{Fate}
use Rattle.sl_merge.specs.declared.fate.Fate.TheVariants.{Both, First, FirstLeftOut, Second, SecondLeftOut}
use Rattle.sl_merge.specs.Fates.{Fated}
use Rattle.sl_merge.specs.Merge.{Stretch, are_fair, are_fair_later, before_after, begun_by, count_of, cut_at, empty_stretch, is_repeat, stretches, unless, with_fate, without_repeats}
use Rattle.sl_merge.specs.Tally.{admits, ends_fairly, tally_after}
use Rattle.sl_merge.specs.Told.{from_side, turn_if}

abbrev sized : Option ℕ → ℕ → ℕ → Stretch
sized after out others = record { after = after; left_out = out; others = others }

-- the first stretch comes after such a frame of both, and has these more
abbrev pub with_more : Option ℕ → ℕ → ℕ → List Stretch → List Stretch
with_more after out others [] = []
with_more after out others (s ∷ later) = sized after (out + s.left_out) (others + s.others) ∷ later

-- all is fair, where these stand in the first stretch already
abbrev pub judge : ℕ → Option ℕ → ℕ → ℕ → List Stretch → Bool
judge most (Some count) out others later = are_fair_later most (with_more (Some count) out others later)
judge most None out others later = are_fair most (with_more None out others later)

-- the same of a first stretch with these numbers
abbrev judged : ℕ → Option ℕ → ℕ → ℕ → List Stretch → Bool
judged most (Some count) out others later = are_fair_later most (sized (Some count) out others ∷ later)
judged most None out others later = are_fair most (sized None out others ∷ later)

judge_is : (most : ℕ) (after : Option ℕ) (out others : ℕ) (s : Stretch) (later : List Stretch)
    → judge most after out others (s ∷ later) ≡ judged most after (out + s.left_out) (others + s.others) later
judge_is most (Some count) out others s later = refl
judge_is most None out others s later = refl

same_size : (most : ℕ) (after : Option ℕ) (a b c d : ℕ) (later : List Stretch) → a ≡ c → b ≡ d
    → judged most after a b later ≡ judged most after c d later
same_size most after a b c d later e e' = ap₂ (λ x y. judged most after x y later) e e'

-- ---- one frame

module _ (after : Option ℕ) (out others : ℕ) where
  abbrev t : Tally
  t = record { after = after; left_out = out; others = others }

-- nothing stands in the first stretch yet
none_yet : (most : ℕ) (after : Option ℕ) (s : Stretch) (later : List Stretch)
    → judge most after 0 0 (s ∷ later) ≡ judged most after s.left_out s.others later
none_yet most after s later =
    judge_is most after 0 0 s later
    ∙ same_size most after (0 + s.left_out) (0 + s.others) s.left_out s.others later (omega arith) (omega arith)

-- a stretch that a frame of both ends, and the ones after it
both_ends : (most : ℕ) (after : Option ℕ) (out others count : ℕ) (s : Stretch) (later : List Stretch)
    → judged most after out others (begun_by count (s ∷ later))
    ≡ ends_fairly most after out others count && judged most (Some count) s.left_out s.others later
both_ends most (Some last) out others count s later = refl
both_ends most None out others count s later = refl

both_admitted : (most : ℕ) (after : Option ℕ) (out others : ℕ) (frame : List ℕ) (s : Stretch) (later : List Stretch)
    → judge most after out others (cut_at (record { fate = Both; frame = frame }) (s ∷ later))
    ≡ ends_fairly most after out others (count_of frame) && judge most (Some (count_of frame)) 0 0 (s ∷ later)
both_admitted most after out others frame s later =
    judge_is most after out others empty_stretch (begun_by (count_of frame) (s ∷ later))
    ∙ same_size most after (out + 0) (others + 0) out others (begun_by (count_of frame) (s ∷ later)) (omega arith) (omega arith)
    ∙ both_ends most after out others (count_of frame) s later
    ∙ ap (λ r. ends_fairly most after out others (count_of frame) && r) (sym (none_yet most (Some (count_of frame)) s later))

-- a stretch that is one frame larger on either side of the seam
moved : (most : ℕ) (after : Option ℕ) (out others out' others' : ℕ) (s s' : Stretch) (later : List Stretch)
    → out + s.left_out ≡ out' + s'.left_out
    → others + s.others ≡ others' + s'.others → judge most after out others (s ∷ later) ≡ judge most after out' others' (s' ∷ later)
moved most after out others out' others' s s' later e e' =
    judge_is most after out others s later
    ∙ same_size most after (out + s.left_out) (others + s.others) (out' + s'.left_out) (others' + s'.others) later e e'
    ∙ sym (judge_is most after out' others' s' later)

abbrev judge_by : ℕ → Tally → List Stretch → Bool
judge_by most tally later = judge most tally.after tally.left_out tally.others later

-- with one frame more: what it ends is fair, and so is what comes after it
judge_more : (most : ℕ) (fate : Fate) (frame : List ℕ) (after : Option ℕ) (out others : ℕ) (s : Stretch) (later : List Stretch)
    → judge most after out others (cut_at (record { fate = fate; frame = frame }) (s ∷ later))
    ≡ admits most (t after out others) fate (count_of frame)
    && judge_by most (tally_after fate (count_of frame) (t after out others)) (s ∷ later)
judge_more most Both frame after out others s later = both_admitted most after out others frame s later
judge_more most First frame after out others s later = refl
judge_more most SecondLeftOut frame after out others s later = refl
judge_more most FirstLeftOut frame after out others s later =
    moved most after out others (out + 1) others (with_fate FirstLeftOut s) s later (omega arith) refl
judge_more most Second frame after out others s later =
    moved most after out others out (others + 1) (with_fate Second s) s later refl (omega arith)

-- ---- the numbers rise by at most one a frame

pub smaller : (fate : Fate) (count : ℕ) (tally tally' : Tally) (i : ℕ) → tally' ≡ tally_after fate count tally → tally.left_out ≤ i → tally'.left_out ≤ i + 1
smaller Both count tally tally' i after below = omega (arith, ap (λ (u : Tally). u.left_out) after)
smaller First count tally tally' i after below = omega (arith, ap (λ (u : Tally). u.left_out) after)
smaller SecondLeftOut count tally tally' i after below = omega (arith, ap (λ (u : Tally). u.left_out) after)
smaller FirstLeftOut count tally tally' i after below = omega (arith, ap (λ (u : Tally). u.left_out) after)
smaller Second count tally tally' i after below = omega (arith, ap (λ (u : Tally). u.left_out) after)

pub fewer : (fate : Fate) (count : ℕ) (tally tally' : Tally) (i : ℕ) → tally' ≡ tally_after fate count tally → tally.others ≤ i → tally'.others ≤ i + 1
fewer Both count tally tally' i after below = omega (arith, ap (λ (u : Tally). u.others) after)
fewer First count tally tally' i after below = omega (arith, ap (λ (u : Tally). u.others) after)
fewer SecondLeftOut count tally tally' i after below = omega (arith, ap (λ (u : Tally). u.others) after)
fewer FirstLeftOut count tally tally' i after below = omega (arith, ap (λ (u : Tally). u.others) after)
fewer Second count tally tally' i after below = omega (arith, ap (λ (u : Tally). u.others) after)

-- ---- there is always a stretch

record IsFilled (later : List Stretch) : Type 0 where
  first : Stretch
  rest : List Stretch
  is : later ≡ first ∷ rest

filled_more : (fate : Fate) (frame : List ℕ) (later : List Stretch) → IsFilled later → IsFilled (cut_at (record { fate = fate; frame = frame }) later)
filled_more Both frame later f = record { first = empty_stretch; rest = begun_by (count_of frame) later; is = refl }
filled_more First frame later f = record { first = with_fate First f.first; rest = f.rest; is = ap (cut_at (record { fate = First; frame = frame })) f.is }
filled_more SecondLeftOut frame later f =
    record { first = with_fate SecondLeftOut f.first; rest = f.rest; is = ap (cut_at (record { fate = SecondLeftOut; frame = frame })) f.is }
filled_more FirstLeftOut frame later f =
    record { first = with_fate FirstLeftOut f.first; rest = f.rest; is = ap (cut_at (record { fate = FirstLeftOut; frame = frame })) f.is }
filled_more Second frame later f = record { first = with_fate Second f.first; rest = f.rest; is = ap (cut_at (record { fate = Second; frame = frame })) f.is }

filled : (items : List Fated) → IsFilled (stretches items)
filled [] = record { first = empty_stretch; rest = []; is = refl }
filled (item ∷ later) = filled_more item.fate item.frame (stretches later) (filled later)

-- ---- nothing came before the first stretch

first_is : (most : ℕ) (s : Stretch) (later : List Stretch) → judged most None s.left_out s.others later ≡ are_fair most (s ∷ later)
first_is most s later = refl

-- ---- one step of a loop over the frames

module _ (most : ℕ) (b : Bool) (items rest : List Fated) (item : Fated) (is : items ≡ item ∷ rest) (before : List ℕ) (tally : Tally) where
  abbrev shown : judge_by most tally (stretches (without_repeats before (from_side b items)))
      ≡ judge_by most tally (stretches (unless (is_repeat before (turn_if b item)) (turn_if b item) (without_repeats (before_after before (turn_if b item)) (from_side b rest))))
  shown = ap (λ l. judge_by most tally (stretches (without_repeats before (from_side b l)))) is

  -- a frame that isn't a repeat
  pub judged_after : is_repeat before (turn_if b item) ≡ false
      → judge_by most tally (stretches (without_repeats before (from_side b items)))
      ≡ admits most tally (turn_if b item).fate (count_of (turn_if b item).frame)
      && judge_by most (tally_after (turn_if b item).fate (count_of (turn_if b item).frame) tally)
      (stretches (without_repeats (before_after before (turn_if b item)) (from_side b rest)))
  judged_after fails =
      let x = turn_if b item in
      let later = without_repeats (before_after before x) (from_side b rest) in
      let f = filled later in
      shown
      ∙ ap (λ r. judge_by most tally (stretches (unless r x later))) fails
      ∙ ap (λ l. judge_by most tally (cut_at x l)) f.is
      ∙ judge_more most x.fate x.frame tally.after tally.left_out tally.others f.first f.rest
      ∙ ap (λ l. admits most tally x.fate (count_of x.frame) && judge_by most (tally_after x.fate (count_of x.frame) tally) l) (sym f.is)

  pub judged_more : (before' : List ℕ) (tally' : Tally) → before' ≡ before_after before (turn_if b item) → is_repeat before (turn_if b item) ≡ false
      → admits most tally (turn_if b item).fate (count_of (turn_if b item).frame) ≡ true
      → tally' ≡ tally_after (turn_if b item).fate (count_of (turn_if b item).frame) tally
      → judge_by most tally' (stretches (without_repeats before' (from_side b rest))) ≡ judge_by most tally (stretches (without_repeats before (from_side b items)))
  judged_more before' tally' e fails holds after =
      ap₂ (λ u p. judge_by most u (stretches (without_repeats p (from_side b rest)))) after e
      ∙ sym (judged_after fails
      ∙ ap (λ r. r && judge_by most (tally_after (turn_if b item).fate (count_of (turn_if b item).frame) tally)
      (stretches (without_repeats (before_after before (turn_if b item)) (from_side b rest)))) holds)
