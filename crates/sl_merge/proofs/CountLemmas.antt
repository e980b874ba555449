-- Numbers of frames.
use Rattle.std.proofs.Common.{◌≡◌, ◌+◌, ◌-◌, ◌<◌, ◌≤◌, ℕ, Bool, true, false, cond, List, [], ◌∷◌, map, Some, refl, sym, ◌∙◌, ap, ap₂, arith}
use Rattle.std.specs.Prelude.{◌&&◌, is_none, nat_eq}
use Rattle.std.specs.List.{count_by, range_with_len, sum}
use Rattle.std.specs.Option.{option_eq}
use Rattle.std.proofs.lemmas.List.Sums.{sum_by-cons}
use Rattle.sl_tmframe.specs.TmFrame.{TmFormat}
use Rattle.sl_tmflow.specs.Recording.{virtual_channels}
use Rattle.sl_merge.specs.declared.counts.FateCounts.{FateCounts}
use Rattle.sl_merge.specs.declared.counts.LeftOut.{LeftOut}
use Rattle.sl_merge.specs.declared.item.Seen.{Seen}
use Rattle.sl_merge.specs.Counts.{left_out_first, repeats_of}
use Rattle.sl_merge.specs.Merge.{is_first_alone, is_left_out, left_out_of, on_channel, vc_of}
use Rattle.sl_merge.specs.Fates.{Fated, exchanged, turned_item}
use Rattle.sl_merge.specs.Told.{from_side, seen_of, seen_on, turn_if}
use Rattle.sl_merge.proofs.MergeLemmas.{range_next, seen_on_channel, side_stays}

-- ---- counts, one frame after another

abbrev pub bit : Bool → ℕ
bit b = cond b 1 0

pub count-cons : {X : Type 0} (p : X → Bool) (x : X) (xs : List X) → count_by p (x ∷ xs) ≡ bit (p x) + count_by p xs
count-cons p x xs = sum_by-cons (λ y. bit (p y)) x xs

pub count-map : {X Y : Type 0} (f : X → Y) (p : Y → Bool) (xs : List X) → count_by p (map f xs) ≡ count_by (λ x. p (f x)) xs
count-map f p [] = refl
count-map f p (x ∷ xs) =
    count-cons p (f x) (map f xs) ∙ ap (λ n. bit (p (f x)) + n) (count-map f p xs) ∙ sym (count-cons (λ y. p (f y)) x xs)

-- ---- the channels, one after another

abbrev pub skipped_in : Bool → List Seen → ℕ
skipped_in b seen = count_by (λ (s : Seen). is_left_out (turn_if b s.item) && is_none s.vc) seen

-- a number of each channel from this one on, summed up
abbrev pub over_rest : (List Fated → ℕ) → Bool → List Seen → ℕ → ℕ
over_rest number b seen vc = sum (map (λ v. number (from_side b (seen_on v seen))) (range_with_len vc (8 - vc)))

abbrev pub over_all : (List Fated → ℕ) → Bool → List Seen → ℕ
over_all number b seen = sum (map (λ v. number (from_side b (seen_on v seen))) virtual_channels)

-- these are the numbers of the channels before this one
pub record IsCounted (b : Bool) (seen : List Seen) (vc : ℕ) (left : LeftOut) : Type 0 where
  pub skipped : left.skipped ≡ skipped_in b seen
  pub repeats : left.repeats + over_rest repeats_of b seen vc ≡ over_all repeats_of b seen
  pub stretches : left.stretches + over_rest left_out_of b seen vc ≡ over_all left_out_of b seen

rest_more : (number : List Fated → ℕ) (b : Bool) (seen : List Seen) (vc : ℕ) → vc < 8
    → over_rest number b seen vc ≡ number (from_side b (seen_on vc seen)) + over_rest number b seen (vc + 1)
rest_more number b seen vc below =
    ap (λ l. sum (map (λ v. number (from_side b (seen_on v seen))) l)) (range_next vc (8 - vc) refl below)
    ∙ sum_by-cons (λ (n : ℕ). n) (number (from_side b (seen_on vc seen))) (map (λ v. number (from_side b (seen_on v seen))) (range_with_len (vc + 1) (8 - (vc + 1))))

pub counted_more : (b : Bool) (seen : List Seen) (vc : ℕ) (left more : LeftOut) → vc < 8 → IsCounted b seen vc left → more.skipped ≡ left.skipped
    → more.repeats ≡ left.repeats + repeats_of (from_side b (seen_on vc seen))
    → more.stretches ≡ left.stretches + left_out_of (from_side b (seen_on vc seen)) → IsCounted b seen (vc + 1) more
counted_more b seen vc left more below counted s r t =
    record {
      skipped = s ∙ counted.skipped;
      repeats = shifted left.repeats more.repeats (repeats_of (from_side b (seen_on vc seen))) (over_rest repeats_of b seen vc) (over_rest repeats_of b seen (vc + 1)) r (rest_more repeats_of b seen vc below) ∙ counted.repeats;
      stretches = shifted left.stretches more.stretches (left_out_of (from_side b (seen_on vc seen))) (over_rest left_out_of b seen vc) (over_rest left_out_of b seen (vc + 1)) t (rest_more left_out_of b seen vc below) ∙ counted.stretches;
    }
  where
    shifted : (a a' n m k : ℕ) → a' ≡ a + n → m ≡ n + k → a' + k ≡ a + m
    shifted a a' n m k e e' = omega (arith, e, e')

pub counted_none : (b : Bool) (seen : List Seen) (left : LeftOut) → left.skipped ≡ skipped_in b seen → left.repeats ≡ 0 → left.stretches ≡ 0
    → IsCounted b seen 0 left
counted_none b seen left skipped repeats stretches =
    record { skipped = skipped; repeats = omega (arith, repeats); stretches = omega (arith, stretches) }

-- ---- what is seen, and the frames

pub channel_exchanged : (format : TmFormat) (spacecraft vc : ℕ) (items : List Fated)
    → on_channel format spacecraft vc (exchanged items) ≡ exchanged (on_channel format spacecraft vc items)
channel_exchanged format spacecraft vc [] = refl
channel_exchanged format spacecraft vc (item ∷ items) =
    cases (option_eq nat_eq (vc_of format spacecraft item.frame) (Some vc)) (channel_exchanged format spacecraft vc items)
  where
    cases : (b : Bool) → on_channel format spacecraft vc (exchanged items) ≡ exchanged (on_channel format spacecraft vc items)
        → cond b (turned_item item ∷ on_channel format spacecraft vc (exchanged items)) (on_channel format spacecraft vc (exchanged items))
        ≡ exchanged (cond b (item ∷ on_channel format spacecraft vc items) (on_channel format spacecraft vc items))
    cases true same = ap (λ l. turned_item item ∷ l) same
    cases false same = same

pub channel_seen : (b : Bool) (format : TmFormat) (spacecraft vc : ℕ) (items : List Fated) (seen : List Seen) → seen ≡ map (seen_of format spacecraft) items
    → from_side b (seen_on vc seen) ≡ on_channel format spacecraft vc (from_side b items)
channel_seen true format spacecraft vc items seen is =
    ap exchanged (ap (seen_on vc) is ∙ seen_on_channel format spacecraft vc items) ∙ sym (channel_exchanged format spacecraft vc items)
channel_seen false format spacecraft vc items seen is =
    side_stays (seen_on vc seen) ∙ ap (seen_on vc) is ∙ seen_on_channel format spacecraft vc items
    ∙ ap (on_channel format spacecraft vc) (sym (side_stays items))

map_same : (f h : ℕ → ℕ) → ((n : ℕ) → f n ≡ h n) → (ns : List ℕ) → map f ns ≡ map h ns
map_same f h same [] = refl
map_same f h same (n ∷ ns) = ap₂ (λ m l. m ∷ l) (same n) (map_same f h same ns)

pub over_seen : (number : List Fated → ℕ) (b : Bool) (format : TmFormat) (spacecraft : ℕ) (items : List Fated) (seen : List Seen)
    → seen ≡ map (seen_of format spacecraft) items
    → over_all number b seen ≡ sum (map (λ vc. number (on_channel format spacecraft vc (from_side b items))) virtual_channels)
over_seen number b format spacecraft items seen is =
    ap sum (map_same (λ v. number (from_side b (seen_on v seen))) (λ vc. number (on_channel format spacecraft vc (from_side b items)))
    (λ vc. ap number (channel_seen b format spacecraft vc items seen is)) virtual_channels)

-- ---- the numbers

abbrev pub all_counts : ℕ → ℕ → ℕ → LeftOut → LeftOut → FateCounts
all_counts both first second left other = record { both = both; first = first; second = second; first_left_out = left; second_left_out = other }

abbrev left_of : ℕ → ℕ → ℕ → LeftOut
left_of s r t = record { skipped = s; repeats = r; stretches = t }

module _ (b : Bool) (format : TmFormat) (spacecraft : ℕ) (items : List Fated) (seen : List Seen) (is : seen ≡ map (seen_of format spacecraft) items) where
  pub left_out_seen : (vc : ℕ) → 8 ≤ vc → (left : LeftOut) → IsCounted b seen vc left → left ≡ left_out_first format spacecraft (from_side b items)
  left_out_seen vc past left counted =
      let none : 8 - vc ≡ 0 = omega arith in
      let nothing = λ (number : List Fated → ℕ). ap (λ n. sum (map (λ v. number (from_side b (seen_on v seen))) (range_with_len vc n))) none in
      let skipped : skipped_in b seen ≡ count_by (λ (item : Fated). is_left_out item && is_none (vc_of format spacecraft item.frame)) (from_side b items) =
      ap (skipped_in b) is ∙ count-map (seen_of format spacecraft) (λ (s : Seen). is_left_out (turn_if b s.item) && is_none s.vc) items
      ∙ skipped_side b ∙ sym (count-map (turn_if b) (λ (item : Fated). is_left_out item && is_none (vc_of format spacecraft item.frame)) items) in
      counts_are left.skipped left.repeats left.stretches
      (skipped_in b seen) (over_all repeats_of b seen) (over_all left_out_of b seen)
      counted.skipped
      (let e : left.repeats ≡ over_all repeats_of b seen = omega (arith, counted.repeats, nothing repeats_of) in e)
      (let e : left.stretches ≡ over_all left_out_of b seen = omega (arith, counted.stretches, nothing left_out_of) in e)
      ∙ ap (λ n. left_of n (over_all repeats_of b seen) (over_all left_out_of b seen)) skipped
      ∙ ap₂ (λ r t. left_of (left_out_first format spacecraft (from_side b items)).skipped r t)
      (over_seen repeats_of b format spacecraft items seen is) (over_seen left_out_of b format spacecraft items seen is)
    where
      counts_are : (s r t s' r' t' : ℕ) → s ≡ s' → r ≡ r' → t ≡ t' → left_of s r t ≡ left_of s' r' t'
      counts_are s r t s' r' t' e f h = ap (λ n. left_of n r t) e ∙ ap₂ (left_of s') f h

      skipped_side : (b : Bool) → count_by (λ (item : Fated). is_left_out (turn_if b item) && is_none (vc_of format spacecraft item.frame)) items
          ≡ count_by (λ (item : Fated). is_left_out (turn_if b item) && is_none (vc_of format spacecraft (turn_if b item).frame)) items
      skipped_side true = refl
      skipped_side false = refl

  pub alone_seen : count_by (λ (s : Seen). is_first_alone (turn_if b s.item).fate) seen ≡ count_by (λ (item : Fated). is_first_alone item.fate) (from_side b items)
  alone_seen =
      ap (count_by (λ (s : Seen). is_first_alone (turn_if b s.item).fate)) is
      ∙ count-map (seen_of format spacecraft) (λ (s : Seen). is_first_alone (turn_if b s.item).fate) items
      ∙ sym (count-map (turn_if b) (λ (item : Fated). is_first_alone item.fate) items)

pub counts_are : (n m k n' m' k' : ℕ) (l r l' r' : LeftOut) → n ≡ n' → m ≡ m' → k ≡ k' → l ≡ l' → r ≡ r' → all_counts n m k l r ≡ all_counts n' m' k' l' r'
counts_are n m k n' m' k' l r l' r' a b c d e = ap (λ x. all_counts x m k l r) a ∙ ap (λ x. all_counts n' x k l r) b ∙ ap (λ x. all_counts n' m' x l r) c ∙ ap₂ (all_counts n' m' k') d e
