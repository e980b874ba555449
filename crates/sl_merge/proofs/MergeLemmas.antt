-- What is seen of frames, and what a merge asks.
use Rattle.std.proofs.Common.{◌≡◌, ◌+◌, ◌-◌, ◌<◌, ℕ, zero, suc, Bool, true, false, cond, List, [], ◌∷◌, map, Some, refl, sym, ◌∙◌, ap, ap₂, arith}
use Rattle.std.specs.Prelude.{◌&&◌, ◌||◌, is_some, nat_eq, not}
use Rattle.std.specs.List.{filter, list_all, range_with_len}
use Rattle.std.specs.Option.{option_eq}
use Rattle.sl_tmframe.specs.TmFrame.{TmFormat}
use Rattle.sl_tmflow.specs.Recording.{virtual_channels}
use Rattle.sl_merge.specs.declared.fate.Fate.{Fate}
use Rattle.sl_merge.specs.declared.item.Seen.{Seen}
use Rattle.sl_merge.specs.Fates.{Fated, fits_both, stands, taken_of}
use Rattle.sl_merge.specs.Merge.{are_read, is_merge, is_merge_on, on_channel, vc_of}
use Rattle.sl_merge.specs.Told.{from_side, seen_of, seen_on}

-- frames as they are
pub side_stays : (items : List Fated) → from_side false items ≡ items
side_stays [] = refl
side_stays (item ∷ items) = ap (λ l. item ∷ l) (side_stays items)

-- what is seen of frames tells which are on a channel, and whether each that stands is read
pub seen_on_channel : (format : TmFormat) (spacecraft vc : ℕ) (items : List Fated)
    → seen_on vc (map (seen_of format spacecraft) items) ≡ on_channel format spacecraft vc items
seen_on_channel format spacecraft vc [] = refl
seen_on_channel format spacecraft vc (item ∷ items) =
    cases (option_eq nat_eq (vc_of format spacecraft item.frame) (Some vc)) (seen_on_channel format spacecraft vc items)
  where
    cases : (b : Bool) → seen_on vc (map (seen_of format spacecraft) items) ≡ on_channel format spacecraft vc items
        → map (λ (s : Seen). s.item) (cond b (seen_of format spacecraft item ∷ filter (λ s. option_eq nat_eq s.vc (Some vc)) (map (seen_of format spacecraft) items)) (filter (λ s. option_eq nat_eq s.vc (Some vc)) (map (seen_of format spacecraft) items)))
        ≡ cond b (item ∷ on_channel format spacecraft vc items) (on_channel format spacecraft vc items)
    cases true same = ap (λ l. item ∷ l) same
    cases false same = same

pub seen_are_read : (format : TmFormat) (spacecraft : ℕ) (items : List Fated)
    → list_all (λ (s : Seen). not (stands s.item.fate) || is_some s.vc) (map (seen_of format spacecraft) items) ≡ are_read format spacecraft items
seen_are_read format spacecraft [] = refl
seen_are_read format spacecraft (item ∷ items) =
    ap (λ b. (not (stands item.fate) || is_some (vc_of format spacecraft item.frame)) && b) (seen_are_read format spacecraft items)

-- ---- one step of a loop over the channels

pub range_next : (vc n : ℕ) → n ≡ 8 - vc → vc < 8 → range_with_len vc n ≡ vc ∷ range_with_len (vc + 1) (8 - (vc + 1))
range_next vc zero is below = absurd (omega arith)
range_next vc (suc n) is below = ap (λ k. vc ∷ range_with_len (vc + 1) k) (let e : n ≡ 8 - (vc + 1) = omega arith in e)

module _ (test : ℕ → Bool) (vc : ℕ) (below : vc < 8) where
  pub channels_more : test vc ≡ true → list_all test (range_with_len (vc + 1) (8 - (vc + 1))) ≡ list_all test (range_with_len vc (8 - vc))
  channels_more holds =
      sym (ap (list_all test) (range_next vc (8 - vc) refl below) ∙ ap (λ b. b && list_all test (range_with_len (vc + 1) (8 - (vc + 1)))) holds)

  pub channels_not : test vc ≡ false → list_all test (range_with_len vc (8 - vc)) ≡ false
  channels_not fails =
      ap (list_all test) (range_next vc (8 - vc) refl below) ∙ ap (λ b. b && list_all test (range_with_len (vc + 1) (8 - (vc + 1)))) fails

pub all_same : (f h : ℕ → Bool) → ((n : ℕ) → f n ≡ h n) → (ns : List ℕ) → list_all f ns ≡ list_all h ns
all_same f h same [] = refl
all_same f h same (n ∷ ns) = ap₂ (λ a b. a && b) (same n) (all_same f h same ns)

-- ---- the answer

-- what is tested of what is seen
abbrev pub sees_read : List Seen → Bool
sees_read seen = list_all (λ (s : Seen). not (stands s.item.fate) || is_some s.vc) seen

abbrev pub sees_merge : TmFormat → List Seen → ℕ → Bool
sees_merge format seen vc = is_merge_on format (seen_on vc seen)

module _ (format : TmFormat) (spacecraft : ℕ) (one other : List ℕ) (fates : List Fate) (seen : List Seen) (fits : Bool)
    (is : seen ≡ map (seen_of format spacecraft) (taken_of format.len one other fates)) (fit : fits ≡ fits_both format.len one other fates) where
  pub answer : is_merge format spacecraft one other fates ≡ (fits && (sees_read seen && list_all (sees_merge format seen) virtual_channels))
  answer =
      let items = taken_of format.len one other fates in
      let channels : list_all (λ vc. is_merge_on format (on_channel format spacecraft vc items)) virtual_channels ≡ list_all (sees_merge format seen) virtual_channels =
      all_same (λ vc. is_merge_on format (on_channel format spacecraft vc items)) (sees_merge format seen)
      (λ vc. ap (is_merge_on format) (sym (ap (seen_on vc) is ∙ seen_on_channel format spacecraft vc items))) virtual_channels in
      let read : are_read format spacecraft items ≡ sees_read seen = sym (ap sees_read is ∙ seen_are_read format spacecraft items) in
      ap₂ (λ f r. f && r) (sym fit) (ap₂ (λ r c. r && c) read channels)

  pub answer_by : (read channels : Bool) → sees_read seen ≡ read → list_all (sees_merge format seen) virtual_channels ≡ channels
      → is_merge format spacecraft one other fates ≡ (fits && (read && channels))
  answer_by read channels e e' = answer ∙ ap₂ (λ r c. fits && (r && c)) e e'
