-- Frames of the first recording that stand are within all that stand: so no packet is lost.
use Rattle.std.proofs.Common.{◌≡◌, ◌+◌, ◌<◌, ◌≤◌, ℕ, zero, suc, Bool, true, false, cond, List, [], ◌∷◌, ◌++◌, length, map, Option, None, Some, inl, inr, refl, sym, ◌∙◌, ap, subst, append-nil, arith}
use Rattle.std.specs.Prelude.{⊤, ◌&&◌, nat_eq, not}
use Rattle.std.specs.List.{AllByRecursion, cons_option, filter, list_all, range_with_len}
use Rattle.std.specs.Option.{option_eq}
use Rattle.std.specs.Result.{result_ok}
use Rattle.std.proofs.lemmas.Bool.{and_parts, cases_lt}
use Rattle.sl_packet.specs.Sublist.{IsSublist}
use Rattle.sl_tmframe.specs.TmDelimited.{tm_frames_of}
use Rattle.sl_tmframe.specs.TmFrame.{TmFormat, TmView, read_as, skip_reason, view_of}
use Rattle.sl_tmframe.specs.declared.tm_frame.TmSkip.{TmSkip}
use Rattle.sl_tmframe.proofs.DelimitedLemmas.{AreWhole, frames_of-concat, frames_of-short, is_delimited}
use Rattle.sl_tmflow.specs.Loss.{recorded_channel, recorded_packets}
use Rattle.sl_tmflow.specs.Merge.{AreWithin, IsAfterLoss}
use Rattle.sl_tmflow.specs.Recording.{virtual_channels}
use Rattle.sl_tmflow.specs.VirtualChannel.{views_of, views_on}
use Rattle.sl_tmflow.proofs.lemmas.Merge.{recorded_are_delivered}
use Rattle.sl_merge.specs.declared.fate.Fate.{Fate}
use Rattle.sl_merge.specs.declared.fate.Fate.TheVariants.{Both, First, FirstLeftOut, Second, SecondLeftOut}
use Rattle.sl_merge.specs.Fates.{Fated, exchanged, fated, fits_both, kept_first, octets_of, of_first, standing, stands, taken, taken_of}
use Rattle.sl_merge.specs.Merge.{LosesNoPacket, are_read, count_of, few, follows_last, has_reasons, is_merge, is_merge_on, is_none_twice, is_unbroken, keeps_first, on_channel, vc_in, vc_of}
use Rattle.sl_merge.proofs.CountLemmas.{channel_exchanged}

-- ---- the frames of a channel, by a test of their octets

module _ (format : TmFormat) (on : List ℕ → Bool) where
  abbrev pub seen_as : List Fated → List TmView
  seen_as [] = []
  seen_as (item ∷ rest) = cond (on item.frame) (view_of format item.frame ∷ seen_as rest) (seen_as rest)

  abbrev pub those_on : List Fated → List Fated
  those_on items = filter (λ item. on item.frame) items

  -- the first frame comes after a loss
  abbrev HeadLost : Option ℕ → List TmView → Type 0
  HeadLost last [] = ⊤
  HeadLost last (view ∷ later) = IsAfterLoss last view

  not_holds : (x : Bool) → not x ≡ true → x ≡ false
  not_holds true h = sym h
  not_holds false h = refl

  lost : (last : Option ℕ) (frame : List ℕ) → not (follows_last last (count_of frame)) ≡ true → IsAfterLoss last (view_of format frame)
  lost None frame h = tt
  lost (Some count) frame h = not_holds (follows_last (Some count) (count_of frame)) h

  past : (last : Option ℕ) (frames more : List TmView) (view : TmView) → HeadLost last frames → AreWithin last frames more → AreWithin last frames (view ∷ more)
  past last [] more view head within = tt
  past last (next ∷ frames) more view head within = inr (head, within)

  abbrev HeadIs : List Fated → Type 0
  HeadIs rest = (last : Option ℕ) → is_unbroken last true (those_on rest) ≡ true → HeadLost last (seen_as (kept_first rest))

  head_of : (fate : Fate) (frame : List ℕ) (rest : List Fated) → HeadIs rest → HeadIs (fated fate frame ∷ rest)
  head_of Both frame rest ih last h = kept (on frame) h
    where
      kept : (b : Bool) → is_unbroken last true (cond b (fated Both frame ∷ those_on rest) (those_on rest)) ≡ true
          → HeadLost last (cond b (view_of format frame ∷ seen_as (kept_first rest)) (seen_as (kept_first rest)))
      kept true h = lost last frame (and_parts (not (follows_last last (count_of frame))) (is_unbroken (Some (count_of frame)) false (those_on rest)) h).0
      kept false h = ih last h
  head_of First frame rest ih last h = kept (on frame) h
    where
      kept : (b : Bool) → is_unbroken last true (cond b (fated First frame ∷ those_on rest) (those_on rest)) ≡ true
          → HeadLost last (cond b (view_of format frame ∷ seen_as (kept_first rest)) (seen_as (kept_first rest)))
      kept true h = lost last frame (and_parts (not (follows_last last (count_of frame))) (is_unbroken (Some (count_of frame)) false (those_on rest)) h).0
      kept false h = ih last h
  head_of Second frame rest ih last h = other (on frame) h
    where
      other : (b : Bool) → is_unbroken last true (cond b (fated Second frame ∷ those_on rest) (those_on rest)) ≡ true → HeadLost last (seen_as (kept_first rest))
      other true h = ih last h
      other false h = ih last h
  head_of FirstLeftOut frame rest ih last h = other (on frame) h
    where
      other : (b : Bool) → is_unbroken last true (cond b (fated FirstLeftOut frame ∷ those_on rest) (those_on rest)) ≡ true → HeadLost last (seen_as (kept_first rest))
      other true h = ih last h
      other false h = ih last h
  head_of SecondLeftOut frame rest ih last h = other (on frame) h
    where
      other : (b : Bool) → is_unbroken last true (cond b (fated SecondLeftOut frame ∷ those_on rest) (those_on rest)) ≡ true → HeadLost last (seen_as (kept_first rest))
      other true h = ih last h
      other false h = ih last h

  head : (items : List Fated) → HeadIs items
  head [] last h = tt
  head (item ∷ rest) last h = head_of item.fate item.frame rest (head rest) last h

  abbrev WithinIs : List Fated → Type 0
  WithinIs rest = (last : Option ℕ) (between : Bool) → is_unbroken last between (those_on rest) ≡ true → AreWithin last (seen_as (kept_first rest)) (seen_as (standing rest))

  within_of : (fate : Fate) (frame : List ℕ) (rest : List Fated) → WithinIs rest → WithinIs (fated fate frame ∷ rest)
  within_of Both frame rest ih last between h = kept (on frame) h
    where
      kept : (b : Bool) → is_unbroken last between (cond b (fated Both frame ∷ those_on rest) (those_on rest)) ≡ true
          → AreWithin last (cond b (view_of format frame ∷ seen_as (kept_first rest)) (seen_as (kept_first rest)))
          (cond b (view_of format frame ∷ seen_as (standing rest)) (seen_as (standing rest)))
      kept true h =
          inl (refl, ih (Some (count_of frame)) false (and_parts (not (between && follows_last last (count_of frame))) (is_unbroken (Some (count_of frame)) false (those_on rest)) h).1)
      kept false h = ih last between h
  within_of First frame rest ih last between h = kept (on frame) h
    where
      kept : (b : Bool) → is_unbroken last between (cond b (fated First frame ∷ those_on rest) (those_on rest)) ≡ true
          → AreWithin last (cond b (view_of format frame ∷ seen_as (kept_first rest)) (seen_as (kept_first rest)))
          (cond b (view_of format frame ∷ seen_as (standing rest)) (seen_as (standing rest)))
      kept true h =
          inl (refl, ih (Some (count_of frame)) false (and_parts (not (between && follows_last last (count_of frame))) (is_unbroken (Some (count_of frame)) false (those_on rest)) h).1)
      kept false h = ih last between h
  within_of Second frame rest ih last between h = other (on frame) h
    where
      other : (b : Bool) → is_unbroken last between (cond b (fated Second frame ∷ those_on rest) (those_on rest)) ≡ true
          → AreWithin last (seen_as (kept_first rest)) (cond b (view_of format frame ∷ seen_as (standing rest)) (seen_as (standing rest)))
      other true h = past last (seen_as (kept_first rest)) (seen_as (standing rest)) (view_of format frame) (head rest last h) (ih last true h)
      other false h = ih last between h
  within_of FirstLeftOut frame rest ih last between h = other (on frame) h
    where
      other : (b : Bool) → is_unbroken last between (cond b (fated FirstLeftOut frame ∷ those_on rest) (those_on rest)) ≡ true
          → AreWithin last (seen_as (kept_first rest)) (seen_as (standing rest))
      other true h = ih last between h
      other false h = ih last between h
  within_of SecondLeftOut frame rest ih last between h = other (on frame) h
    where
      other : (b : Bool) → is_unbroken last between (cond b (fated SecondLeftOut frame ∷ those_on rest) (those_on rest)) ≡ true
          → AreWithin last (seen_as (kept_first rest)) (seen_as (standing rest))
      other true h = ih last between h
      other false h = ih last between h

  pub within : (items : List Fated) → WithinIs items
  within [] last between h = tt
  within (item ∷ rest) last between h = within_of item.fate item.frame rest (within rest) last between h

-- ---- the frames of a channel, as they are recorded

abbrev pub is_on : TmFormat → ℕ → ℕ → List ℕ → Bool
is_on format spacecraft vc frame = option_eq nat_eq (vc_of format spacecraft frame) (Some vc)

abbrev pub frames_in : List Fated → List (List ℕ)
frames_in items = map (λ (item : Fated). item.frame) items

pub viewed : (format : TmFormat) (spacecraft vc : ℕ) (items : List Fated)
    → views_on vc (views_of format spacecraft (frames_in items)) ≡ seen_as format (is_on format spacecraft vc) items
viewed format spacecraft vc [] = refl
viewed format spacecraft vc (item ∷ items) =
    cases (skip_reason format spacecraft item.frame) (viewed format spacecraft vc items)
  where
    cases : (reason : Option TmSkip) → views_on vc (views_of format spacecraft (frames_in items)) ≡ seen_as format (is_on format spacecraft vc) items
        → views_on vc (cons_option (result_ok (read_as reason (view_of format item.frame))) (views_of format spacecraft (frames_in items)))
        ≡ cond (option_eq nat_eq (vc_in (read_as reason (view_of format item.frame))) (Some vc))
        (view_of format item.frame ∷ seen_as format (is_on format spacecraft vc) items) (seen_as format (is_on format spacecraft vc) items)
    cases None same = ap (λ l. cond (nat_eq (view_of format item.frame).vc vc) (view_of format item.frame ∷ l) l) same
    cases (Some reason) same = same

-- ---- whole frames

abbrev pub AreLong : ℕ → List Fated → Type 0
AreLong len items = AllByRecursion (λ (item : Fated). length item.frame ≡ len) items

pub taken_long : (len : ℕ) (fates : List Fate) (firsts seconds : List (List ℕ)) → AreWhole len firsts → AreWhole len seconds → AreLong len (taken fates firsts seconds)
taken_long len [] firsts seconds a b = tt
taken_long len (Both ∷ fates) [] seconds a b = tt
taken_long len (Both ∷ fates) (frame ∷ firsts) [] a b = tt
taken_long len (Both ∷ fates) (frame ∷ firsts) (other ∷ seconds) a b = (a.0, taken_long len fates firsts seconds a.1 b.1)
taken_long len (First ∷ fates) [] seconds a b = tt
taken_long len (First ∷ fates) (frame ∷ firsts) seconds a b = (a.0, taken_long len fates firsts seconds a.1 b)
taken_long len (FirstLeftOut ∷ fates) [] seconds a b = tt
taken_long len (FirstLeftOut ∷ fates) (frame ∷ firsts) seconds a b = (a.0, taken_long len fates firsts seconds a.1 b)
taken_long len (Second ∷ fates) firsts [] a b = tt
taken_long len (Second ∷ fates) firsts (frame ∷ seconds) a b = (b.0, taken_long len fates firsts seconds a b.1)
taken_long len (SecondLeftOut ∷ fates) firsts [] a b = tt
taken_long len (SecondLeftOut ∷ fates) firsts (frame ∷ seconds) a b = (b.0, taken_long len fates firsts seconds a b.1)

pub long_filter : (len : ℕ) (test : Fated → Bool) (items : List Fated) → AreLong len items → AreWhole len (frames_in (filter test items))
long_filter len test [] long = tt
long_filter len test (item ∷ items) long = cases (test item) (long_filter len test items long.1)
  where
    cases : (b : Bool) → AreWhole len (frames_in (filter test items)) → AreWhole len (frames_in (cond b (item ∷ filter test items) (filter test items)))
    cases true rest = (long.0, rest)
    cases false rest = rest

pub long_exchanged : (len : ℕ) (items : List Fated) → AreLong len items → AreLong len (exchanged items)
long_exchanged len [] long = tt
long_exchanged len (item ∷ items) long = (long.0, long_exchanged len items long.1)

-- the frames of whole frames end to end
frames_again : (len : ℕ) (items : List Fated) → 0 < len → AreWhole len (frames_in items) → tm_frames_of len (octets_of items) ≡ frames_in items
frames_again len items positive whole =
    ap (tm_frames_of len) (sym (append-nil (octets_of items)))
    ∙ frames_of-concat len (frames_in items) [] positive whole
    ∙ ap (λ l. frames_in items ++ l) (frames_of-short len [] positive)
    ∙ append-nil (frames_in items)

pub recorded_as : (format : TmFormat) (spacecraft vc : ℕ) (items : List Fated) → 0 < format.len → AreWhole format.len (frames_in items)
    → recorded_channel format spacecraft vc (octets_of items) ≡ seen_as format (is_on format spacecraft vc) items
recorded_as format spacecraft vc items positive whole =
    ap (λ frames. views_on vc (views_of format spacecraft frames)) (frames_again format.len items positive whole) ∙ viewed format spacecraft vc items

-- no packet of the first recording is lost, once what is left out is taken away
pub first_delivered : (format : TmFormat) (spacecraft vc : ℕ) (items : List Fated) → 0 < format.len → AreLong format.len items → vc < 8
    → is_unbroken None false (on_channel format spacecraft vc items) ≡ true
    → IsSublist (recorded_packets format spacecraft vc (octets_of (kept_first items))) (recorded_packets format spacecraft vc (octets_of (standing items)))
first_delivered format spacecraft vc items positive long below unbroken =
    let kept = recorded_as format spacecraft vc (kept_first items) positive (long_filter format.len (λ item. stands item.fate && of_first item.fate) items long) in
    let all = recorded_as format spacecraft vc (standing items) positive (long_filter format.len (λ item. stands item.fate) items long) in
    recorded_are_delivered format spacecraft vc (octets_of (kept_first items)) (octets_of (standing items))
    (record {
      channel = below;
      within =
          subst (λ l. AreWithin None l (recorded_channel format spacecraft vc (octets_of (standing items)))) (sym kept)
          (subst (AreWithin None (seen_as format (is_on format spacecraft vc) (kept_first items))) (sym all)
          (within format (is_on format spacecraft vc) items None false unbroken));
    })

-- ---- the second recording

exchanged_octets : (items : List Fated) → octets_of (standing (exchanged items)) ≡ octets_of (standing items)
exchanged_octets [] = refl
exchanged_octets (item ∷ items) = by_fate item.fate (exchanged_octets items)
  where
    by_fate : (fate : Fate) → octets_of (standing (exchanged items)) ≡ octets_of (standing items)
        → octets_of (standing (exchanged (fated fate item.frame ∷ items))) ≡ octets_of (standing (fated fate item.frame ∷ items))
    by_fate Both same = ap (λ l. item.frame ++ l) same
    by_fate First same = ap (λ l. item.frame ++ l) same
    by_fate Second same = ap (λ l. item.frame ++ l) same
    by_fate FirstLeftOut same = same
    by_fate SecondLeftOut same = same

pub second_delivered : (format : TmFormat) (spacecraft vc : ℕ) (items : List Fated) → 0 < format.len → AreLong format.len items → vc < 8
    → is_unbroken None false (exchanged (on_channel format spacecraft vc items)) ≡ true
    → IsSublist (recorded_packets format spacecraft vc (octets_of (kept_first (exchanged items)))) (recorded_packets format spacecraft vc (octets_of (standing items)))
second_delivered format spacecraft vc items positive long below unbroken =
    subst (λ octets. IsSublist (recorded_packets format spacecraft vc (octets_of (kept_first (exchanged items)))) (recorded_packets format spacecraft vc octets))
    (exchanged_octets items)
    (first_delivered format spacecraft vc (exchanged items) positive (long_exchanged format.len items long) below
    (ap (is_unbroken None false) (channel_exchanged format spacecraft vc items) ∙ unbroken))

-- ---- each channel of a merge

each_channel : (test : ℕ → Bool) (n a vc : ℕ) → list_all test (range_with_len a n) ≡ true → a ≤ vc → vc < a + n → test vc ≡ true
each_channel test zero a vc holds least most = absurd (omega arith)
each_channel test (suc n) a vc holds least most =
    let parts = and_parts (test a) (list_all test (range_with_len (a + 1) n)) holds in
    elim (cases_lt a vc) [
      | inl above ↦ each_channel test n (a + 1) vc parts.1 (omega arith) (omega arith)
      | inr here ↦ ap test (let e : vc ≡ a = omega arith in e) ∙ parts.0
    ]

pub packets_stay : (format : TmFormat) (spacecraft : ℕ) (one other : List ℕ) (fates : List Fate) → 0 < format.len
    → is_merge format spacecraft one other fates ≡ true → (vc : ℕ) → vc < 8 → LosesNoPacket format spacecraft vc one other fates
packets_stay format spacecraft one other fates positive merges vc below =
    let items = taken_of format.len one other fates in
    let long = taken_long format.len fates (tm_frames_of format.len one) (tm_frames_of format.len other)
    (is_delimited format.len one positive).whole (is_delimited format.len other positive).whole in
    let test = λ (v : ℕ). is_merge_on format (on_channel format spacecraft v items) in
    let all = and_parts (fits_both format.len one other fates) (are_read format spacecraft items && list_all test virtual_channels) merges in
    let channels = and_parts (are_read format spacecraft items) (list_all test virtual_channels) all.1 in
    let channel = on_channel format spacecraft vc items in
    let here = and_parts (keeps_first (few format) channel) (keeps_first (few format) (exchanged channel) && is_none_twice format channel)
    (each_channel test 8 0 vc channels.1 (omega arith) below) in
    let there = and_parts (keeps_first (few format) (exchanged channel)) (is_none_twice format channel) here.1 in
    record {
      first = first_delivered format spacecraft vc items positive long below (and_parts (is_unbroken None false channel) (has_reasons (few format) channel) here.0).0;
      second =
          second_delivered format spacecraft vc items positive long below
          (and_parts (is_unbroken None false (exchanged channel)) (has_reasons (few format) (exchanged channel)) there.0).0;
    }
