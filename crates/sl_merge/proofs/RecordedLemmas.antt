-- What a recording delivers, frames that are left out and all.
use Rattle.std.proofs.Common.{◌≡◌, ◌<◌, ℕ, Bool, true, false, cond, List, [], ◌∷◌, length, None, inl, inr, refl, sym, ◌∙◌, ap, ap₂, subst, arith}
use Rattle.std.specs.Prelude.{◌&&◌, not, bytes_eq}
use Rattle.std.specs.List.{count_by, filter, list_all}
use Rattle.std.proofs.lemmas.Bool.{and_parts, cases_Bool}
use Rattle.std.proofs.lemmas.Slice.Eq.{bytes_eq-Decides}
use Rattle.sl_packet.specs.Packet.{is_idle_packet}
use Rattle.sl_packet.specs.Packets.{without_idle}
use Rattle.sl_packet.specs.Sublist.{IsSublist}
use Rattle.sl_tmframe.specs.TmDelimited.{tm_frames_of}
use Rattle.sl_tmframe.specs.TmFrame.{TmFormat, view_of}
use Rattle.sl_tmframe.proofs.DelimitedLemmas.{is_delimited}
use Rattle.sl_tmflow.specs.Among.{IsAmong}
use Rattle.sl_tmflow.specs.Delivery.{deliveries_of, packets_delivered}
use Rattle.sl_tmflow.specs.Loss.{recorded_channel, recorded_packets}
use Rattle.sl_tmflow.specs.Recording.{packets_of_channel, recorded_views, virtual_channels}
use Rattle.sl_tmflow.specs.VirtualChannel.{views_of, views_on}
use Rattle.sl_tmflow.proofs.lemmas.Loss.Kept.{recorded_on}
use Rattle.sl_merge.specs.declared.fate.Fate.{Fate}
use Rattle.sl_merge.specs.declared.fate.Fate.TheVariants.{Both, First, FirstLeftOut, Second, SecondLeftOut}
use Rattle.sl_merge.specs.Fates.{Fated, exchanged, fated, fits, fits_both, kept_first, merged_octets, octets_of, of_first, stands, taken, taken_of}
use Rattle.sl_merge.specs.Merge.{DeliversRecorded, are_read, is_left_out, is_merge, is_merge_on, left_out_of, on_channel}
use Rattle.sl_merge.proofs.RepeatLemmas.{AreFilled, firsts_of, none_before, once_more, repeats_are}
use Rattle.sl_merge.proofs.WithinLemmas.{AreLong, frames_in, is_on, long_exchanged, long_filter, packets_stay, recorded_as, seen_as, taken_long, those_on, viewed}

-- ---- the frames of a recording are those that the fates take of it

firsts_are : (fates : List Fate) (firsts seconds : List (List ℕ)) → fits fates firsts seconds ≡ true → frames_in (firsts_of (taken fates firsts seconds)) ≡ firsts
firsts_are [] [] [] fit = refl
firsts_are [] [] (other ∷ seconds) fit = absurd (cc)
firsts_are [] (frame ∷ firsts) seconds fit = absurd (cc)
firsts_are (Both ∷ fates) [] seconds fit = absurd (cc)
firsts_are (Both ∷ fates) (frame ∷ firsts) [] fit = absurd (cc)
firsts_are (Both ∷ fates) (frame ∷ firsts) (other ∷ seconds) fit =
    ap (λ l. frame ∷ l) (firsts_are fates firsts seconds (and_parts (bytes_eq frame other) (fits fates firsts seconds) fit).1)
firsts_are (First ∷ fates) [] seconds fit = absurd (cc)
firsts_are (First ∷ fates) (frame ∷ firsts) seconds fit = ap (λ l. frame ∷ l) (firsts_are fates firsts seconds fit)
firsts_are (FirstLeftOut ∷ fates) [] seconds fit = absurd (cc)
firsts_are (FirstLeftOut ∷ fates) (frame ∷ firsts) seconds fit = ap (λ l. frame ∷ l) (firsts_are fates firsts seconds fit)
firsts_are (Second ∷ fates) firsts [] fit = absurd (cc)
firsts_are (Second ∷ fates) firsts (other ∷ seconds) fit = firsts_are fates firsts seconds fit
firsts_are (SecondLeftOut ∷ fates) firsts [] fit = absurd (cc)
firsts_are (SecondLeftOut ∷ fates) firsts (other ∷ seconds) fit = firsts_are fates firsts seconds fit

seconds_are : (fates : List Fate) (firsts seconds : List (List ℕ)) → fits fates firsts seconds ≡ true
    → frames_in (firsts_of (exchanged (taken fates firsts seconds))) ≡ seconds
seconds_are [] [] [] fit = refl
seconds_are [] [] (other ∷ seconds) fit = absurd (cc)
seconds_are [] (frame ∷ firsts) seconds fit = absurd (cc)
seconds_are (Both ∷ fates) [] seconds fit = absurd (cc)
seconds_are (Both ∷ fates) (frame ∷ firsts) [] fit = absurd (cc)
seconds_are (Both ∷ fates) (frame ∷ firsts) (other ∷ seconds) fit =
    let parts = and_parts (bytes_eq frame other) (fits fates firsts seconds) fit in
    ap₂ (λ f l. f ∷ l) ((bytes_eq-Decides frame other).0 parts.0) (seconds_are fates firsts seconds parts.1)
seconds_are (First ∷ fates) [] seconds fit = absurd (cc)
seconds_are (First ∷ fates) (frame ∷ firsts) seconds fit = seconds_are fates firsts seconds fit
seconds_are (FirstLeftOut ∷ fates) [] seconds fit = absurd (cc)
seconds_are (FirstLeftOut ∷ fates) (frame ∷ firsts) seconds fit = seconds_are fates firsts seconds fit
seconds_are (Second ∷ fates) firsts [] fit = absurd (cc)
seconds_are (Second ∷ fates) firsts (other ∷ seconds) fit = ap (λ l. other ∷ l) (seconds_are fates firsts seconds fit)
seconds_are (SecondLeftOut ∷ fates) firsts [] fit = absurd (cc)
seconds_are (SecondLeftOut ∷ fates) firsts (other ∷ seconds) fit = ap (λ l. other ∷ l) (seconds_are fates firsts seconds fit)

filled_long : (format : TmFormat) (on : List ℕ → Bool) (items : List Fated) → 0 < format.len → AreLong format.len items → AreFilled format on items
filled_long format on [] positive long = tt
filled_long format on (item ∷ items) positive long = (let e : 0 < length item.frame = omega (arith, long.0) in e, filled_long format on items positive long.1)

-- ---- packets

module _ {X : Type 0} where
  among_filter : (test : X → Bool) (x : X) (xs : List X) → IsAmong x (filter test xs) → IsAmong x xs × (test x ≡ true)
  among_filter test x [] among = absurd among
  among_filter test x (y ∷ xs) among = elim (cases_Bool (test y)) [
    | inl holds ↦ elim (subst (λ b. IsAmong x (cond b (y ∷ filter test xs) (filter test xs))) holds among) [
      | inl here ↦ (inl here, ap test here ∙ holds)
      | inr later ↦ let rest = among_filter test x xs later in (inr rest.0, rest.1)
    ]
    | inr fails ↦ let rest = among_filter test x xs (subst (λ b. IsAmong x (cond b (y ∷ filter test xs) (filter test xs))) fails among) in (inr rest.0, rest.1)
  ]

  filter_among : (test : X → Bool) (x : X) (xs : List X) → IsAmong x xs → test x ≡ true → IsAmong x (filter test xs)
  filter_among test x [] among holds = absurd among
  filter_among test x (y ∷ xs) (inl here) holds =
      subst (λ b. IsAmong x (cond b (y ∷ filter test xs) (filter test xs))) (sym (ap test (sym here) ∙ holds)) (inl here)
  filter_among test x (y ∷ xs) (inr later) holds = cases (test y) (filter_among test x xs later holds)
    where
      cases : (b : Bool) → IsAmong x (filter test xs) → IsAmong x (cond b (y ∷ filter test xs) (filter test xs))
      cases true rest = inr rest
      cases false rest = rest

  within_among : (x : X) (xs ys : List X) → IsSublist xs ys → IsAmong x xs → IsAmong x ys
  within_among x [] ys within among = absurd among
  within_among x (y ∷ xs) [] within among = absurd within
  within_among x (y ∷ xs) (z ∷ ys) (inl here) (inl first) = inl (first ∙ here.0)
  within_among x (y ∷ xs) (z ∷ ys) (inl here) (inr later) = inr (within_among x xs ys here.1 later)
  within_among x (y ∷ xs) (z ∷ ys) (inr there) among = inr (within_among x (y ∷ xs) ys there among)

-- where nothing but repeats is left out of a recording on a channel, what stands of it delivers each of its packets
recorded_kept : (format : TmFormat) (spacecraft vc : ℕ) (recording : List ℕ) (items : List Fated) → 0 < format.len → AreLong format.len items → vc < 8
    → frames_in (firsts_of items) ≡ tm_frames_of format.len recording → left_out_of (on_channel format spacecraft vc items) ≡ 0
    → (packet : List ℕ) → IsAmong packet (recorded_packets format spacecraft vc recording)
    → IsAmong packet (recorded_packets format spacecraft vc (octets_of (kept_first items)))
recorded_kept format spacecraft vc recording items positive long below frames none packet among =
    let on = is_on format spacecraft vc in
    let test = λ (p : List ℕ). not (is_idle_packet p) in
    let all = packets_of_channel (recorded_views format spacecraft recording) vc in
    let kept = packets_of_channel (recorded_views format spacecraft (octets_of (kept_first items))) vc in
    let shown : recorded_channel format spacecraft vc recording ≡ seen_as format on (firsts_of items) =
    ap (λ l. views_on vc (views_of format spacecraft l)) (sym frames) ∙ viewed format spacecraft vc (firsts_of items) in
    let kept_shown : recorded_channel format spacecraft vc (octets_of (kept_first items)) ≡ seen_as format on (kept_first items) =
    recorded_as format spacecraft vc (kept_first items) positive (long_filter format.len (λ item. stands item.fate && of_first item.fate) items long) in
    let parts = among_filter test packet all (subst (IsAmong packet) (recorded_on format spacecraft vc recording below) among) in
    let thin = once_more packet (seen_as format on (firsts_of items)) (seen_as format on (kept_first items))
    (repeats_are format on items (filled_long format on items positive long) [] None (inl refl) none)
    (subst (λ l. IsAmong packet (packets_delivered (deliveries_of l))) shown parts.0) in
    subst (IsAmong packet) (sym (recorded_on format spacecraft vc (octets_of (kept_first items)) below))
    (filter_among test packet kept (subst (λ l. IsAmong packet (packets_delivered (deliveries_of l))) (sym kept_shown) thin) parts.1)

-- ---- where nothing is left out on the channel

module _ (format : TmFormat) (on : List ℕ → Bool) where
  abbrev AllStand : List Fated → Type 0
  AllStand rest = count_by is_left_out (those_on format on rest) ≡ 0 → seen_as format on (firsts_of rest) ≡ seen_as format on (kept_first rest)

  all_of_fate : (fate : Fate) (frame : List ℕ) (rest : List Fated) → AllStand rest → AllStand (fated fate frame ∷ rest)
  all_of_fate Both frame rest ih none = kept (on frame) none
    where
      kept : (b : Bool) → count_by is_left_out (cond b (fated Both frame ∷ those_on format on rest) (those_on format on rest)) ≡ 0
          → cond b (view_of format frame ∷ seen_as format on (firsts_of rest)) (seen_as format on (firsts_of rest))
          ≡ cond b (view_of format frame ∷ seen_as format on (kept_first rest)) (seen_as format on (kept_first rest))
      kept true none = ap (λ l. view_of format frame ∷ l) (ih (none_before format on (fated Both frame) (those_on format on rest) none).1)
      kept false none = ih none
  all_of_fate First frame rest ih none = kept (on frame) none
    where
      kept : (b : Bool) → count_by is_left_out (cond b (fated First frame ∷ those_on format on rest) (those_on format on rest)) ≡ 0
          → cond b (view_of format frame ∷ seen_as format on (firsts_of rest)) (seen_as format on (firsts_of rest))
          ≡ cond b (view_of format frame ∷ seen_as format on (kept_first rest)) (seen_as format on (kept_first rest))
      kept true none = ap (λ l. view_of format frame ∷ l) (ih (none_before format on (fated First frame) (those_on format on rest) none).1)
      kept false none = ih none
  all_of_fate Second frame rest ih none = other (on frame) none
    where
      other : (b : Bool) → count_by is_left_out (cond b (fated Second frame ∷ those_on format on rest) (those_on format on rest)) ≡ 0
          → seen_as format on (firsts_of rest) ≡ seen_as format on (kept_first rest)
      other true none = ih (none_before format on (fated Second frame) (those_on format on rest) none).1
      other false none = ih none
  all_of_fate SecondLeftOut frame rest ih none = other (on frame) none
    where
      other : (b : Bool) → count_by is_left_out (cond b (fated SecondLeftOut frame ∷ those_on format on rest) (those_on format on rest)) ≡ 0
          → seen_as format on (firsts_of rest) ≡ seen_as format on (kept_first rest)
      other true none = ih (none_before format on (fated SecondLeftOut frame) (those_on format on rest) none).1
      other false none = ih none
  all_of_fate FirstLeftOut frame rest ih none = out (on frame) none
    where
      out : (b : Bool) → count_by is_left_out (cond b (fated FirstLeftOut frame ∷ those_on format on rest) (those_on format on rest)) ≡ 0
          → cond b (view_of format frame ∷ seen_as format on (firsts_of rest)) (seen_as format on (firsts_of rest)) ≡ seen_as format on (kept_first rest)
      out true none =
          absurd (let e : (true ≡ false) = (none_before format on (fated FirstLeftOut frame) (those_on format on rest) none).0 in cc)
      out false none = ih none

  all_stand : (items : List Fated) → AllStand items
  all_stand [] none = refl
  all_stand (item ∷ rest) none = all_of_fate item.fate item.frame rest (all_stand rest) none

-- a recording of which nothing is left out on a channel delivers there what stands of it
recorded_whole : (format : TmFormat) (spacecraft vc : ℕ) (recording : List ℕ) (items : List Fated) → 0 < format.len → AreLong format.len items → vc < 8
    → frames_in (firsts_of items) ≡ tm_frames_of format.len recording → count_by is_left_out (on_channel format spacecraft vc items) ≡ 0
    → recorded_packets format spacecraft vc recording ≡ recorded_packets format spacecraft vc (octets_of (kept_first items))
recorded_whole format spacecraft vc recording items positive long below frames none =
    let on = is_on format spacecraft vc in
    let shown : recorded_channel format spacecraft vc recording ≡ recorded_channel format spacecraft vc (octets_of (kept_first items)) =
    ap (λ l. views_on vc (views_of format spacecraft l)) (sym frames) ∙ viewed format spacecraft vc (firsts_of items) ∙ all_stand format on items none
    ∙ sym (recorded_as format spacecraft vc (kept_first items) positive (long_filter format.len (λ item. stands item.fate && of_first item.fate) items long)) in
    recorded_on format spacecraft vc recording below
    ∙ ap (λ l. without_idle (packets_delivered (deliveries_of l))) shown
    ∙ sym (recorded_on format spacecraft vc (octets_of (kept_first items)) below)

pub recorded_stay : (format : TmFormat) (spacecraft : ℕ) (one other : List ℕ) (fates : List Fate) → 0 < format.len
    → is_merge format spacecraft one other fates ≡ true → (vc : ℕ) → vc < 8 → DeliversRecorded format spacecraft vc one other fates
recorded_stay format spacecraft one other fates positive merges vc below =
    let items = taken_of format.len one other fates in
    let firsts = tm_frames_of format.len one in
    let seconds = tm_frames_of format.len other in
    let long = taken_long format.len fates firsts seconds (is_delimited format.len one positive).whole (is_delimited format.len other positive).whole in
    let fit = fit_of merges in
    let stay = packets_stay format spacecraft one other fates positive merges vc below in
    record {
      first = λ none packet among.
          within_among packet (recorded_packets format spacecraft vc (octets_of (kept_first items)))
          (recorded_packets format spacecraft vc (merged_octets format.len one other fates)) stay.first
          (recorded_kept format spacecraft vc one items positive long below (firsts_are fates firsts seconds fit) none packet among);
      all_of_first = λ none.
          subst (λ l. IsSublist l (recorded_packets format spacecraft vc (merged_octets format.len one other fates)))
          (sym (recorded_whole format spacecraft vc one items positive long below (firsts_are fates firsts seconds fit) none)) stay.first;
      second = λ none packet among.
          within_among packet (recorded_packets format spacecraft vc (octets_of (kept_first (exchanged items))))
          (recorded_packets format spacecraft vc (merged_octets format.len one other fates)) stay.second
          (recorded_kept format spacecraft vc other (exchanged items) positive (long_exchanged format.len items long) below (seconds_are fates firsts seconds fit)
          none packet among);
      all_of_second = λ none.
          subst (λ l. IsSublist l (recorded_packets format spacecraft vc (merged_octets format.len one other fates)))
          (sym (recorded_whole format spacecraft vc other (exchanged items) positive (long_exchanged format.len items long) below
          (seconds_are fates firsts seconds fit) none)) stay.second;
    }
  where
    fit_of : is_merge format spacecraft one other fates ≡ true → fits_both format.len one other fates ≡ true
    fit_of merges =
        (and_parts (fits_both format.len one other fates)
        (are_read format spacecraft (taken_of format.len one other fates)
        && list_all (λ vc. is_merge_on format (on_channel format spacecraft vc (taken_of format.len one other fates))) virtual_channels) merges).0
