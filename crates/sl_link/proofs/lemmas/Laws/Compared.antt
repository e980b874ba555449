-- What is counted and written of compared recordings, by the lines of `check` and the packets without a counterpart.
use Rattle.std.proofs.Common.{◌≡◌, ◌↔◌, ℕ, ◌+◌, ◌<◌, ◌≤◌, Bool, true, false, List, [], ◌∷◌, ◌++◌, length, map, ap, arith, refl, sym, ◌∙◌, append_assoc, length-append, inl, inr}
use Rattle.std.specs.Prelude.{flat_map}
use Rattle.std.specs.List.{concat, range_with_len}
use Rattle.std.proofs.Math.ListN.{get_or-eq_default}
use Rattle.std.proofs.lemmas.Bool.{cases_lt}
use Rattle.std.proofs.lemmas.List.{length-map, nil_from_length}
use Rattle.std.proofs.lemmas.List.Folds.{concat-append}
use Rattle.std.proofs.lemmas.List.FromFn.{length-range_with_len}
use Rattle.sl_pair.specs.OnlyIn.{only_in}
use Rattle.sl_pair.specs.Pairing.{ByChannel, NothingIsLeft}
use Rattle.sl_pair.specs.Placed.{Placed, left_in}
use Rattle.sl_pair.specs.Runs.{by_apid, put_by_apid, runs_of, with_first}
use Rattle.sl_pair.specs.declared.channel.Station.{Station}
use Rattle.sl_pair.specs.declared.channel.Station.TheVariants.{First, Second}
use Rattle.sl_pair.proofs.FormsLemmas.{forms_are_one}
use Rattle.sl_engine.specs.Compare.{by_channel}
use Rattle.sl_engine.specs.Compare.Summarised.{TcNumbersAreOfCheck, TmNumbersAreOfCheck}
use Rattle.sl_engine.specs.Compare.Text.{TcDifferencesHaveLines, TmDifferencesHaveLines, channel_text, difference_text, left_text, run_line}
use Rattle.sl_engine.specs.Kind.Tc.{tc_kind, tc_packets}
use Rattle.sl_engine.specs.Kind.Tm.{tm_kind, tm_packets}
use Rattle.sl_engine.specs.Verbs.Check.Lines.{end_anomalies, totals_line}
use Rattle.sl_engine.specs.Verbs.Listing.{Frames, lines_from}
use Rattle.sl_tcframe.specs.TcDelimited.{tc_frames_of}
use Rattle.sl_tmframe.specs.TmDelimited.{tm_frames_of}
use Rattle.sl_engine.specs.Link.Managed.{Parameters, tc_format}
use Rattle.sl_engine.specs.Tally.{remainder_after}
use Rattle.sl_engine.specs.Verbs.Check.Tc.{check_tc_counts, tc_anomalies_after, tc_open}
use Rattle.sl_engine.specs.Verbs.Check.Tm.{check_tm_counts, tm_anomalies_after, tm_open}
use Rattle.sl_engine.proofs.lemmas.Kind.Tc.{tc_adds_by_channel}
use Rattle.sl_engine.specs.Verbs.Packets.Tc.{tc_channel_name}
use Rattle.sl_engine.specs.Verbs.Packets.Tm.{tm_channel_name}
use Rattle.sl_engine.proofs.lemmas.Kind.Channels.{flat_count, no_items, none_of}

-- ---- the lines of `check`

-- texts of lines, one after another
lines_joined : (line : Frames → List ℕ → List (List ℕ)) (before frames : Frames) → lines_from (λ b f. concat (line b f)) before frames ≡ concat (lines_from line before frames)
lines_joined line before [] = refl
lines_joined line before (frame ∷ frames) =
    ap (λ l. concat (line before frame) ++ l) (lines_joined line (before ++ frame ∷ []) frames) ∙ sym (concat-append (line before frame) (lines_from line (before ++ frame ∷ []) frames))

text_joined : (line : Frames → List ℕ → List (List ℕ)) (frames : Frames) (last : List (List ℕ)) (totals : List ℕ)
    → lines_from (λ b f. concat (line b f)) [] frames ++ (concat last ++ totals) ≡ concat (lines_from line [] frames ++ last) ++ totals
text_joined line frames last totals =
    rw (lines_joined line [] frames, concat-append (lines_from line [] frames) last) (sym (append_assoc (concat (lines_from line [] frames)) (concat last) totals))

pub tm_numbers : TmNumbersAreOfCheck
tm_numbers p recording =
    let frames = tm_frames_of p.tm_length recording in
    let last = end_anomalies (tm_kind p) (tm_open p) frames (remainder_after frames recording) in
    record {
      text_is = text_joined (tm_anomalies_after p) frames last (totals_line (check_tm_counts p recording));
      many = sym (length-append (lines_from (tm_anomalies_after p) [] frames) last);
      totals_are = refl;
      words = refl;
    }

pub tc_numbers : TcNumbersAreOfCheck
tc_numbers p recording =
    let frames = tc_frames_of (tc_format p) recording in
    let last = end_anomalies (tc_kind p) (tc_open p) frames (remainder_after frames recording) in
    record {
      text_is = text_joined (tc_anomalies_after p) frames last (totals_line (check_tc_counts p recording));
      many = sym (length-append (lines_from (tc_anomalies_after p) [] frames) last);
      totals_are = refl;
      words = refl;
    }

-- ---- the lines of what is left

put_some : (one : Placed) (left : List Placed) → 0 < length (put_by_apid one left)
put_some one [] = omega arith
put_some one (next ∷ later) = grind arith

apid_some : (left : List Placed) → 0 < length left → 0 < length (by_apid left)
apid_some [] some = some
apid_some (one ∷ later) some = put_some one (by_apid later)

runs_some : (one : Placed) (runs : List (List Placed)) (station : Station) (name : List ℕ) → 0 < length (flat_map (run_line station name) (with_first one runs))
runs_some one [] station name = grind (arith, length-append)
runs_some one ([] ∷ runs) station name = grind (arith, length-append)
runs_some one ((next ∷ later) ∷ runs) station name = grind (arith, length-append)

lines_some : (each : Bool) (station : Station) (name : List ℕ) (left : List Placed) → 0 < length left → 0 < length (left_text each station name left)
lines_some each station name [] some = absurd (omega (arith, some))
lines_some true station name (one ∷ later) some = grind (arith, length-append)
lines_some false station name (one ∷ later) some = runs_some one (runs_of later) station name

-- nothing is left of a channel without lines
left_none : (each : Bool) (station : Station) (name : List ℕ) (left : List Placed) → length (left_text each station name (by_apid left)) ≡ 0 → left ≡ []
left_none each station name [] none = refl
left_none each station name (one ∷ later) none =
    absurd (omega (arith, none, lines_some each station name (by_apid (one ∷ later)) (apid_some (one ∷ later) (omega arith))))

only_none : (own others : List (List ℕ)) → left_in own others ≡ [] → only_in own others ≡ []
only_none own others none = sym (forms_are_one own others).packets_are ∙ ap (map (λ (one : Placed). one.packet)) none

none_left : (own others : List (List ℕ)) → only_in own others ≡ [] → left_in own others ≡ []
none_left own others none =
    let many : length (map (λ (one : Placed). one.packet) (left_in own others)) ≡ length (left_in own others) = simp length-map refl in
    nil_from_length (left_in own others) (sym many ∙ ap length ((forms_are_one own others).packets_are ∙ none))

module _ (each : Bool) (name : ℕ → List ℕ) (firsts seconds : ByChannel) where
  text : ℕ → List ℕ
  text = channel_text each name firsts seconds

  channel_none : (channel : ℕ) → text channel ≡ [] → (only_in (firsts channel) (seconds channel) ≡ []) × (only_in (seconds channel) (firsts channel) ≡ [])
  unfolding text
  channel_none channel none =
      let mine = left_text each First (name channel) (by_apid (left_in (firsts channel) (seconds channel))) in
      let its = left_text each Second (name channel) (by_apid (left_in (seconds channel) (firsts channel))) in
      let both : length mine + length its ≡ 0 = sym (length-append mine its) ∙ ap length none in (
        only_none (firsts channel) (seconds channel) (left_none each First (name channel) _ (omega (arith, both))),
        only_none (seconds channel) (firsts channel) (left_none each Second (name channel) _ (omega (arith, both))),
      )

  none_channel : (channel : ℕ) → (only_in (firsts channel) (seconds channel) ≡ []) × (only_in (seconds channel) (firsts channel) ≡ []) → text channel ≡ []
  unfolding text
  none_channel channel none = cases each
    where
      cases : (e : Bool) → channel_text e name firsts seconds channel ≡ []
      cases true = rw (none_left (firsts channel) (seconds channel) none.0, none_left (seconds channel) (firsts channel) none.1) refl
      cases false = rw (none_left (firsts channel) (seconds channel) none.0, none_left (seconds channel) (firsts channel) none.1) refl

  -- the channels before `n`, past which neither recording has packets
  differences : (n : ℕ) → ((channel : ℕ) → n ≤ channel → (firsts channel ≡ []) × (seconds channel ≡ []))
      → (difference_text each name firsts seconds n ≡ []) ↔ NothingIsLeft firsts seconds
  unfolding text
  differences n past = (
    λ none channel. elim (cases_lt channel n) [
      | inl below ↦ channel_none channel (none_of n (range_with_len 0 n) refl (channel_text each name firsts seconds)
          (sym (flat_count (channel_text each name firsts seconds) (range_with_len 0 n)) ∙ ap length none) channel below)
      | inr beyond ↦ rw ((past channel beyond).0, (past channel beyond).1) (refl, refl)
    ],
    λ nothing. nil_from_length (difference_text each name firsts seconds n)
        (flat_count (channel_text each name firsts seconds) (range_with_len 0 n) ∙ no_items (channel_text each name firsts seconds) (range_with_len 0 n) (λ channel. none_channel channel (nothing channel))),
  )

-- past the last channel no packets are listed
past_none : (lists : List (List (List ℕ))) (n channel : ℕ) → length lists ≡ n → n ≤ channel → by_channel lists channel ≡ []
past_none lists n channel long past = get_or-eq_default lists [] (omega (arith, long, past))

tm_long : (p : Parameters) (recording : List ℕ) → length (tm_packets p recording) ≡ 8
tm_long p recording = simp length-map refl

tc_long : (p : Parameters) (recording : List ℕ) → length (tc_packets p recording) ≡ 4096
tc_long p recording =
    let all : length (tc_kind p).channels ≡ 4096 = ap length (tc_adds_by_channel p).all ∙ length-range_with_len 0 4096 in
    simp length-map all

pub tm_differences : TmDifferencesHaveLines
tm_differences each p p' one other =
    differences each tm_channel_name (by_channel (tm_packets p one)) (by_channel (tm_packets p' other)) 8
    (λ channel past. (past_none (tm_packets p one) 8 channel (tm_long p one) past, past_none (tm_packets p' other) 8 channel (tm_long p' other) past))

pub tc_differences : TcDifferencesHaveLines
tc_differences each p p' one other =
    differences each tc_channel_name (by_channel (tc_packets p one)) (by_channel (tc_packets p' other)) 4096
    (λ channel past. (past_none (tc_packets p one) 4096 channel (tc_long p one) past, past_none (tc_packets p' other) 4096 channel (tc_long p' other) past))
