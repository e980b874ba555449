-- Lines of anomalies: of a frame, of what is incomplete at the end of a recording, and all that comes after the last frame.
use Rattle.std.proofs.Common.{◌≡◌, ℕ, ◌≤◌, Bool, List, ◌++◌, length, Option, arith, append_assoc, ◌≢◌, zero, suc, ◌+◌, ◌-◌, ◌<◌, [], ◌∷◌, refl, sym, ◌∙◌, ap, append-nil, length-append}
use Rattle.std.specs.List.{concat, range_with_len}
use Rattle.std.proofs.lemmas.List.Folds.{concat-append}
use Rattle.std.specs.Prelude.{flat_map}
use Rattle.sl_engine.specs.Verbs.Check.Checking.{AddsAnomalies, HasChecked}
use Rattle.sl_engine.specs.Verbs.Check.Lines.{event_anomaly, check_counts_in, end_anomalies, remainder_anomaly}
use Rattle.sl_engine.specs.declared.io.output.Output.{Output}
use Rattle.sl_io.specs.declared.fault.LinkFault.{LinkFault}
use Rattle.sl_engine.specs.Io.Output.{Adds}
use Rattle.sl_engine.specs.Io.Streams.{StopsWriting}
use Rattle.sl_io.specs.declared.counted.Counted.{Counted}
use Rattle.sl_engine.specs.Kind.Delivery.{AddsByChannel, Kind}
use Rattle.sl_engine.specs.Link.Totals.{Counts}
use Rattle.sl_engine.specs.Tally.{counts_with_remainder}
use Rattle.sl_engine.specs.Verbs.Listing.{Frames, lines_from}
use Rattle.sl_engine.proofs.lemmas.Io.Streams.{adds_both, adds_lines, stops_first, stops_last}
use Rattle.sl_engine.proofs.lemmas.Kind.Channels.{flat_count, items_change, no_items}
use Rattle.sl_engine.proofs.lemmas.Verbs.Lister.{lines_from-last}

-- ---- one group after another

-- an event has one line at most
pub one_event : (offset vc : ℕ) (map_id : Option ℕ) (event : List ℕ) (holds : Bool) (octets : Option ℕ) → length (event_anomaly offset vc map_id event holds octets) ≤ 1
one_event offset vc map_id event holds octets = grind arith

-- the groups of a TM frame, and of a TC frame
pub joined_four : {a b c d e : List ℕ} {ws xs ys zs : List (List ℕ)} {k l m n : ℕ}
    → AddsAnomalies a ws b k → AddsAnomalies b xs c l → AddsAnomalies c ys d m → AddsAnomalies d zs e n → e ≡ a ++ concat (ws ++ xs ++ ys ++ zs)
joined_four p q r s = rw (s.text, r.text, q.text, p.text) (simp (append_assoc, concat-append))

pub joined_five : {a b c d e f : List ℕ} {vs ws xs ys zs : List (List ℕ)} {k l m n o : ℕ}
    → AddsAnomalies a vs b k → AddsAnomalies b ws c l → AddsAnomalies c xs d m → AddsAnomalies d ys e n → AddsAnomalies e zs f o
    → f ≡ a ++ concat (vs ++ ws ++ xs ++ ys ++ zs)
joined_five p q r s t = rw (t.text, s.text, r.text, q.text, p.text) (simp (append_assoc, concat-append))

-- ---- what is incomplete, while it is added, by the line of each channel

pub none_in : (line : ℕ → List (List ℕ)) (from n : ℕ) → ((channel : ℕ) → from ≤ channel → channel < from + n → line channel ≡ []) → flat_map line (range_with_len from n) ≡ []
none_in line from zero none = refl
none_in line from (suc n) none =
    rw (none from (omega arith) (omega arith)) (none_in line (from + 1) n (λ channel above below. none channel (omega (arith, above)) (omega (arith, below))))

-- the lines of the channels before one were added, and this is their number
pub record HasAdded {W : Type 0} (contents : W → Option (List ℕ)) (line : ℕ → List (List ℕ)) (k : Kind) (start out : Output W) (channel number : ℕ) : Type 0 where
  pub lines : List (List ℕ)
  pub all : flat_map line k.channels ≡ lines ++ flat_map line (range_with_len channel (k.channel_limit - channel))
  pub added : Adds contents start (concat lines) out
  pub many : number ≡ length lines

module _ {W : Type 0} {contents : W → Option (List ℕ)} {line : ℕ → List (List ℕ)} {k : Kind} {start : Output W} where
  pub added_none : k.channels ≡ range_with_len 0 k.channel_limit → HasAdded contents line k start start 0 0
  added_none all =
      let whole : k.channel_limit ≡ k.channel_limit - 0 = omega arith in
      record { lines = []; all = ap (flat_map line) (all ∙ ap (range_with_len 0) whole); added = adds_lines contents start start [] refl (sym (append-nil start.lines)); many = refl }

  pub added_next : {old new : Output W} {channel number more : ℕ} → HasAdded contents line k start old channel number → channel < k.channel_limit
      → Adds contents old (concat (line channel)) new → more ≡ length (line channel) → HasAdded contents line k start new (channel + 1) (number + more)
  added_next {channel = channel} h within adds is =
      let left : k.channel_limit - channel ≡ suc (k.channel_limit - (channel + 1)) = omega (arith, within) in
      record {
        lines = h.lines ++ line channel;
        all = rw left at h.all ∙ sym (append_assoc h.lines (line channel) (flat_map line (range_with_len (channel + 1) (k.channel_limit - (channel + 1)))));
        added = rw (concat-append h.lines (line channel)) (adds_both h.added adds);
        many = omega (arith, h.many, is, length-append h.lines (line channel));
      }

  -- a fault before the next ones leaves a prefix of them
  pub added_stops : {old : Output W} {new : Counted W} {channel number : ℕ} {fault : LinkFault} → HasAdded contents line k start old channel number
      → StopsWriting contents old.writer.now new old.lines ⊥ fault → StopsWriting contents start.writer.now new (start.lines ++ concat (flat_map line k.channels)) ⊥ fault
  added_stops h stops = rw (h.all, concat-append) (stops_first _ (concat h.lines) _ (stops_last h.added stops))

  -- where the channels from one on have none, they are those of all channels
  pub added_all : {out : Output W} {channel number : ℕ} → HasAdded contents line k start out channel number → channel ≤ k.channel_limit
      → ((other : ℕ) → channel ≤ other → other < k.channel_limit → line other ≡ []) → Adds contents start (concat (flat_map line k.channels)) out × (number ≡ length (flat_map line k.channels))
  added_all {channel = channel} h within none =
      let past = none_in line channel (k.channel_limit - channel) (λ other above below. none other above (omega (arith, below, within))) in
      rw (h.all, past, append-nil h.lines) (h.added, h.many)

-- ---- how many lines these are

-- where a channel has at most one, and a frame changes its own channel alone
module _ (k : Kind) (laws : AddsByChannel k) (line : List (List ℕ) → ℕ → List (List ℕ)) (none : (channel : ℕ) → line [] channel ≡ [])
    (one : (frames : List (List ℕ)) (channel : ℕ) → length (line frames channel) ≤ 1)
    (other : (frames : List (List ℕ)) (frame : List ℕ) (channel : ℕ) → k.channel frame ≢ channel → length (line (frames ++ frame ∷ []) channel) ≡ length (line frames channel)) where
  few_next : (frames : List (List ℕ)) (frame : List ℕ) → length (flat_map (line frames) k.channels) ≤ length frames
      → length (flat_map (line (frames ++ frame ∷ [])) k.channels) ≤ length (frames ++ frame ∷ [])
  few_next frames frame few =
      let at = k.channel frame in
      let next = frames ++ frame ∷ [] in
      let change = items_change k.channel_limit k.channels laws.all (line frames) (line next) at (laws.inside frame) (λ i apart. other frames frame i (λ e. apart (sym e))) in
      omega (arith, few, change, one next at, flat_count (line frames) k.channels, flat_count (line next) k.channels, length-append frames (frame ∷ []))

  few_from : (before frames : List (List ℕ)) → length (flat_map (line before) k.channels) ≤ length before
      → length (flat_map (line (before ++ frames)) k.channels) ≤ length (before ++ frames)
  few_from before [] few = rw append-nil few
  few_from before (frame ∷ frames) few = rw append_assoc at (few_from (before ++ frame ∷ []) frames (few_next before frame few))

  pub few_open : (frames : List (List ℕ)) → length (flat_map (line frames) k.channels) ≤ length frames
  few_open frames = few_from [] frames (omega (arith, flat_count (line []) k.channels, no_items (line []) k.channels none))

-- ---- after the last frame

-- the anomalies of one frame more
pub anomalies_more : (anomalies_at : Frames → List ℕ → List (List ℕ)) (frames : Frames) (frame : List ℕ) (number : ℕ) → number ≡ length (anomalies_at frames frame)
    → length (lines_from anomalies_at [] frames) + number ≡ length (lines_from anomalies_at [] (frames ++ frame ∷ []))
anomalies_more anomalies_at frames frame number is = grind (arith, length-append, lines_from-last)

-- the remainder begins at an offset, which is where the frames end
module _ (k : Kind) (open_at : ℕ → Frames → ℕ → List (List ℕ)) (frames : Frames) (offset octets : ℕ) (ends : offset ≡ length (concat frames)) (inside : length (concat frames) ≤ octets) where
  pub end_is : remainder_anomaly offset (octets - offset) ++ flat_map (open_at octets frames) k.channels ≡ end_anomalies k open_at frames (octets - length (concat frames))
  end_is = grind arith

  -- the lines after them: the remainder's, and then those of what is incomplete
  pub end_text : concat (remainder_anomaly offset (octets - offset)) ++ concat (flat_map (open_at octets frames) k.channels) ≡ concat (end_anomalies k open_at frames (octets - length (concat frames)))
  end_text = sym (concat-append (remainder_anomaly offset (octets - offset)) (flat_map (open_at octets frames) k.channels)) ∙ ap concat end_is

  pub all_counted : (anomalies_at : Frames → List ℕ → List (List ℕ)) {had : Frames → Type 0} {t : Counts} {remainders incomplete : ℕ} → HasChecked k anomalies_at had frames t
      → remainders ≡ length (remainder_anomaly offset (octets - offset)) → incomplete ≡ length (flat_map (open_at octets frames) k.channels)
      → counts_with_remainder t (octets - offset) (remainders + incomplete) ≡ check_counts_in k anomalies_at open_at frames (octets - length (concat frames))
  all_counted anomalies_at {remainders} {incomplete} h first later = grind (arith, end_is, length-append, h.counts)
