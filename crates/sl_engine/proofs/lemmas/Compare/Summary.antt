-- What `check` has of frames that are counted one after another, by the words of its lines.
use Rattle.std.proofs.Common.{◌≡◌, suc, ℕ, ◌+◌, ◌-◌, ◌^◌, ◌<◌, ◌≤◌, List, [], ◌∷◌, ◌++◌, length, ap, arith, refl, sym, ◌∙◌, append-nil, append_assoc, length-append}
use Rattle.std.specs.List.{concat, range_with_len}
use Rattle.std.specs.Prelude.{flat_map}
use Rattle.sl_engine.specs.Compare.Words.{word_counts}
use Rattle.sl_engine.specs.Kind.Delivery.{HasDelivered, Kind}
use Rattle.sl_engine.specs.Link.Totals.{Counts}
use Rattle.sl_engine.specs.Verbs.Check.Lines.{remainder_anomaly}
use Rattle.sl_engine.specs.Verbs.Listing.{Frames, lines_from}
use Rattle.sl_engine.specs.declared.compare.signs.Signs.{Signs}
use Rattle.sl_engine.specs.declared.compare.summary.Summary.{Summary}
use Rattle.sl_engine.specs.declared.compare.words.WordCounts.{WordCounts}
use Rattle.sl_engine.proofs.lemmas.Verbs.Check.Lines.{none_in}
use Rattle.sl_engine.proofs.lemmas.Verbs.Lister.{lines_from-last}

-- ---- one frame more

module _ {k : Kind} {had : Frames → Type 0} {frames : Frames} {anomalies : ℕ} {t : Counts} (d : HasDelivered k had frames anomalies t) where
  pub lines_fit : (frame : List ℕ) → length (concat frames) + length frame < 2 ^ 64 → 5 ≤ length frame → anomalies + 5 < 2 ^ 64
  lines_fit frame small some = omega (arith, d.few, small, some)

  pub frames_fit : (frame : List ℕ) → length (concat frames) + length frame < 2 ^ 64 → 5 ≤ length frame → length frames + 1 < 2 ^ 64
  frames_fit frame small some = omega (arith, d.few, small, some)

-- the words of its lines come behind those of the frames before
pub words_next : (anomalies_at : Frames → List ℕ → List (List ℕ)) (before : Frames) (frame : List ℕ) {words : WordCounts} → words ≡ word_counts (lines_from anomalies_at [] before ++ anomalies_at before frame)
    → words ≡ word_counts (lines_from anomalies_at [] (before ++ frame ∷ []))
words_next anomalies_at before frame is = is ∙ ap word_counts (sym (lines_from-last anomalies_at before frame))

-- ---- what is incomplete, channel by channel

-- the lines of the channels before one were counted behind other lines
pub record HasCounted (line : ℕ → List (List ℕ)) (k : Kind) (lines : List (List ℕ)) (counted : WordCounts) (channel number : ℕ) : Type 0 where
  pub added : List (List ℕ)
  pub all : flat_map line k.channels ≡ added ++ flat_map line (range_with_len channel (k.channel_limit - channel))
  pub words : counted ≡ word_counts (lines ++ added)
  pub many : number ≡ length added

module _ {line : ℕ → List (List ℕ)} {k : Kind} {lines : List (List ℕ)} where
  pub counted_none : {counted : WordCounts} → k.channels ≡ range_with_len 0 k.channel_limit → counted ≡ word_counts lines → HasCounted line k lines counted 0 0
  counted_none all is =
      let whole : k.channel_limit ≡ k.channel_limit - 0 = omega arith in
      record { added = []; all = ap (flat_map line) (all ∙ ap (range_with_len 0) whole); words = is ∙ ap word_counts (sym (append-nil lines)); many = refl }

  module _ {counted : WordCounts} {channel number : ℕ} (h : HasCounted line k lines counted channel number) where
    left_is : channel < k.channel_limit → k.channel_limit - channel ≡ suc (k.channel_limit - (channel + 1))
    left_is within = omega (arith, within)

    pub counted_fits : {n : ℕ} → channel < k.channel_limit → length (flat_map line k.channels) ≤ n → length lines + n < 2 ^ 64 → length (lines ++ h.added) + length (line channel) < 2 ^ 64
    counted_fits within few fits =
        let rest = flat_map line (range_with_len (channel + 1) (k.channel_limit - (channel + 1))) in
        let all : flat_map line k.channels ≡ h.added ++ (line channel ++ rest) = rw (left_is within) at h.all in
        omega (arith, few, fits, ap length all, length-append h.added (line channel ++ rest), length-append (line channel) rest, length-append lines h.added)

    pub counted_next : {counted' : WordCounts} {more : ℕ} → channel < k.channel_limit → counted' ≡ word_counts ((lines ++ h.added) ++ line channel) → more ≡ length (line channel)
        → HasCounted line k lines counted' (channel + 1) (number + more)
    counted_next within is more = record {
      added = h.added ++ line channel;
      all = rw (left_is within) at h.all ∙ sym (append_assoc h.added (line channel) (flat_map line (range_with_len (channel + 1) (k.channel_limit - (channel + 1)))));
      words = is ∙ ap word_counts (append_assoc lines h.added (line channel));
      many = omega (arith, h.many, more, length-append h.added (line channel));
    }

    pub counted_all : channel ≤ k.channel_limit → ((other : ℕ) → channel ≤ other → other < k.channel_limit → line other ≡ []) → (counted ≡ word_counts (lines ++ flat_map line k.channels)) × (number ≡ length (flat_map line k.channels))
    counted_all within none =
        let past = none_in line channel (k.channel_limit - channel) (λ other above below. none other above (omega (arith, below, within))) in
        let all : flat_map line k.channels ≡ h.added = h.all ∙ rw past (append-nil h.added) in
        rw all (h.words, h.many)

-- ---- a whole recording

-- a remainder has no more lines than octets
pub rest_few : (offset octets : ℕ) → length (remainder_anomaly offset octets) ≤ octets
rest_few offset octets = grind arith

abbrev pub summary_of : Counts → WordCounts → Signs → Summary
summary_of totals words signs = record { totals = totals; words = words; signs = signs }

pub same_summary : {t t' : Counts} {w w' : WordCounts} {s s' : Signs} → t ≡ t' → w ≡ w' → s ≡ s' → summary_of t w s ≡ summary_of t' w' s'
same_summary t w s = rw (t, w, s) refl
