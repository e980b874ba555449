-- The words of lines of `check`, and how many lines have each of them.
use Rattle.std.proofs.Common.{◌≡◌, ℕ, suc, ◌+◌, ◌^◌, ◌<◌, ◌≤◌, Bool, true, false, codes, decimal, List, [], ◌∷◌, ◌++◌, length, map, Option, None, Some, refl, sym, ◌∙◌, ap, arith, append_assoc}
use Rattle.std.specs.Prelude.{is_some, nat_lt}
use Rattle.std.specs.Str.Parse.{AllDigits, digits_value}
use Rattle.std.proofs.Common.{drop, inl, inr}
use Rattle.std.proofs.lemmas.Bool.{lt-ltb}
use Rattle.std.proofs.lemmas.Bool.Decides.{eqb_tells}
use Rattle.std.proofs.lemmas.Fmt.{digits_decimal}
use Rattle.std.proofs.Common.{add-zero}
use Rattle.std.proofs.lemmas.List.{length-map, map-append}
use Rattle.std.proofs.lemmas.Str.Parse.{IsNumeralModel, not_in_digits, numerals_by_value, tells_digits}
use Rattle.sl_fields.proofs.JoinedLemmas.{HasNo}
use Rattle.sl_cop.specs.declared.verdict.Verdict.{Verdict}
use Rattle.sl_cop.specs.declared.verdict.Verdict.TheVariants as verdict
use Rattle.sl_pair.specs.OnlyIn.{Packets, copies}
use Rattle.sl_pair.proofs.CopiesLemmas.{adds, copies-push}
use Rattle.sl_tmframe.specs.declared.tm_frame.TmSkip.{TmSkip}
use Rattle.sl_tcframe.specs.declared.tc_frame.TcSkip.{TcSkip}
use Rattle.sl_engine.specs.Compare.Summarised.{discarded_lines}
use Rattle.sl_engine.specs.Compare.Words.{IsOneLine, before_space, behind_space, lines_with, word_counts, word_of, word_text}
use Rattle.sl_engine.specs.Io.Words.{line_at, tc_skip_word, tm_skip_word, verdict_word}
use Rattle.sl_engine.specs.Kind.Tc.{TcFinding}
use Rattle.sl_engine.specs.Kind.Tm.{TmFinding}
use Rattle.sl_engine.specs.Verbs.Check.Lines.{event_anomaly, remainder_anomaly, some_text}
use Rattle.sl_engine.specs.Verbs.Check.Tc.{discarded_anomaly, discards}
use Rattle.sl_engine.specs.Verbs.Check.Tm.{gap_anomaly}
use Rattle.sl_engine.specs.declared.compare.words.CheckWord.{CheckWord}
use Rattle.sl_engine.specs.declared.compare.words.CheckWord.TheVariants.{Skip, Gap, Dropped, Opaque, Foreign, Rest, Open}
use Rattle.sl_engine.specs.declared.compare.words.CheckWord.TheVariants.{Early, Late, Outside, Refused, Stray, Long, Tail}
use Rattle.sl_engine.specs.declared.compare.words.WordCounts.{WordCounts}

-- ---- the word of a line

own : IsNumeralModel (AllDigits 10) (digits_value 10)
own = numerals_by_value (AllDigits 10) tells_digits

no_space : (n : ℕ) → n < 2 ^ 64 → HasNo 32 (decimal n)
no_space n small = not_in_digits own (decimal n) 32 (digits_decimal own n small) (λ between. absurd (omega (arith, between)))

behind : (text more : List ℕ) → HasNo 32 text → behind_space (text ++ 32 ∷ more) ≡ more
behind [] more none = refl
behind (c ∷ text) more none = grind (arith, eqb_tells, none 0 (omega arith), behind text more (λ i inside. none (suc i) (omega arith)))

-- the word behind an offset
word_at : (offset : ℕ) (text : List ℕ) → offset < 2 ^ 64 → word_of (decimal offset ++ 32 ∷ text) ≡ before_space text
word_at offset text small = ap before_space (behind (decimal offset) text (no_space offset small))

-- the word of a line whose text begins with a space
word_line : (offset : ℕ) (text : List ℕ) → offset < 2 ^ 64 → text ++ codes "\n" ≡ 32 ∷ drop 1 (text ++ codes "\n") → word_of (line_at offset text) ≡ before_space (drop 1 (text ++ codes "\n"))
word_line offset text small is = ap word_of (append_assoc (decimal offset) text (codes "\n")) ∙ ap (λ t. word_of (decimal offset ++ t)) is ∙ word_at offset (drop 1 (text ++ codes "\n")) small

-- ---- lines of one word, or none

module _ (offset : ℕ) (small : offset < 2 ^ 64) where
  skip_line : (text : List ℕ) → IsOneLine (codes "skip") (line_at offset (codes " skip " ++ text) ∷ []) true
  skip_line text = (_, refl, word_line offset (codes " skip " ++ text) small refl)

  pub tm_skip_one : (reason : TmSkip) → IsOneLine (codes "skip") (line_at offset (codes " skip " ++ tm_skip_word reason) ∷ []) true
  tm_skip_one reason = skip_line (tm_skip_word reason)

  pub tc_skip_one : (reason : TcSkip) → IsOneLine (codes "skip") (line_at offset (codes " skip " ++ tc_skip_word reason) ∷ []) true
  tc_skip_one reason = skip_line (tc_skip_word reason)

  pub gap_one : (found : TmFinding) (gap : Option ℕ) → IsOneLine (codes "gap") (gap_anomaly offset found gap) (is_some gap)
  gap_one found None = refl
  gap_one found (Some expected) = (_, refl, word_line offset (codes " gap vc " ++ decimal found.vc ++ codes " expected " ++ decimal expected ++ codes " found " ++ decimal found.vc_count) small refl)

  -- an event
  module _ (vc : ℕ) (map_id : Option ℕ) (octets : Option ℕ) where
    abbrev behind_event : List ℕ
    behind_event = codes " vc " ++ decimal vc ++ some_text (codes " map ") map_id ++ some_text (codes " octets ") octets

    pub dropped_one : (holds : Bool) → IsOneLine (codes "dropped") (event_anomaly offset vc map_id (codes " dropped") holds octets) holds
    dropped_one true = (_, refl, word_line offset (codes " dropped" ++ behind_event) small refl)
    dropped_one false = refl

    pub opaque_one : (holds : Bool) → IsOneLine (codes "opaque") (event_anomaly offset vc map_id (codes " opaque") holds octets) holds
    opaque_one true = (_, refl, word_line offset (codes " opaque" ++ behind_event) small refl)
    opaque_one false = refl

    pub foreign_one : (holds : Bool) → IsOneLine (codes "foreign") (event_anomaly offset vc map_id (codes " foreign") holds octets) holds
    foreign_one true = (_, refl, word_line offset (codes " foreign" ++ behind_event) small refl)
    foreign_one false = refl

    pub stray_one : (holds : Bool) → IsOneLine (codes "stray") (event_anomaly offset vc map_id (codes " stray") holds octets) holds
    stray_one true = (_, refl, word_line offset (codes " stray" ++ behind_event) small refl)
    stray_one false = refl

    pub long_one : (holds : Bool) → IsOneLine (codes "long") (event_anomaly offset vc map_id (codes " long") holds octets) holds
    long_one true = (_, refl, word_line offset (codes " long" ++ behind_event) small refl)
    long_one false = refl

    pub tail_one : (holds : Bool) → IsOneLine (codes "tail") (event_anomaly offset vc map_id (codes " tail") holds octets) holds
    tail_one true = (_, refl, word_line offset (codes " tail" ++ behind_event) small refl)
    tail_one false = refl

    pub open_one : (holds : Bool) → IsOneLine (codes "open") (event_anomaly offset vc map_id (codes " open") holds octets) holds
    open_one true = (_, refl, word_line offset (codes " open" ++ behind_event) small refl)
    open_one false = refl

  -- a frame of type AD that FARM-1 discards
  discarded_of : (found : TcFinding) (ns : Option ℕ) → IsOneLine (verdict_word found.verdict) (discarded_anomaly offset found ns) (is_some ns)
  discarded_of found None = refl
  discarded_of found (Some ns) = (_, refl, by found.verdict)
    where
      by : (v : Verdict) → word_of (line_at offset (codes " " ++ verdict_word v ++ codes " vc " ++ decimal found.vc ++ codes " ad " ++ decimal ns)) ≡ verdict_word v
      by verdict.Accept = word_line offset (codes " " ++ verdict_word verdict.Accept ++ codes " vc " ++ decimal found.vc ++ codes " ad " ++ decimal ns) small refl
      by verdict.Early = word_line offset (codes " " ++ verdict_word verdict.Early ++ codes " vc " ++ decimal found.vc ++ codes " ad " ++ decimal ns) small refl
      by verdict.Late = word_line offset (codes " " ++ verdict_word verdict.Late ++ codes " vc " ++ decimal found.vc ++ codes " ad " ++ decimal ns) small refl
      by verdict.Outside = word_line offset (codes " " ++ verdict_word verdict.Outside ++ codes " vc " ++ decimal found.vc ++ codes " ad " ++ decimal ns) small refl
      by verdict.Refused = word_line offset (codes " " ++ verdict_word verdict.Refused ++ codes " vc " ++ decimal found.vc ++ codes " ad " ++ decimal ns) small refl
      by verdict.Command = word_line offset (codes " " ++ verdict_word verdict.Command ++ codes " vc " ++ decimal found.vc ++ codes " ad " ++ decimal ns) small refl

  -- the word of a discarded frame is its verdict's
  pub discarded_one : (found : TcFinding) (v : Verdict) → found.verdict ≡ v → discards v ≡ true → IsOneLine (verdict_word v) (discarded_lines offset found) (is_some found.ns)
  discarded_one found v is out =
      let e : discarded_lines offset found ≡ discarded_anomaly offset found found.ns = rw (is, out) refl in
      rw (e, ← is) (discarded_of found found.ns)

  pub one_discarded : (found : TcFinding) → length (discarded_lines offset found) ≤ 1
  one_discarded found = grind arith

  pub rest_one : (octets : ℕ) → IsOneLine (codes "rest") (remainder_anomaly offset octets) (nat_lt 0 octets)
  rest_one octets = elim (eqb_tells octets 0) [
    | inl (is, none) ↦ rw none refl
    | inr (is, some) ↦
        let line : IsOneLine (codes "rest") (remainder_anomaly offset octets) true
        = (line_at offset (codes " rest " ++ decimal octets), rw is refl, word_line offset (codes " rest " ++ decimal octets) small refl) in
        rw (lt-ltb 0 octets (omega (arith, some))) line
  ]

-- ---- how many lines have each word

-- one line more
snoc : (word : List ℕ) (lines : List (List ℕ)) (line : List ℕ) → lines_with word (lines ++ line ∷ []) ≡ lines_with word lines + adds word (word_of line)
snoc word lines line = rw (map-append word_of lines (line ∷ [])) (copies-push word (word_of line) (map word_of lines))

few_copies : (word : List ℕ) (words : Packets) → copies word words ≤ length words
few_copies word [] = omega arith
few_copies word (first ∷ words) = grind (arith, few_copies word words)

-- one more of a word
abbrev pub with_one : CheckWord → WordCounts → WordCounts
with_one Skip c = record c { skip = c.skip + 1 }
with_one Gap c = record c { gap = c.gap + 1 }
with_one Dropped c = record c { dropped = c.dropped + 1 }
with_one Opaque c = record c { opaque = c.opaque + 1 }
with_one Foreign c = record c { foreign = c.foreign + 1 }
with_one Rest c = record c { rest = c.rest + 1 }
with_one Open c = record c { incomplete = c.incomplete + 1 }
with_one Early c = record c { early = c.early + 1 }
with_one Late c = record c { late = c.late + 1 }
with_one Outside c = record c { outside = c.outside + 1 }
with_one Refused c = record c { refused = c.refused + 1 }
with_one Stray c = record c { stray = c.stray + 1 }
with_one Long c = record c { long = c.long + 1 }
with_one Tail c = record c { tail = c.tail + 1 }

abbrev plus_word : WordCounts → List ℕ → WordCounts
plus_word c word =
    record {
      skip = c.skip + adds (codes "skip") word;
      gap = c.gap + adds (codes "gap") word;
      dropped = c.dropped + adds (codes "dropped") word;
      opaque = c.opaque + adds (codes "opaque") word;
      foreign = c.foreign + adds (codes "foreign") word;
      rest = c.rest + adds (codes "rest") word;
      incomplete = c.incomplete + adds (codes "open") word;
      early = c.early + adds (codes "early") word;
      late = c.late + adds (codes "late") word;
      outside = c.outside + adds (codes "outside") word;
      refused = c.refused + adds (codes "refused") word;
      stray = c.stray + adds (codes "stray") word;
      long = c.long + adds (codes "long") word;
      tail = c.tail + adds (codes "tail") word;
    }

counts_snoc : (lines : List (List ℕ)) (line : List ℕ) → word_counts (lines ++ line ∷ []) ≡ plus_word (word_counts lines) (word_of line)
counts_snoc lines line = simp snoc refl

plus_is : (word : CheckWord) (c : WordCounts) → plus_word c (word_text word) ≡ with_one word c
plus_is Skip c = simp add-zero refl
plus_is Gap c = simp add-zero refl
plus_is Dropped c = simp add-zero refl
plus_is Opaque c = simp add-zero refl
plus_is Foreign c = simp add-zero refl
plus_is Rest c = simp add-zero refl
plus_is Open c = simp add-zero refl
plus_is Early c = simp add-zero refl
plus_is Late c = simp add-zero refl
plus_is Outside c = simp add-zero refl
plus_is Refused c = simp add-zero refl
plus_is Stray c = simp add-zero refl
plus_is Long c = simp add-zero refl
plus_is Tail c = simp add-zero refl

-- the lines of a word
pub one_more : (word : CheckWord) (lines more : List (List ℕ)) → IsOneLine (word_text word) more true → word_counts (lines ++ more) ≡ with_one word (word_counts lines)
one_more word lines more h = rw (h.1, counts_snoc lines h.0, h.2) (plus_is word (word_counts lines))

-- a word has no more lines than there are
pub few_with : (word : List ℕ) (lines : List (List ℕ)) → lines_with word lines ≤ length lines
few_with word lines =
    let n : length (map word_of lines) ≡ length lines = simp length-map refl in
    omega (arith, few_copies word (map word_of lines), n)

-- one line more leaves room
pub room_for : (word w : List ℕ) (lines more : List (List ℕ)) (holds : Bool) → holds ≡ true → IsOneLine w more holds → length lines + length more < 2 ^ 64 → lines_with word lines + 1 < 2 ^ 64
room_for word w lines more true is one fits = omega (arith, few_with word lines, ap length one.1, fits)
room_for word w lines more false is one fits = absurd (let bad : false ≡ true = is in cc)

-- a line of a word was counted
pub counted : (word w : CheckWord) (lines more : List (List ℕ)) (holds : Bool) → w ≡ word → holds ≡ true → IsOneLine (word_text w) more holds → with_one word (word_counts lines) ≡ word_counts (lines ++ more)
counted word w lines more holds same is one = sym (one_more word lines more (rw (same, is) at one))

-- one line at most
pub one_at_most : (word : List ℕ) (lines : List (List ℕ)) (holds : Bool) → IsOneLine word lines holds → length lines ≤ 1
one_at_most word lines true h = omega (arith, ap length h.1)
one_at_most word lines false h = omega (arith, ap length h)

pub behind_four : (lines a b c d : List (List ℕ)) → lines ++ a ++ b ++ c ++ d ≡ lines ++ (a ++ b ++ c ++ d)
behind_four lines a b c d = simp append_assoc refl

pub behind_five : (lines a b c d e : List (List ℕ)) → lines ++ a ++ b ++ c ++ d ++ e ≡ lines ++ (a ++ b ++ c ++ d ++ e)
behind_five lines a b c d e = simp append_assoc refl
