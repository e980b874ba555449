-- How many lines of each word `check` has of a recording. The word of a line is its second field, as `gap` in
-- `256 gap vc 1 expected 1 found 2`.
use Rattle.std.specs.Prelude.{◌≡◌, ℕ, ◌==◌, Bool, true, false, ◌||◌, if◌then◌else◌, List, [], ◌∷◌, map, codes}
use Rattle.sl_pair.specs.OnlyIn.{copies}
use Rattle.sl_engine.specs.declared.compare.words.CheckWord.{CheckWord}
use Rattle.sl_engine.specs.declared.compare.words.CheckWord.TheVariants.{Skip, Gap, Dropped, Opaque, Foreign, Rest, Open}
use Rattle.sl_engine.specs.declared.compare.words.CheckWord.TheVariants.{Early, Late, Outside, Refused, Stray, Long, Tail}
use Rattle.sl_engine.specs.declared.compare.words.WordCounts.{WordCounts}

-- what stands behind the first space
abbrev pub behind_space : List ℕ → List ℕ
behind_space [] = []
behind_space (octet ∷ octets) = if octet == 32 then octets else behind_space octets

-- what stands before the first space, or before the end of the line
abbrev pub before_space : List ℕ → List ℕ
before_space [] = []
before_space (octet ∷ octets) = if (octet == 32) || (octet == 10) then [] else octet ∷ before_space octets

-- the word of a line
abbrev pub word_of : List ℕ → List ℕ
word_of line = before_space (behind_space line)

-- each word as it is written
abbrev pub word_text : CheckWord → List ℕ
word_text Skip = codes "skip"
word_text Gap = codes "gap"
word_text Dropped = codes "dropped"
word_text Opaque = codes "opaque"
word_text Foreign = codes "foreign"
word_text Rest = codes "rest"
word_text Open = codes "open"
word_text Early = codes "early"
word_text Late = codes "late"
word_text Outside = codes "outside"
word_text Refused = codes "refused"
word_text Stray = codes "stray"
word_text Long = codes "long"
word_text Tail = codes "tail"

-- how many lines have this word
abbrev pub lines_with : List ℕ → List (List ℕ) → ℕ
lines_with word lines = copies word (map word_of lines)

-- how many lines have each of the words
abbrev pub word_counts : List (List ℕ) → WordCounts
word_counts lines =
    record {
      skip = lines_with (word_text Skip) lines;
      gap = lines_with (word_text Gap) lines;
      dropped = lines_with (word_text Dropped) lines;
      opaque = lines_with (word_text Opaque) lines;
      foreign = lines_with (word_text Foreign) lines;
      rest = lines_with (word_text Rest) lines;
      incomplete = lines_with (word_text Open) lines;
      early = lines_with (word_text Early) lines;
      late = lines_with (word_text Late) lines;
      outside = lines_with (word_text Outside) lines;
      refused = lines_with (word_text Refused) lines;
      stray = lines_with (word_text Stray) lines;
      long = lines_with (word_text Long) lines;
      tail = lines_with (word_text Tail) lines;
    }

-- the number of a word
abbrev pub count_in : CheckWord → WordCounts → ℕ
count_in Skip counts = counts.skip
count_in Gap counts = counts.gap
count_in Dropped counts = counts.dropped
count_in Opaque counts = counts.opaque
count_in Foreign counts = counts.foreign
count_in Rest counts = counts.rest
count_in Open counts = counts.incomplete
count_in Early counts = counts.early
count_in Late counts = counts.late
count_in Outside counts = counts.outside
count_in Refused counts = counts.refused
count_in Stray counts = counts.stray
count_in Long counts = counts.long
count_in Tail counts = counts.tail

-- ---- while lines are counted. Contracts of private functions alone cite this.

-- where something holds, one line of this word, and else none
abbrev pub IsOneLine : List ℕ → List (List ℕ) → Bool → Type 0
IsOneLine word lines true = (line : List ℕ) × (lines ≡ line ∷ []) × (word_of line ≡ word)
IsOneLine word lines false = lines ≡ []
