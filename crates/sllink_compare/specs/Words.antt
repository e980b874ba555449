-- The words of lines of `check`, in the order in which they are written.
use Rattle.std.specs.Prelude.{ℕ, List, [], ◌∷◌}
use Rattle.std.specs.List.{slice_index_or}
use Rattle.sl_engine.specs.Compare.Words.{count_in}
use Rattle.sl_engine.specs.declared.compare.words.CheckWord.{CheckWord}
use Rattle.sl_engine.specs.declared.compare.words.CheckWord.TheVariants.{Skip, Gap, Dropped, Opaque, Foreign, Rest, Open}
use Rattle.sl_engine.specs.declared.compare.words.CheckWord.TheVariants.{Early, Late, Outside, Refused, Stray, Long, Tail}
use Rattle.sl_engine.specs.declared.compare.words.WordCounts.{WordCounts}

-- all of them
abbrev pub words : List CheckWord
words =
    Skip ∷ Gap ∷ Dropped ∷ Opaque ∷ Foreign ∷ Rest ∷ Open ∷ Early ∷ Late ∷ Outside ∷ Refused ∷ Stray ∷ Long ∷ Tail ∷ []

-- the word at this place
abbrev pub word_at : ℕ → CheckWord
word_at place = slice_index_or words place Skip

-- how many lines have the word at this place
abbrev pub number_at : WordCounts → ℕ → ℕ
number_at counts place = count_in (word_at place) counts
