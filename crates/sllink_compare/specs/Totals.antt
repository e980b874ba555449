-- The lines of the totals of two recordings.
use Rattle.std.specs.Prelude.{ℕ, ◌==◌, Bool, true, false, if◌then◌else◌, List, [], ◌∷◌, ◌++◌, codes, decimal, flat_map}
use Rattle.std.specs.List.{range_with_len}
use Rattle.sl_engine.specs.Link.Totals.{Counts}
use Rattle.sl_engine.specs.Compare.Words.{word_text}
use Rattle.sl_engine.specs.declared.compare.summary.Summary.{Summary}
use Rattle.sl_engine.specs.declared.compare.words.WordCounts.{WordCounts}
use Rattle.sllink_compare.specs.Words.{number_at, word_at}
use Rattle.sllink_compare.specs.declared.totals.Names.{Names}

-- ---- texts in a row

-- what stands before a text, which may be the first one: a colon, or else this
abbrev pub mark_before : List ℕ → Bool → List ℕ
mark_before between true = codes ": "
mark_before between false = between

-- texts after a colon, with this between them
abbrev pub listed : List ℕ → List (List ℕ) → List ℕ
listed between [] = []
listed between (first ∷ others) =
    mark_before between true ++ first ++ flat_map (λ other. mark_before between false ++ other) others

-- what is found at the first places
abbrev pub found_at : (ℕ → List (List ℕ)) → ℕ → List (List ℕ)
found_at found places = flat_map found (range_with_len 0 places)

-- ---- the totals

-- a word and how many lines it has
abbrev pub word_number : List ℕ → ℕ → List ℕ
word_number word number = word ++ codes " " ++ decimal number

-- the word at this place with its number, where it has lines
abbrev pub word_found : WordCounts → ℕ → List (List ℕ)
word_found counts place =
    if number_at counts place == 0 then [] else word_number (word_text (word_at place)) (number_at counts place) ∷ []

-- the words that have lines, each with its number
abbrev pub words_text : WordCounts → List ℕ
words_text counts = listed (codes ", ") (found_at (word_found counts) 14)

-- the totals of a recording
abbrev pub counts_text : Counts → List ℕ
counts_text counts =
    codes ": frames " ++ decimal counts.frames ++ codes " skipped " ++ decimal counts.skipped
    ++ codes " packets " ++ decimal counts.packets ++ codes " idle " ++ decimal counts.idle
    ++ codes " anomalies " ++ decimal counts.anomalies

-- the line of a recording of this name: its totals, and how many lines `check` has of each word that has some
abbrev pub totals_line : List ℕ → Summary → List ℕ
totals_line name it =
    name ++ counts_text it.totals ++ words_text it.words ++ codes "\n"

-- the lines of both recordings
abbrev pub totals_text : Names → Summary → Summary → List ℕ
totals_text names first second = totals_line names.first.now first ++ totals_line names.second.now second
