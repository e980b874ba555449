-- What the words of the command line stand for.
use Rattle.std.specs.Prelude.{ℕ, true, if◌then◌else◌, List, [], Option, None, Some, bytes_eq, codes, option_map}
use Rattle.std.specs.List.{position_from, slice_set}
use Rattle.sl_engine.specs.Compare.Words.{word_text}
use Rattle.sl_engine.specs.declared.engine.RecordingKind.{RecordingKind}
use Rattle.sl_engine.specs.declared.engine.RecordingKind.TheVariants.{Tm, Tc}
use Rattle.sllink_compare.specs.Words.{words}
use Rattle.sllink_compare.specs.declared.questions.Allowed.{Allowed}

-- The kind of this name. Words with another name than `tm` or `tc` are refused.
abbrev pub kind_named : List ℕ → RecordingKind
kind_named name = if bytes_eq name (codes "tm") then Tm else Tc

-- the place of a word of `check`, if it is one
abbrev pub place_of : List ℕ → Option ℕ
place_of word = position_from (λ one. bytes_eq (word_text one) word) 0 words

-- a word of `check` is allowed too
abbrev pub with_lines : Allowed → ℕ → Allowed
with_lines allowed place = record allowed { lines = slice_set allowed.lines place true }

-- What is allowed with a word of `--allow` more, if it is one: the answer to a question, or a word of `check`. An empty
-- word adds nothing.
abbrev pub allowed_with : List ℕ → Allowed → Option Allowed
allowed_with word allowed =
    if bytes_eq word [] then Some allowed
    else if bytes_eq word (codes "options") then Some (record allowed { options = true })
    else if bytes_eq word (codes "nothing") then Some (record allowed { nothing = true })
    else if bytes_eq word (codes "most") then Some (record allowed { most = true })
    else option_map (with_lines allowed) (place_of word)
