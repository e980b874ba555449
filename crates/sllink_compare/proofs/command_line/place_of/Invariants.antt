use Rattle.std.proofs.Common.{◌≡◌, drop}
use Rattle.std.specs.Prelude.{bytes_eq}
use Rattle.std.specs.List.{position_from}
use Rattle.sl_engine.specs.Compare.Words.{word_text}
use Rattle.sllink_compare.specs.CommandLine.{place_of}
use Rattle.sllink_compare.specs.Words.{words}
use Rattle.sllink_compare.proofs.command_line.place_of.Given as goal

abbrev pub invariant-loop-place : goal.invariant-loop-place
invariant-loop-place l =
    place_of l.word ≡ position_from (λ one. bytes_eq (word_text one) l.word) l.place (drop l.place words)
