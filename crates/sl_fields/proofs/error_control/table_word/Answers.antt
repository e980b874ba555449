use Rattle.std.proofs.Common.{[], get_or, ap, ◌∙◌, arith}
use Rattle.sl_fields.specs.Field.{number_of}
use Rattle.sl_fields.specs.declared.words.TheConstants.{WORDS}
use Rattle.sl_fields.proofs.FecfWordLemmas.{word_at}
use Rattle.sl_fields.proofs.error_control.table_word.Goals as goal

pub returns : goal.returns
returns c = ap (λ i. number_of (get_or WORDS i [])) c.from.ensures ∙ word_at c.args.octet (omega arith)
