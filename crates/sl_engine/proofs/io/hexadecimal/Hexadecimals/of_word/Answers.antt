use Rattle.std.proofs.Common.{◌∙◌, ap, arith, rules}
use Rattle.hex.specs.Hex.{encode_lower}
use Rattle.sl_engine.proofs.lemmas.Io.Hexadecimal.{octets_of_word}
use Rattle.sl_engine.proofs.io.hexadecimal.Hexadecimals.of_word.Goals as goal

pub returns : goal.returns
returns c =
    c.of_four.ensures
    ∙ ap encode_lower (octets_of_word c.args.word.now c.from_le_bytes-number.result (omega arith) (search rules) c.from_le_bytes-number.ensures)
