use Rattle.std.proofs.Common.{◌≡◌, ◌<◌, get_or, length, ◌∙◌, sym, arith, rules}
use Rattle.sl_fields.proofs.FecfWordLemmas.{register-octet, number_of-two}
use Rattle.sl_fields.proofs.error_control.after_octet.Goals as goal

pub returns : goal.returns
returns c before e =
    let r = c.args.register in
    let w = c.table_word-word.result in
    let two : length w ≡ 2 = search rules in
    let bottom_fits : get_or w 1 0 < 256 = search rules in
    register-octet before r.high r.low c.args.octet (get_or w 0 0) (get_or w 1 0) (omega arith) (omega arith) bottom_fits e (sym (number_of-two w two) ∙ c.table_word-word.ensures)
