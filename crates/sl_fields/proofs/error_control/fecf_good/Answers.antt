use Rattle.std.proofs.Common.{◌≡◌, ◌==◌, length, sym, ap, ◌∙◌, arith, rules}
use Rattle.sl_fields.proofs.FecfSyndrome.{good_by_syndrome, part_of_two}
use Rattle.sl_fields.proofs.error_control.fecf_good.Goals as goal

pub returns-then-octets-ge3 : goal.returns-then-octets-ge3
returns-then-octets-ge3 c =
    ap (λ n. n == 0) c.fecf.ensures ∙ good_by_syndrome c.args.octets.now (omega arith) (λ i. (c.type_inv.octets i).fits)

pub returns : goal.returns
returns c =
    let two = c.last_two.result in
    let long : length two ≡ 2 = search rules in
    ap (λ n. n == 0) c.from_be_bytes.ensures
    ∙ sym (part_of_two two long (λ i. search rules))
    ∙ ap (λ n. n == 0) (c.last_two.ensures ∙ c.folded.ensures)
    ∙ good_by_syndrome c.args.octets.now (omega arith) (λ i. (c.type_inv.octets i).fits)
