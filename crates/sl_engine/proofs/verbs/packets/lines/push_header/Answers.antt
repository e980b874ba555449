use Rattle.std.proofs.Common.{codes, decimal}
use Rattle.sl_fields.specs.Field.{bit_of}
use Rattle.sl_engine.proofs.lemmas.Verbs.Packets.Bits.{header_joined}
use Rattle.sl_engine.proofs.verbs.packets.lines.push_header.Goals as goal

pub returns-clause-text : goal.returns-clause-text
returns-clause-text c =
    let h = c.args.header.now in
    rw (c.push_number-2.ensures.text, c.from-2.ensures, c.count.ensures.value, c.push-2.ensures, c.bits_text.ensures, c.push_number.ensures.text, c.from.ensures, c.apid.ensures.value, c.push.ensures)
    (header_joined c.args.lines.now (decimal h.apid) (decimal h.kind) (decimal (bit_of h.secondary)) (decimal h.flags) (decimal h.count)
    (codes " apid ") (codes " type ") (codes " secondary ") (codes " flags ") (codes " count "))
