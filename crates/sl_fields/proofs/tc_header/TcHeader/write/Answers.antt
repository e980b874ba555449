use Rattle.std.proofs.Common.{◌∙◌, sym, ap}
use Rattle.sl_fields.specs.TcHeader.{tc_header}
use Rattle.sl_fields.specs.TcHeaderModel.{fields_of}
use Rattle.sl_fields.proofs.HeaderLayout.{reads_back, reads_back_only}
use Rattle.sl_fields.proofs.TcHeaderLemmas.{tc_layout}
use Rattle.sl_fields.proofs.tc_header.TcHeader.write.Goals as goal

pub returns-clause-reads_back : goal.returns-clause-reads_back
returns-clause-reads_back c =
    let number = c.pack-number in
    ap tc_header c.write_uint.ensures ∙ reads_back tc_layout (fields_of c.self.inside) number.result c.self.invariant number.ensures.fits number.ensures.value ∙ c.self.view_is

pub returns-clause-only : goal.returns-clause-only
returns-clause-only c octets five each same =
    let number = c.pack-number in
    reads_back_only tc_layout (fields_of c.self.inside) number.result number.ensures.fits number.ensures.value octets five each (same ∙ sym c.self.view_is)
    ∙ sym c.write_uint.ensures
