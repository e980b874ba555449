use Rattle.std.proofs.Common.{◌∙◌, sym, ap}
use Rattle.sl_fields.specs.SegmentHeader.{segment_header}
use Rattle.sl_fields.specs.SegmentHeaderModel.{fields_of}
use Rattle.sl_fields.proofs.HeaderLayout.{reads_back, reads_back_only}
use Rattle.sl_fields.proofs.SegmentHeaderLemmas.{segment_layout}
use Rattle.sl_fields.proofs.segment_header.SegmentHeader.write.Goals as goal

pub returns-clause-reads_back : goal.returns-clause-reads_back
returns-clause-reads_back c =
    let number = c.pack-number in
    ap segment_header c.write_uint.ensures ∙ reads_back segment_layout (fields_of c.self.inside) number.result c.self.invariant number.ensures.fits number.ensures.value ∙ c.self.view_is

pub returns-clause-only : goal.returns-clause-only
returns-clause-only c octets one each same =
    let number = c.pack-number in
    reads_back_only segment_layout (fields_of c.self.inside) number.result number.ensures.fits number.ensures.value octets one each (same ∙ sym c.self.view_is)
    ∙ sym c.write_uint.ensures
