use Rattle.std.proofs.Common.{refl, ap, ◌∙◌}
use Rattle.sl_fields.specs.FecfFolds.{part_of}
use Rattle.sl_fields.proofs.FecfNumbers.{part-cut_bytes}
use Rattle.sl_fields.proofs.FecfLastTwo.{read_words}
use Rattle.sl_fields.proofs.halves.last_two.Goals as goal

pub returns : goal.returns
returns c =
    let word = c.halved_64-word.result in
    let half = c.halved_32-half.result in
    ap (part_of 0) c.to_be_bytes.ensures
    ∙ c.halved_16.ensures ∙ part-cut_bytes 2 16 half refl
    ∙ c.halved_32-half.ensures ∙ part-cut_bytes 4 32 word refl
    ∙ c.halved_64-word.ensures
    ∙ ap (part_of 0) (read_words c.args.slice c.as_chunks.result.0.now c.from_be_bytes.result c.from_be_bytes-2.result c.fits-slice.0 c.fits-slice.1 c.as_chunks.ensures.front c.from_be_bytes.ensures c.from_be_bytes-2.ensures)
