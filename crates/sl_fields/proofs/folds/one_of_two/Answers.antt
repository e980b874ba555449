use Rattle.sl_fields.proofs.FecfHalves.{one_of_two}
use Rattle.sl_fields.proofs.folds.one_of_two.Goals as goal

pub returns : goal.returns
returns c =
    rw (c.from_12-2.ensures, c.from_5-2.ensures, c.from_5.ensures, c.from_8.ensures, c.from_12.ensures)
    (one_of_two c.args.first c.args.second c.fits-first.0 c.fits-second.0)
