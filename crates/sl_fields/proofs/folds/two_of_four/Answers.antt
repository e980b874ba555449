use Rattle.sl_fields.proofs.FecfHalves.{two_of_four}
use Rattle.sl_fields.proofs.folds.two_of_four.Goals as goal

pub returns : goal.returns
returns c =
    rw (c.from_10-3.ensures, c.from_10-2.ensures, c.from_8-4.ensures, c.from_8-3.ensures, c.from_10.ensures, c.from_8-2.ensures, c.from_8.ensures)
    (two_of_four c.args.first c.args.second c.args.third c.args.fourth c.fits-first.0 c.fits-second.0 c.fits-third.0 c.fits-fourth.0)
