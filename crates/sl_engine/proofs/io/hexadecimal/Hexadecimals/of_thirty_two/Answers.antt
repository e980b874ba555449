use Rattle.sl_engine.proofs.lemmas.Io.Hexadecimal.{lanes_ok, swz_table}
use Rattle.sl_engine.proofs.io.hexadecimal.Hexadecimals.of_thirty_two.Goals as goal

pub swizzle : goal.swizzle
swizzle c = lanes_ok c.args.octets c.fits-octets.0 c.fits-octets.1

pub returns : goal.returns
returns c = swz_table c.args.self.now.digits c.args.octets c.args.self.now.are_digits c.fits-octets.0 c.fits-octets.1
