use Rattle.sl_engine.proofs.lemmas.Io.Hexadecimal.{sixteen_ok, swz_sixteen}
use Rattle.sl_engine.proofs.io.hexadecimal.Hexadecimals.of_sixteen.Goals as goal

pub swizzle : goal.swizzle
swizzle c = sixteen_ok c.args.octets c.fits-octets.0 c.fits-octets.1

pub returns : goal.returns
returns c = swz_sixteen c.args.self.now.digits c.args.octets c.args.self.now.are_digits c.fits-octets.0 c.fits-octets.1
