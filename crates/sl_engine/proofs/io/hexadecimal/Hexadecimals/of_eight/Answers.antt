use Rattle.std.proofs.Common.{◌∙◌, ap}
use Rattle.hex.specs.Hex.{encode_with}
use Rattle.sl_engine.proofs.lemmas.Io.Hexadecimal.{eight_ok, eight_digits}
use Rattle.sl_engine.proofs.io.hexadecimal.Hexadecimals.of_eight.Goals as goal

pub swizzle : goal.swizzle
swizzle c = eight_ok c.args.octets c.fits-octets.0 c.fits-octets.1

pub returns : goal.returns
returns c = eight_digits _ c.args.octets c.fits-octets.0 c.fits-octets.1 ∙ ap (λ t. encode_with t c.args.octets) c.args.self.now.are_digits
