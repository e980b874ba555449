use Rattle.std.proofs.Common.{◌-◌, ◌∷◌, ◌++◌, [], take, replicate, refl, ap, ◌∙◌, arith}
use Rattle.std.proofs.lemmas.List.{length-take, take-take}
use Rattle.sl_fields.specs.declared.folds.TheConstants.{PLACES, INVERSES}
use Rattle.sl_fields.specs.FecfFolds.{plus_octets}
use Rattle.sl_fields.proofs.FecfFolds.{head_looked_up, places_ok}
use Rattle.sl_fields.proofs.folds.head.Goals as goal

pub swizzle : goal.swizzle
swizzle c = places_ok PLACES refl c.args.count

pub returns : goal.returns
returns c =
    let octets = c.args.octets.now in
    let n = c.args.count in
    head_looked_up INVERSES PLACES refl refl n (take 16 octets) c.requires.least c.requires.most (omega (arith, length-take 16 octets))
    ∙ ap (λ l. replicate (16 - n) 0 ++ plus_octets (0xFF ∷ (0xFF ∷ [])) l) (take-take n 16 octets c.requires.most)
