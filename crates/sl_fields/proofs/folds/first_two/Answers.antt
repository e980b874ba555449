use Rattle.std.proofs.Common.{◌-◌, ◌%◌, ◌<◌, ◌∷◌, ◌++◌, length, take, replicate, refl, ap, ◌∙◌, arith}
use Rattle.std.proofs.lemmas.List.{length-take, take-take}
use Rattle.sl_fields.specs.declared.folds.TheConstants.{PLACES, PRESET}
use Rattle.sl_fields.proofs.FecfFolds.{first_two, places_ok}
use Rattle.sl_fields.proofs.folds.first_two.Goals as goal

pub swizzle-before_slices : goal.swizzle-before_slices
swizzle-before_slices c = places_ok PLACES refl (length c.args.octets.now % 16)

pub returns : goal.returns
returns c =
    let octets = c.args.octets.now in
    let n = length octets % 16 in
    let below : n < 16 = omega arith in
    first_two PRESET PLACES refl refl n (take 16 octets) below (omega (arith, length-take 16 octets))
    ∙ ap (λ l. replicate (30 - n) 0 ++ 0x84 ∷ (0xCF ∷ l)) (take-take n 16 octets (omega arith))
