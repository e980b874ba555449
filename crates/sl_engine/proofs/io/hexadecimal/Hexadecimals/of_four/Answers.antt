use Rattle.std.proofs.Common.{◌∙◌, ◌++◌, ◌∷◌, [], ap, List, ℕ}
use Rattle.std.specs.Simd.Lanes.{pick_l}
use Rattle.sl_engine.proofs.lemmas.Io.Hexadecimal.{first_of_eight}
use Rattle.sl_engine.proofs.io.hexadecimal.Hexadecimals.of_four.Goals as goal

pub returns : goal.returns
returns c =
    ap (λ (digits : List ℕ). pick_l 0 (digits ++ digits) (0 ∷ 1 ∷ 2 ∷ 3 ∷ 4 ∷ 5 ∷ 6 ∷ 7 ∷ [])) c.of_eight.ensures
    ∙ first_of_eight c.args.octets c.fits-octets.0
