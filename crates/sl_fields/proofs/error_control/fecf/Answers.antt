use Rattle.std.proofs.Common.{◌≡◌, [], ◌∷◌, refl, sym, ◌∙◌}
use Rattle.sl_fields.specs.Fecf.{fecf_of, register_of}
use Rattle.sl_fields.proofs.FecfParts.{part-nil, zeros_by_FF_FF}
use Rattle.sl_fields.proofs.error_control.fecf.Goals as goal

preset_number : 65535 ≡ fecf_of []
unfolding fecf_of register_of
preset_number = refl

pub returns-then-octets-lt-LEAST_FOLDED : goal.returns-then-octets-lt-LEAST_FOLDED
returns-then-octets-lt-LEAST_FOLDED c = c.number.ensures ∙ c.after_octets.ensures [] preset_number

pub returns : goal.returns
returns c =
    c.number-2.ensures
    ∙ c.after_octets-2.ensures (0xFF ∷ (0xFF ∷ [])) (sym (zeros_by_FF_FF [] ∙ part-nil 0))
    ∙ zeros_by_FF_FF c.last_two.result
    ∙ c.last_two.ensures
    ∙ c.folded.ensures
