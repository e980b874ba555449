use Rattle.std.proofs.Common.{◌≡◌, ◌++◌, ◌∷◌, ◌∙◌, [], ap, append_assoc, codes}
use Rattle.hex.specs.Hex.{encode_lower}
use Rattle.sl_cop.specs.FarmClcw.{clcw_of}
use Rattle.sl_fields.specs.Clcw.{clcw_octets}
use Rattle.sl_tcflow.specs.Farms.{farm_of}
use Rattle.sl_tcflow.proofs.lemmas.Reception.Farm.{farm_next}
use Rattle.sl_engine.specs.Io.Words.{verdict_word}
use Rattle.sl_engine.proofs.verbs.show.lines_tc.push_step.Goals as goal

pub returns-clause-text : goal.returns-clause-text
returns-clause-text c = λ r views stepped.
    let frame = c.args.frame.now in
    let next = views ++ frame ∷ [] in
    let word = encode_lower c.write.result in
    let clcw : c.clcw.result ≡ clcw_of frame.vc (farm_of r frame.vc next).state =
    c.clcw.ensures r next (c.step-verdict.ensures.farms r views stepped) ∙ ap (λ vc. clcw_of vc (farm_of r vc next).state) c.vc.ensures.value in
    let octets = c.write.ensures.octets ∙ ap clcw_octets (clcw ∙ ap (clcw_of frame.vc) (farm_next r views frame)) in
    rw (octets, c.step-verdict.ensures.verdict r views stepped)
    at (c.push_hex_word.ensures.text ∙ ap (λ l. l ++ word) c.push_frame_verdict.ensures.text
    ∙ append_assoc c.args.lines.now (codes " " ++ verdict_word c.step-verdict.result ++ codes " clcw ") word)
