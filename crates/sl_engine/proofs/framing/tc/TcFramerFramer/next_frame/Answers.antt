use Rattle.std.proofs.Common.{refl}
use Rattle.sl_engine.proofs.lemmas.Link.Answers.{both_some, none_then}
use Rattle.sl_engine.proofs.lemmas.Framing.Tc.{cuts, cuts_none, waits_next}
use Rattle.sl_engine.proofs.framing.tc.TcFramerFramer.next_frame.Goals as goal

pub returns : goal.returns
returns c =
    let f = c.args.self.now in
    let new = c.next_from.follows.lender-at-none in
    let taken = c.next_from.follows.holds-at-none in
    let chunk = c.args.chunk.now.now in
    let left = c.next_from.new.chunk.now in
    let each = c.are_octets.ensures in (
      (refl, λ _. tt, λ p rest w. waits_next f p rest chunk left w each new c.next_from.result taken c.next_from.ensures.none),
      record {
        frame = both_some c.next_from.result c.next_from.ensures.frame c.next_from.ensures.cut (λ frame y cut p rest w. cuts f p rest chunk left w each frame.now y cut);
        none = none_then c.next_from.result c.next_from.ensures.none (λ y p rest w. cuts_none f p rest chunk left w each y);
        after = tt;
      },
    )
