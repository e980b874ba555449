use Rattle.std.proofs.Common.{refl}
use Rattle.std.proofs.lemmas.Option.{IfSome_then}
use Rattle.sl_engine.proofs.lemmas.Link.Answers.{none_then}
use Rattle.sl_engine.proofs.lemmas.Framing.Tm.{cuts, cuts_none, waits_next}
use Rattle.sl_engine.proofs.framing.tm.TmFramerFramer.next_frame.Goals as goal

pub returns : goal.returns
returns c =
    let f = c.args.self.now in
    let new = c.next_from.follows.lender-at-none in
    let taken = c.next_from.follows.holds-at-none in
    let chunk = c.args.chunk.now.now in
    let left = c.next_from.new.chunk.now in (
      (refl, λ _. tt, λ p rest w. waits_next f p rest chunk left w new c.next_from.result taken c.next_from.ensures.used_up),
      record {
        frame = IfSome_then c.next_from.result c.next_from.ensures.frame (λ frame y p rest w. cuts f p rest chunk left w frame.now y);
        none = none_then c.next_from.result c.next_from.ensures.used_up (λ u p rest w. cuts_none f p rest chunk left w u);
        after = tt;
      },
    )
