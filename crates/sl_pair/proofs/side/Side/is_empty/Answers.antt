use Rattle.sl_pair.specs.Store.{waiting_at}
use Rattle.sl_pair.proofs.LeftLemmas.{none_waits_iff}
use Rattle.sl_pair.proofs.side.Side.is_empty.Goals as goal

pub returns : goal.returns
returns g c = λ packets others side.
    let iff = none_waits_iff packets others (waiting_at c.args.self.now.waiting) side.waits in
    ((λ empty. iff.0 (c.is_empty.ensures.0 empty)), (λ none. c.is_empty.ensures.1 (iff.1 none)))
