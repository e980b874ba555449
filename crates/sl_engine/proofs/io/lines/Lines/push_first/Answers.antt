use Rattle.std.proofs.Common.{◌≡◌, ◌+◌, ◌++◌, length, take, ℕ, List, arith, sym, ◌∙◌, ap}
use Rattle.std.proofs.lemmas.List.{length-take-le}
use Rattle.std.specs.List.{refill}
use Rattle.sl_engine.proofs.lemmas.Io.Lines.{added}
use Rattle.sl_engine.proofs.io.lines.Lines.push_first.Goals as goal

pub returns : goal.returns
returns g c =
    let buffer = c.as_mut_slice.result.now in
    let items = c.self.inside.text.items in
    let same : buffer ≡ items = c.as_mut_slice.ensures.value in
    let long : c.self.inside.len ≡ length c.args.self.now =
    sym (length-take-le c.self.inside.len items (omega arith)) ∙ ap length c.self.view_is in
    ap (λ (l : List ℕ). take (c.self.inside.len + c.args.many) (refill (length items) items l)) c.put.ensures
    ∙ added _ c.self.inside.len c.args.many _ buffer c.args.text.now _ (omega (arith, ap length same)) (omega arith) (omega (arith, long))
    ∙ ap (λ (l : List ℕ). l ++ take c.args.many c.args.text.now) (ap (λ (l : List ℕ). take c.self.inside.len l) same ∙ c.self.view_is)
