use Rattle.std.proofs.Common.{◌++◌, ◌∙◌, arith, length, ap, ap₂, sym, append-nil, append_assoc, length-append}
use Rattle.std.proofs.lemmas.List.{nil_from_length}
use Rattle.sl_packet.proofs.StoppingLemmas.{on_err}
use Rattle.sl_tmflow.specs.Recording.{tm_lists}
use Rattle.sl_tmflow.proofs.lemmas.Form.Left.{none_at_all}
use Rattle.sl_tmflow.proofs.reframe.reframe_tm.Goals as goal

pub loop-pieces-init : goal.loop-pieces-init
loop-pieces-init c = ap₂ (λ a b. a ++ b) c.new-form.ensures.items c.new-pieces.ensures.left

pub loop-pieces-preserved : goal.loop-pieces-preserved
loop-pieces-preserved c = let p = c.in_ok-next.ensures.piece c.if-branch.true in grind (arith, append_assoc)

pub loop-pieces-smaller : goal.loop-pieces-smaller
loop-pieces-smaller c = let p = c.in_ok-next.ensures.piece c.if-branch.true in grind (arith, length-append)

pub returns-in_err-next-clause-packets : goal.returns-in_err-next-clause-packets
returns-in_err-next-clause-packets c =
    on_err c.from_residual.result _ (λ none.
    let nothing = c.loop-pieces.invariant ∙ none_at_all c.args.shape.now c.args.spacecraft c.args.delivered.now.lists (λ channel below. none channel (omega arith) below) in
    c.in_err-next.ensures.pieces (nil_from_length c.loop-pieces.pieces.left (omega (arith, ap length nothing, length-append c.loop-pieces.form.items c.loop-pieces.pieces.left))))

pub returns-clause-form : goal.returns-clause-form
returns-clause-form c =
    let end = c.in_ok-next.ensures.end c.if-branch.false in
    let form = c.loop-pieces.form.items in
    end.2 ∙ sym (append-nil form) ∙ ap (λ l. form ++ l) (sym end.0) ∙ c.loop-pieces.invariant

pub returns-clause-delivers : goal.returns-clause-delivers
returns-clause-delivers c = ap (tm_lists c.args.shape.now c.args.spacecraft) (returns-clause-form c) ∙ c.new-pieces.ensures.delivers
