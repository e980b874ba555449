use Rattle.std.proofs.Common.{◌++◌, ◌∙◌, sym, ap, ap₂, append-nil}
use Rattle.sl_tcflow.specs.Recording.{tc_lists}
use Rattle.sl_tcflow.proofs.lemmas.Form.Left.{left_shorter, none_after, none_at_all, piece_moved}
use Rattle.sl_packet.proofs.StoppingLemmas.{on_err}
use Rattle.sl_tcflow.proofs.reframe.reframe_tc.Goals as goal

pub loop-form-init : goal.loop-form-init
loop-form-init c = ap₂ (λ a b. a ++ b) c.new-form.ensures.items c.new-pieces.ensures.all

pub loop-form-preserved : goal.loop-form-preserved
loop-form-preserved c =
    piece_moved c.loop-form.pieces c.loop-form.form.items c.next.new.self c.next.new.form.items _ c.loop-form.invariant (c.in_ok-next.ensures.piece c.if-branch.true)

pub loop-form-smaller : goal.loop-form-smaller
loop-form-smaller c = left_shorter c.loop-form.pieces c.loop-form.form.items c.next.new.self c.next.new.form.items (c.in_ok-next.ensures.piece c.if-branch.true)

pub returns-clause-form : goal.returns-clause-form
returns-clause-form c =
    let end = c.in_ok-next.ensures.end c.if-branch.false in
    end.2 ∙ sym (append-nil c.loop-form.form.items) ∙ ap (λ l. c.loop-form.form.items ++ l) (sym end.0) ∙ c.loop-form.invariant

pub returns-clause-delivers : goal.returns-clause-delivers
returns-clause-delivers c =
    λ w. ap (tc_lists c.args.shape.now c.args.spacecraft (record { window = w; starts = c.args.starts.now; plain = c.args.plain.now })) (returns-clause-form c ∙ sym c.new-pieces.ensures.all) ∙ c.new-pieces.ensures.delivers w

pub returns-in_err-next-clause-packets : goal.returns-in_err-next-clause-packets
returns-in_err-next-clause-packets c =
    let lists = c.args.delivered.now.lists in
    on_err c.from_residual.result _ (λ none. c.in_err-next.ensures.pieces
    (none_after c.loop-form.form.items c.loop-form.pieces
    (c.loop-form.invariant ∙ none_at_all c.args.shape.now c.args.spacecraft c.args.starts.now c.args.plain.now lists c.new-pieces.ensures.size none)))
