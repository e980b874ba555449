use Rattle.std.proofs.Common.{◌≡◌, ◌∙◌, Bool, false, true, IfOk, ap, ap₂, subst, sym}
use Rattle.std.specs.Prelude.{◌&&◌}
use Rattle.sl_merge.specs.Fates.{exchanged}
use Rattle.sl_merge.specs.Merge.{few, is_merge_on, is_none_twice, keeps_first}
use Rattle.sl_merge.proofs.MergeLemmas.{side_stays}
use Rattle.sl_merge.proofs.merge.is_merge_on.Goals as goal

pub returns-then-not-keeps_side : goal.returns-then-not-keeps_side
returns-then-not-keeps_side g c =
    let items = c.args.items.now in
    let most = few c.args.shape.now in
    let first : keeps_first most items ≡ false = ap (keeps_first most) (sym (side_stays items)) ∙ sym c.if-not-keeps_side.ensures in
    sym (ap (λ a. a && (keeps_first most (exchanged items) && is_none_twice c.args.shape.now items)) first)

pub returns-then-not-keeps_side-2 : goal.returns-then-not-keeps_side-2
returns-then-not-keeps_side-2 g c =
    let items = c.args.items.now in
    let most = few c.args.shape.now in
    let first : keeps_first most items ≡ true = ap (keeps_first most) (sym (side_stays items)) ∙ sym c.if-not-keeps_side.ensures in
    let second : keeps_first most (exchanged items) ≡ false = sym c.if-not-keeps_side-2.ensures in
    sym (ap₂ (λ a b. a && (b && is_none_twice c.args.shape.now items)) first second)

pub returns : goal.returns
returns g c =
    let items = c.args.items.now in
    let most = few c.args.shape.now in
    let first : keeps_first most items ≡ true = ap (keeps_first most) (sym (side_stays items)) ∙ sym c.if-not-keeps_side.ensures in
    let second : keeps_first most (exchanged items) ≡ true = sym c.if-not-keeps_side-2.ensures in
    let whole : is_merge_on c.args.shape.now items ≡ is_none_twice c.args.shape.now items =
    ap₂ (λ a b. a && (b && is_none_twice c.args.shape.now items)) first second in
    subst (λ (b : Bool). IfOk c.is_none_twice.result (λ is. is ≡ b)) (sym whole) c.is_none_twice.ensures
