use Rattle.std.proofs.Common.{sym}
use Rattle.sl_merge.proofs.TwiceLemmas.{none_suspect}
use Rattle.sl_merge.proofs.twice.is_none_twice.Goals as goal

pub returns-then-not-has_suspect : goal.returns-then-not-has_suspect
returns-then-not-has_suspect g c =
    sym (none_suspect c.args.shape.now c.args.items.now c.args.items.now (sym c.if-not-has_suspect.ensures))
