use Rattle.std.proofs.Common.{ap, rules}
use Rattle.std.specs.Prelude.{not, nat_le, ◌&&◌}
use Rattle.std.proofs.lemmas.Iterator.{YieldsList-from_slice}
use Rattle.std.proofs.lemmas.Iterator.Search.{any_from_yields_List}
use borrow.Author.Tests.{tests}
use Rattle.sl_files.specs.declared.TheConstants.{UNPRINTABLE}
use Rattle.sl_files.proofs.is_printable.Goals as goal

pub returns : goal.returns
returns c =
    ap not (any_from_yields_List (λ range. nat_le range.0 c.args.letter && nat_le c.args.letter range.1) _ _ _ c.any.ensures.ran
    (YieldsList-from_slice UNPRINTABLE cc) (λ x b q k. search (rules, tests)))
