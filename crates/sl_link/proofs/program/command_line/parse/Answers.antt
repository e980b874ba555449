use Rattle.std.proofs.Common.{rules, ◌≡◌, ◌∙◌, false, true, map, string_bytes}
use Rattle.clap.proofs.TakesLemmas.{passed_up}
use Rattle.sl_link.proofs.lemmas.Program.CommandLine.{error_refused, verb_there, words_ask}
use Rattle.sl_link.proofs.program.command_line.parse.Goals as goal

pub returns-in_err-matches-clause-refused : goal.returns-in_err-matches-clause-refused
returns-in_err-matches-clause-refused c =
    let refused = error_refused (map string_bytes c.args.words.now) c.in_ok-command.command c.in_ok-command.ensures c.try_get_matches_from_mut.result c.try_get_matches_from_mut.ensures.kinds
    c.in_err-matches.field-0.0 (search rules) in
    passed_up c.from_residual-in_err-matches.result c.in_err-matches.field-0.0 _ c.from_residual-in_err-matches.ensures.1 refused

pub unreachable-requires : goal.unreachable-requires
unreachable-requires c =
    let ok = c.in_ok-matches.ensures.ok in
    let bad : false ≡ true = c.in-None.ensures.variant ∙ verb_there c.in_ok-command.command _ c.in_ok-matches.matches c.in_ok-command.ensures ok.0 ok.1 in
    cc

pub returns-clause-asked : goal.returns-clause-asked
returns-clause-asked c =
    words_ask (map string_bytes c.args.words.now) c.in_ok-command.command c.in_ok-command.ensures c.try_get_matches_from_mut.result c.try_get_matches_from_mut.ensures.kinds
    c.in_ok-matches.matches (search rules) c.in_ok-matches.ensures.ok.2 _ _ c.in-Some.ensures.name c.in-Some.ensures.rows _ c.asked_of.ensures
