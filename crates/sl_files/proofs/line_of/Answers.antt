use Rattle.std.proofs.Common.{◌++◌, [], cond, length, rules, sym, ap, ◌∙◌, append-nil, codes, string_bytes}
use Rattle.std.specs.Str.Lines.{lines}
use Rattle.std.proofs.lemmas.Iterator.Splits.{YieldsList-from_lines}
use Rattle.std.proofs.lemmas.Iterator.Consumers.{YieldsList-turn, YieldsList-end}
use Rattle.std.proofs.lemmas.List.{length_push}
use Rattle.sl_files.proofs.LineLemmas.{Next, blank_turn, line_turn, to_come, to_come-all, to_come-end, to_come-over}
use Rattle.sl_files.proofs.line_of.Goals.{in-None, in-Some+then-ends_reason}
use Rattle.sl_files.proofs.line_of.Goals as goal

pub loop-line-init : goal.loop-line-init
loop-line-init c =
    (tt, tt, search rules, ap (λ t. t ++ to_come [] (lines c.args.text.now)) c.new-reason.ensures.bytes ∙ to_come-all c.args.text.now)

pub loop-line-preserved-then-not-is_empty : goal.loop-line-preserved-then-not-is_empty
loop-line-preserved-then-not-is_empty c =
    let next : Next (lines c.args.text.now) (length c.loop-line.yielded) c.in-Some.line.now c.trim-line.result.now = record {
      at = YieldsList-turn (YieldsList-from_lines c.args.text.now cc) c.loop-line.yielded _ c.loop-line.yielded_by _ _
          c.in-Some.line c.in-Some.is c.next.ensures.steps;
      trimmed = c.trim-line.ensures.trim;
    } in (
      tt,
      tt,
      search rules,
      blank_turn (string_bytes c.loop-line.reason) c.loop-line.before.now (codes "; ") _ c.loop-line.invariant.3 next
          (sym c.ends_reason.ensures ∙ c.if-ends_reason.false) (sym c.is_empty.ensures ∙ c.if-is_empty.true)
          (ap (λ b. cond b c.loop-line.before.now (codes "; ")) (sym c.is_empty-then-is_empty.ensures ∙ c.if-not-is_empty.true))
          (length_push c.loop-line.yielded c.in-Some.line),
    )

pub loop-line-preserved-else-not-is_empty : goal.loop-line-preserved-else-not-is_empty
loop-line-preserved-else-not-is_empty c =
    let next : Next (lines c.args.text.now) (length c.loop-line.yielded) c.in-Some.line.now c.trim-line.result.now = record {
      at = YieldsList-turn (YieldsList-from_lines c.args.text.now cc) c.loop-line.yielded _ c.loop-line.yielded_by _ _
          c.in-Some.line c.in-Some.is c.next.ensures.steps;
      trimmed = c.trim-line.ensures.trim;
    } in (
      tt,
      tt,
      c.loop-line.invariant.2,
      blank_turn (string_bytes c.loop-line.reason) c.loop-line.before.now c.loop-line.before.now _ c.loop-line.invariant.3 next
          (sym c.ends_reason.ensures ∙ c.if-ends_reason.false) (sym c.is_empty.ensures ∙ c.if-is_empty.true)
          (ap (λ b. cond b c.loop-line.before.now (codes "; ")) (sym c.is_empty-then-is_empty.ensures ∙ c.if-not-is_empty.false))
          (length_push c.loop-line.yielded c.in-Some.line),
    )

pub loop-line-preserved : goal.loop-line-preserved
loop-line-preserved c =
    let next : Next (lines c.args.text.now) (length c.loop-line.yielded) c.in-Some.line.now c.trim-line.result.now = record {
      at = YieldsList-turn (YieldsList-from_lines c.args.text.now cc) c.loop-line.yielded _ c.loop-line.yielded_by _ _
          c.in-Some.line c.in-Some.is c.next.ensures.steps;
      trimmed = c.trim-line.ensures.trim;
    } in (
      tt,
      tt,
      search rules,
      line_turn (string_bytes c.loop-line.reason) c.loop-line.before.now _ _ c.loop-line.invariant.3 next
          (sym c.ends_reason.ensures ∙ c.if-ends_reason.false) (sym c.is_empty.ensures ∙ c.if-is_empty.false)
          (c.in_ok-push_str-2.ensures.bytes ∙ ap (λ s. s ++ c.trim-line.result.now) c.in_ok-push_str.ensures.bytes)
          (length_push c.loop-line.yielded c.in-Some.line),
    )

pub returns : goal.returns
returns c =
    let all = lines c.args.text.now in
    let n = length c.loop-line.yielded in
    let reason = string_bytes c.loop-line.reason in
    elim c.match-next.branch [
      | in-None w ↦
          let over = YieldsList-end (YieldsList-from_lines c.args.text.now cc) c.loop-line.yielded _ c.loop-line.yielded_by _ _
          w.in-None.is c.next.ensures.steps in
          sym (append-nil reason) ∙ ap (λ t. reason ++ t) (sym (to_come-over all n c.loop-line.before.now over.1)) ∙ c.loop-line.invariant.3
      | in-Some+then-ends_reason w ↦
          let next : Next all n w.in-Some.line.now w.trim-line.result.now = record {
            at = YieldsList-turn (YieldsList-from_lines c.args.text.now cc) c.loop-line.yielded _ c.loop-line.yielded_by _ _
                w.in-Some.line w.in-Some.is c.next.ensures.steps;
            trimmed = w.trim-line.ensures.trim;
          } in
          let over = to_come-end c.loop-line.before.now next (sym w.ends_reason.ensures ∙ w.if-ends_reason.true) in
          sym (append-nil reason) ∙ ap (λ t. reason ++ t) (sym over) ∙ c.loop-line.invariant.3
    ]
