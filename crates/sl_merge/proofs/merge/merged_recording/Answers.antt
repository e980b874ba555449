use Rattle.std.proofs.Common.{◌∙◌, ◌+◌, ◌<◌, ◌++◌, append-nil, ap, arith, drop, length, slice_index_or, sym}
use Rattle.std.proofs.lemmas.List.{drop_more}
use Rattle.std.proofs.lemmas.Result.{IfOk-from_err}
use Rattle.sl_tmframe.specs.TmDelimited.{tm_frames_of}
use Rattle.sl_merge.specs.Fates.{octets_of, standing, taken}
use Rattle.sl_merge.specs.declared.fate.Fate.TheVariants.{Both}
use Rattle.sl_merge.proofs.TakenLemmas.{octets_more, octets_stay}
use Rattle.sl_merge.proofs.merge.merged_recording.Goals as goal
use Rattle.sl_merge.proofs.merge.merged_recording.Goals.{then-stands+in_ok-extend_from_slice-in-Some, else-stands}

pub returns-in_err-extend_from_slice-in-Some : goal.returns-in_err-extend_from_slice-in-Some
returns-in_err-extend_from_slice-in-Some c = IfOk-from_err c.from_residual.result _ c.from_residual.ensures.0

pub returns-in-None : goal.returns-in-None
returns-in-None c =
    let fates = c.args.fates.now in
    let i = c.loop-fate.fate-index in
    let below : i < length fates = omega arith in
    let len = c.args.shape.now.len in
    let firsts = tm_frames_of len c.loop-fate.firsts.now in
    let seconds = tm_frames_of len c.loop-fate.seconds.now in
    let merged = c.loop-fate.merged.items in
    let none = ap (λ f. taken f firsts seconds) (drop_more fates i Both below) ∙ c.in-None.ensures.found.taken (drop (i + 1) fates) in
    sym (append-nil merged) ∙ ap (λ items. merged ++ octets_of (standing items)) (sym none) ∙ c.loop-fate.invariant

pub loop-fate-preserved : goal.loop-fate-preserved
loop-fate-preserved c =
    let fates = c.args.fates.now in
    let i = c.loop-fate.fate-index in
    let fate = slice_index_or fates i Both in
    let later = drop (i + 1) fates in
    let below : i < length fates = omega arith in
    let len = c.args.shape.now.len in
    let firsts = tm_frames_of len c.loop-fate.firsts.now in
    let seconds = tm_frames_of len c.loop-fate.seconds.now in
    let firsts' = tm_frames_of len c.next_frame.new.firsts.now in
    let seconds' = tm_frames_of len c.next_frame.new.seconds.now in
    let is = drop_more fates i Both below in
    let found = c.in-Some.ensures.found in
    let left = octets_of (standing (taken later firsts' seconds')) in
    elim c.if-stands.branch [
      | then-stands+in_ok-extend_from_slice-in-Some w ↦
          ap (λ merged. merged ++ left) (rw w.merged-is w.in_ok-extend_from_slice-in-Some.ensures.items)
          ∙ octets_more (drop i fates) later fate firsts seconds is c.in-Some.frame.now _ firsts' seconds' found (sym c.stands.ensures ∙ w.if-stands.true) c.loop-fate.merged.items
          ∙ c.loop-fate.invariant
      | else-stands w ↦
          rw w.merged-is (octets_stay (drop i fates) later fate firsts seconds is c.in-Some.frame.now _ firsts' seconds' found (sym c.stands.ensures ∙ w.if-stands.false) c.loop-fate.merged.items
          ∙ c.loop-fate.invariant)
    ]
