use Rattle.std.proofs.Common.{◌≡◌, ◌∙◌, ◌+◌, ◌<◌, ◌∷◌, ◌++◌, [], arith, length, map, drop, ap, slice_index_or}
use Rattle.std.specs.Prelude.{◌&&◌}
use Rattle.std.proofs.lemmas.List.{drop_more}
use Rattle.sl_tmframe.specs.TmDelimited.{tm_frames_of}
use Rattle.sl_merge.specs.Fates.{fits, taken}
use Rattle.sl_merge.specs.Told.{seen_of}
use Rattle.sl_merge.specs.declared.fate.Fate.TheVariants.{Both}
use Rattle.sl_merge.proofs.TakenLemmas.{fits_more, seen_more}
use Rattle.sl_merge.proofs.item.take_frames.Goals as goal
use Rattle.sl_merge.proofs.item.take_frames.Goals.{then-fits, else-fits}

pub loop-fate-preserved : goal.loop-fate-preserved
loop-fate-preserved c =
    let fates = c.args.fates.now in
    let i = c.loop-fate.fate-index in
    let fate = slice_index_or fates i Both in
    let later = drop (i + 1) fates in
    let below : i < length fates = omega arith in
    let len = c.args.shape.now.len in
    let see = seen_of c.args.shape.now c.args.spacecraft in
    let firsts = tm_frames_of len c.loop-fate.firsts.now in
    let seconds = tm_frames_of len c.loop-fate.seconds.now in
    let firsts' = tm_frames_of len c.next_frame.new.firsts.now in
    let seconds' = tm_frames_of len c.next_frame.new.seconds.now in
    let both : c.if-fits.fits ≡ (c.loop-fate.fits && c.in-Some.is_same) = elim c.if-fits.branch [ then-fits w ↦ grind (arith) | else-fits w ↦ grind (arith) ] in
    record {
      taken =
          ap (λ items. items ++ map see (taken later firsts' seconds')) (c.in_ok-push-in-Some.ensures.items ∙ ap (λ s. c.loop-fate.items.items ++ s ∷ []) c.see.ensures)
          ∙ seen_more (drop i fates) later fate firsts seconds (drop_more fates i Both below) c.in-Some.frame.now c.in-Some.is_same firsts' seconds'
          c.in-Some.ensures.found see c.loop-fate.items.items
          ∙ c.loop-fate.invariant.taken;
      fits =
          ap (λ b. b && fits later firsts' seconds') both
          ∙ fits_more (drop i fates) later fate firsts seconds (drop_more fates i Both below) c.in-Some.frame.now c.in-Some.is_same firsts' seconds'
          c.in-Some.ensures.found c.loop-fate.fits
          ∙ c.loop-fate.invariant.fits;
    }
