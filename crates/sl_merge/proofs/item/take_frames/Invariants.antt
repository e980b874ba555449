use Rattle.std.proofs.Common.{◌≡◌, ◌++◌, drop, map}
use Rattle.std.specs.Prelude.{◌&&◌}
use Rattle.sl_tmframe.specs.TmDelimited.{tm_frames_of}
use Rattle.sl_merge.specs.Fates.{fits, fits_both, taken, taken_of}
use Rattle.sl_merge.specs.Told.{seen_of}
use Rattle.sl_merge.proofs.item.take_frames.Given as goal

-- what was taken, and what the fates that are left take
abbrev pub invariant-loop-fate : goal.invariant-loop-fate
invariant-loop-fate l =
    record {
      taken : l.items.items ++ map (seen_of l.shape l.spacecraft)
          (taken (drop l.fate-index l.fates) (tm_frames_of l.shape.len l.firsts) (tm_frames_of l.shape.len l.seconds))
          ≡ map (seen_of l.fn.shape l.fn.spacecraft) (taken_of l.fn.shape.len l.fn.one l.fn.other l.fn.fates);
      fits : (l.fits && fits (drop l.fate-index l.fates) (tm_frames_of l.shape.len l.firsts) (tm_frames_of l.shape.len l.seconds))
          ≡ fits_both l.fn.shape.len l.fn.one l.fn.other l.fn.fates;
    }
