use Rattle.std.proofs.Common.{◌≡◌, ℕ, ◌<◌, true}
use Rattle.sl_tcframe.specs.VcSet.{has_vc}
use Rattle.sl_tcflow.specs.Fits.{FitsOn}
use Rattle.sl_tcflow.proofs.fits.fits_tc.Given as goal

abbrev pub invariant-loop-vc : goal.invariant-loop-vc
invariant-loop-vc l = (vc : ℕ) → vc < l.vc → has_vc l.plain vc ≡ true → FitsOn l.shape l.delivered.lists vc
