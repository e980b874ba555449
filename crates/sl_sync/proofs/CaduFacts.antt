-- Known units of one length.
use Rattle.std.proofs.Common.{◌≡◌, ℕ, true, false, List, [], ◌∷◌, ◌++◌, refl, lit≤}
use Rattle.std.specs.Int.Count.{ones}
use Rattle.sl_sync.specs.Cadu.{cadu_begins, cadu_rule}
use Rattle.sl_sync.specs.Marker.{Marker}
use Rattle.sl_sync.specs.Randomiser.{added}
use Rattle.sl_sync.specs.Totals.{totals_of}
use Rattle.sl_sync.specs.Units.{parts_of, frames_text}
use Rattle.sl_sync.specs.declared.cadu.CaduShape.{CaduShape}
use Rattle.sl_sync.specs.declared.totals.Totals.{Totals}
use Rattle.sl_sync.specs.declared.units.Place.TheVariants.{Start}

-- the attached sync marker
asm : List ℕ
asm = 0x1A ∷ 0xCF ∷ 0xFC ∷ 0x1D ∷ []

-- units of the marker with no wrong bit, a frame of two octets and one octet of parity
cadus : CaduShape
cadus = let m : Marker = record { octets = asm; errors = 0 } in record { marker = m; lead = 0; len = 2; trail = 1; randomised = false; some = lit≤ tt }

-- frames of two octets with an octet of a station before each
bare : CaduShape
bare = let m : Marker = record { octets = []; errors = 0 } in record { marker = m; lead = 1; len = 2; trail = 0; randomised = true; some = lit≤ tt }

totals : ℕ → ℕ → ℕ → ℕ → Totals
totals frames wrong skipped astray =
    record { frames = frames; wrong_markers = wrong; skipped = skipped; astray = astray; refused_blocks = 0; cut = 0 }

pub record Facts : Type 0 where
  -- two units, and octets before them
  two : frames_text (cadu_rule cadus) (7 ∷ asm ++ 1 ∷ 2 ∷ 0 ∷ [] ++ asm ++ 3 ∷ 4 ∷ 0 ∷ []) ≡ 1 ∷ 2 ∷ 3 ∷ 4 ∷ []
  two_totals : totals_of (parts_of (cadu_rule cadus) Start (7 ∷ asm ++ 1 ∷ 2 ∷ 0 ∷ [] ++ asm ++ 3 ∷ 4 ∷ 0 ∷ [])) ≡ totals 2 0 1 0
  -- a wrong bit in the marker of the second of three: the unit stands between two markers, and is counted
  bridged : frames_text (cadu_rule cadus) (asm ++ 1 ∷ 2 ∷ 0 ∷ 0x1B ∷ 0xCF ∷ 0xFC ∷ 0x1D ∷ 3 ∷ 4 ∷ 0 ∷ [] ++ asm ++ 5 ∷ 6 ∷ 0 ∷ []) ≡ 1 ∷ 2 ∷ 3 ∷ 4 ∷ 5 ∷ 6 ∷ []
  bridged_totals : totals_of (parts_of (cadu_rule cadus) Start (asm ++ 1 ∷ 2 ∷ 0 ∷ 0x1B ∷ 0xCF ∷ 0xFC ∷ 0x1D ∷ 3 ∷ 4 ∷ 0 ∷ [] ++ asm ++ 5 ∷ 6 ∷ 0 ∷ [])) ≡ totals 3 1 0 0
  -- a unit that the end of the file cuts is skipped, and nothing went astray
  cut : totals_of (parts_of (cadu_rule cadus) Start (asm ++ 1 ∷ 2 ∷ 0 ∷ [] ++ asm ++ 3 ∷ [])) ≡ totals 1 0 5 0
  -- an octet too many between two units went astray
  slipped : totals_of (parts_of (cadu_rule cadus) Start (asm ++ 1 ∷ 2 ∷ 0 ∷ [] ++ asm ++ 3 ∷ 4 ∷ 0 ∷ 9 ∷ [] ++ asm ++ 5 ∷ 6 ∷ 0 ∷ [] ++ asm ++ 7 ∷ 8 ∷ 0 ∷ [])) ≡ totals 3 0 8 8
  -- without a marker the units lie end to end; the sequence is taken off each frame
  cuts : frames_text (cadu_rule bare) (9 ∷ 0xFF ∷ 0x48 ∷ 9 ∷ 0xFE ∷ 0x4A ∷ 9 ∷ 1 ∷ []) ≡ 0 ∷ 0 ∷ 1 ∷ 2 ∷ []

pub facts : Facts
unfolding asm cadus bare totals ones cadu_begins added totals_of
facts = record {
  two = refl;
  two_totals = refl;
  bridged = refl;
  bridged_totals = refl;
  cut = refl;
  slipped = refl;
  cuts = refl;
}
