-- What is read of files in which it is known what should be read.
use Rattle.std.specs.Prelude.{◌≡◌, ℕ, zero, suc, ◌+◌, ◌/◌, ◌<◌, ◌≤◌, true, false, List, [], ◌∷◌, ◌++◌, length}
use Rattle.std.specs.Prelude.{drop, map, flat_map, replicate}
use Rattle.std.specs.List.{AllByRecursion, concat}
use Rattle.sl_sync.specs.Cadu.{cadu_rule, frame_of, has_marker, stride}
use Rattle.sl_sync.specs.Cltu.{cltu_of, cltu_rule, filled, has_frame, stated}
use Rattle.sl_sync.specs.Units.{Content, Part, unit, stray, parts_of, frames_text}
use Rattle.sl_sync.specs.declared.cadu.CaduShape.{CaduShape}
use Rattle.sl_sync.specs.declared.cltu.CltuShape.{CltuShape}
use Rattle.sl_sync.specs.declared.units.Place.{Place}
use Rattle.sl_sync.specs.declared.units.Place.TheVariants.{Start}

-- what is read of a unit in which nothing is wrong
abbrev pub read_of : List (List ℕ) → Part
read_of frames = let content : Content = record { frames = frames; marked = true; cut = 0; refused = false } in unit content

-- ---- units of one length

-- octets that are a whole unit with its marker, of whose bits some may be wrong
pub record IsWholeUnit (s : CaduShape) (octets : List ℕ) : Type 0 where
  pub long : length octets ≡ stride s
  pub marked : has_marker s octets ≡ true

-- what is read of it
abbrev pub read_unit : CaduShape → List ℕ → Part
read_unit s octets = read_of (frame_of s octets ∷ [])

-- Of whole units end to end the frame of each is read, and no octet is stray, whatever else the units hold.
abbrev pub WholeUnitsAreRead : Type 0
WholeUnitsAreRead =
    (s : CaduShape) (place : Place) (units : List (List ℕ)) → AllByRecursion (IsWholeUnit s) units
    → parts_of (cadu_rule s) place (concat units) ≡ map (read_unit s) units

-- Whole units stand before other octets, and again behind them. Those before are all read, but perhaps not the last one.
-- Those behind are all read from the second one on, where in the second and the third no marker stands but their own.
abbrev pub UnitsAroundAreRead : Type 0
UnitsAroundAreRead =
    (s : CaduShape) (place : Place) (before : List (List ℕ)) (last octets first second third : List ℕ)
    (behind : List (List ℕ)) → AllByRecursion (IsWholeUnit s) before → IsWholeUnit s last → IsWholeUnit s first
    → AllByRecursion (IsWholeUnit s) (second ∷ third ∷ behind)
    → ((j : ℕ) → 0 < j → j < stride s
    → (has_marker s (drop j (concat (second ∷ third ∷ behind))) ≡ false)
    × (has_marker s (drop (stride s + j) (concat (second ∷ third ∷ behind))) ≡ false))
    → (between : List Part)
    × (parts_of (cadu_rule s) place (concat before ++ (last ++ (octets ++ (first ++ concat (second ∷ third ∷ behind)))))
    ≡ map (read_unit s) before ++ (between ++ map (read_unit s) (second ∷ third ∷ behind)))

-- the frames of this number of units, which lie end to end from the first octet on
abbrev pub cuts : CaduShape → ℕ → List ℕ → List (List ℕ)
cuts s zero octets = []
cuts s (suc n) octets = frame_of s octets ∷ cuts s n (drop (stride s) octets)

-- Without a marker the frames are those of units end to end from the first octet on, as many as have their frame whole.
abbrev pub FixedCutsAreRead : Type 0
FixedCutsAreRead =
    (s : CaduShape) (file : List ℕ) → s.marker.octets ≡ []
    → frames_text (cadu_rule s) file ≡ concat (cuts s ((length file + s.trail) / stride s) file)

-- ---- CLTUs

-- a transfer frame of version 0 that states its length
pub record IsTransferFrame (frame : List ℕ) : Type 0 where
  pub whole : has_frame frame ≡ true
  pub states : stated frame ≡ length frame

-- frames that a CLTU can have: one or more, in 1024 code blocks at most
pub record FitCltu (frames : List (List ℕ)) : Type 0 where
  pub each : AllByRecursion IsTransferFrame frames
  pub some : 1 ≤ length frames
  pub few : length (filled (concat frames)) ≤ 7168

-- what is read of the CLTU of frames: these frames, and the eight octets of its tail sequence are stray
abbrev pub read_cltu : List (List ℕ) → List Part
read_cltu frames = read_of frames ∷ replicate 8 (stray Start)

-- Of CLTUs end to end, each of some frames, exactly these frames are read, plain and randomised, and no block is refused.
abbrev pub CltusAreRead : Type 0
CltusAreRead =
    (s : CltuShape) (place : Place) (cltus : List (List (List ℕ))) → AllByRecursion FitCltu cltus
    → parts_of (cltu_rule s) place (concat (map (cltu_of s.randomised) cltus)) ≡ flat_map read_cltu cltus
