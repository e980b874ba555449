-- Communications link transmission units (CLTUs), CCSDS 231.0-B: a start sequence, code blocks and a tail sequence. The
-- data of the blocks are transfer frames of CCSDS 232.0-B end to end, and fill.
use Rattle.std.specs.Prelude.{ℕ, zero, suc, ◌+◌, ◌-◌, ◌*◌, ◌/◌, ◌%◌, Bool, true, false, ◌&&◌, not}
use Rattle.std.specs.Prelude.{List, [], ◌∷◌, ◌++◌, length, take, drop, slice_index, nat_le, nat_lt, replicate}
use Rattle.std.specs.Prelude.{if◌then◌else◌}
use Rattle.std.specs.List.{concat}
use Rattle.sl_sync.specs.CodeBlock.{is_block, blocks, data_of, coded}
use Rattle.sl_sync.specs.Marker.{Marker, is_marked}
use Rattle.sl_sync.specs.Randomiser.{randomised_if}
use Rattle.sl_sync.specs.Units.{Content, Rule}
use Rattle.sl_sync.specs.declared.cltu.CltuShape.{CltuShape}
use Rattle.sl_sync.specs.declared.randomiser.Randomiser.TheVariants.{Tc}
use Rattle.sl_sync.specs.declared.units.Place.{Place}
use Rattle.sl_sync.specs.declared.units.Place.TheVariants.{Start}

-- the start sequence
abbrev pub start_sequence : List ℕ
start_sequence = 0xEB ∷ 0x90 ∷ []

-- the tail sequence, whose parity isn't that of a code block
abbrev pub tail_sequence : List ℕ
tail_sequence = 0xC5 ∷ 0xC5 ∷ 0xC5 ∷ 0xC5 ∷ 0xC5 ∷ 0xC5 ∷ 0xC5 ∷ 0x79 ∷ []

-- a sequence is here, or as much of it as the file still has, with no more wrong bits than the shape allows
abbrev pub has_sequence : CltuShape → List ℕ → List ℕ → Bool
has_sequence s sequence octets = let m : Marker = record { octets = sequence; errors = s.errors } in is_marked m octets

-- one begins here: the start sequence and a right code block
unfoldable pub cltu_begins : CltuShape → Place → List ℕ → Bool
cltu_begins s place octets = has_sequence s start_sequence octets && is_block (drop 2 octets)

-- a CLTU ends after this number of code blocks, if it doesn't before
abbrev pub most_blocks : ℕ
most_blocks = 1024

-- how many code blocks the CLTU has that begins here
abbrev pub block_count : List ℕ → ℕ
block_count octets = blocks most_blocks (drop 2 octets)

-- its octets: the start sequence and the code blocks
abbrev pub cltu_size : List ℕ → ℕ
cltu_size octets = 8 * block_count octets + 2

-- the data of its code blocks, without the randomiser's sequence
abbrev pub cltu_data : CltuShape → List ℕ → List ℕ
cltu_data s octets = randomised_if s.randomised Tc (data_of (block_count octets) (drop 2 octets))

-- ---- the frames in the data of a CLTU

-- the octets of the frame at the front, as its header states them
abbrev pub stated : List ℕ → ℕ
stated octets = slice_index octets 2 % 4 * 256 + slice_index octets 3 + 1

-- a whole frame of version 0 is at the front, which has the five octets of its header
unfoldable pub has_frame : List ℕ → Bool
has_frame octets = nat_le 5 (stated octets) && (nat_le (stated octets) (length octets) && nat_lt (slice_index octets 0) 64)

-- The whole frames at the front, end to end, up to the first place at which none is. The first number is how many octets
-- belong to the last frame still.
unfoldable pub frames_from : ℕ → List ℕ → List (List ℕ)
frames_from k [] = []
frames_from (suc k) (o ∷ octets) = frames_from k octets
frames_from zero (o ∷ octets) =
    elim (has_frame (o ∷ octets)) [
      | true ↦ take (stated (o ∷ octets)) (o ∷ octets) ∷ frames_from (stated (o ∷ octets) - 1) octets
      | false ↦ []
    ]

-- the whole frames at the front
abbrev pub frames_in : List ℕ → List (List ℕ)
frames_in octets = frames_from 0 octets

-- Of these octets behind the last whole frame, those of a frame that isn't whole. Fewer than seven are the fill of the
-- last code block.
abbrev pub cut_octets : ℕ → ℕ
cut_octets left = if nat_lt left 7 then 0 else left

-- A block that is refused: eight octets behind the last right code block, which aren't the tail sequence. So it is the
-- block of a CLTU that goes on, and the frames in the rest of the CLTU are lost.
abbrev pub is_refused : CltuShape → List ℕ → Bool
is_refused s octets = nat_le 8 (length octets) && not (has_sequence s tail_sequence octets)

-- what the CLTU holds that begins here
unfoldable pub cltu_content : CltuShape → List ℕ → Content
cltu_content s octets =
    record {
      frames = frames_in (cltu_data s octets);
      marked = true;
      cut = cut_octets (length (cltu_data s octets) - length (concat (frames_in (cltu_data s octets))));
      refused = is_refused s (drop (cltu_size octets) octets);
    }

-- CLTUs. Other octets may lie between them, so none goes astray.
abbrev pub cltu_rule : CltuShape → Rule
cltu_rule s = record {
  begins = cltu_begins s;
  size = cltu_size;
  content = cltu_content s;
  behind = λ place octets. Start;
  ahead = 8 * most_blocks + 10;
}

-- ---- the CLTU of frames

-- octets, and behind them fewer than seven of fill, with which they are whole code blocks
abbrev pub filled : List ℕ → List ℕ
filled octets = octets ++ replicate ((7 - length octets % 7) % 7) 0x55

-- the CLTU of frames: the start sequence, the code blocks and the tail sequence
abbrev pub cltu_of : Bool → List (List ℕ) → List ℕ
cltu_of on frames =
    start_sequence ++ coded (length (filled (concat frames)) / 7) (randomised_if on Tc (filled (concat frames)))
    ++ tail_sequence
