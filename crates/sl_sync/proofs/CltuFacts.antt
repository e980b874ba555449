-- Known sequences, code blocks and CLTUs.
use Rattle.std.proofs.Common.{◌≡◌, ℕ, Bool, true, false, List, [], ◌∷◌, refl, lit≤}
use Rattle.std.specs.Int.Count.{ones}
use Rattle.sl_sync.specs.CodeBlock.{is_block, blocks}
use Rattle.sl_sync.specs.Cltu.{tail_sequence, has_frame, frames_from, cltu_begins, cltu_content, cltu_rule, cltu_of}
use Rattle.sl_sync.specs.Randomiser.{added, randomised}
use Rattle.sl_sync.specs.Units.{parts_of, text_of, frames_text}
use Rattle.sl_sync.specs.declared.cltu.CltuShape.{CltuShape}
use Rattle.sl_sync.specs.declared.randomiser.Randomiser.TheVariants.{Tm, Tc}
use Rattle.sl_sync.specs.declared.units.Place.TheVariants.{Start}

-- the shape of CLTUs whose start sequence has no wrong bit
shape : Bool → CltuShape
shape on = record { errors = 0; randomised = on; few = lit≤ tt }

-- a transfer frame of ten octets
frame : List ℕ
frame = 0x20 ∷ 0x01 ∷ 0x14 ∷ 0x09 ∷ 0x3A ∷ 0x10 ∷ 0x01 ∷ 0xC0 ∷ 0x00 ∷ 0xAA ∷ []

-- the frame in two code blocks, with four octets of fill
plain : List ℕ
plain =
    0xEB ∷ 0x90 ∷ 0x20 ∷ 0x01 ∷ 0x14 ∷ 0x09 ∷ 0x3A ∷ 0x10 ∷ 0x01 ∷ 0x2A ∷ 0xC0 ∷ 0x00 ∷ 0xAA ∷ 0x55 ∷ 0x55 ∷ 0x55 ∷ 0x55
    ∷ 0xA8 ∷ 0xC5 ∷ 0xC5 ∷ 0xC5 ∷ 0xC5 ∷ 0xC5 ∷ 0xC5 ∷ 0xC5 ∷ 0x79 ∷ []

-- the same, with the randomiser's sequence on it
mixed : List ℕ
mixed =
    0xEB ∷ 0x90 ∷ 0xDF ∷ 0x38 ∷ 0x8A ∷ 0x53 ∷ 0x52 ∷ 0xF9 ∷ 0x07 ∷ 0x72 ∷ 0x35 ∷ 0x6C ∷ 0x23 ∷ 0x7A ∷ 0xF4 ∷ 0x64 ∷ 0x0B
    ∷ 0xE4 ∷ 0xC5 ∷ 0xC5 ∷ 0xC5 ∷ 0xC5 ∷ 0xC5 ∷ 0xC5 ∷ 0xC5 ∷ 0x79 ∷ []

-- the plain one with a wrong bit in its second code block
broken : List ℕ
broken =
    0xEB ∷ 0x90 ∷ 0x20 ∷ 0x01 ∷ 0x14 ∷ 0x09 ∷ 0x3A ∷ 0x10 ∷ 0x01 ∷ 0x2A ∷ 0xC0 ∷ 0x01 ∷ 0xAA ∷ 0x55 ∷ 0x55 ∷ 0x55 ∷ 0x55
    ∷ 0xA8 ∷ 0xC5 ∷ 0xC5 ∷ 0xC5 ∷ 0xC5 ∷ 0xC5 ∷ 0xC5 ∷ 0xC5 ∷ 0x79 ∷ []

pub record Facts : Type 0 where
  -- the sequence for telemetry begins with FF 48 0E C0 9A, that for telecommand with FF 39 9E 5A 68
  tm_sequence : randomised Tm (0 ∷ 0 ∷ 0 ∷ 0 ∷ 0 ∷ []) ≡ 0xFF ∷ 0x48 ∷ 0x0E ∷ 0xC0 ∷ 0x9A ∷ []
  tc_sequence : randomised Tc (0 ∷ 0 ∷ 0 ∷ 0 ∷ 0 ∷ []) ≡ 0xFF ∷ 0x39 ∷ 0x9E ∷ 0x5A ∷ 0x68 ∷ []
  -- the tail sequence is no code block
  tail : is_block tail_sequence ≡ false
  -- the CLTU of a frame, plain and randomised
  plain_of : cltu_of false (frame ∷ []) ≡ plain
  mixed_of : cltu_of true (frame ∷ []) ≡ mixed
  -- the frame is found in them
  plain_text : frames_text (cltu_rule (shape false)) plain ≡ frame
  mixed_text : frames_text (cltu_rule (shape true)) mixed ≡ frame
  -- nothing is found where a block is refused: the seven octets before it are of a frame that isn't whole
  broken_parts : text_of (parts_of (cltu_rule (shape false)) Start broken) ≡ []

pub facts : Facts
unfolding shape frame plain mixed broken ones blocks has_frame frames_from cltu_begins cltu_content added
facts = record {
  tm_sequence = refl;
  tc_sequence = refl;
  tail = refl;
  plain_of = refl;
  mixed_of = refl;
  plain_text = refl;
  mixed_text = refl;
  broken_parts = refl;
}
