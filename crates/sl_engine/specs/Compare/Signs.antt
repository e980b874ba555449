-- Signs in a recording by which an option may be doubted.
use Rattle.std.specs.Prelude.{◌≡◌, ℕ, Bool, true, false, List, length, replicate, take, Option, None, Some}
use Rattle.std.specs.List.{filter, slice_set}
use Rattle.sl_fields.specs.Fecf.{fecf_is_good}
use Rattle.sl_engine.specs.declared.compare.signs.Signs.{Signs}

-- the frames whose error control is looked at
abbrev pub looked_at : ℕ
looked_at = 1000

-- The signs in frames: `is_own` holds of the frames of the spacecraft, `is_long` of those that are longer than the
-- greatest length, and `begun` says of frames on which virtual channels one was read.
abbrev pub signs_by : (List ℕ → Bool) → (List ℕ → Bool) → (List (List ℕ) → List Bool) → List (List ℕ) → Signs
signs_by is_own is_long begun frames =
    record {
      own = length (filter is_own frames);
      right = length (filter fecf_is_good (take looked_at (filter is_own frames)));
      long = length (filter is_long (filter is_own frames));
      begun = begun frames;
    }

-- ---- while frames are taken. Contracts of private functions alone cite this.

-- no frame was read on any virtual channel
abbrev pub no_channels : List Bool
no_channels = replicate 8 false

-- these are the signs of frames, but for the virtual channels
pub record AreOwn (is_own is_long : List ℕ → Bool) (frames : List (List ℕ)) (signs : Signs) : Type 0 where
  pub own : signs.own ≡ length (filter is_own frames)
  pub right : signs.right ≡ length (filter fecf_is_good (take looked_at (filter is_own frames)))
  pub long : signs.long ≡ length (filter is_long (filter is_own frames))

-- a frame was read on a virtual channel, or on none
abbrev pub with_channel : List Bool → Option ℕ → List Bool
with_channel begun None = begun
with_channel begun (Some vc) = slice_set begun vc true
