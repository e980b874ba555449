-- The incomplete series of all channels. Past the end of the list no series is incomplete.
use Rattle.std.specs.Prelude.{◌≡◌, ◌≢◌, ℕ, List, Option, None}
use Rattle.std.specs.List.{slice_index_or}

-- The incomplete series, and for how many channels there is memory.
pub record IncompleteSeries : Type 0 where
  -- For each channel the octets so far of its incomplete series, if there is one. The list reaches
  -- up to the greatest channel on which a first segment has come.
  pub list : List (Option (List ℕ))
  -- for how many channels the list has memory
  pub capacity : ℕ

-- the octets so far of the incomplete series of a channel, if there is one
abbrev pub at : List (Option (List ℕ)) → ℕ → Option (List ℕ)
at list channel = slice_index_or list channel None

-- the new list has this value at this channel, and elsewhere the values of the old one
pub record IsPlaced (old : List (Option (List ℕ))) (channel : ℕ) (value : Option (List ℕ))
    (new : List (Option (List ℕ))) : Type 0 where
  pub here : at new channel ≡ value
  pub others : (other : ℕ) → other ≢ channel → at new other ≡ at old other
