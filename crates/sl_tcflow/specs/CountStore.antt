-- The counts of the incomplete series of all channels.
use Rattle.std.specs.Prelude.{◌<◌, ℕ, List, Option, None}
use Rattle.std.specs.List.{slice_index_or}
use Rattle.sl_packet.specs.Delivered.{channel_count}
use Rattle.sl_tcflow.specs.SeriesStore.{at}
use Rattle.sl_tcflow.specs.UnitCount.{CountsSeries}
use Rattle.sl_tcflow.specs.declared.unit_count.UnitCount.{UnitCount}

-- the count of the incomplete series of a channel, if there is one
abbrev pub count_at : List (Option UnitCount) → ℕ → Option UnitCount
count_at counts channel = slice_index_or counts channel None

-- each count is that of the series that is incomplete on its channel
abbrev pub CountsEach : List (Option (List ℕ)) → List (Option UnitCount) → Type 0
CountsEach list counts = (channel : ℕ) → channel < channel_count → CountsSeries (at list channel) (count_at counts channel)
