-- A `Channel` stands for the state of a virtual channel, and for the number of octets that it has
-- memory for. An `Extractor` stands for its eight channels, and for whether a fault came.
use Rattle.std.specs.Vec.{vec_capacity}
use Rattle.sl_tmflow.specs.Channel.{ChannelWithMemory}
use Rattle.sl_tmflow.specs.Extractor.{ExtractorState}
use Rattle.sl_tmflow.specs.Progress.{CanGoOn}
use Rattle.sl_tmflow.specs.declared.channel.Channel.TheInside as channel
use Rattle.sl_tmflow.specs.declared.extractor.Extractor.TheInside as extractor

-- what a `Channel` stands for
abbrev pub channel_with_memory : channel.Inside → ChannelWithMemory
channel_with_memory c =
    record { state = record { count = c.count; held = c.held.items }; capacity = vec_capacity c.held }

-- the octets that are held between frames can go on in the next one
abbrev pub HoldsIncomplete : channel.Inside → Type 0
HoldsIncomplete c = CanGoOn c.held.items

-- what an `Extractor` stands for
abbrev pub extractor_state : extractor.Inside → ExtractorState
extractor_state e = record { channels = e.channels; has_failed = e.has_failed }
