use Rattle.sl_pair.specs.Pairing.{ByChannel, StandsAfter}
use Rattle.sl_engine.specs.Compare.Text.{channel_text}
use Rattle.sl_engine.specs.Verbs.Packets.Printed.{channel_name}
use Rattle.sl_engine.specs.Io.Output.{KeepsWriter}
use Rattle.sl_engine.proofs.lemmas.Compare.Text.{IsListing}
use Rattle.sl_engine.proofs.compare.text.write_channels.Given as goal

abbrev pub invariant-loop-channel : goal.invariant-loop-channel
invariant-loop-channel g l =
    ((firsts seconds : ByChannel) → StandsAfter l.left firsts seconds → IsListing g.W.Write.contents (channel_text l.each (channel_name l.names) firsts seconds) l.channels l.fn.out l.out l.channel)
    × KeepsWriter l.fn.out l.out
