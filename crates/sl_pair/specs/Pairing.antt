-- What the store of two recordings stands for: their packets on each channel.
use Rattle.std.specs.Prelude.{◌≡◌, ◌↔◌, ◌==◌, ℕ, cond, IsTrue, List, [], ◌∷◌, ◌++◌, Option, None, Some}
use Rattle.std.specs.List.{slice_get}
use Rattle.std.specs.declared.hash.BuildHasher as builder
use Rattle.std.specs.declared.hash.Hasher as hasher
use Rattle.sl_packet.specs.declared.sink.SinkFault.{SinkFault}
use Rattle.sl_packet.specs.declared.sink.SinkFault.TheVariants.{Memory}
use Rattle.sl_pair.specs.OnlyIn.{Packets, only_in}
use Rattle.sl_pair.specs.Placed.{AreInPlace}
use Rattle.sl_pair.specs.Side.{IsSide}
use Rattle.sl_pair.specs.declared.channel.Channel.{Channel}
use Rattle.sl_pair.specs.declared.channel.Station.{Station}
use Rattle.sl_pair.specs.declared.channel.Station.TheVariants.{First, Second}
use Rattle.sl_pair.specs.declared.pairing.Pairing.{Pairing}

-- the packets of a recording on each channel
abbrev pub ByChannel : Type 0
ByChannel = ℕ → Packets

-- no packet on any channel
abbrev pub no_packets : ByChannel
no_packets channel = []

-- the packets, with one more at the end of a channel's list
abbrev pub with_packet : ByChannel → ℕ → List ℕ → ByChannel
with_packet packets channel packet = λ c. cond (c == channel) (packets c ++ packet ∷ []) (packets c)

-- on no channel has either recording a packet that only it has
abbrev pub NothingIsLeft : ByChannel → ByChannel → Type 0
NothingIsLeft firsts seconds =
    (channel : ℕ)
    → (only_in (firsts channel) (seconds channel) ≡ []) × (only_in (seconds channel) (firsts channel) ≡ [])

-- both recordings have the same packets in the same order on each channel
abbrev pub HaveSame : ByChannel → ByChannel → Type 0
HaveSame firsts seconds = (channel : ℕ) → firsts channel ≡ seconds channel

module _ {S T : Type 0} {b : builder.Ghosts S T} {h : hasher.Ghosts T} where
  -- A channel after these packets of the first recording and those of the second one came: of each the copies without a
  -- counterpart wait, and the flag tells whether each counterpart has the same number.
  pub record IsChannel (c : Channel S T b h) (firsts seconds : Packets) : Type 0 where
    pub first : IsSide c.first firsts seconds
    pub second : IsSide c.second seconds firsts
    pub in_place : IsTrue c.in_place ↔ AreInPlace firsts seconds

  -- the channel of a store; where the store has none, no packet came
  abbrev pub IsChannelAt : Option (Channel S T b h) → Packets → Packets → Type 0
  IsChannelAt None firsts seconds = (firsts ≡ []) × (seconds ≡ [])
  IsChannelAt (Some c) firsts seconds = IsChannel c firsts seconds

  -- these are the channels from 0 on
  abbrev pub AreChannels : List (Channel S T b h) → ByChannel → ByChannel → Type 0
  AreChannels channels firsts seconds =
      (channel : ℕ) → IsChannelAt (slice_get channels channel) (firsts channel) (seconds channel)

  -- The store stands after these packets of the first recording and those of the second one, in whatever turns they
  -- came. It may stand after many: it doesn't keep the packets that were paired.
  abbrev pub StandsAfter : Pairing S T b h → ByChannel → ByChannel → Type 0
  StandsAfter p firsts seconds = AreChannels p.channels.items firsts seconds

  -- the recording whose packets come
  abbrev pub turn_of : Pairing S T b h → Station
  turn_of p = p.turn

  -- the count of refused packets
  abbrev pub failures_of : Pairing S T b h → ℕ
  failures_of p = p.failures

-- Of two things, one of each recording, those of this station and of the other one, as `holds` takes them: the first
-- recording's before the second's.
abbrev pub in_order : {X : Type 0} → Station → (X → X → Type 0) → X → X → Type 0
in_order First holds own others = holds own others
in_order Second holds own others = holds others own

module _ {S T : Type 0} {b : builder.Ghosts S T} {h : hasher.Ghosts T} where
  -- The next packet of the recording whose turn it is was taken, on this channel. The turn stays.
  pub record TakesPacket (old : Pairing S T b h) (channel : ℕ) (packet : List ℕ) (new : Pairing S T b h) : Type 0 where
    pub turn : turn_of new ≡ turn_of old
    pub taken : (own others : ByChannel) → in_order (turn_of old) (StandsAfter old) own others
        → in_order (turn_of old) (StandsAfter new) (with_packet own channel packet) others

  -- A packet is refused only where memory is refused. Nothing more is known of the store then.
  abbrev pub RefusesPacket : Pairing S T b h → ℕ → List ℕ → SinkFault → Pairing S T b h → Type 0
  RefusesPacket old channel packet fault new = fault ≡ Memory
