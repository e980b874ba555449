-- What a store keeps of one recording on one channel, after its packets and the other recording's came. Contracts of
-- private functions alone cite this.
use Rattle.std.specs.Prelude.{◌≡◌, ℕ, List, length, map, unwrap_or}
use Rattle.std.specs.Ordering.{nat_cmp}
use Rattle.std.specs.BTreeMap.{get}
use Rattle.std.specs.declared.hash.BuildHasher as builder
use Rattle.std.specs.declared.hash.Hasher as hasher
use Rattle.sl_pair.specs.OnlyIn.{Packets}
use Rattle.sl_pair.specs.Placed.{Placed, count_apid}
use Rattle.sl_pair.specs.Store.{waiting_at}
use Rattle.sl_pair.specs.Waiting.{waiting}
use Rattle.sl_pair.specs.declared.numbering.Numbering.{Numbering}
use Rattle.sl_pair.specs.declared.side.Side.{Side}
use Rattle.sl_pair.specs.declared.waiting.Place.{Place}

-- the numbers of a packet
abbrev pub place_of : Placed → Place
place_of one = record { number = one.number; apid_number = one.apid_number }

-- the packets were counted, those of each APID too
pub record HasCounted (n : Numbering) (packets : Packets) : Type 0 where
  pub all : n.packets ≡ length packets
  pub each : (apid : ℕ) → unwrap_or (get nat_cmp n.of_apid apid) 0 ≡ count_apid apid packets

-- The packets came of this recording, and the others of the other one: of each packet, the copies without a
-- counterpart wait.
pub record IsSide {S T : Type 0} {b : builder.Ghosts S T} {h : hasher.Ghosts T} (s : Side S T b h) (packets others : Packets) : Type 0 where
  pub counted : HasCounted s.numbering packets
  pub waits : (packet : List ℕ) → waiting_at s.waiting packet ≡ map place_of (waiting packet packets others)
