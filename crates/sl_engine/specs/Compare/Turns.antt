-- Two recordings that are read in turns. Contracts of private functions alone cite this.
use Rattle.std.specs.Prelude.{◌≡◌, ◌+◌, ◌-◌, ◌≤◌, ℕ, Bool, cond, List, Option, length, take}
use Rattle.std.specs.declared.hash.BuildHasher as builder
use Rattle.std.specs.declared.hash.Hasher as hasher
use Rattle.sl_packet.specs.Packets.{without_idle}
use Rattle.sl_pair.specs.Pairing.{ByChannel, StandsAfter, in_order, turn_of}
use Rattle.sl_pair.specs.declared.pairing.Pairing.{Pairing}
use Rattle.sl_io.specs.declared.counted.Counted.{Counted}
use Rattle.sl_engine.specs.Framing.{HasCutAll, HasPassed}
use Rattle.sl_engine.specs.Kind.Delivery.{Kind}
use Rattle.sl_engine.specs.Link.Managed.{Parameters}

-- the packets that frames deliver on a channel, idle packets left out
abbrev pub packets_on : Kind → List (List ℕ) → ByChannel
packets_on k frames channel = without_idle (k.packets frames channel)

-- These frames of a recording were processed, and counted: `counted` says so. The store of both recordings stood after
-- the first `n` of them, and now stands after all of them, whatever came of the other recording before: of it nothing
-- came since.
pub record GoesOn {S T : Type 0} {b : builder.Ghosts S T} {h : hasher.Ghosts T} (k : Kind)
    (counted : List (List ℕ) → Type 0) (n : ℕ) (old new : Pairing S T b h) (frames : List (List ℕ)) : Type 0 where
  pub delivered : counted frames
  pub some : n ≤ length frames
  pub turn : turn_of new ≡ turn_of old
  pub paired : (others : ByChannel)
      → in_order (turn_of old) (StandsAfter old) (packets_on k (take n frames)) others
      → in_order (turn_of old) (StandsAfter new) (packets_on k frames) others

module _ {R F : Type 0} (remaining : R → Option (List ℕ)) (is_frame : Parameters → List ℕ → Type 0)
    (waits : F → Parameters → List ℕ → Type 0) (frames_of : Parameters → List ℕ → List (List ℕ))
    (counted : List (List ℕ) → Type 0) (p : Parameters) where
  -- These octets of a recording were read so far, and their frames were cut, processed and counted.
  abbrev pub IsReadSoFar : Counted R → Counted R → F → ℕ → List ℕ → Type 0
  IsReadSoFar begun reader framer octets so_far =
      HasPassed remaining begun reader p.max_octets octets
      (HasCutAll is_frame waits frames_of counted p framer) so_far

-- how many octets more may come of a recording, and one more for its end
abbrev pub left_to_read : ℕ → ℕ → Bool → ℕ
left_to_read limit octets is_read = cond is_read 0 (limit + 1 - octets)
