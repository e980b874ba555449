-- What a frame of packets does to an incomplete packet, in the code's own words. Only contracts of
-- private functions and types cite this file.
use Rattle.std.specs.Prelude.{◌≡◌, ℕ, ◌+◌, ◌≤◌, List, ◌++◌, length, take, Option}
use Rattle.sl_packet.specs.Front.{Incomplete, front_of}
use Rattle.sl_packet.specs.Packet.{longest_packet}
use Rattle.sl_tmframe.specs.TmFrame.{Packets}
use Rattle.sl_tmflow.specs.declared.progress.Progress.{Progress}
use Rattle.sl_tmflow.specs.declared.progress.Progress.TheVariants as code
use Rattle.sl_tmflow.specs.Incomplete.{longest_incomplete}
use Rattle.sl_tmflow.specs.Delivery.{Continuation, Ends, Continues, Breaks, field_continuation, front_continuation}

-- the continuation that the code's answer stands for, where the packet has these octets so far,
-- those of the frame included
abbrev pub progress_continuation : Progress → List ℕ → Continuation
progress_continuation (code.Ends len) octets = Ends (take len octets)
progress_continuation code.Continues octets = Continues
progress_continuation code.Breaks octets = Breaks

-- These octets are the octets so far of an incomplete packet, or none: the packet can go on.
pub record CanGoOn (octets : List ℕ) : Type 0 where
  pub incomplete : front_of octets ≡ Incomplete
  pub few : length octets ≤ longest_incomplete

-- `part` are octets of the data field that are enough for the incomplete packet, whose octets so
-- far are `held`.
pub record IsEnough (held field part : List ℕ) : Type 0 where
  -- whatever the pointer, these octets do to the packet what the whole field does
  pub continuation :
      (first : Option ℕ)
      → front_continuation first (length held) field (held ++ part) (front_of (held ++ part))
      ≡ field_continuation held (Packets first field)
  -- the octets are the whole field where the packet stays incomplete
  pub all : front_of (held ++ part) ≡ Incomplete → part ≡ field
  -- with these octets the packet is no longer than the longest packet
  pub fits : length held + length part ≤ longest_packet
