-- Whether two recordings deliver the same packets. `packets` gives those of a recording.
use Rattle.std.specs.Prelude.{◌≡◌, ◌⊎◌, ◌↔◌, ◌<◌, ◌≤◌, ℕ, List, Bool, IsTrue, Option}
use Rattle.sl_io.specs.declared.counted.Counted.{Counted}
use Rattle.sl_io.specs.declared.fault.LinkFault.{LinkFault}
use Rattle.sl_io.specs.declared.fault.LinkFault.TheVariants.{Memory, TooLong}
use Rattle.sl_tcframe.specs.TcDelimited.{tc_frames_of}
use Rattle.sl_tmframe.specs.TmDelimited.{tm_frames_of}
use Rattle.sl_engine.specs.Io.Streams.{ReadsAll}
use Rattle.sl_engine.specs.Kind.Tc.{MayRefuseStoreMemoryTc}
use Rattle.sl_engine.specs.Kind.Tm.{MayRefuseStoreMemoryTm}
use Rattle.sl_engine.specs.Link.Managed.{Parameters, tc_format}
use Rattle.sl_engine.specs.Framing.{MayRefuseMemoryIn}

module _ {A B : Type 0} (remaining : A → Option (List ℕ)) (others : B → Option (List ℕ)) where
  -- Both recordings were read, `limit` octets of each at most, and the answer is true exactly where
  -- their packets are the same.
  pub record ComparesPackets (one one' : Counted A) (other other' : Counted B)
      (packets : List ℕ → List (List (List ℕ))) (limit : ℕ) (same : Bool) : Type 0 where
    pub first : List ℕ
    pub second : List ℕ
    pub first_read : ReadsAll remaining one one' limit first
    pub second_read : ReadsAll others other other' limit second
    pub reported : IsTrue same ↔ (packets first ≡ packets second)

-- The fault of a comparison of recordings in memory, the longer of which has `octets`: `TooLong` where these are over
-- the limit, and only there; else `Memory`, and `at_memory` holds.
abbrev pub StopsInMemory : ℕ → ℕ → Type 0 → LinkFault → Type 0
StopsInMemory limit octets at_memory fault =
    ((fault ≡ TooLong) × (limit < octets)) ⊎ ((fault ≡ Memory) × (octets ≤ limit) × at_memory)

-- Memory for the store may be refused, where the recording is a slice: at some frame a packet (TM) or a series (TC) is
-- incomplete, before it or after it, or a packet was delivered.
abbrev pub MayRefuseStoreMemoryInTm : Parameters → List ℕ → Type 0
MayRefuseStoreMemoryInTm p = MayRefuseMemoryIn (tm_frames_of p.tm_length) (MayRefuseStoreMemoryTm p)

abbrev pub MayRefuseStoreMemoryInTc : Parameters → List ℕ → Type 0
MayRefuseStoreMemoryInTc p = MayRefuseMemoryIn (tc_frames_of (tc_format p)) (MayRefuseStoreMemoryTc p)
