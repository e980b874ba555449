-- What normal forms tell of the packets of recordings, under one and the same managed parameters.
use Rattle.std.specs.Prelude.{◌≡◌, ◌↔◌, ℕ, List}
use Rattle.sl_engine.specs.Kind.Tc.{tc_packets}
use Rattle.sl_engine.specs.Kind.Tm.{tm_packets}
use Rattle.sl_engine.specs.Link.Managed.{AreAccepted, Parameters}
use Rattle.sl_engine.specs.Normalise.Tc.{tc_normal_form}
use Rattle.sl_engine.specs.Normalise.Tm.{tm_normal_form}

-- The normal form of a recording delivers the packets that the recording delivers. So two normal forms are equal
-- octet for octet exactly where the recordings deliver the same packets, and a normal form is its own normal form.
pub record FormsTellPackets (packets : List ℕ → List (List (List ℕ))) (form : List ℕ → List ℕ) : Type 0 where
  pub deliver : (recording : List ℕ) → packets (form recording) ≡ packets recording
  pub exactly : (x y : List ℕ) → (form x ≡ form y) ↔ (packets x ≡ packets y)
  pub once : (recording : List ℕ) → form (form recording) ≡ form recording

-- ---- laws

-- Normal forms of TM recordings tell the packets on each virtual channel,
abbrev pub TmFormsTellPackets : Type 0
TmFormsTellPackets = (p : Parameters) → AreAccepted p → FormsTellPackets (tm_packets p) (tm_normal_form p)

-- and those of TC recordings the packets on each virtual channel and MAP.
abbrev pub TcFormsTellPackets : Type 0
TcFormsTellPackets = (p : Parameters) → AreAccepted p → FormsTellPackets (tc_packets p) (tc_normal_form p)
