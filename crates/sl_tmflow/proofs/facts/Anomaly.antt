-- Anomalies at the next frame of a small channel, computed from the definitions.
use Rattle.std.proofs.Common.{◌≡◌, ℕ, true, false, List, [], ◌∷◌, ◌++◌, None, Some}
use Rattle.sl_tmframe.specs.TmFrame.{Packets, Idle, Opaque}
use Rattle.sl_tmflow.specs.Anomaly.{broken_off, dropped_of, foreign_of, gap_of}
use Rattle.sl_tmflow.proofs.facts.Incomplete.{frame, long, begun, remainder, packet, idle, covered, passed, first, second}

-- the count that was expected
pub record AreGaps : Type 0 where
  pub at_first : gap_of [] (first 7) ≡ None
  pub at_next : gap_of (first 0 ∷ []) (second 1) ≡ None
  pub at_next_count : gap_of (first 255 ∷ []) (second 0) ≡ None
  -- a frame is missing, or comes twice
  pub missing : gap_of (first 0 ∷ []) (second 2) ≡ Some 1
  pub twice : gap_of (first 0 ∷ second 1 ∷ []) (second 1) ≡ Some 2
  -- count 0 is the next one after 255
  pub after_255 : gap_of (first 255 ∷ []) (second 1) ≡ Some 0
  -- idle and opaque frames count too
  pub after_idle : gap_of (first 0 ∷ frame 1 Idle ∷ []) (second 1) ≡ Some 2
  pub at_idle : gap_of (first 0 ∷ []) (frame 2 Idle) ≡ Some 1
  pub at_opaque : gap_of (first 0 ∷ []) (frame 2 Opaque) ≡ Some 1

pub are_gaps : AreGaps
are_gaps = assumption

-- the octets so far of the packet that the frame breaks off
pub record AreBrokenOff : Type 0 where
  pub at_first : broken_off [] (first 0) ≡ []
  -- none where the packet ends or goes on
  pub at_end : broken_off (first 0 ∷ []) (second 1) ≡ []
  pub at_idle : broken_off (first 0 ∷ []) (frame 1 Idle) ≡ []
  pub at_none : broken_off (first 0 ∷ []) (frame 1 (Packets None passed)) ≡ []
  -- at a gap, whatever the frame carries
  pub at_gap : broken_off (first 0 ∷ []) (second 2) ≡ begun ∷ []
  pub at_idle_gap : broken_off (first 0 ∷ []) (frame 2 Idle) ≡ begun ∷ []
  -- at an opaque frame
  pub at_opaque : broken_off (first 0 ∷ []) (frame 1 Opaque) ≡ begun ∷ []
  -- at a pointer that doesn't agree
  pub at_start : broken_off (first 0 ∷ []) (frame 1 (Packets (Some 0) passed)) ≡ begun ∷ []
  pub at_0 : broken_off (first 0 ∷ []) (frame 1 (Packets (Some 0) covered)) ≡ begun ∷ []
  pub at_no_start : broken_off (first 0 ∷ []) (frame 1 (Packets None (remainder ++ packet ++ idle))) ≡ begun ∷ []
  pub at_past : broken_off (first 0 ∷ []) (frame 1 (Packets (Some 17) (remainder ++ packet ++ idle))) ≡ begun ∷ []
  -- the octets of all frames that the packet went through
  pub counted : dropped_of (first 0 ∷ []) (second 2) ≡ 3
  pub counted_more : dropped_of (first 0 ∷ frame 1 (Packets None passed) ∷ []) (frame 2 Opaque) ≡ 29
  pub counted_none : dropped_of (first 0 ∷ frame 1 Opaque ∷ []) (second 3) ≡ 0

pub are_broken_off : AreBrokenOff
are_broken_off = assumption

-- octets of another version
abbrev other : List ℕ
other = 0x20 ∷ 0x00 ∷ 0xC0 ∷ []

pub record AreForeign : Type 0 where
  pub at_packets : foreign_of (Packets (Some 0) (packet ++ idle)) ≡ false
  pub at_begun : foreign_of (Packets (Some 0) (long ++ begun)) ≡ false
  -- at the pointer, after packets, and after idle packets
  pub at_pointer : foreign_of (Packets (Some 7) (remainder ++ other)) ≡ true
  pub at_packet : foreign_of (Packets (Some 7) (remainder ++ packet ++ other)) ≡ true
  pub at_idle : foreign_of (Packets (Some 0) (idle ++ other)) ≡ true
  -- one octet of another version is enough
  pub at_octet : foreign_of (Packets (Some 0) (packet ++ 0xE0 ∷ [])) ≡ true
  -- nothing before the pointer counts, nor where no packet starts
  pub before_pointer : foreign_of (Packets (Some 3) (other ++ packet)) ≡ false
  pub without_start : foreign_of (Packets None other) ≡ false
  pub in_idle : foreign_of Idle ≡ false
  pub in_opaque : foreign_of Opaque ≡ false

pub are_foreign : AreForeign
are_foreign = assumption
