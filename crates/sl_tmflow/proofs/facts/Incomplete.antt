-- Packets that end in the frames of a small channel, and packets that are incomplete after them, computed from the
-- definitions.
use Rattle.std.proofs.Common.{◌≡◌, ℕ, List, [], ◌∷◌, ◌++◌, replicate, None, Some}
use Rattle.sl_tmframe.specs.TmFrame.{TmView, DataField, Packets, Idle, Opaque}
use Rattle.sl_tmflow.specs.Delivery.{packets_ending}
use Rattle.sl_tmflow.specs.Incomplete.{incomplete_of}

-- a frame on virtual channel 0 with this count
abbrev pub frame : ℕ → DataField → TmView
frame count field = record { vc = 0; mc_count = count; vc_count = count; control = None; field = field }

-- a packet of 23 octets
abbrev pub long : List ℕ
long = 0x00 ∷ 0x02 ∷ 0xC0 ∷ 0x05 ∷ 0x00 ∷ 0x10 ∷ replicate 17 0x11

-- a packet of ten octets, in two parts where a frame ends
abbrev pub begun : List ℕ
begun = 0x00 ∷ 0x03 ∷ 0xC0 ∷ []

abbrev pub remainder : List ℕ
remainder = 0x00 ∷ 0x00 ∷ 0x03 ∷ 0x01 ∷ 0x02 ∷ 0x03 ∷ 0x04 ∷ []

-- another packet of ten octets, and an idle packet of nine
abbrev pub packet : List ℕ
packet = 0x00 ∷ 0x01 ∷ 0xC0 ∷ 0x00 ∷ 0x00 ∷ 0x03 ∷ 0xAA ∷ 0xBB ∷ 0xCC ∷ 0xDD ∷ []

abbrev pub idle : List ℕ
idle = 0x07 ∷ 0xFF ∷ 0xC0 ∷ 0x00 ∷ 0x00 ∷ 0x02 ∷ 0x00 ∷ 0x00 ∷ 0x00 ∷ []

-- the first frame with this count
abbrev pub first : ℕ → TmView
first count = frame count (Packets (Some 0) (long ++ begun))

-- a later frame with this count, which ends the packet
abbrev pub second : ℕ → TmView
second count = frame count (Packets (Some 7) (remainder ++ packet ++ idle))

-- a data field that ends with the second part of a packet of 29 octets
abbrev pub covered : List ℕ
covered = 0x00 ∷ 0x00 ∷ 0x16 ∷ replicate 23 0x22

-- a data field that a packet of 55 octets goes through
abbrev pub passed : List ℕ
passed = 0x00 ∷ 0x00 ∷ 0x30 ∷ replicate 23 0x33

pub record AreComputed : Type 0 where
  pub first_ends : packets_ending [] (first 0) ≡ long ∷ []
  pub first_holds : incomplete_of (first 0 ∷ []) ≡ begun ∷ []
  pub second_ends : packets_ending (first 0 ∷ []) (second 1) ≡ (begun ++ remainder) ∷ packet ∷ idle ∷ []
  pub second_holds : incomplete_of (first 0 ∷ second 1 ∷ []) ≡ []
  -- a frame is missing
  pub gap_ends : packets_ending (first 0 ∷ []) (second 2) ≡ packet ∷ idle ∷ []
  pub gap_holds : incomplete_of (first 0 ∷ second 2 ∷ []) ≡ []
  -- count 0 follows 255, and 255 doesn't
  pub next_count : packets_ending (first 255 ∷ []) (second 0) ≡ (begun ++ remainder) ∷ packet ∷ idle ∷ []
  pub same_count : packets_ending (first 255 ∷ []) (second 255) ≡ packet ∷ idle ∷ []

pub are_computed : AreComputed
are_computed = assumption

-- frames between the two
pub record GoThrough : Type 0 where
  -- an idle frame adds nothing
  pub idle_holds : incomplete_of (first 0 ∷ frame 1 Idle ∷ []) ≡ begun ∷ []
  pub idle_ends : packets_ending (first 0 ∷ frame 1 Idle ∷ []) (second 2) ≡ (begun ++ remainder) ∷ packet ∷ idle ∷ []
  -- the count of an idle frame is one of the channel's
  pub idle_counts : packets_ending (first 0 ∷ frame 1 Idle ∷ []) (second 1) ≡ packet ∷ idle ∷ []
  -- an opaque frame breaks the packet
  pub opaque_holds : incomplete_of (first 0 ∷ frame 1 Opaque ∷ []) ≡ []
  pub opaque_ends : packets_ending (first 0 ∷ frame 1 Opaque ∷ []) (second 2) ≡ packet ∷ idle ∷ []
  -- a frame in which no packet starts adds its data field
  pub none_holds : incomplete_of (first 0 ∷ frame 1 (Packets None passed) ∷ []) ≡ (begun ++ passed) ∷ []
  pub none_ends : packets_ending (first 0 ∷ []) (frame 1 (Packets None passed)) ≡ []
  -- a frame in which a packet starts is the last one
  pub start_holds : incomplete_of (first 0 ∷ frame 1 (Packets (Some 0) passed) ∷ []) ≡ passed ∷ []

pub go_through : GoThrough
go_through = assumption

-- the pointer of the frame in which a packet ends
pub record EndByPointers : Type 0 where
  -- a packet covers a data field to its end, and the pointer says that no packet starts in it
  pub covers_ends : packets_ending (first 0 ∷ []) (frame 1 (Packets None covered)) ≡ (begun ++ covered) ∷ []
  pub covers_holds : incomplete_of (first 0 ∷ frame 1 (Packets None covered) ∷ []) ≡ []
  -- a packet covers a data field to its end, and the pointer says that a packet starts at 0
  pub at_0_ends : packets_ending (first 0 ∷ []) (frame 1 (Packets (Some 0) covered)) ≡ []
  pub at_0_holds : incomplete_of (first 0 ∷ frame 1 (Packets (Some 0) covered) ∷ []) ≡ covered ∷ []
  -- a packet ends within a data field, and the pointer says that no packet starts in it
  pub none_ends : packets_ending (first 0 ∷ []) (frame 1 (Packets None (remainder ++ packet ++ idle))) ≡ []
  pub none_holds : incomplete_of (first 0 ∷ frame 1 (Packets None (remainder ++ packet ++ idle)) ∷ []) ≡ []
  -- a packet ends within a data field, and the pointer is past its end
  pub past_ends : packets_ending (first 0 ∷ []) (frame 1 (Packets (Some 17) (remainder ++ packet ++ idle))) ≡ idle ∷ []

pub end_by_pointers : EndByPointers
end_by_pointers = assumption
