-- The packets of a recording that are stored, and their normal form, which is made and written piece by piece, whatever
-- kind its frames are.
use Rattle.std.specs.Prelude.{◌≡◌, ℕ, ◌<◌, List, [], Option, take}
use Rattle.std.specs.List.{slice_index_or}
use Rattle.sl_io.specs.declared.counted.Counted.{Counted}
use Rattle.sl_io.specs.declared.fault.LinkFault.{LinkFault}
use Rattle.sl_io.specs.declared.fault.LinkFault.TheVariants.{Memory}
use Rattle.sl_engine.specs.Io.Streams.{ReadsAll}
use Rattle.sl_engine.specs.Kind.Delivery.{AddsByChannel, AreStored, Kind, counts_in, packets_by_channel}
use Rattle.sl_engine.specs.Link.Totals.{Counts}
use Rattle.sl_engine.specs.Tally.{recording_counts}

-- the normal form of a recording's packets
abbrev pub form_text : Kind → (List (List (List ℕ)) → List ℕ) → List ℕ → List ℕ
form_text k form_of recording = form_of (packets_by_channel k recording)

-- ---- what is stored

-- the first lists of those that are stored, one for each channel of the kind
abbrev pub channel_lists : Kind → List (List (List ℕ)) → List (List (List ℕ))
channel_lists k lists = take k.channel_limit lists

-- not all lists of the channels of the kind are empty
abbrev pub HasSome : Kind → List (List (List ℕ)) → Type 0
HasSome k lists = ((channel : ℕ) → channel < k.channel_limit → slice_index_or lists channel [] ≡ []) → ⊥

-- All of a recording was read, its packets are stored, and these are its counts.
pub record StoresAll {R : Type 0} (remaining : R → Option (List ℕ)) (reader reader' : Counted R) (k : Kind) (limit : ℕ)
    (lists : List (List (List ℕ))) (totals : Counts) : Type 0 where
  pub octets : List ℕ
  pub all : ReadsAll remaining reader reader' limit octets
  pub adds : AddsByChannel k
  pub stored : AreStored k (k.frames_of octets) lists
  pub counts : totals ≡ recording_counts (counts_in k) k.frames_of octets

-- memory was refused, where `at_memory` holds
abbrev pub IsMemoryRefused : Type 0 → LinkFault → Type 0
IsMemoryRefused at_memory fault = (fault ≡ Memory) × at_memory

-- ---- room

-- octets enough for a piece of either kind: one of TM wants room for 90,112, one of TC for 131,091 (`piece_room` of the
-- flow crates); this is a round number above both
abbrev pub piece_size : ℕ
piece_size = 0x30000

-- the octets that a text has room for once memory was taken: those that wait when a piece is added,
-- and a piece
abbrev pub form_size : ℕ
form_size = 0x40000
