-- A recording that is read chunk by chunk, whose frames are handed over one by one.
pub mod Tc
pub mod Tm
use Rattle.std.specs.Prelude.{◌≡◌, ◌≢◌, ℕ, ◌+◌, ◌^◌, ◌<◌, ◌≤◌, ◌⊎◌, List, [], ◌++◌, length, Option, None, Some}
use Rattle.std.specs.Borrow.{Bor}
use Rattle.std.specs.List.{concat, AllByRecursion}
use Rattle.sl_io.specs.declared.counted.Counted.{Counted}
use Rattle.sl_io.specs.declared.fault.LinkFault.{LinkFault}
use Rattle.sl_io.specs.declared.fault.LinkFault.TheVariants.{Memory}
use Rattle.sl_engine.specs.Link.Counted.{faults_of, no_stream}
use Rattle.sl_engine.specs.Link.Managed.{Parameters}
use Rattle.sl_engine.specs.Io.Streams.{IsCaused, IsRead, Reads}

-- the octets that are read at once, at most
abbrev pub chunk_size : ℕ
chunk_size = 0x10000

-- ---- framers

-- The octets that waited, `rest`, and those from the front of a chunk are a frame. `left` is what is left of the chunk.
pub record CutsFrame (is_frame : List ℕ → Type 0) (rest chunk left frame : List ℕ) : Type 0 where
  pub parts : rest ++ chunk ≡ frame ++ left
  pub some : length left < length chunk
  pub whole : is_frame frame

-- `holds` is true for all octets that may wait in the framer, and under all parameters
abbrev pub WaitsFor : {F : Type 0} → (F → Parameters → List ℕ → Type 0) → F → (Parameters → List ℕ → Type 0) → Type 0
WaitsFor waits framer holds = (p : Parameters) (rest : List ℕ) → waits framer p rest → holds p rest

-- after a call that lends a frame no octets wait, and after one that lends none the chunk waits too
abbrev pub WaitsAfter : {F : Type 0} → (F → Parameters → List ℕ → Type 0) → F → Parameters → List ℕ → List ℕ
    → Option (Bor (List ℕ)) → Type 0
WaitsAfter waits new p rest chunk None = waits new p (rest ++ chunk)
WaitsAfter waits new p rest chunk (Some frame) = waits new p []

-- ---- sinks of frames

-- a sink that has taken some frames may take this one
pub record MayTake {S : Type 0} (took : S → S → List (List ℕ) → Type 0) (is_frame : List ℕ → Type 0)
    (now : S) (frame : List ℕ) : Type 0 where
  pub start : S
  pub before : List (List ℕ)
  pub taken : took start now before
  pub whole : is_frame frame
  pub fits : length (concat before) + length frame < 2 ^ 64

-- `holds` is true for every list of frames that the sink has taken, and every value `start` that it began with
abbrev pub After : {S : Type 0} → (S → S → List (List ℕ) → Type 0) → S → (S → List (List ℕ) → Type 0) → Type 0
After {S} took now holds = (start : S) (before : List (List ℕ)) → took start now before → holds start before

-- ---- a whole recording

-- all was read, n octets and no more than the limit, and its frames were taken
pub record PassesOver {R : Type 0} (remaining : R → Option (List ℕ)) (reader reader' : Counted R)
    (frames_of : List ℕ → List (List ℕ)) (taken : List (List ℕ) → Type 0) (limit n : ℕ) : Type 0 where
  pub octets : List ℕ
  pub within : length octets ≤ limit
  pub read : Reads remaining reader reader' octets
  pub to_end : IsRead remaining reader'
  pub no_fault : faults_of reader' ≡ faults_of reader
  pub size : n ≡ length octets
  pub inside : length (concat (frames_of octets)) ≤ length octets
  pub all : taken (frames_of octets)

-- Octets were read, and then a fault came. It came of reading, and the first frames were taken; or the
-- sink stopped at the last of these. `past` is the size of the buffer, as in `Stops`.
pub record StopsPassing {R : Type 0} (remaining : R → Option (List ℕ)) (reader reader' : Counted R)
    (frames_of : List ℕ → List (List ℕ)) (taken : List (List ℕ) → Type 0) (stopped : List (List ℕ) → LinkFault → Type 0)
    (limit past : ℕ) (fault : LinkFault) : Type 0 where
  pub octets : List ℕ
  pub read : Reads remaining reader reader' octets
  pub first : List (List ℕ)
  pub later : List (List ℕ)
  pub in_order : frames_of octets ≡ first ++ later
  pub cause : (taken first × (fault ≢ Memory) × IsCaused reader reader' no_stream no_stream limit past octets fault)
      ⊎ (stopped first fault × (faults_of reader' ≡ faults_of reader) × (length octets ≤ limit))

-- Memory may be refused at some frame of what was read of a stream: `may_refuse_memory` holds of the frames up to it.
-- Here and below this is any condition for that, such as `IsIncompleteAtLastTm`, or `MayRefuseStoreMemoryTm` for stored
-- packets.
pub record MayRefuseMemoryAtSome {R : Type 0} (remaining : R → Option (List ℕ)) (old new : Counted R)
    (frames_of : List ℕ → List (List ℕ)) (may_refuse_memory : List (List ℕ) → Type 0) : Type 0 where
  pub octets : List ℕ
  pub read : Reads remaining old new octets
  pub first : List (List ℕ)
  pub later : List (List ℕ)
  pub in_order : frames_of octets ≡ first ++ later
  pub at_last : may_refuse_memory first

-- the same of a recording that is a slice
pub record MayRefuseMemoryIn (frames_of : List ℕ → List (List ℕ)) (may_refuse_memory : List (List ℕ) → Type 0)
    (recording : List ℕ) : Type 0 where
  pub first : List (List ℕ)
  pub later : List (List ℕ)
  pub in_order : frames_of recording ≡ first ++ later
  pub at_last : may_refuse_memory first

-- These are the octets of a recording that were read so far, n of them and no more than the limit, and this holds of
-- them.
pub record HasPassed {R : Type 0} (remaining : R → Option (List ℕ)) (begun reader : Counted R) (limit n : ℕ)
    (handed : List ℕ → Type 0) (so_far : List ℕ) : Type 0 where
  pub read : Reads remaining begun reader so_far
  pub size : n ≡ length so_far
  pub allowed : n ≤ limit
  pub no_fault : faults_of reader ≡ faults_of begun
  pub all : handed so_far

-- ---- the frames of one chunk

-- These frames are at the front of the octets so far, and `taken` holds of them. What came after them waits in the
-- framer, but for `left`, which it hasn't seen.
pub record HasCutFrames {F : Type 0} (is_frame : Parameters → List ℕ → Type 0)
    (waits : F → Parameters → List ℕ → Type 0) (taken : List (List ℕ) → Type 0) (p : Parameters)
    (framer : F) (octets left : List ℕ) : Type 0 where
  pub frames : List (List ℕ)
  pub rest : List ℕ
  pub waiting : waits framer p rest
  pub parts : octets ≡ concat frames ++ (rest ++ left)
  pub whole : AllByRecursion (is_frame p) frames
  pub done : taken frames

-- the framer has seen all octets so far, and these frames are all of theirs
pub record HasCutAll {F : Type 0} (is_frame : Parameters → List ℕ → Type 0)
    (waits : F → Parameters → List ℕ → Type 0) (frames_of : Parameters → List ℕ → List (List ℕ))
    (taken : List (List ℕ) → Type 0) (p : Parameters) (framer : F) (octets : List ℕ) : Type 0 where
  pub cut : HasCutFrames is_frame waits taken p framer octets []
  pub all : frames_of p octets ≡ cut.frames
