-- What an engine does to the octets that a reader has left and a writer holds. Where a reader or a
-- writer doesn't report its octets, these definitions speak of its faults alone.
use Rattle.std.specs.Prelude.{◌≡◌, ◌≢◌, ℕ, ◌+◌, ◌≤◌, ◌<◌, List, [], ◌++◌, length, take, Option}
use Rattle.std.specs.Io.KnownBytes.{Consumes, IsAtEnd, Appends}
use Rattle.sl_io.specs.declared.counted.Counted.{Counted}
use Rattle.sl_io.specs.declared.fault.LinkFault.{LinkFault}
use Rattle.sl_io.specs.declared.fault.LinkFault.TheVariants.{Read, TooLong, Memory, Write}
use Rattle.sl_io.specs.Counted.{stream_of, faults_of, no_stream, HadOneFault}

module _ {R : Type 0} (remaining : R → Option (List ℕ)) where
  -- these octets were read
  abbrev pub Reads : Counted R → Counted R → List ℕ → Type 0
  Reads old new octets = Consumes (remaining (stream_of old)) (remaining (stream_of new)) octets

  -- the reader has nothing left
  abbrev pub IsRead : Counted R → Type 0
  IsRead new = IsAtEnd (remaining (stream_of new))

  -- octets were read whose text isn't empty
  pub record HasText (old new : Counted R) (text : List ℕ → List ℕ) : Type 0 where
    pub octets : List ℕ
    pub read : Reads old new octets
    pub some : text octets ≢ []

module _ {W : Type 0} (contents : W → Option (List ℕ)) where
  -- this text was written
  abbrev pub Writes : Counted W → Counted W → List ℕ → Type 0
  Writes old new text = Appends (contents (stream_of old)) (contents (stream_of new)) text

  -- a prefix of this text was written
  pub record WritesPrefix (old new : Counted W) (text : List ℕ) : Type 0 where
    pub written : List ℕ
    pub missing : List ℕ
    pub front : written ++ missing ≡ text
    pub writes : Writes old new written

-- ---- what is read, and what is written

-- n octets came to the front of the buffer, and n is 0 only where the input ended or the buffer is empty
pub record ReadsSome {R : Type 0} (remaining : R → Option (List ℕ)) (old new : Counted R) (buffer : List ℕ)
    (limit n : ℕ) : Type 0 where
  pub inside : n ≤ length buffer
  pub allowed : n ≤ limit
  pub read : Reads remaining old new (take n buffer)
  pub to_end : n ≡ 0 → 0 < length buffer → IsRead remaining new
  pub no_fault : faults_of new ≡ faults_of old

-- all octets were read, no more than the limit
pub record ReadsAll {R : Type 0} (remaining : R → Option (List ℕ)) (old new : Counted R) (limit : ℕ)
    (octets : List ℕ) : Type 0 where
  pub within : length octets ≤ limit
  pub read : Reads remaining old new octets
  pub to_end : IsRead remaining new
  pub no_fault : faults_of new ≡ faults_of old

-- An engine's fault has its cause, and no other: at most the stream that it names had a fault of its own. At `TooLong`
-- more octets than the limit were read, by `past` at most, and at any other fault no more than the limit. No clause can
-- say that memory was refused. Where no reader or no writer takes part, `no_stream` stands for it, before and after.
-- Its count of faults is 0 both times, so it had no fault (0 isn't one more than 0), and no engine's fault names it.
abbrev pub IsCaused : {R W : Type 0} → Counted R → Counted R → Counted W → Counted W → ℕ → ℕ → List ℕ → LinkFault
    → Type 0
IsCaused reader reader' writer writer' limit past octets Read =
    HadOneFault reader reader' × (faults_of writer' ≡ faults_of writer) × (length octets ≤ limit)
IsCaused reader reader' writer writer' limit past octets TooLong =
    (faults_of reader' ≡ faults_of reader) × (faults_of writer' ≡ faults_of writer)
    × (limit < length octets) × (length octets ≤ limit + past)
IsCaused reader reader' writer writer' limit past octets Memory =
    (faults_of reader' ≡ faults_of reader) × (faults_of writer' ≡ faults_of writer) × (length octets ≤ limit)
IsCaused reader reader' writer writer' limit past octets Write =
    HadOneFault writer writer' × (faults_of reader' ≡ faults_of reader) × (length octets ≤ limit)

-- octets were read, perhaps none, and then a fault came, of reading or of keeping what was read
pub record StopsReading {R : Type 0} (remaining : R → Option (List ℕ)) (old new : Counted R) (limit past : ℕ)
    (fault : LinkFault) : Type 0 where
  pub octets : List ℕ
  pub read : Reads remaining old new octets
  pub cause : IsCaused old new no_stream no_stream limit past octets fault

-- the text was written
pub record WritesText {W : Type 0} (contents : W → Option (List ℕ)) (old new : Counted W) (text : List ℕ) : Type 0 where
  pub writes : Writes contents old new text
  pub no_fault : faults_of new ≡ faults_of old

-- A text is added to the octets that wait, `pending`. Then `pending'` wait, and what came before these was written.
pub record AddsText {W : Type 0} (contents : W → Option (List ℕ)) (old new : Counted W)
    (pending pending' text : List ℕ) : Type 0 where
  pub written : List ℕ
  pub parts : pending ++ text ≡ written ++ pending'
  pub writes : Writes contents old new written
  pub no_fault : faults_of new ≡ faults_of old

-- A prefix of the text was written, and then the fault came: `Write`, or `Memory` where `at_memory`
-- holds. So it is `Write` where `at_memory` is ⊥. No reader takes part and no octet is read, so it is never
-- `Read` or `TooLong`.
pub record StopsWriting {W : Type 0} (contents : W → Option (List ℕ)) (old new : Counted W) (text : List ℕ)
    (at_memory : Type 0) (fault : LinkFault) : Type 0 where
  pub front : WritesPrefix contents old new text
  pub cause : IsCaused no_stream no_stream old new 0 0 [] fault
  pub memory : fault ≡ Memory → at_memory

-- ---- a whole engine, over its reader and its writer before and after the call

module _ {R W : Type 0} (remaining : R → Option (List ℕ)) (contents : W → Option (List ℕ)) where
  -- All was read, no more than the limit, its text was written and nothing else, and neither count of faults rose.
  pub record Translates (reader reader' : Counted R) (writer writer' : Counted W) (text : List ℕ → List ℕ)
      (limit : ℕ) : Type 0 where
    pub octets : List ℕ
    pub within : length octets ≤ limit
    pub read : Reads remaining reader reader' octets
    pub to_end : IsRead remaining reader'
    pub written : Writes contents writer writer' (text octets)
    pub reader_kept : faults_of reader' ≡ faults_of reader
    pub writer_kept : faults_of writer' ≡ faults_of writer

  -- The same, and the totals are the counts of the same octets. Streams that don't report these leave the totals open.
  -- An engine states `Translates` in a clause of its own too, so that what rests on that clause rests on no counts.
  pub record TranslatesWithTotals {C : Type 0} (reader reader' : Counted R) (writer writer' : Counted W) (text : List ℕ → List ℕ)
      (counts : List ℕ → C) (limit : ℕ) (totals : C) : Type 0 where
    pub translated : Translates reader reader' writer writer' text limit
    pub totals_are : totals ≡ counts translated.octets

  -- What was written, taken as a recording, delivers the same packets as what was read. `packets`
  -- gives the packets of a recording.
  pub record KeepsPackets (reader reader' : Counted R) (writer writer' : Counted W)
      (packets : List ℕ → List (List (List ℕ))) : Type 0 where
    pub recording : List ℕ
    pub read : Reads remaining reader reader' recording
    pub form : List ℕ
    pub written : Writes contents writer writer' form
    pub same : packets form ≡ packets recording

  -- Octets were read and a prefix of their text was written, and then came a fault, which has its cause. `past` is the
  -- size of the buffer: a read goes past the limit by no more.
  pub record Stops (reader reader' : Counted R) (writer writer' : Counted W) (text : List ℕ → List ℕ) (limit past : ℕ)
      (fault : LinkFault) : Type 0 where
    pub octets : List ℕ
    pub read : Reads remaining reader reader' octets
    pub written : WritesPrefix contents writer writer' (text octets)
    pub cause : IsCaused reader reader' writer writer' limit past octets fault
