-- A file that is read chunk by chunk.
use Rattle.std.proofs.Common.{◌≡◌, ℕ, ◌+◌, ◌-◌, ◌≤◌, ◌<◌, Bool, true, false, List, [], ◌++◌, length, take, refl, sym, ◌∙◌, ap, arith}
use Rattle.std.proofs.Common.{append_assoc, append-nil, length-append, length-take-le, Option, Result, Ok, Err, subst}
use Rattle.std.specs.Prelude.{is_err, IfErr, OnOk}
use Rattle.std.specs.Result.{IsErrAnd}
use Rattle.std.proofs.KnownBytes.{Consumes-nil, Consumes-trans, Appends-nil, Appends-trans}
use Rattle.sl_io.specs.Counted.{faults_of, no_stream, stream_of}
use Rattle.sl_io.specs.Streams.{IsCaused, Reads, ReadsSome, Stops, StopsReading, StopsWriting, TranslatesWithTotals, Writes, WritesPrefix, WritesText}
use Rattle.sl_io.specs.declared.counted.Counted.{Counted}
use Rattle.sl_io.specs.declared.fault.LinkFault.{LinkFault}
use Rattle.sl_io.specs.declared.fault.LinkFault.TheVariants.{Memory}
use Rattle.sl_sync.specs.Reading.{most_octets, file_totals, IsAtStart, CutsChunk}
use Rattle.sl_sync.specs.Totals.{totals_of}
use Rattle.sl_sync.specs.Units.{Part, Rule, parts_of, text_of, frames_text}
use Rattle.sl_sync.specs.declared.kept.Kept.{Kept}
use Rattle.sl_sync.specs.declared.units.Place.TheVariants.{Start}
use Rattle.sl_sync.proofs.UnitsLemmas.{text-append}

-- after these octets of a file its first parts were cut, whatever comes, and their frames are this text
pub record HasCut (r : Rule) (octets : List ℕ) (kept : Kept) (text : List ℕ) : Type 0 where
  pub parts : List Part
  pub all : (more : List ℕ) → parts_of r Start (octets ++ more) ≡ parts ++ parts_of r kept.place (kept.window.items ++ more)
  pub written : text ≡ text_of parts
  pub counted : kept.totals ≡ totals_of parts

module _ {r : Rule} {octets : List ℕ} {kept : Kept} {text : List ℕ} (h : HasCut r octets kept text) where
  -- the text of a file of these octets and of more begins with it
  text-front : (more : List ℕ) → frames_text r (octets ++ more) ≡ text ++ text_of (parts_of r kept.place (kept.window.items ++ more))
  text-front more =
      ap text_of (h.all more) ∙ text-append h.parts (parts_of r kept.place (kept.window.items ++ more))
      ∙ ap (λ (t : List ℕ). t ++ text_of (parts_of r kept.place (kept.window.items ++ more))) (sym h.written)

  module _ {ended : Bool} {chunk : List ℕ} {kept' : Kept} (c : CutsChunk r ended chunk kept kept') where
    -- the parts of the window and the chunk, where nothing follows
    parts-chunk : parts_of r kept.place (kept.window.items ++ chunk) ≡ c.cut.parts ++ parts_of r kept'.place kept'.window.items
    parts-chunk =
        ap (λ (x : List ℕ). parts_of r kept.place x) (sym (append-nil (kept.window.items ++ chunk))) ∙ c.cut.all [] (λ e. refl)
        ∙ ap (λ (x : List ℕ). c.cut.parts ++ parts_of r kept'.place x) (append-nil kept'.window.items)

    -- the frames of the chunk come next in the text
    text-chunk : frames_text r (octets ++ chunk) ≡ text ++ (kept'.text.items ++ text_of (parts_of r kept'.place kept'.window.items))
    text-chunk =
        text-front chunk
        ∙ ap (λ (p : List Part). text ++ text_of p) parts-chunk
        ∙ ap (λ (t : List ℕ). text ++ t) (text-append c.cut.parts (parts_of r kept'.place kept'.window.items)
        ∙ ap (λ (t : List ℕ). t ++ text_of (parts_of r kept'.place kept'.window.items)) (sym c.cut.added))

    -- a chunk that the file doesn't end with
    cut-more : ended ≡ false → HasCut r (octets ++ chunk) kept' (text ++ kept'.text.items)
    cut-more goes_on = record {
      parts = h.parts ++ c.cut.parts;
      all = λ more. ap (λ (x : List ℕ). parts_of r Start x) (append_assoc octets chunk more) ∙ h.all (chunk ++ more)
          ∙ ap (λ (x : List ℕ). h.parts ++ parts_of r kept.place x) (sym (append_assoc kept.window.items chunk more))
          ∙ ap (λ (p : List Part). h.parts ++ p) (c.cut.all more (λ e. cc))
          ∙ sym (append_assoc h.parts c.cut.parts (parts_of r kept'.place (kept'.window.items ++ more)));
      written = ap (λ (t : List ℕ). t ++ kept'.text.items) h.written ∙ ap (λ (t : List ℕ). text_of h.parts ++ t) c.cut.added
          ∙ sym (text-append h.parts c.cut.parts);
      counted = c.cut.counted h.parts h.counted;
    }

    -- all parts of a file that ends with the chunk
    parts-ended : ended ≡ true → parts_of r Start (octets ++ chunk) ≡ h.parts ++ c.cut.parts
    parts-ended end =
        h.all chunk ∙ ap (λ (p : List Part). h.parts ++ p)
        (parts-chunk ∙ ap (λ (x : List ℕ). c.cut.parts ++ parts_of r kept'.place x) (c.all end) ∙ append-nil c.cut.parts)

    text-ended : ended ≡ true → frames_text r (octets ++ chunk) ≡ text ++ kept'.text.items
    text-ended end =
        ap text_of (parts-ended end) ∙ text-append h.parts c.cut.parts
        ∙ ap (λ (t : List ℕ). t ++ text_of c.cut.parts) (sym h.written) ∙ ap (λ (t : List ℕ). text ++ t) (sym c.cut.added)

    totals-ended : ended ≡ true → kept'.totals ≡ file_totals r (octets ++ chunk)
    totals-ended end = c.cut.counted h.parts h.counted ∙ ap totals_of (sym (parts-ended end))

-- this number of octets was read, and the frames that are known after them were written
pub record IsReading {R W : Type 0} (remaining : R → Option (List ℕ)) (contents : W → Option (List ℕ)) (r : Rule)
    (reader reader' : Counted R) (writer writer' : Counted W) (n : ℕ) (kept : Kept) : Type 0 where
  pub octets : List ℕ
  pub read : Reads remaining reader reader' octets
  pub size : n ≡ length octets
  pub few : n ≤ most_octets
  pub text : List ℕ
  pub cut : HasCut r octets kept text
  pub writes : Writes contents writer writer' text
  pub reader_kept : faults_of reader' ≡ faults_of reader
  pub writer_kept : faults_of writer' ≡ faults_of writer

pub reading-start : {R W : Type 0} (remaining : R → Option (List ℕ)) (contents : W → Option (List ℕ)) (r : Rule)
    (reader : Counted R) (writer : Counted W) (kept : Kept) → IsAtStart kept → IsReading remaining contents r reader reader writer writer 0 kept
reading-start remaining contents r reader writer kept is = record {
  octets = [];
  read = Consumes-nil (remaining (stream_of reader));
  size = refl;
  few = omega arith;
  text = [];
  cut = record { parts = []; all = λ more. rw (is.none, is.place) refl; written = refl; counted = is.totals };
  writes = Appends-nil (contents (stream_of writer));
  reader_kept = refl;
  writer_kept = refl;
}

module _ {R W : Type 0} {remaining : R → Option (List ℕ)} {contents : W → Option (List ℕ)} {r : Rule} {reader mid : Counted R} {writer held : Counted W} {n : ℕ} {kept : Kept}
    (s : IsReading remaining contents r reader mid writer held n kept) where
  -- a chunk more was read
  reads_on : (reader' : Counted R) (chunk : List ℕ) → Reads remaining mid reader' chunk → Reads remaining reader reader' (s.octets ++ chunk)
  reads_on reader' chunk came =
      Consumes-trans (remaining (stream_of reader)) (remaining (stream_of mid)) (remaining (stream_of reader')) s.octets chunk s.read came

  -- what was written is the front of the text of these octets and of more
  written-front : (more : List ℕ) → WritesPrefix contents writer held (frames_text r (s.octets ++ more))
  written-front more = record {
    written = s.text;
    missing = text_of (parts_of r kept.place (kept.window.items ++ more));
    front = sym (text-front s.cut more);
    writes = s.writes;
  }

  caused : (reader' : Counted R) (room past : ℕ) (octets : List ℕ) (fault : LinkFault) → past ≤ room
      → IsCaused mid reader' no_stream no_stream (most_octets - n) past octets fault
      → IsCaused reader reader' writer held most_octets room (s.octets ++ octets) fault
  caused reader' room past octets fault fits cause = grind (arith, length-append, s.reader_kept, s.writer_kept, s.size, s.few)

  -- the reader stopped
  pub stops-reading : {reader' : Counted R} {fault : LinkFault} (room past : ℕ) → past ≤ room
      → StopsReading remaining mid reader' (most_octets - n) past fault
      → Stops remaining contents reader reader' writer held (frames_text r) most_octets room fault
  stops-reading {reader'} {fault} room past fits stop = record {
    octets = s.octets ++ stop.octets;
    read = reads_on reader' stop.octets stop.read;
    written = written-front stop.octets;
    cause = caused reader' room past stop.octets fault fits stop.cause;
  }

  module _ {reader' : Counted R} {buffer : List ℕ} {k : ℕ} (came : ReadsSome remaining mid reader' buffer (most_octets - n) k) where
    size-next : n + k ≡ length (s.octets ++ take k buffer)
    size-next = omega (arith, s.size, length-append s.octets (take k buffer), length-take-le k buffer came.inside)

    few-next : n + k ≤ most_octets
    few-next = omega (arith, came.allowed, s.few)

    -- a writer's fault, after what was written before
    written-caused : (writer' : Counted W) (room : ℕ) (fault : LinkFault) → IsCaused no_stream no_stream held writer' 0 0 [] fault
        → IsCaused reader reader' writer writer' most_octets room (s.octets ++ take k buffer) fault
    written-caused writer' room fault cause = grind (arith, came.no_fault, s.reader_kept, s.writer_kept, size-next, few-next)

    -- memory was refused
    pub stops-memory : (room : ℕ) → Stops remaining contents reader reader' writer held (frames_text r) most_octets room Memory
    stops-memory room = record {
      octets = s.octets ++ take k buffer;
      read = reads_on reader' (take k buffer) came.read;
      written = written-front (take k buffer);
      cause = (came.no_fault ∙ s.reader_kept, s.writer_kept, omega (arith, size-next, few-next));
    }

    module _ {ended : Bool} {kept' : Kept} (c : CutsChunk r ended (take k buffer) kept kept') where
      -- the writer stopped
      pub stops-writing : {writer' : Counted W} {fault : LinkFault} (room : ℕ) → StopsWriting contents held writer' kept'.text.items ⊥ fault
          → Stops remaining contents reader reader' writer writer' (frames_text r) most_octets room fault
      stops-writing {writer'} {fault} room stop =
          let later = text_of (parts_of r kept'.place kept'.window.items) in
          let whole : (s.text ++ stop.front.written) ++ (stop.front.missing ++ later) ≡ frames_text r (s.octets ++ take k buffer) =
          append_assoc s.text stop.front.written (stop.front.missing ++ later)
          ∙ ap (λ (t : List ℕ). s.text ++ t) (sym (append_assoc stop.front.written stop.front.missing later)
          ∙ ap (λ (t : List ℕ). t ++ later) stop.front.front) ∙ sym (text-chunk s.cut c) in
          record {
            octets = s.octets ++ take k buffer;
            read = reads_on reader' (take k buffer) came.read;
            written = record {
              written = s.text ++ stop.front.written;
              missing = stop.front.missing ++ later;
              front = whole;
              writes = Appends-trans (contents (stream_of writer)) (contents (stream_of held)) (contents (stream_of writer')) s.text stop.front.written s.writes stop.front.writes;
            };
            cause = written-caused writer' room fault stop.cause;
          }

      -- the frames of the chunk were written
      writes-on : {writer' : Counted W} → WritesText contents held writer' kept'.text.items
          → Writes contents writer writer' (s.text ++ kept'.text.items)
      writes-on {writer'} wrote =
          Appends-trans (contents (stream_of writer)) (contents (stream_of held)) (contents (stream_of writer')) s.text kept'.text.items s.writes wrote.writes

      pub reading-more : {writer' : Counted W} → ended ≡ false → WritesText contents held writer' kept'.text.items
          → IsReading remaining contents r reader reader' writer writer' (n + k) kept'
      reading-more goes_on wrote = record {
        octets = s.octets ++ take k buffer;
        read = reads_on reader' (take k buffer) came.read;
        size = size-next;
        few = few-next;
        text = s.text ++ kept'.text.items;
        cut = cut-more s.cut c goes_on;
        writes = writes-on wrote;
        reader_kept = came.no_fault ∙ s.reader_kept;
        writer_kept = wrote.no_fault ∙ s.writer_kept;
      }

      -- the file ended
      pub reading-ended : {writer' : Counted W} → ended ≡ true → k ≡ 0 → 0 < length buffer → WritesText contents held writer' kept'.text.items
          → TranslatesWithTotals remaining contents reader reader' writer writer' (frames_text r) (file_totals r) most_octets kept'.totals
      reading-ended {writer'} end none room wrote = record {
        translated = record {
          octets = s.octets ++ take k buffer;
          within = omega (arith, size-next, few-next);
          read = reads_on reader' (take k buffer) came.read;
          to_end = came.to_end none room;
          written = rw (text-ended s.cut c end) (writes-on wrote);
          reader_kept = came.no_fault ∙ s.reader_kept;
          writer_kept = wrote.no_fault ∙ s.writer_kept;
        };
        totals_are = totals-ended s.cut c end;
      }

-- ---- what calls answer

-- a call that gives no error
pub not_err : {T E P : Type 0} (r : Result T E) → is_err r ≡ false → OnOk r P → P
not_err (Ok x) e p = p
not_err (Err y) e p = cc

-- a fault that `?` passes up as it is
pub passed_up : {T E : Type 0} {e : E} (r : Result T E) (P : E → Type 0) → IsErrAnd r (λ y. y ≡ e) → P e → IfErr r P
passed_up (Ok x) P given p = tt
passed_up (Err y) P given p = subst P (sym given) p
