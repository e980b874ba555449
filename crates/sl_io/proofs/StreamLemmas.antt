-- Faults and their causes, a text that is written, part by part, and the flush after it.
use Rattle.std.proofs.Common.{◌≡◌, ◌∙◌, ap, ℕ, ◌≤◌, List, ◌++◌, length, Option, ◌-◌, take, drop, take-append-drop, append_assoc, append-nil, [], arith}
use Rattle.std.proofs.lemmas.List.{take_rest}
use Rattle.std.proofs.KnownBytes.{Appends-kept}
use Rattle.std.specs.Io.KnownBytes.{Keeps}
use Rattle.sl_packet.specs.Sink.{one_more}
use Rattle.sl_io.specs.declared.counted.Counted.{Counted}
use Rattle.sl_io.specs.declared.fault.LinkFault.{LinkFault}
use Rattle.sl_io.specs.declared.fault.LinkFault.TheVariants.{Write}
use Rattle.sl_io.specs.Counted.{HadOneFault, faults_of, no_stream, stream_of}
use Rattle.sl_io.specs.Streams.{IsCaused, Stops, Translates, TranslatesWithTotals, Writes}

-- ---- faults and their causes

-- a reader's fault, where the writer had none
pub reader_caused : {R W : Type 0} (reader reader' : Counted R) (writer writer' : Counted W) (limit past : ℕ) (octets : List ℕ) (fault : LinkFault)
    → faults_of writer' ≡ faults_of writer → IsCaused reader reader' no_stream no_stream limit past octets fault → IsCaused reader reader' writer writer' limit past octets fault
reader_caused reader reader' writer writer' limit past octets fault kept cause = grind arith

-- a writer's, where the reader had none
pub writer_caused : {R W : Type 0} (reader reader' : Counted R) (writer writer' : Counted W) (limit past : ℕ) (octets : List ℕ) (fault : LinkFault)
    → faults_of reader' ≡ faults_of reader → length octets ≤ limit → IsCaused no_stream no_stream writer writer' 0 0 [] fault
    → IsCaused reader reader' writer writer' limit past octets fault
writer_caused reader reader' writer writer' limit past octets fault kept within cause = grind arith

-- a writer's, after a step at which it had none
pub caused_later : {W : Type 0} (old mid new : Counted W) (fault : LinkFault) → faults_of mid ≡ faults_of old → IsCaused no_stream no_stream mid new 0 0 [] fault
    → IsCaused no_stream no_stream old new 0 0 [] fault
caused_later old mid new fault kept cause = grind arith

-- ---- reads into a buffer and writes of a text

-- the text has been written but for what is left
pub record IsWriting {W : Type 0} (contents : W → Option (List ℕ)) (old new : Counted W) (text left : List ℕ) : Type 0 where
  pub written : List ℕ
  pub parts : text ≡ written ++ left
  pub writes : Writes contents old new written
  pub no_fault : faults_of new ≡ faults_of old

-- what is left after n octets were written
pub moves_on : (text written left : List ℕ) (n : ℕ) → text ≡ written ++ left → text ≡ (written ++ take n left) ++ take (length left - n) (drop n left)
moves_on text written left n e = simp (take_rest, append_assoc, take-append-drop) e

-- ---- the flush after an engine

module _ {R W : Type 0} {remaining : R → Option (List ℕ)} {contents : W → Option (List ℕ)} {reader reader' : Counted R} {writer mid writer' : Counted W}
    {text : List ℕ → List ℕ} {limit : ℕ} where
  -- where the flush succeeds, what the engine did holds still
  pub written_flushed : {C : Type 0} {counts : List ℕ → C} {totals : C} → TranslatesWithTotals remaining contents reader reader' writer mid text counts limit totals
      → Keeps (contents (stream_of mid)) (contents (stream_of writer')) → faults_of writer' ≡ faults_of mid → TranslatesWithTotals remaining contents reader reader' writer writer' text counts limit totals
  written_flushed done kept no_fault =
      let t = done.translated in
      record {
        translated = record {
          octets = t.octets;
          within = t.within;
          read = t.read;
          to_end = t.to_end;
          written = Appends-kept _ _ _ _ t.written kept;
          reader_kept = t.reader_kept;
          writer_kept = no_fault ∙ t.writer_kept;
        };
        totals_are = done.totals_are;
      }

  -- where it fails, all of the text is in its place, but the writer had a fault
  pub stopped_flushing : {past : ℕ} {fault : LinkFault} → Translates remaining contents reader reader' writer mid text limit
      → Keeps (contents (stream_of mid)) (contents (stream_of writer')) → fault ≡ Write → HadOneFault mid writer' → Stops remaining contents reader reader' writer writer' text limit past fault
  stopped_flushing t kept is_write failed =
      record {
        octets = t.octets;
        read = t.read;
        written = record { written = text t.octets; missing = []; front = append-nil (text t.octets); writes = Appends-kept _ _ _ (text t.octets) t.written kept };
        cause = rw is_write (failed ∙ ap one_more t.writer_kept, t.reader_kept, t.within);
      }
