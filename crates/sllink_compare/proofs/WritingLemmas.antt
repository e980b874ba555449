-- Texts that are written one after another, and the flush after them.
use Rattle.std.proofs.Common.{◌≡◌, ◌∙◌, ap, List, [], ◌++◌, ℕ, Option, Result, Ok, Err, append_assoc, append-nil, refl, subst, sym, rules}
use Rattle.std.proofs.KnownBytes.{Appends-kept, Appends-nil, Appends-trans}
use Rattle.std.specs.Prelude.{⊤, IfErr, OnOk}
use Rattle.std.specs.Result.{IsErrAnd}
use Rattle.std.specs.Io.KnownBytes.{Keeps}
use Rattle.sl_io.specs.Sink.{one_more}
use Rattle.sl_io.proofs.StreamLemmas.{caused_later}
use Rattle.sl_io.specs.declared.counted.Counted.{Counted}
use Rattle.sl_io.specs.declared.fault.LinkFault.{LinkFault}
use Rattle.sl_io.specs.declared.fault.LinkFault.TheVariants.{Memory, Write}
use Rattle.sl_io.specs.Counted.{HadOneFault, faults_of, stream_of}
use Rattle.sl_io.specs.Streams.{StopsWriting, WritesText}

-- ---- what a call answers

-- a fault that `?` passes up as it is
pub passed_up : {T E : Type 0} {e : E} (r : Result T E) (P : E → Type 0) → IsErrAnd r (λ y. y ≡ e) → P e → IfErr r P
passed_up (Ok x) P given p = tt
passed_up (Err y) P given p = subst P (sym given) p

-- what follows at `Ok`
pub ok_then : {T E P Q : Type 0} (r : Result T E) → OnOk r P → (P → Q) → OnOk r Q
ok_then (Ok t) p f = f p
ok_then (Err e) p f = tt

-- what follows at `Err`
pub err_then : {T E : Type 0} {P Q : E → Type 0} (r : Result T E) → IfErr r P → ((e : E) → P e → Q e) → IfErr r Q
err_then (Ok t) p f = tt
err_then (Err e) p f = f e p

-- ---- texts

module _ {W : Type 0} {contents : W → Option (List ℕ)} where
  -- two texts are written
  pub both_written : {old mid new : Counted W} {text more : List ℕ} → WritesText contents old mid text → WritesText contents mid new more
      → WritesText contents old new (text ++ more)
  both_written {old} {mid} {new} {text} {more} a b =
      record { writes = Appends-trans (contents (stream_of old)) (contents (stream_of mid)) (contents (stream_of new)) text more a.writes b.writes; no_fault = b.no_fault ∙ a.no_fault }

  -- a fault at the first
  pub first_stops : {old new : Counted W} {text : List ℕ} {at_memory : Type 0} {fault : LinkFault} (more : List ℕ) → StopsWriting contents old new text at_memory fault
      → StopsWriting contents old new (text ++ more) ⊤ fault
  first_stops more s =
      let w = s.front in
      record { front = record { written = w.written; missing = w.missing ++ more; front = rw (← append_assoc w.written w.missing more, w.front) refl; writes = w.writes }; cause = s.cause; memory = λ e. tt }

  -- and at the second
  pub second_stops : {old mid new : Counted W} {text more : List ℕ} {at_memory : Type 0} {fault : LinkFault} → WritesText contents old mid text → StopsWriting contents mid new more at_memory fault
      → StopsWriting contents old new (text ++ more) ⊤ fault
  second_stops {old} {mid} {new} {text} {more} {fault = fault} a s =
      let w = s.front in
      record {
        front = record {
          written = text ++ w.written;
          missing = w.missing;
          front = rw (append_assoc text w.written w.missing, w.front) refl;
          writes = Appends-trans (contents (stream_of old)) (contents (stream_of mid)) (contents (stream_of new)) text w.written a.writes w.writes;
        };
        cause = caused_later old mid new fault a.no_fault s.cause;
        memory = λ e. tt;
      }

  -- the flush keeps what was written,
  pub flushed : {old mid new : Counted W} {text : List ℕ} → WritesText contents old mid text → Keeps (contents (stream_of mid)) (contents (stream_of new))
      → faults_of new ≡ faults_of mid → WritesText contents old new text
  flushed {text = text} a kept same = record { writes = Appends-kept _ _ _ text a.writes kept; no_fault = same ∙ a.no_fault }

  -- also where it fails
  pub flush_stops : {old mid new : Counted W} {text : List ℕ} {fault : LinkFault} → WritesText contents old mid text → Keeps (contents (stream_of mid)) (contents (stream_of new))
      → (fault ≡ Write) × HadOneFault mid new → StopsWriting contents old new text ⊤ fault
  flush_stops {text = text} a kept failed =
      record {
        front = record { written = text; missing = []; front = append-nil text; writes = Appends-kept _ _ _ text a.writes kept };
        cause = rw failed.0 (failed.1 ∙ ap one_more a.no_fault, refl, search rules);
        memory = λ e. tt;
      }

  -- memory was refused, and nothing written
  pub stops_at_memory : (writer : Counted W) (text : List ℕ) → StopsWriting contents writer writer text ⊤ Memory
  stops_at_memory writer text =
      record { front = record { written = []; missing = text; front = refl; writes = Appends-nil (contents (stream_of writer)) }; cause = (refl, refl, search rules); memory = λ e. tt }

  -- memory may be refused
  pub stops_weaker : {old new : Counted W} {text : List ℕ} {at_memory : Type 0} {fault : LinkFault} → StopsWriting contents old new text at_memory fault
      → StopsWriting contents old new text ⊤ fault
  stops_weaker s = record { front = s.front; cause = s.cause; memory = λ e. tt }
