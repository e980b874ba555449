-- Streams: texts that are added to an output.
use Rattle.std.proofs.Common.{◌≡◌, ℕ, List, ◌++◌, Option, rules, sym, ◌∙◌, append_assoc, [], refl, append-nil}
use Rattle.std.proofs.KnownBytes.{Appends-nil, Appends-trans}
use Rattle.sl_io.proofs.StreamLemmas.{caused_later}
use Rattle.sl_io.specs.declared.counted.Counted.{Counted}
use Rattle.sl_io.specs.declared.fault.LinkFault.{LinkFault}
use Rattle.sl_io.specs.declared.fault.LinkFault.TheVariants.{Memory}
use Rattle.sl_engine.specs.Link.Counted.{stream_of}
use Rattle.sl_engine.specs.Io.Streams.{AddsText, StopsWriting, WritesPrefix, WritesText}
use Rattle.sl_engine.specs.declared.io.output.Output.{Output}
use Rattle.sl_engine.specs.Io.Output.{Adds}

-- ---- texts that are added to what isn't written yet, and what stands at a fault

module _ {W : Type 0} (contents : W → Option (List ℕ)) where
  pub AddsText-trans : (old mid new : Counted W) (pending pending' pending'' text more : List ℕ)
      → AddsText contents old mid pending pending' text → AddsText contents mid new pending' pending'' more
      → AddsText contents old new pending pending'' (text ++ more)
  AddsText-trans old mid new pending pending' pending'' text more a b = record {
    written = a.written ++ b.written;
    parts = rw (← append_assoc pending text more, a.parts, append_assoc a.written pending' more, b.parts) (sym (append_assoc a.written b.written pending''));
    writes = Appends-trans (contents (stream_of old)) (contents (stream_of mid)) (contents (stream_of new)) a.written b.written a.writes b.writes;
    no_fault = b.no_fault ∙ a.no_fault;
  }

  -- a prefix of a text is one of a longer text,
  prefix_first : {old new : Counted W} {text : List ℕ} (more : List ℕ) → WritesPrefix contents old new text → WritesPrefix contents old new (text ++ more)
  prefix_first more w = record { written = w.written; missing = w.missing ++ more; front = rw (← append_assoc w.written w.missing more, w.front); writes = w.writes }

  -- and so is one of what waits after a text was added
  prefix_then : {old mid new : Counted W} {pending pending' : List ℕ} (text more : List ℕ) → AddsText contents old mid pending pending' text → WritesPrefix contents mid new (pending' ++ more)
      → WritesPrefix contents old new (pending ++ (text ++ more))
  prefix_then {old} {mid} {new} {pending} {pending'} text more t w = record {
    written = t.written ++ w.written;
    missing = w.missing;
    front = rw (append_assoc t.written w.written w.missing, w.front, ← append_assoc t.written pending' more, ← t.parts) (append_assoc pending text more);
    writes = Appends-trans (contents (stream_of old)) (contents (stream_of mid)) (contents (stream_of new)) t.written w.written t.writes w.writes;
  }

  -- what waited and was added is written
  pub all_written : (old mid new : Counted W) (pending text : List ℕ) → AddsText contents old mid [] pending text → WritesText contents mid new pending
      → WritesText contents old new text
  all_written old mid new pending text a w =
      let writes = Appends-trans (contents (stream_of old)) (contents (stream_of mid)) (contents (stream_of new)) a.written pending a.writes w.writes in
      record { writes = rw a.parts writes; no_fault = w.no_fault ∙ a.no_fault }

  -- a fault while what waits is written
  pub writer_stops_waiting : (old mid new : Counted W) (pending pending' text more whole : List ℕ) (fault : LinkFault)
      {at_memory : Type 0} → AddsText contents old mid pending pending' text → StopsWriting contents mid new pending' ⊥ fault
      → pending ++ (text ++ more) ≡ whole → StopsWriting contents old new whole at_memory fault
  writer_stops_waiting old mid new pending pending' text more whole fault a s e =
      record { front = rw e at (prefix_then text more a (prefix_first more s.front)); cause = caused_later old mid new fault a.no_fault s.cause; memory = λ m. absurd (s.memory m) }

-- ---- an output

module _ {W : Type 0} (contents : W → Option (List ℕ)) where
  -- nothing was written, and these lines wait too
  pub adds_lines : (old new : Output W) (text : List ℕ) → new.writer ≡ old.writer → new.lines ≡ old.lines ++ text → Adds contents old text new
  adds_lines old new text same e = record { lent = rw same refl; adds = rw same (record { written = []; parts = sym e; writes = Appends-nil (contents (stream_of old.writer.now)); no_fault = refl }) }

  -- memory was refused, and nothing written
  pub stops_at_memory : (writer : Counted W) (text : List ℕ) {at_memory : Type 0} → at_memory → StopsWriting contents writer writer text at_memory Memory
  stops_at_memory writer text allowed =
      record { front = record { written = []; missing = text; front = refl; writes = Appends-nil (contents (stream_of writer)) }; cause = (refl, refl, search rules); memory = λ e. allowed }

module _ {W : Type 0} {contents : W → Option (List ℕ)} where
  pub adds_both : {old mid new : Output W} {text more : List ℕ} → Adds contents old text mid → Adds contents mid more new → Adds contents old (text ++ more) new
  adds_both {old} {mid} {new} {text} {more} a b = record { lent = b.lent ∙ a.lent; adds = AddsText-trans contents _ _ _ old.lines mid.lines new.lines text more a.adds b.adds }

  -- and nothing more
  pub adds_none : {old mid new : Output W} {text : List ℕ} → Adds contents old text mid → Adds contents mid [] new → Adds contents old text new
  adds_none a b = rw append-nil at (adds_both a b)

module _ {W : Type 0} {contents : W → Option (List ℕ)} {new : Counted W} {fault : LinkFault} where
  -- what is said of memory may say less
  pub memory_weaker : {old : Counted W} {text : List ℕ} {at_memory some : Type 0} → (at_memory → some) → StopsWriting contents old new text at_memory fault → StopsWriting contents old new text some fault
  memory_weaker tells s = record { front = s.front; cause = s.cause; memory = λ e. tells (s.memory e) }

  -- a fault at the first text stops both
  pub stops_first : {old : Counted W} {at_memory : Type 0} (lines text more : List ℕ) → StopsWriting contents old new (lines ++ text) at_memory fault
      → StopsWriting contents old new (lines ++ (text ++ more)) at_memory fault
  stops_first lines text more s = record { front = rw (append_assoc lines text more) at (prefix_first contents more s.front); cause = s.cause; memory = s.memory }

  -- so does one where room is made for them
  pub stops_before : {old : Counted W} {lines : List ℕ} (text : List ℕ) (at_memory : Type 0) → StopsWriting contents old new lines ⊥ fault → StopsWriting contents old new (lines ++ text) at_memory fault
  stops_before text at_memory s = record { front = prefix_first contents text s.front; cause = s.cause; memory = λ e. absurd (s.memory e) }

  -- and one at the second
  pub stops_then : {old mid : Output W} {text : List ℕ} {at_memory : Type 0} (more : List ℕ) → Adds contents old text mid → StopsWriting contents mid.writer.now new (mid.lines ++ more) at_memory fault
      → StopsWriting contents old.writer.now new (old.lines ++ (text ++ more)) at_memory fault
  stops_then {old} {mid} {text} more a s =
      let cause = caused_later old.writer.now mid.writer.now new fault a.adds.no_fault s.cause in
      record { front = prefix_then contents text more a.adds s.front; cause = cause; memory = s.memory }

  -- or after it, where what waits is written
  pub stops_last : {old mid : Output W} {text : List ℕ} {at_memory : Type 0} → Adds contents old text mid → StopsWriting contents mid.writer.now new mid.lines at_memory fault
      → StopsWriting contents old.writer.now new (old.lines ++ text) at_memory fault
  stops_last {at_memory = at_memory} a s = rw append-nil at (stops_then {at_memory = at_memory} [] a (rw append-nil s))
