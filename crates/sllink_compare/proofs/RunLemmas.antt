-- A run over two recordings, from what was compared and written.
use Rattle.std.proofs.Common.{◌≡◌, ◌≢◌, ◌++◌, ◌⊎◌, List, ℕ, Option, None, Some, Result, Ok, Err, append-nil, inl, inr, subst, sym}
use Rattle.std.specs.Prelude.{⊤, IfErr, OnOk}
use Rattle.std.specs.declared.hash.BuildHasher as builder
use Rattle.std.specs.declared.hash.Hasher as hasher
use Rattle.sl_io.specs.declared.counted.Counted.{Counted}
use Rattle.sl_io.specs.declared.fault.LinkFault.{LinkFault}
use Rattle.sl_io.specs.declared.fault.LinkFault.TheVariants.{Memory}
use Rattle.sl_io.specs.Streams.{StopsWriting, WritesText}
use Rattle.sl_engine.specs.Compare.{Compares, by_channel}
use Rattle.sl_engine.specs.declared.compare.Compared.{Compared}
use Rattle.sl_engine.specs.declared.compare.summary.Summary.{Summary}
use Rattle.sl_pair.specs.declared.pairing.Answer.{Answer}
use Rattle.sl_pair.specs.Pairing.{ByChannel, StandsAfter}
use Rattle.sllink_compare.specs.Asking.{question_text}
use Rattle.sllink_compare.specs.Run.{Asks, HasEnded, HasStopped, Says, answer_text, fault_text, open_question, output_text, packets_of, status_of, summary_of, unless_open}
use Rattle.sllink_compare.specs.Totals.{totals_text}
use Rattle.sllink_compare.proofs.WritingLemmas.{both_written, first_stops, second_stops, stops_at_memory}
use Rattle.sllink_compare.specs.declared.questions.Question.{Question}
use Rattle.sllink_compare.specs.declared.run.Comparison.{Comparison}
use Rattle.sllink_compare.specs.declared.totals.Names.{Names}

-- the status after a question
pub question_status : {status : ℕ} (answer : Answer) {open_one : Option Question} {question : Question} → open_one ≡ Some question → (status ≡ 2) ⊎ (status ≡ 3) → status ≢ 3
    → status ≡ status_of open_one answer
question_status answer is (inl two) no_fault = rw is two
question_status answer is (inr three) no_fault = absurd (no_fault three)

-- a line was written, or cut short
pub said_or_cut : {E : Type 0} {heard : E → Option (List ℕ)} {old new : Counted E} {line : List ℕ} {T : Type 0} (r : Result T LinkFault)
    → OnOk r (WritesText heard old new line) → IfErr r (StopsWriting heard old new line ⊥) → Says heard old new line
said_or_cut (Ok t) written stopped = inl written
said_or_cut (Err fault) written stopped = inr (fault, stopped)

module _ {E : Type 0} {heard : E → Option (List ℕ)} {errors errors' : Counted E} (asked : Comparison) (names : Names) (first second : Summary) where
  -- the question that is open was asked
  pub open_asked : {open_one : Option Question} {question : Question} → open_one ≡ Some question
      → Says heard errors errors' (question_text question asked names first second) → Asks heard errors errors' asked names first second open_one
  open_asked {open_one} {question} is said = subst (λ q. Asks heard errors errors' asked names first second q) (sym is) said

-- none is open, and nothing was said
pub none_asked : {E : Type 0} (heard : E → Option (List ℕ)) {errors errors' : Counted E} (asked : Comparison) (names : Names) (first second : Summary) {open_one : Option Question}
    → open_one ≡ None → errors' ≡ errors → Asks heard errors errors' asked names first second open_one
none_asked heard {errors} {errors'} asked names first second is same = subst (λ q. Asks heard errors errors' asked names first second q) (sym is) same

module _ {W : Type 0} {contents : W → Option (List ℕ)} (asked : Comparison) (names : Names) (answer : Answer) (first second : Summary) (firsts seconds : ByChannel) where
  -- a fault comes at the totals
  pub totals_stop : {old new : Counted W} {fault : LinkFault} → StopsWriting contents old new (totals_text names first second) ⊤ fault
      → StopsWriting contents old new (output_text asked names answer first second firsts seconds) ⊤ fault
  totals_stop s = first_stops (unless_open (open_question asked answer first second) (answer_text asked names answer firsts seconds)) s

  -- the totals and the answer are written
  pub written_both : {old mid new : Counted W} → open_question asked answer first second ≡ None
      → WritesText contents old mid (totals_text names first second) → WritesText contents mid new (answer_text asked names answer firsts seconds)
      → WritesText contents old new (output_text asked names answer first second firsts seconds)
  written_both {old} {mid} {new} is a b =
      subst (λ q. WritesText contents old new (totals_text names first second ++ unless_open q (answer_text asked names answer firsts seconds))) (sym is) (both_written a b)

  -- a fault comes at the answer
  pub answer_stops : {old mid new : Counted W} {fault : LinkFault} → open_question asked answer first second ≡ None
      → WritesText contents old mid (totals_text names first second) → StopsWriting contents mid new (answer_text asked names answer firsts seconds) ⊤ fault
      → StopsWriting contents old new (output_text asked names answer first second firsts seconds) ⊤ fault
  answer_stops {old} {mid} {new} {fault} is a s =
      subst (λ q. StopsWriting contents old new (totals_text names first second ++ unless_open q (answer_text asked names answer firsts seconds)) ⊤ fault) (sym is) (second_stops a s)

  -- the totals are written, and no answer to a question that is open
  pub question_written : {old new : Counted W} {question : Question} → open_question asked answer first second ≡ Some question
      → WritesText contents old new (totals_text names first second) → WritesText contents old new (output_text asked names answer first second firsts seconds)
  question_written {old} {new} is a =
      subst (λ q. WritesText contents old new (totals_text names first second ++ unless_open q (answer_text asked names answer firsts seconds))) (sym is)
      (subst (λ text. WritesText contents old new text) (sym (append-nil (totals_text names first second))) a)

  -- memory is refused for the line of a question
  pub question_stops : {old new : Counted W} → WritesText contents old new (totals_text names first second)
      → StopsWriting contents old new (output_text asked names answer first second firsts seconds) ⊤ Memory
  question_stops {old} {new} a =
      second_stops a (stops_at_memory new (unless_open (open_question asked answer first second) (answer_text asked names answer firsts seconds)))

module _ {A B W : Type 0} {remaining : A → Option (List ℕ)} {others : B → Option (List ℕ)} {contents : W → Option (List ℕ)} {one one' : Counted A} {other other' : Counted B}
    {writer writer' : Counted W} (asked : Comparison) (names : Names) {S T : Type 0} {b : builder.Ghosts S T} {h : hasher.Ghosts T} (compared : Compared S T b h) where
  -- all was written
  pub ended : {E : Type 0} {heard : E → Option (List ℕ)} {errors errors' : Counted E} {status : ℕ} → Compares remaining others one one' other other' (packets_of asked.kind asked.first) (packets_of asked.kind asked.second)
      (summary_of asked.kind asked.first) (summary_of asked.kind asked.second) asked.first.max_octets asked.second.max_octets compared
      → ((firsts seconds : ByChannel) → StandsAfter compared.left firsts seconds
      → WritesText contents writer writer' (output_text asked names compared.answer compared.first compared.second firsts seconds))
      → status ≡ status_of (open_question asked compared.answer compared.first compared.second) compared.answer
      → Asks heard errors errors' asked names compared.first compared.second (open_question asked compared.answer compared.first compared.second)
      → HasEnded remaining others contents heard one one' other other' writer writer' errors errors' asked names status
  ended {heard = heard} {errors} {errors'} {status} c written is asks =
      let firsts = by_channel (packets_of asked.kind asked.first c.first) in
      let seconds = by_channel (packets_of asked.kind asked.second c.second) in
      record {
        compared = record { first = c.first; second = c.second; answer = compared.answer; first_read = c.first_read; second_read = c.second_read; answers = record { same = c.same; different = c.different } };
        written =
            subst (λ s. WritesText contents writer writer' (output_text asked names compared.answer (summary_of asked.kind asked.first c.first) s firsts seconds)) c.second_summary
            (subst (λ s. WritesText contents writer writer' (output_text asked names compared.answer s compared.second firsts seconds)) c.first_summary (written firsts seconds c.left));
        status_is =
            subst (λ s. status ≡ status_of (open_question asked compared.answer (summary_of asked.kind asked.first c.first) s) compared.answer) c.second_summary
            (subst (λ s. status ≡ status_of (open_question asked compared.answer s compared.second) compared.answer) c.first_summary is);
        said =
            subst (λ s. Asks heard errors errors' asked names (summary_of asked.kind asked.first c.first) s (open_question asked compared.answer (summary_of asked.kind asked.first c.first) s)) c.second_summary
            (subst (λ s. Asks heard errors errors' asked names s compared.second (open_question asked compared.answer s compared.second)) c.first_summary asks);
      }

  -- a fault came while it was written
  pub stopped_writing : {E : Type 0} {heard : E → Option (List ℕ)} {errors errors' : Counted E} → Compares remaining others one one' other other' (packets_of asked.kind asked.first) (packets_of asked.kind asked.second)
      (summary_of asked.kind asked.first) (summary_of asked.kind asked.second) asked.first.max_octets asked.second.max_octets compared
      → (fault : LinkFault) × Says heard errors errors' (fault_text fault) × ((firsts seconds : ByChannel) → StandsAfter compared.left firsts seconds
      → StopsWriting contents writer writer' (output_text asked names compared.answer compared.first compared.second firsts seconds) ⊤ fault)
      → HasStopped remaining others contents heard one one' other other' writer writer' errors errors' asked names
  stopped_writing c stops =
      let firsts = by_channel (packets_of asked.kind asked.first c.first) in
      let seconds = by_channel (packets_of asked.kind asked.second c.second) in
      record {
        fault = stops.0;
        said = stops.1;
        stopped = inr (
          record { first = c.first; second = c.second; answer = compared.answer; first_read = c.first_read; second_read = c.second_read; answers = record { same = c.same; different = c.different } },
          subst (λ s. StopsWriting contents writer writer' (output_text asked names compared.answer (summary_of asked.kind asked.first c.first) s firsts seconds) ⊤ (stops.0)) c.second_summary
              (subst (λ s. StopsWriting contents writer writer' (output_text asked names compared.answer s compared.second firsts seconds) ⊤ (stops.0)) c.first_summary (stops.2 firsts seconds c.left)),
        );
      }
