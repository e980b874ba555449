-- What calls over recordings answer: a text, as much of it as fits, and whether packets are the same.
use Rattle.std.proofs.Common.{◌≡◌, ◌↔◌, ◌⊎◌, ◌≤◌, ℕ, ◌++◌, arith, max, min, nat_lt, if◌then◌else◌, Bool, true, false, List, length, take, drop, Some, Result, Ok, Err, refl, sym, ap, subst, ◌∙◌, inl, inr, append-nil}
use Rattle.std.specs.Io.KnownBytes.{Consumes, IsAtEnd}
use Rattle.std.specs.Prelude.{IfErr, IfOk, IsTrue}
use Rattle.std.proofs.Math.Nat.{min_comm}
use Rattle.std.proofs.lemmas.Bool.{ltb-false}
use Rattle.std.proofs.lemmas.List.{drop_min, take_min}
use Rattle.std.proofs.lemmas.Result.{IfOk-at_ok}
use Rattle.sl_engine.specs.Link.Managed.{Parameters, managed_of}
use Rattle.sl_engine.specs.Link.Totals.{Counts}
use Rattle.sl_engine.specs.Same.{StopsInMemory}
use Rattle.sl_io.specs.declared.fault.LinkFault.{LinkFault}
use Rattle.sl_engine.specs.declared.link.managed.ManagedFault.{ManagedFault}
use Rattle.sl_c.specs.Answer.{Says}
use Rattle.sl_c.specs.declared.answer.Answer.{Answer}
use Rattle.sl_c.specs.declared.answer.Answer.TheVariants.{Done, Memory, TooLong}
use Rattle.sl_c.specs.declared.link.ManagedFields.{ManagedFields}
use Rattle.sl_c.specs.Link.{parameters_from, reading_of, reading_under}
use Rattle.sl_c.specs.Recording.{SaysWhetherSame, GivesText, Lent, LeavesText}

-- the copied part, by how much of it there is
pub front_is : (text output new : List ℕ) (fits : ℕ) → fits ≡ min (length text) (length output) → new ≡ take fits text ++ drop fits output
    → new ≡ take (length output) text ++ drop (length text) output
front_is text output new fits is copied =
    copied
    ∙ ap (λ n. take n text ++ drop n output) is
    ∙ ap (λ n. take n text ++ drop (min (length text) (length output)) output) (min_comm (length text) (length output))
    ∙ ap (λ front. front ++ drop (min (length text) (length output)) output) (take_min (length output) text)
    ∙ ap (λ rest. take (length output) text ++ rest) (drop_min (length text) output)

-- ---- what a call over a recording answers

module _ (text : Parameters → List ℕ → List ℕ) (counts : Parameters → List ℕ → Counts) (m : ManagedFields) (recording : List ℕ) where
  -- that the recording isn't read
  pub refused_gives : (old : Lent) (answer : ℕ) (refusal : Answer) → reading_of m (length recording) ≡ Err refusal → Says answer refusal → GivesText text counts m recording old old answer
  refused_gives old answer refusal e says = record {
    refused = subst (λ (r : Result Parameters Answer). IfErr r (λ it. Says answer it × (old ≡ old))) (sym e) (says, refl);
    read = subst (λ (r : Result Parameters Answer). IfOk r (λ p. (Says answer Memory × (old ≡ old)) ⊎ LeavesText text counts recording old old answer p)) (sym e) tt;
  }

  -- that memory was refused
  pub memory_gives : (old : Lent) (answer : ℕ) (p : Parameters) → reading_of m (length recording) ≡ Ok p → Says answer Memory → GivesText text counts m recording old old answer
  memory_gives old answer p e says = record {
    refused = subst (λ (r : Result Parameters Answer). IfErr r (λ it. Says answer it × (old ≡ old))) (sym e) tt;
    read = subst (λ (r : Result Parameters Answer). IfOk r (λ q. (Says answer Memory × (old ≡ old)) ⊎ LeavesText text counts recording old old answer q)) (sym e) (inl (says, refl));
  }

  -- or the text
  pub text_gives : (old new : Lent) (answer : ℕ) (p : Parameters) → reading_of m (length recording) ≡ Ok p → LeavesText text counts recording old new answer p → GivesText text counts m recording old new answer
  text_gives old new answer p e outcome = record {
    refused = subst (λ (r : Result Parameters Answer). IfErr r (λ it. Says answer it × (new ≡ old))) (sym e) tt;
    read = subst (λ (r : Result Parameters Answer). IfOk r (λ q. (Says answer Memory × (new ≡ old)) ⊎ LeavesText text counts recording old new answer q)) (sym e) (inr outcome);
  }

-- ---- what a call over two recordings answers

-- the parameters are for recordings of as many octets
within_limit : (octets : ℕ) (managed : Result Parameters ManagedFault) → IfOk (reading_under octets managed) (λ p. octets ≤ p.max_octets)
within_limit octets (Err refused) = tt
within_limit octets (Ok p) = by (nat_lt p.max_octets octets) refl
  where
    by : (t : Bool) → nat_lt p.max_octets octets ≡ t → IfOk (if t then Err TooLong else Ok p) (λ (q : Parameters). octets ≤ q.max_octets)
    by true e = tt
    by false e = ltb-false p.max_octets octets e

-- so memory was refused
at_memory : {limit octets : ℕ} {may : Type 0} {fault : LinkFault} → octets ≤ limit → StopsInMemory limit octets may fault → may
at_memory fits (inl long) = absurd (omega (arith, fits, long.1))
at_memory fits (inr (same, few, refused)) = refused

module _ (packets : Parameters → List ℕ → List (List (List ℕ))) (may_refuse_memory : Parameters → List ℕ → Type 0) (m : ManagedFields) (one other : List ℕ) where
  abbrev may_refuse : Parameters → Type 0
  may_refuse p = may_refuse_memory p one ⊎ may_refuse_memory p other

  -- that the recordings aren't read
  pub refused_compares : (same : Bool) (answer : ℕ) (refusal : Answer) → reading_of m (max (length one) (length other)) ≡ Err refusal → Says answer refusal → SaysWhetherSame packets may_refuse_memory m one other same same answer
  refused_compares same answer refusal e says = record {
    refused = subst (λ (r : Result Parameters Answer). IfErr r (λ it. Says answer it × (same ≡ same))) (sym e) (says, refl);
    read = subst (λ (r : Result Parameters Answer). IfOk r (λ p. (Says answer Memory × (same ≡ same) × may_refuse p) ⊎ (Says answer Done × (IsTrue same ↔ (packets p one ≡ packets p other))))) (sym e) tt;
  }

  -- that memory was refused
  pub memory_compares : (same : Bool) (answer : ℕ) (p : Parameters) (fault : LinkFault) → reading_of m (max (length one) (length other)) ≡ Ok p → Says answer Memory
      → StopsInMemory p.max_octets (max (length one) (length other)) (may_refuse p) fault → SaysWhetherSame packets may_refuse_memory m one other same same answer
  memory_compares same answer p fault e says stops = record {
    refused = subst (λ (r : Result Parameters Answer). IfErr r (λ it. Says answer it × (same ≡ same))) (sym e) tt;
    read = subst (λ (r : Result Parameters Answer). IfOk r (λ q. (Says answer Memory × (same ≡ same) × may_refuse q) ⊎ (Says answer Done × (IsTrue same ↔ (packets q one ≡ packets q other))))) (sym e) (inl (says, refl, at_memory (IfOk-at_ok (λ (q : Parameters). max (length one) (length other) ≤ q.max_octets) e (within_limit (max (length one) (length other)) (managed_of (parameters_from m)))) stops));
  }

  -- or what was found
  pub found_compares : (same same' : Bool) (answer : ℕ) (p : Parameters) → reading_of m (max (length one) (length other)) ≡ Ok p → Says answer Done → (IsTrue same' ↔ (packets p one ≡ packets p other)) → SaysWhetherSame packets may_refuse_memory m one other same same' answer
  found_compares same same' answer p e says found = record {
    refused = subst (λ (r : Result Parameters Answer). IfErr r (λ it. Says answer it × (same' ≡ same))) (sym e) tt;
    read = subst (λ (r : Result Parameters Answer). IfOk r (λ q. (Says answer Memory × (same' ≡ same) × may_refuse q) ⊎ (Says answer Done × (IsTrue same' ↔ (packets q one ≡ packets q other))))) (sym e) (inr (says, found));
  }

-- octets in memory that were read to their end are all of them
pub whole_of : (recording rest octets : List ℕ) → Consumes (Some recording) (Some rest) octets → IsAtEnd (Some rest) → octets ≡ recording
whole_of recording rest octets taken ended = sym (taken ∙ ap (λ l. octets ++ l) ended ∙ append-nil octets)
