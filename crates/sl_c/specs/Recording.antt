-- What a call over recordings in memory answers, and what it leaves in what it was lent.
use Rattle.std.specs.Prelude.{◌≡◌, ◌↔◌, ◌⊎◌, ℕ, ◌<◌, ◌≤◌, List, ◌++◌, length, take, drop, max, Bool, IsTrue, IfOk, IfErr}
use Rattle.sl_engine.specs.Link.Managed.{Parameters}
use Rattle.sl_engine.specs.Link.Totals.{Counts}
use Rattle.sl_c.specs.Answer.{Says}
use Rattle.sl_c.specs.declared.answer.Answer.TheVariants.{Done, Memory, Room}
use Rattle.sl_c.specs.declared.link.ManagedFields.{ManagedFields}
use Rattle.sl_c.specs.declared.link.TotalsFields.{TotalsFields}
use Rattle.sl_c.specs.Link.{counts_of_totals, reading_of}

-- ---- the text of a recording

-- what a call is lent: room for a text, and where its size and the totals go
pub record Lent : Type 0 where
  pub output : List ℕ
  pub size : ℕ
  pub totals : TotalsFields

abbrev pub lent : List ℕ → ℕ → TotalsFields → Lent
lent output size totals = record { output = output; size = size; totals = totals }

-- The output has the text, or as much of its front as fits, and what is behind the text stays. The
-- size is that of the whole text.
pub record HasText (text : List ℕ) (counts : Counts) (old new : Lent) : Type 0 where
  pub front : new.output ≡ take (length old.output) text ++ drop (length text) old.output
  pub size : new.size ≡ length text
  pub totals : counts_of_totals new.totals ≡ counts

-- the text is given under the parameters `p`, and the answer says whether there was room for all of it
pub record LeavesText (text : Parameters → List ℕ → List ℕ) (counts : Parameters → List ℕ → Counts)
    (recording : List ℕ) (old new : Lent) (answer : ℕ) (p : Parameters) : Type 0 where
  pub written : HasText (text p recording) (counts p recording) old new
  pub fits : length (text p recording) ≤ length old.output → Says answer Done
  pub room : length old.output < length (text p recording) → Says answer Room

-- What a call answers and leaves: why the recording isn't read, or that memory was refused, and
-- then all is as it was; or the text and its outcome.
pub record GivesText (text : Parameters → List ℕ → List ℕ) (counts : Parameters → List ℕ → Counts)
    (m : ManagedFields) (recording : List ℕ) (old new : Lent) (answer : ℕ) : Type 0 where
  pub refused : IfErr (reading_of m (length recording)) (λ refusal. Says answer refusal × (new ≡ old))
  pub read : IfOk (reading_of m (length recording)) (λ p. (Says answer Memory × (new ≡ old))
      ⊎ LeavesText text counts recording old new answer p)

-- ---- whether two recordings deliver the same packets

-- What a call answers and leaves: why the recordings aren't read; or that memory was refused, where
-- one of the recordings allows it; and then all is as it was. Or true exactly where the packets of
-- both are the same.
pub record SaysWhetherSame (packets : Parameters → List ℕ → List (List (List ℕ)))
    (may_refuse_memory : Parameters → List ℕ → Type 0) (m : ManagedFields) (one other : List ℕ)
    (same same' : Bool) (answer : ℕ) : Type 0 where
  pub refused : IfErr (reading_of m (max (length one) (length other))) (λ refusal. Says answer refusal × (same' ≡ same))
  pub read : IfOk (reading_of m (max (length one) (length other))) (λ p.
      (Says answer Memory × (same' ≡ same) × (may_refuse_memory p one ⊎ may_refuse_memory p other))
      ⊎ (Says answer Done × (IsTrue same' ↔ (packets p one ≡ packets p other))))
