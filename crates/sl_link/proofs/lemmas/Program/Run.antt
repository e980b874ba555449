-- A run: the flush after an engine, and the answers to help and the version.
use Rattle.std.proofs.Common.{◌≡◌, ℕ, List, Option, inl, inr, subst, sym, ◌∙◌}
use Rattle.std.specs.Prelude.{◌⊎◌}
use Rattle.std.specs.Io.KnownBytes.{Keeps}
use Rattle.clap.specs.Walk.{Text}
use Rattle.clap.specs.declared.error.kind.ErrorKind.{ErrorKind}
use Rattle.clap.specs.declared.error.kind.ErrorKind.TheVariants.{DisplayHelp, DisplayVersion, OutOfMemory}
use Rattle.sl_io.proofs.StreamLemmas as flushing
use Rattle.sl_io.specs.declared.counted.Counted.{Counted}
use Rattle.sl_io.specs.declared.fault.LinkFault.{LinkFault}
use Rattle.sl_io.specs.declared.fault.LinkFault.TheVariants.{Memory, Write}
use Rattle.sl_link.specs.Program.Answer.{EndsAsHelp, WithAnswer, WithText, version_line}
use Rattle.sl_link.specs.Program.CommandLine.{AskForHelp, AskForVersion, IsRefusal}
use Rattle.sl_engine.specs.Link.Counted.{stream_of, HadOneFault}
use Rattle.sl_engine.specs.declared.engine.Engine.{Engine}
use Rattle.sl_engine.specs.Engine.{HasWritten, IsStoppedBy}
use Rattle.sl_engine.specs.Link.Managed.{Parameters}
use Rattle.sl_engine.specs.Link.Totals.{Counts}

module _ {R W : Type 0} {remaining : R → Option (List ℕ)} {contents : W → Option (List ℕ)} {reader reader' : Counted R} {writer mid writer' : Counted W} where
  -- where the flush fails, all of the text is in its place, but the writer had a fault
  pub stopped_flushing : {engine : Engine} {managed : Parameters} {totals : Counts} {fault : LinkFault} → HasWritten remaining contents reader reader' writer mid engine managed totals
      → Keeps (contents (stream_of mid)) (contents (stream_of writer')) → fault ≡ Write → HadOneFault mid writer' → IsStoppedBy remaining contents reader reader' writer writer' engine managed fault
  stopped_flushing done kept is_write failed =
      record {
        cause = flushing.stopped_flushing done.translated kept is_write failed;
        not_memory = λ lists is_memory. let bad : Memory ≡ Write = sym is_memory ∙ is_write in cc;
        check_not_memory = λ checks of_tm is_memory. let bad : Memory ≡ Write = sym is_memory ∙ is_write in cc;
        all_read = λ form same. done.translated.to_end;
        nothing = λ form other. absurd (other is_write);
      }

-- a refusal that asks for help or the version comes of words that do
pub with_answer : {kind : ErrorKind} {words : List Text} {Done : Text → Type 0} → (kind ≡ OutOfMemory) ⊎ IsRefusal kind words → WithText kind Done → WithAnswer words Done
with_answer {kind} {words} refused t = record { text = t.text; answers = go refused t.answers; done = t.done }
  where
    go : (kind ≡ OutOfMemory) ⊎ IsRefusal kind words → ((kind ≡ DisplayHelp) × EndsAsHelp t.text) ⊎ ((kind ≡ DisplayVersion) × (t.text ≡ version_line))
        → (AskForHelp words × EndsAsHelp t.text) ⊎ (AskForVersion words × (t.text ≡ version_line))
    go (inl memory) (inl help) = absurd (cc)
    go (inl memory) (inr version) = absurd (cc)
    go (inr is) (inl help) = inl (subst (λ (k : ErrorKind). IsRefusal k words) help.0 is, help.1)
    go (inr is) (inr version) = inr (subst (λ (k : ErrorKind). IsRefusal k words) version.0 is, version.1)
