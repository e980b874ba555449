-- Text that is added to an output: lines that wait, and the writer that they go to.
use Rattle.std.specs.Prelude.{◌≡◌, ℕ, List, Option}
use Rattle.sl_engine.specs.declared.io.output.Output.{Output}
use Rattle.sl_engine.specs.Io.Streams.{AddsText}

-- The writer is the one that was lent: each reference has a `ghost_name` of its own. A caller that lends a writer to an
-- output learns what became of it only while the output holds that reference. So each step promises this. Where a text
-- was added, `Adds` says so. Elsewhere this stands beside what is said of the writer's octets and faults, mostly as a
-- clause `lent`, since nothing else there says so.
abbrev pub KeepsWriter : {W : Type 0} → Output W → Output W → Type 0
KeepsWriter old new = new.writer.ghost_name ≡ old.writer.ghost_name

module _ {W : Type 0} (contents : W → Option (List ℕ)) where
  -- The text was added: the lines that wait now come after what was written, to the writer that was lent.
  pub record Adds (old : Output W) (text : List ℕ) (new : Output W) : Type 0 where
    pub lent : KeepsWriter old new
    pub adds : AddsText contents old.writer.now new.writer.now old.lines new.lines text
