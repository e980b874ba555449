-- How a run of the program ends.
use Rattle.std.specs.Prelude.{ℕ, List, ◌≡◌, ◌≢◌, IsErr, Option, Ok}
use Rattle.clap.specs.Walk.{Text}
use Rattle.sl_engine.specs.declared.engine.VerbName.TheVariants.{Check}
use Rattle.sl_io.specs.declared.counted.Counted.{Counted}
use Rattle.sl_io.specs.declared.fault.LinkFault.{LinkFault}
use Rattle.sl_link.specs.declared.program.command_line.Asked.{Asked}
use Rattle.sl_engine.specs.Engine.{HasWritten, IsStoppedBy, engine_of}
use Rattle.sl_engine.specs.Link.Managed.{Parameters}
use Rattle.sl_engine.specs.Link.Totals.{Counts}
use Rattle.sl_link.specs.Program.CommandLine.{AskFor}

module _ {R W : Type 0} (remaining : R → Option (List ℕ)) (contents : W → Option (List ℕ)) where
  -- no managed parameter that is asked for is refused, and the engine's text of a recording was written
  pub record HasEnded (reader reader' : Counted R) (writer writer' : Counted W) (asked : Asked)
      (totals : Counts) : Type 0 where
    pub managed : Parameters
    pub allowed : asked.managed ≡ Ok managed
    pub written : HasWritten remaining contents reader reader' writer writer'
        (engine_of asked.verb asked.kind) managed totals

  -- the engine came to its end, and met no anomaly
  pub record HasSucceeded (reader reader' : Counted R) (writer writer' : Counted W) (asked : Asked) : Type 0 where
    pub totals : Counts
    pub ended : HasEnded reader reader' writer writer' asked totals
    pub none : totals.anomalies ≡ 0

  -- a check came to its end, and met anomalies
  pub record HasMetAnomalies (reader reader' : Counted R) (writer writer' : Counted W) (asked : Asked) : Type 0 where
    pub totals : Counts
    pub ended : HasEnded reader reader' writer writer' asked totals
    pub some : totals.anomalies ≢ 0
    pub of_check : asked.verb ≡ Check

  -- no managed parameter that is asked for is refused, and a fault stopped the engine
  pub record HasStopped (reader reader' : Counted R) (writer writer' : Counted W) (asked : Asked) : Type 0 where
    pub managed : Parameters
    pub allowed : asked.managed ≡ Ok managed
    pub fault : LinkFault
    pub stopped : IsStoppedBy remaining contents reader reader' writer writer'
        (engine_of asked.verb asked.kind) managed fault

-- the words are taken, and this holds of what they ask for
pub record WithAsked (words : List Text) (Done : Asked → Type 0) : Type 0 where
  pub asked : Asked
  pub asks : AskFor words asked
  pub done : Done asked

-- a managed parameter that is asked for is refused
abbrev pub AsksForRefusedParameter : Asked → Type 0
AsksForRefusedParameter asked = IsErr asked.managed
