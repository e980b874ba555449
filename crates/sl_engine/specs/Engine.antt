-- The engines: what is done with a recording, by the kind of its frames. What an engine writes for a recording and what
-- it counts in it, and how it stops.
use Rattle.std.specs.Prelude.{ℕ, List, ◌≡◌, ◌≢◌, Option}
use Rattle.sl_engine.specs.declared.engine.Engine.{Engine}
use Rattle.sl_engine.specs.declared.engine.RecordingKind.{RecordingKind}
use Rattle.sl_engine.specs.declared.engine.RecordingKind.TheVariants.{Tm, Tc}
use Rattle.sl_engine.specs.declared.engine.VerbName.{VerbName}
use Rattle.sl_engine.specs.declared.engine.VerbName.TheVariants.{Show, Check, Packets, Normalise}
use Rattle.sl_io.specs.declared.counted.Counted.{Counted}
use Rattle.sl_io.specs.declared.fault.LinkFault.{LinkFault}
use Rattle.sl_io.specs.declared.fault.LinkFault.TheVariants.{Memory, Write}
use Rattle.sl_engine.specs.Io.Streams.{IsRead, TranslatesWithTotals, Stops}
use Rattle.sl_engine.specs.Kind.Tc.{IsIncompleteAtLastTc, MayRefuseStoreMemoryTc, tc_counts}
use Rattle.sl_engine.specs.Kind.Tm.{IsIncompleteAtLastTm, MayRefuseStoreMemoryTm, tm_counts}
use Rattle.sl_engine.specs.Link.Managed.{Parameters}
use Rattle.sl_engine.specs.Link.Totals.{Counts}
use Rattle.sl_engine.specs.Normalise.Tc.{tc_normal_form}
use Rattle.sl_engine.specs.Normalise.Tm.{tm_normal_form}
use Rattle.sl_engine.specs.Framing.{chunk_size}
use Rattle.sl_engine.specs.Framing.Tc.{tc_frames}
use Rattle.sl_engine.specs.Framing.Tm.{tm_frames}
use Rattle.sl_engine.specs.Verbs.Check.Tc.{check_tc_text, check_tc_counts}
use Rattle.sl_engine.specs.Verbs.Check.Tm.{check_tm_text, check_tm_counts}
use Rattle.sl_engine.specs.Verbs.Packets.Tc.{packets_tc_text}
use Rattle.sl_engine.specs.Verbs.Packets.Tm.{packets_tm_text}
use Rattle.sl_engine.specs.Verbs.Show.Tc.{show_tc_text, show_tc_counts}
use Rattle.sl_engine.specs.Verbs.Show.Tm.{show_tm_text, show_tm_counts}

-- what is done with a recording, and which frames it has
abbrev pub engine_of : VerbName → RecordingKind → Engine
engine_of verb kind = record { verb = verb; kind = kind }

-- the listing of its frames, of its anomalies or of its packets, or the normal form of its packets
abbrev pub engine_text : VerbName → RecordingKind → Parameters → List ℕ → List ℕ
engine_text Show Tm = show_tm_text
engine_text Show Tc = show_tc_text
engine_text Check Tm = check_tm_text
engine_text Check Tc = check_tc_text
engine_text Packets Tm = packets_tm_text
engine_text Packets Tc = packets_tc_text
engine_text Normalise Tm = tm_normal_form
engine_text Normalise Tc = tc_normal_form

-- the counts of what the engine meets
abbrev pub engine_counts : VerbName → RecordingKind → Parameters → List ℕ → Counts
engine_counts Show Tm = show_tm_counts
engine_counts Show Tc = show_tc_counts
engine_counts Check Tm = check_tm_counts
engine_counts Check Tc = check_tc_counts
engine_counts verb Tm = tm_counts
engine_counts verb Tc = tc_counts

-- the frames that a recording is divided into
abbrev pub engine_frames : RecordingKind → Parameters → List ℕ → List (List ℕ)
engine_frames Tm = tm_frames
engine_frames Tc = tc_frames

-- Memory may be refused to the engine at the last of these frames: to `show`, and to `check` of TM frames, never; to
-- `check` of TC frames and to `packets` for what is incomplete, to `normalise` for stored packets too.
abbrev pub MayRefuseEngineMemory : VerbName → RecordingKind → Parameters → List (List ℕ) → Type 0
MayRefuseEngineMemory Show kind managed frames = ⊥
MayRefuseEngineMemory Check Tm managed frames = ⊥
MayRefuseEngineMemory Check Tc managed frames = IsIncompleteAtLastTc managed frames
MayRefuseEngineMemory Packets Tm managed frames = IsIncompleteAtLastTm managed frames
MayRefuseEngineMemory Packets Tc managed frames = IsIncompleteAtLastTc managed frames
MayRefuseEngineMemory Normalise Tm managed frames = MayRefuseStoreMemoryTm managed frames
MayRefuseEngineMemory Normalise Tc managed frames = MayRefuseStoreMemoryTc managed frames

module _ {R W : Type 0} (remaining : R → Option (List ℕ)) (contents : W → Option (List ℕ)) where
  -- the engine's text of a recording was written, and the totals are its counts of it
  abbrev pub HasWritten : Counted R → Counted R → Counted W → Counted W → Engine → Parameters → Counts → Type 0
  HasWritten reader reader' writer writer' engine managed =
      TranslatesWithTotals remaining contents reader reader' writer writer'
      (engine_text engine.verb engine.kind managed) (engine_counts engine.verb engine.kind managed) managed.max_octets

  -- A fault stopped the engine. A listing of frames, or of the anomalies of TM frames, needs no memory. A normal form is
  -- written once all is read: at `Write` all was read, and at any other fault nothing is written. The program's `run` has this record
  -- in its contract too. It flushes the writer after the engine, and a flush that fails counts as `Write`.
  pub record IsStoppedBy (reader reader' : Counted R) (writer writer' : Counted W) (engine : Engine)
      (managed : Parameters) (fault : LinkFault) : Type 0 where
    pub cause : Stops remaining contents reader reader' writer writer'
        (engine_text engine.verb engine.kind managed) managed.max_octets chunk_size fault
    -- for `run`, which has no clause `memory` as `run_engine` has
    pub not_memory : engine.verb ≡ Show → fault ≢ Memory
    pub check_not_memory : engine.verb ≡ Check → engine.kind ≡ Tm → fault ≢ Memory
    pub all_read : engine.verb ≡ Normalise → fault ≡ Write → IsRead remaining reader'
    pub nothing : engine.verb ≡ Normalise → fault ≢ Write → writer' ≡ writer
