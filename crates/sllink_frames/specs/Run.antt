-- A run over a file of one shape.
use Rattle.std.specs.Prelude.{◌≡◌, ℕ, ◌==◌, ◌&&◌, List, Option, if◌then◌else◌}
use Rattle.sl_io.specs.Streams.{Stops, TranslatesWithTotals}
use Rattle.sl_io.specs.declared.counted.Counted.{Counted}
use Rattle.sl_io.specs.declared.fault.LinkFault.{LinkFault}
use Rattle.sl_sync.specs.Cadu.{cadu_rule}
use Rattle.sl_sync.specs.Cltu.{cltu_rule}
use Rattle.sl_sync.specs.Reading.{chunk_size, file_totals, most_octets}
use Rattle.sl_sync.specs.Units.{Rule, frames_text}
use Rattle.sl_sync.specs.declared.totals.Totals.{Totals}
use Rattle.sllink_frames.specs.declared.command_line.Shape.{Shape}
use Rattle.sllink_frames.specs.declared.command_line.Shape.TheVariants.{Cadu, Cltu}

-- what tells the units of a shape
abbrev pub shape_rule : Shape → Rule
shape_rule (Cadu s) = cadu_rule s
shape_rule (Cltu s) = cltu_rule s

-- 0 where no marker was wrong, no code block was refused and no octet went astray, else 1
abbrev pub status_of : Totals → ℕ
status_of t = if (t.wrong_markers == 0) && ((t.refused_blocks == 0) && (t.astray == 0)) then 0 else 1

module _ {R W : Type 0} (remaining : R → Option (List ℕ)) (contents : W → Option (List ℕ)) where
  -- the frames of the file were written and nothing else, and it has these totals
  abbrev pub HasWritten : Counted R → Counted R → Counted W → Counted W → Shape → Totals → Type 0
  HasWritten reader reader' writer writer' shape totals =
      TranslatesWithTotals remaining contents reader reader' writer writer' (frames_text (shape_rule shape))
      (file_totals (shape_rule shape)) most_octets totals

  -- a fault came, and a prefix of the frames of what was read was written
  abbrev pub IsStoppedBy : Counted R → Counted R → Counted W → Counted W → Shape → LinkFault → Type 0
  IsStoppedBy reader reader' writer writer' shape fault =
      Stops remaining contents reader reader' writer writer' (frames_text (shape_rule shape)) most_octets chunk_size fault

  -- the frames were written, and this is the status of the totals
  pub record HasEnded (reader reader' : Counted R) (writer writer' : Counted W) (shape : Shape) (status : ℕ) : Type 0 where
    pub totals : Totals
    pub written : HasWritten reader reader' writer writer' shape totals
    pub status_is : status ≡ status_of totals

  -- some fault came
  pub record HasStopped (reader reader' : Counted R) (writer writer' : Counted W) (shape : Shape) : Type 0 where
    pub fault : LinkFault
    pub stopped : IsStoppedBy reader reader' writer writer' shape fault
