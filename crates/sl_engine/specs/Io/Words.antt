-- The lines of a listing, and words that several verbs have.
use Rattle.std.specs.Prelude.{ℕ, ◌==◌, if◌then◌else◌, List, [], ◌++◌, codes, decimal}
use Rattle.sl_cop.specs.declared.verdict.Verdict.{Verdict}
use Rattle.sl_cop.specs.declared.verdict.Verdict.TheVariants.{Accept, Early, Late, Outside, Refused, Command}
use Rattle.sl_tcframe.specs.declared.tc_frame.TcSkip.{TcSkip}
use Rattle.sl_tcframe.specs.declared.tc_frame.TcSkip.TheVariants as tc
use Rattle.sl_tmframe.specs.declared.tm_frame.TmSkip.{TmSkip}
use Rattle.sl_tmframe.specs.declared.tm_frame.TmSkip.TheVariants as tm

-- a line: the offset in the recording of what the line is about, and a text about it
abbrev pub line_at : ℕ → List ℕ → List ℕ
line_at offset text = decimal offset ++ text ++ codes "\n"

-- the line of a remainder, by where it begins and how many octets it has, where there is one
abbrev pub remainder_line : ℕ → ℕ → List ℕ
remainder_line offset octets = if octets == 0 then [] else line_at offset (codes " rest " ++ decimal octets)

-- why a TM frame is skipped
abbrev pub tm_skip_word : TmSkip → List ℕ
tm_skip_word tm.Fecf = codes "fecf"
tm_skip_word tm.Version = codes "version"
tm_skip_word tm.Spacecraft = codes "spacecraft"

-- why a TC frame is skipped
abbrev pub tc_skip_word : TcSkip → List ℕ
tc_skip_word tc.Fecf = codes "fecf"
tc_skip_word tc.Version = codes "version"
tc_skip_word tc.Spacecraft = codes "spacecraft"
tc_skip_word tc.Long = codes "long"
tc_skip_word tc.Kind = codes "kind"
tc_skip_word tc.Empty = codes "empty"
tc_skip_word tc.Command = codes "command"

-- what FARM-1 makes of a frame
abbrev pub verdict_word : Verdict → List ℕ
verdict_word Accept = codes "accept"
verdict_word Early = codes "early"
verdict_word Late = codes "late"
verdict_word Outside = codes "outside"
verdict_word Refused = codes "refused"
verdict_word Command = codes "command"
