-- What the program says of itself: its help and its version.
use Rattle.std.specs.Prelude.{◌≡◌, ◌⊎◌, List, ◌++◌, codes}
use Rattle.clap.specs.Walk.{Text}
use Rattle.clap.specs.declared.error.kind.ErrorKind.{ErrorKind}
use Rattle.clap.specs.declared.error.kind.ErrorKind.TheVariants.{DisplayHelp, DisplayVersion, OutOfMemory}
use Rattle.sl_link.specs.Program.CommandLine.{AskForHelp, AskForVersion}

-- the name and the version
abbrev pub version_line : Text
version_line = codes "sllink 2.0.0\n"

-- where input comes from, where output goes, and the exit statuses
abbrev pub help_end : Text
help_end =
    codes "\nThe recording is read from the standard input: transfer frames end to end, nothing else.\n"
    ++ codes "What the verb asks for goes to the standard output, faults to the standard error.\n"
    ++ codes "Numbers are decimal.\n"
    ++ codes "\nExit status:\n"
    ++ codes "  0  all was read and written, and check met no anomaly; or help or the version was written\n"
    ++ codes "  1  all was read and written, and check met anomalies\n"
    ++ codes "  2  the command line or a value is refused; nothing was read or written\n"
    ++ codes "  3  reading or writing failed, the recording is too long, or there was no memory\n"

-- the text ends as all help does; what stands before is of `clap`
pub record EndsAsHelp (text : Text) : Type 0 where
  pub usage : Text
  pub ends : text ≡ usage ++ help_end

-- the words ask for help or for the version, and this was done with the text of it
pub record WithAnswer (words : List Text) (Done : Text → Type 0) : Type 0 where
  pub text : Text
  pub answers : (AskForHelp words × EndsAsHelp text) ⊎ (AskForVersion words × (text ≡ version_line))
  pub done : Done text

-- the same, where `clap` answers the words with an error of this kind
pub record WithText (kind : ErrorKind) (Done : Text → Type 0) : Type 0 where
  pub text : Text
  pub answers : ((kind ≡ DisplayHelp) × EndsAsHelp text) ⊎ ((kind ≡ DisplayVersion) × (text ≡ version_line))
  pub done : Done text

-- there was no memory for the words, or there may be none for the text of help
abbrev pub MayLackMemory : ErrorKind → Type 0
MayLackMemory kind = (kind ≡ OutOfMemory) ⊎ (kind ≡ DisplayHelp)
