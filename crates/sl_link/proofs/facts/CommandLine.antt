-- Command lines and what becomes of them, computed from the definitions, so that a wrong definition doesn't
-- check.
use Rattle.std.proofs.Common.{replicate, ◌≡◌, ◌==◌, ℕ, Bool, true, false, cond, List, [], ◌∷◌, Option, Some, None, option_map, map, Result, Ok, Err, codes, refl}
use Prim.Native.String.{String}
use Rattle.clap.specs.Words.{Kinds, Row, Text, subcommand_of}
use Rattle.clap.specs.declared.error.kind.ErrorKind.TheVariants.{ArgumentConflict, DisplayHelp, DisplayVersion, InvalidSubcommand, InvalidValue, MissingRequiredArgument, MissingSubcommand, TooManyValues, UnknownArgument, ValueValidation}
use Rattle.clap.proofs.OnLiterals.{clap_on_literals}
use Rattle.sl_link.specs.Program.CommandLine.{is_complete, kind_in, parameters_in, plain_in, refusals, sllink_app, starts_in, verb_named, with_vcs}
use Rattle.sl_engine.specs.Link.Managed.{Parameters, managed_of}
use Rattle.sl_engine.specs.declared.link.managed.ManagedFault.TheVariants.{Window}
use Rattle.sl_engine.specs.declared.engine.RecordingKind.{RecordingKind}
use Rattle.sl_engine.specs.declared.engine.RecordingKind.TheVariants.{Tm, Tc}
use Rattle.sl_link.specs.declared.program.command_line.RefusedParameter.{RefusedParameter}
use Rattle.sl_link.specs.declared.program.command_line.RefusedParameter.TheVariants as refused
use Rattle.sl_engine.specs.declared.engine.VerbName.{VerbName}
use Rattle.sl_engine.specs.declared.engine.VerbName.TheVariants.{Show, Check, Packets, Normalise}
use Rattle.sl_engine.proofs.facts.Rows.{tm}

-- a table of values, and what the function gives for each
abbrev Have : {A B : Type 0} → (A → B) → List (A × B) → Type 0
Have f rows = map (λ row. f row.0) rows ≡ map (λ row. row.1) rows

-- an octet before the first of some words
abbrev onto_first : ℕ → List Text → List Text
onto_first x [] = (x ∷ []) ∷ []
onto_first x (word ∷ rest) = (x ∷ word) ∷ rest

-- what stands between single spaces
abbrev split : Text → List Text
split [] = [] ∷ []
split (x ∷ rest) = cond (x == 32) ([] ∷ split rest) (onto_first x (split rest))

-- the words of a line
abbrev words : String → List Text
words line = split (codes line)

abbrev Request : Type 0
Request = VerbName × RecordingKind × Parameters

-- why the line is refused, and what it asks for
abbrev read : String → Kinds × Option Request
read line = (
  refusals (words line),
  option_map (λ (met : Text × List Row). (verb_named met.0, kind_in met.1, parameters_in met.1)) (subcommand_of sllink_app (words line)),
)

-- nothing is refused, and this is asked for
abbrev asks : VerbName → RecordingKind → Parameters → Kinds × Option Request
asks verb kind parameters = ([], Some (verb, kind, parameters))

-- the managed parameters where the spacecraft alone is given: those of the other rows, with frames of 1,115 octets
abbrev of : ℕ → Parameters
of scid = record tm { spacecraft = scid; tm_length = 1115 }

abbrev taken_lines : List (String × (Kinds × Option Request))
taken_lines =
    -- each verb and each kind
    ("sllink show tm --scid 7", asks Show Tm (of 7))
    ∷ ("sllink show tc --scid 1", asks Show Tc (of 1))
    ∷ ("sllink check tm --scid 1 --tm-length 32", asks Check Tm (record (of 1) { tm_length = 32 }))
    ∷ ("sllink check tc --scid 1", asks Check Tc (of 1))
    ∷ ("sllink packets tm --scid 1", asks Packets Tm (of 1))
    ∷ ("sllink packets --tc-fecf tc --scid 1 --window 2", asks Packets Tc (record (of 1) { tc_fecf = true; window = 2 }))
    ∷ ("sllink normalise tm --scid 1 --tm-length 32", asks Normalise Tm (record (of 1) { tm_length = 32 }))
    ∷ ("sllink normalise tc --scid 1 --vr 255", asks Normalise Tc (record (of 1) { starts = replicate 64 255 }))
    -- all options, and options in any order, with their number as a word of its own or not
    ∷ (
      "sllink show tc --scid 1 --tm-length 32 --tc-length 16 --tm-fecf --tc-fecf --window 2 --vr 255 --limit 9",
      asks Show Tc (record (of 1) { tm_length = 32; tm_fecf = true; tc_max = 16; tc_fecf = true; window = 2; starts = replicate 64 255; max_octets = 9 }),
    )
    ∷ (
      "sllink show tm --scid 1 --tm-length 32 --tc-length 16 --tm-fecf --window 2 --vr 4 --limit 9",
      asks Show Tm (record (of 1) { tm_length = 32; tm_fecf = true; tc_max = 16; window = 2; starts = replicate 64 4; max_octets = 9 }),
    )
    ∷ ("sllink show tm --scid 1 --tc-fecf", asks Show Tm (record (of 1) { tc_fecf = true }))
    ∷ ("any show --limit=9 --tm-length 0 tm --scid=65535", asks Show Tm (record (of 65535) { tm_length = 0; max_octets = 9 }))
    ∷ ("sllink normalise tm --vr 8 --scid 7", asks Normalise Tm (record (of 7) { starts = replicate 64 8 }))
    ∷ ("sllink show tm --scid 7 --tm-fecf", asks Show Tm (record (of 7) { tm_fecf = true }))
    ∷ ("sllink normalise --tm-fecf tm --scid=7", asks Normalise Tm (record (of 7) { tm_fecf = true }))
    ∷ ("sllink show tc --scid 7 --tc-fecf", asks Show Tc (record (of 7) { tc_fecf = true }))
    ∷ ("sllink show tc --scid 7 --window 11", asks Show Tc (record (of 7) { window = 11 }))
    -- the greatest numbers, and a number with a sign
    ∷ ("sllink show tm --scid 7 --tm-length=65535", asks Show Tm (record (of 7) { tm_length = 65535 }))
    ∷ ("sllink show tc --scid 7 --tc-length=65535", asks Show Tc (record (of 7) { tc_max = 65535 }))
    ∷ ("sllink show tc --scid 7 --window 255", asks Show Tc (record (of 7) { window = 255 }))
    ∷ ("sllink show tm --scid +7 --limit 18446744073709551615", asks Show Tm (record (of 7) { max_octets = 18446744073709551615 }))
    ∷ []

-- the words name a verb, its kind, and each number
abbrev line_is_complete : String → Option Bool
line_is_complete line = option_map (λ (met : Text × List Row). is_complete met.0 met.1) (subcommand_of sllink_app (words line))

-- each number at its greatest, and then lines of which one thing is missing or wrong
abbrev whole : List (String × Option Bool)
whole =
    ("sllink check tc --scid +7 --vr=-0", Some true)
    ∷ ("sllink show tm --scid 65535 --tm-length 65535 --tc-length 65535 --window 255 --vr 255 --limit 18446744073709551615", Some true)
    ∷ ("sllink help", Some false)
    ∷ ("sllink packets --scid 7", Some false)
    ∷ ("sllink packets tx --scid 7", Some false)
    ∷ ("sllink normalise tm", Some false)
    ∷ ("sllink show tm --scid 65536", Some false)
    ∷ ("sllink show tm --scid 7 --tm-length 65536", Some false)
    ∷ ("sllink show tm --scid 7 --tc-length 65536", Some false)
    ∷ ("sllink show tm --scid 7 --window 256", Some false)
    ∷ ("sllink show tm --scid 7 --vr 256", Some false)
    ∷ ("sllink show tm --scid 7 --limit 18446744073709551616", Some false)
    ∷ []

-- the texts of the options that name virtual channels
abbrev texts_in : String → Option (Option Text × Option Text)
texts_in line = option_map (λ (met : Text × List Row). (plain_in met.1, starts_in met.1)) (subcommand_of sllink_app (words line))

-- the last of these lines has a word of no octets
abbrev named : List (String × Option (Option Text × Option Text))
named =
    ("sllink show tc --scid 1 --vr-of 5:255 --plain=0,63", Some (Some (codes "0,63"), Some (codes "5:255")))
    ∷ ("sllink show tc --scid 1", Some (None, None))
    ∷ ("sllink check tm --plain  --scid 1", Some (Some [], None))
    ∷ []

abbrev link : Parameters
link = record (of 1) { tm_length = 32; tc_max = 16; tc_fecf = true; window = 2; starts = replicate 64 4; max_octets = 9 }

-- managed parameters, and what the texts of virtual channels are read as
abbrev Channels : Type 0
Channels = Parameters × Option (List ℕ) × Option (List ℕ)

abbrev managed : List (Channels × Result Parameters RefusedParameter)
managed =
    ((link, Some (0 ∷ 63 ∷ []), Some (replicate 64 9)), Ok (record link { starts = replicate 64 9; plain = 0 ∷ 63 ∷ [] }))
    ∷ ((record link { window = 3 }, None, None), Err (refused.Managed Window))
    ∷ ((link, None, None), Err refused.Plain)
    ∷ ((link, Some [], None), Err refused.Start)
    ∷ []

abbrev answered : List (String × Kinds)
answered =
    -- help, of all and of a verb
    ("sllink --help", DisplayHelp ∷ [])
    ∷ ("sllink help", DisplayHelp ∷ InvalidSubcommand ∷ [])
    ∷ ("sllink show -h", DisplayHelp ∷ [])
    ∷ ("sllink check --help", DisplayHelp ∷ [])
    ∷ ("sllink packets -h", DisplayHelp ∷ [])
    ∷ ("sllink normalise --help", DisplayHelp ∷ [])
    -- the version, which no verb has
    ∷ ("sllink --version", DisplayVersion ∷ [])
    ∷ ("any -V", DisplayVersion ∷ [])
    ∷ ("sllink --version show --spare", DisplayVersion ∷ [])
    ∷ ("sllink -Vh", DisplayVersion ∷ [])
    ∷ ("sllink --help --version", DisplayHelp ∷ [])
    ∷ ("sllink show --version", UnknownArgument ∷ [])
    ∷ ("sllink check tm --scid 1 -V", UnknownArgument ∷ [])
    ∷ ("sllink --version=1", TooManyValues ∷ [])
    ∷ []

abbrev wrong : List (String × Kinds)
wrong =
    -- verbs and kinds
    ("sllink", MissingSubcommand ∷ [])
    ∷ ("sllink tell tm --scid 1", UnknownArgument ∷ InvalidSubcommand ∷ [])
    ∷ ("sllink show --scid 1", MissingRequiredArgument ∷ [])
    ∷ ("sllink check --scid 1", MissingRequiredArgument ∷ [])
    ∷ ("sllink show tx --scid 1", InvalidValue ∷ [])
    ∷ ("sllink packets tx --scid 1", InvalidValue ∷ [])
    ∷ ("sllink normalise tx --scid 1", InvalidValue ∷ [])
    ∷ ("sllink show tm tc --scid 1", UnknownArgument ∷ [])
    -- the spacecraft
    ∷ ("sllink show tc", MissingRequiredArgument ∷ [])
    ∷ ("sllink normalise tm", MissingRequiredArgument ∷ [])
    ∷ ("sllink show tm --scid", InvalidValue ∷ [])
    ∷ ("sllink show tm --scid one", ValueValidation ∷ [])
    ∷ ("sllink show tm --scid 0x1", ValueValidation ∷ [])
    ∷ ("sllink show tm --scid 1 --scid 1", ArgumentConflict ∷ [])
    -- numbers one below the least, and one above the greatest
    ∷ ("sllink show tm --scid=-1", ValueValidation ∷ [])
    ∷ ("sllink show tm --scid 65536", ValueValidation ∷ [])
    ∷ ("sllink show tm --scid 1 --tm-length 65536", ValueValidation ∷ [])
    ∷ ("sllink show tm --scid 1 --tc-length 65536", ValueValidation ∷ [])
    ∷ ("sllink show tc --scid 1 --window 256", ValueValidation ∷ [])
    ∷ ("sllink show tc --scid 1 --vr=-1", ValueValidation ∷ [])
    ∷ ("sllink show tc --scid 1 --vr 256", ValueValidation ∷ [])
    ∷ ("sllink show tm --scid 1 --limit 18446744073709551616", ValueValidation ∷ [])
    -- options that take no value, and one that there isn't
    ∷ ("sllink show tm --scid 1 --tm-fecf --tm-fecf", ArgumentConflict ∷ [])
    ∷ ("sllink show tm --scid 1 --tm-fecf=1", TooManyValues ∷ [])
    ∷ ("sllink show tc --scid 1 --tc-fecf=1", TooManyValues ∷ [])
    ∷ ("sllink show tm --scid 1 --tm-fecf yes", UnknownArgument ∷ [])
    ∷ ("sllink show tm --scid 1 --spare 10", UnknownArgument ∷ [])
    ∷ []

pub lines_are_read : Have read taken_lines
unfolding clap_on_literals
lines_are_read = refl

pub whole_lines_are_complete : Have line_is_complete whole
unfolding clap_on_literals
whole_lines_are_complete = refl

pub channels_are_named : Have texts_in named
unfolding clap_on_literals
channels_are_named = refl

pub parameters_are_managed : Have (λ (asked : Channels). with_vcs (managed_of asked.0) asked.1 asked.2) managed
parameters_are_managed = refl

pub requests_are_answered : Have (λ (line : String). refusals (words line)) answered
unfolding clap_on_literals
requests_are_answered = refl

pub wrong_lines_are_refused : Have (λ (line : String). refusals (words line)) wrong
unfolding clap_on_literals
wrong_lines_are_refused = refl
