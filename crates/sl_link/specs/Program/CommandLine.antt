-- The command line of `sllink`: its arguments, what it refuses, and what its words ask for.
use Rattle.std.specs.Prelude.{◌≡◌, ◌≢◌, ◌&&◌, ℕ, Bool, true, false, List, [], ◌∷◌, Option, Some, None, IfSome, Result, Ok}
use Rattle.std.specs.Prelude.{Err, codes, fold, if◌then◌else◌, pos, replicate}
use Rattle.std.specs.Borrow.{Bor}
use Rattle.std.specs.List.{list_any}
use Rattle.std.specs.Option.{option_map_or}
use Rattle.std.specs.Str.{bytes_eq}
use Rattle.std.specs.Str.Parse.{digits_value, without_leading_plus}
use Rattle.clap.specs.Faults.{fault_of}
use Rattle.clap.specs.Kinds.{IsAmong, Kinds}
use Rattle.clap.specs.Simple.{App, new_app, new_rule, new_shape, subcommand_of, with_rule}
use Rattle.clap.specs.ValueTests.{accepts}
use Rattle.clap.specs.Walk.{Row, Rule, Text, first_of, one_of}
use Rattle.clap.specs.declared.builder.action.ArgAction.TheVariants.{SetTrue}
use Rattle.clap.specs.declared.builder.value_parser.ValueParser.{ValueParser}
use Rattle.clap.specs.declared.builder.value_parser.ValueParser.TheVariants.{Names, Signed, Unsigned}
use Rattle.clap.specs.declared.error.kind.ErrorKind.{ErrorKind}
use Rattle.clap.specs.declared.error.kind.ErrorKind.TheVariants.{DisplayHelp, DisplayVersion}
use Rattle.sl_cop.specs.Starts.{AreNamed, Item, starts_over}
use Rattle.sl_cop.specs.Starts as starts
use Rattle.sl_tcframe.specs.VcSet as vc_set
use Rattle.sl_engine.specs.Link.Managed.{Parameters, managed_of}
use Rattle.sl_engine.specs.declared.link.managed.ManagedFault.{ManagedFault}
use Rattle.sl_link.specs.declared.program.command_line.Asked.{Asked}
use Rattle.sl_engine.specs.declared.engine.RecordingKind.{RecordingKind}
use Rattle.sl_engine.specs.declared.engine.RecordingKind.TheVariants.{Tm, Tc}
use Rattle.sl_link.specs.declared.program.command_line.RefusedParameter.{RefusedParameter}
use Rattle.sl_link.specs.declared.program.command_line.RefusedParameter.TheVariants as refused
use Rattle.sl_engine.specs.declared.engine.VerbName.{VerbName}
use Rattle.sl_engine.specs.declared.engine.VerbName.TheVariants.{Show, Check, Packets, Normalise}

-- ---- the arguments

-- `KIND`: one of these names. They are lent texts, each with the address where it lies.
abbrev pub kind_rule : Bor (List (Bor Text)) → Rule
kind_rule kinds = record (new_rule (codes "kind")) {
  value_names = 1;
  parser = Some (Names kinds);
  required = true;
}

-- numbers of 8 bits, which `clap` bounds as signed ones
abbrev pub bits_8 : ValueParser
bits_8 = Signed (pos 0) (pos 255)

-- numbers of 16 bits, bounded likewise
abbrev pub bits_16 : ValueParser
bits_16 = Signed (pos 0) (pos 65535)

-- numbers of 64 bits
abbrev pub bits_64 : ValueParser
bits_64 = Unsigned 0 18446744073709551615

-- `--NAME TEXT`, which may be left out
abbrev pub text_rule : Text → Rule
text_rule name = record (new_rule name) { long = Some name; value_names = 1 }

-- an option that takes one of these numbers, one that no command line may leave out, and one with the text that stands
-- where it is left out
abbrev pub with_numbers : Rule → ValueParser → Rule
with_numbers option numbers = record option { parser = Some numbers }

abbrev pub needed : Rule → Rule
needed option = record option { required = true }

abbrev pub with_default : Rule → Text → Rule
with_default option default = record option { defaults = default ∷ [] }

-- `--NAME NUMBER`, which no command line may leave out
abbrev pub needed_number_rule : Text → ValueParser → Rule
needed_number_rule name numbers = needed (with_numbers (text_rule name) numbers)

-- `--NAME NUMBER`, with the number that it has where it is left out
abbrev pub number_or_rule : Text → ValueParser → Text → Rule
number_or_rule name numbers default = with_default (with_numbers (text_rule name) numbers) default

-- `--NAME`, which takes no value
abbrev pub flag_rule : Text → Rule
flag_rule name = record (new_rule name) { long = Some name; action = Some SetTrue }

-- the options of the link
abbrev pub link_options : List Rule
link_options =
    needed_number_rule (codes "scid") bits_16
    ∷ number_or_rule (codes "tm-length") bits_16 (codes "1115")
    ∷ number_or_rule (codes "tc-length") bits_16 (codes "1024")
    ∷ flag_rule (codes "tm-fecf")
    ∷ flag_rule (codes "tc-fecf")
    ∷ number_or_rule (codes "window") bits_8 (codes "10")
    ∷ number_or_rule (codes "vr") bits_8 (codes "0")
    ∷ text_rule (codes "vr-of")
    ∷ text_rule (codes "plain")
    ∷ number_or_rule (codes "limit") bits_64 (codes "1073741824")
    ∷ []

-- a command, with the options of the link too
abbrev pub with_link_options : App → App
with_link_options app = fold with_rule app link_options

-- a command, with the kinds of recording that it takes and the options of the link
abbrev pub with_arguments : App → Bor (List (Bor Text)) → App
with_arguments app kinds = with_link_options (with_rule app (kind_rule kinds))

-- a verb
abbrev pub verb_app : Text → Bor (List (Bor Text)) → App
verb_app name kinds = with_arguments (new_app name) kinds

-- `sllink` before its verbs are added. The contract of a private function alone cites this.
abbrev pub top_app : App
top_app = record (new_app (codes "sllink")) {
  top = record (new_shape (codes "sllink")) { has_version = true; subcommand_required = true };
}

-- `sllink VERB ..`, where each verb takes these kinds
abbrev pub sllink_with : Bor (List (Bor Text)) → App
sllink_with kinds = record {
  top = record (new_shape (codes "sllink")) {
    is_leaf = false;
    has_version = true;
    subcommand_required = true;
  };
  subs =
      (verb_app (codes "show") kinds).top
      ∷ (verb_app (codes "check") kinds).top
      ∷ (verb_app (codes "packets") kinds).top
      ∷ (verb_app (codes "normalise") kinds).top
      ∷ [];
}

-- ---- The command line, of which the names of the kinds lie somewhere in memory. What the words ask for is computed
-- from `sllink_app`, where they lie at address 0. What the program builds is `IsSllink`, wherever they lie: that makes
-- no difference.

-- where something lies in memory
abbrev pub Address : Type 0
Address = ℕ × ℕ

-- the names of the kinds of recording, where the list and each name lie at these addresses
abbrev pub kinds_at : Address → Address → Address → Bor (List (Bor Text))
kinds_at list tm tc = record {
  ref_ptr = list;
  now = record { ref_ptr = tm; now = codes "tm" } ∷ record { ref_ptr = tc; now = codes "tc" } ∷ [];
}

-- the same at address 0
abbrev pub recording_kinds : Bor (List (Bor Text))
recording_kinds = kinds_at (0, 0) (0, 0) (0, 0)

-- the command line of `sllink`
abbrev pub sllink_app : App
sllink_app = sllink_with recording_kinds

-- that command line, wherever in memory the names lie
pub record IsSllink (app : App) : Type 0 where
  pub list : Address
  pub tm : Address
  pub tc : Address
  pub same : app ≡ sllink_with (kinds_at list tm tc)

-- ---- what the words ask for

-- Each definition here answers for any words: `Normalise` for another verb, `Tc` for another kind or none, 0 where an
-- option has no number that fits. Where nothing of the words is refused, no such case comes up: `is_complete`. Of an
-- argument `first_of` gives the text as it stands, and `one_of` as `clap` hands it on: a -0 without its minus sign.

-- the verb of that name
abbrev pub verb_named : Text → VerbName
verb_named verb =
    if bytes_eq verb (codes "show") then Show
    else if bytes_eq verb (codes "check") then Check
    else if bytes_eq verb (codes "packets") then Packets
    else Normalise

-- the kind of that name
abbrev pub kind_named : Option Text → RecordingKind
kind_named kind = if option_map_or (λ name. bytes_eq name (codes "tm")) kind false then Tm else Tc

-- the kind of the recording
abbrev pub kind_in : List Row → RecordingKind
kind_in rows = kind_named (first_of (codes "kind") rows)

-- The text, as `clap` hands it on and so without a minus sign, writes a decimal number, `most` at most. (`false` says
-- that upper and lower case differ, which makes no difference to numbers.)
abbrev pub writes_number : ℕ → Text → Bool
writes_number most = accepts false (Unsigned 0 most)

-- that number, or 0 where it writes none
abbrev pub number_read : ℕ → Text → ℕ
number_read most text = if writes_number most text then digits_value 10 (without_leading_plus text) else 0

-- the number that an option has
abbrev pub number_in : ℕ → Text → List Row → ℕ
number_in most name rows = option_map_or (number_read most) (one_of name rows) 0

-- an option that takes no value is there: its text is `true` then, and else `false`
abbrev pub is_set : Text → List Row → Bool
is_set name rows = option_map_or (λ text. bytes_eq text (codes "true")) (one_of name rows) false

-- the managed parameters that the options ask for, as if they named no virtual channel
abbrev pub parameters_in : List Row → Parameters
parameters_in rows =
    record {
      spacecraft = number_in 65535 (codes "scid") rows;
      tm_length = number_in 65535 (codes "tm-length") rows;
      tm_fecf = is_set (codes "tm-fecf") rows;
      tc_max = number_in 65535 (codes "tc-length") rows;
      tc_fecf = is_set (codes "tc-fecf") rows;
      window = number_in 255 (codes "window") rows;
      starts = replicate 64 (number_in 255 (codes "vr") rows);
      plain = [];
      max_octets = number_in 18446744073709551615 (codes "limit") rows;
    }

-- the text is one of these
abbrev pub is_one_of : List Text → Text → Bool
is_one_of texts text = list_any (λ one. bytes_eq one text) texts

-- the verb has one of the four names
abbrev pub is_verb : Text → Bool
is_verb = is_one_of (codes "show" ∷ codes "check" ∷ codes "packets" ∷ codes "normalise" ∷ [])

-- a kind is there, and it is `tm` or `tc`
abbrev pub has_kind : List Row → Bool
has_kind rows =
    option_map_or (is_one_of (codes "tm" ∷ codes "tc" ∷ [])) (first_of (codes "kind") rows) false

-- the option has a value, given or by default, and its text writes a decimal number, `most` at most
abbrev pub has_number : ℕ → Text → List Row → Bool
has_number most name rows = option_map_or (writes_number most) (one_of name rows) false

-- the verb is one of the four, the kind of the recording is there, and so is each number, given or by default
abbrev pub is_complete : Text → List Row → Bool
is_complete verb rows = is_verb verb && (has_kind rows
    && (has_number 65535 (codes "scid") rows && (has_number 65535 (codes "tm-length") rows
    && (has_number 65535 (codes "tc-length") rows && (has_number 255 (codes "window") rows
    && (has_number 255 (codes "vr") rows && has_number 18446744073709551615 (codes "limit") rows))))))

-- the text that names virtual channels without segment headers
abbrev pub plain_in : List Row → Option Text
plain_in rows = first_of (codes "plain") rows

-- the text that names initial V(R)
abbrev pub starts_in : List Row → Option Text
starts_in rows = first_of (codes "vr-of") rows

-- Here and below the 0 of `Lists` and `AreNamed` is the least virtual channel: those that the text names rise from it
-- on, up to 63.

-- The virtual channels of TC frames without segment headers, by the text of an option: none where
-- it is left out. Else they are what the text lists; where the text is no list, it is refused (`None`).
abbrev pub IsPlain : Option Text → Option (List ℕ) → Type 0
IsPlain None plain = plain ≡ Some []
IsPlain (Some text) plain =
    IfSome plain (λ vcs. vc_set.Lists 0 text vcs)
    × ((vcs : List ℕ) → vc_set.Lists 0 text vcs → plain ≡ Some vcs)

-- The initial V(R) of the virtual channels, by the text of an option: this V(R) for all that it
-- doesn't name. A text that is no list is refused (`None`). Where there is an answer, the text lists some items, and
-- these are laid over the starts (`AreNamed`); and where the text lists items, that is the answer.
abbrev pub AreFrom : ℕ → Option Text → Option (List ℕ) → Type 0
AreFrom vr None named = named ≡ Some (replicate 64 vr)
AreFrom vr (Some text) named =
    IfSome named (λ all. AreNamed 0 text (replicate 64 vr) all)
    × ((items : List Item) → starts.Lists 0 text items
    → named ≡ Some (starts_over (replicate 64 vr) items))

-- The managed parameters with what the options say of virtual channels, or what is refused: a
-- managed parameter, else the text of the virtual channels without segment headers, else that of
-- the starts.
abbrev pub with_vcs : Result Parameters ManagedFault → Option (List ℕ) → Option (List ℕ)
    → Result Parameters RefusedParameter
with_vcs (Err fault) plain starts = Err (refused.Managed fault)
with_vcs (Ok p) None starts = Err refused.Plain
with_vcs (Ok p) (Some plain) None = Err refused.Start
with_vcs (Ok p) (Some plain) (Some starts) = Ok (record p { starts = starts; plain = plain })

-- the options of a link in these arguments give these managed parameters, or which of them is refused first
pub record Gives (rows : List Row) (managed : Result Parameters RefusedParameter) : Type 0 where
  pub plain : Option (List ℕ)
  pub is_plain : IsPlain (plain_in rows) plain
  pub starts : Option (List ℕ)
  pub are_from : AreFrom (number_in 255 (codes "vr") rows) (starts_in rows) starts
  pub managed_is : managed ≡ with_vcs (managed_of (parameters_in rows)) plain starts

-- a verb with these arguments asks for this
pub record Asks (verb : Text) (rows : List Row) (asked : Asked) : Type 0 where
  pub verb_is : asked.verb ≡ verb_named verb
  pub kind_is : asked.kind ≡ kind_in rows
  pub given : Gives rows asked.managed

-- ---- what becomes of the words

-- why the words are refused: the kinds that the first fault in them may have, none where they are taken.
-- At the word `help` they are two, help and an unknown subcommand, whatever follows: the contract of the crate `clap`
-- leaves open there which of the two it is, and so does that of `run`. Tests pin it.
abbrev pub refusals : List Text → Kinds
refusals words = fault_of sllink_app words

-- this is one of the kinds
pub record IsRefusal (kind : ErrorKind) (words : List Text) : Type 0 where
  pub among : IsAmong kind (refusals words)

-- the words ask for help
abbrev pub AskForHelp : List Text → Type 0
AskForHelp words = IsRefusal DisplayHelp words

-- the words ask for the version
abbrev pub AskForVersion : List Text → Type 0
AskForVersion words = IsRefusal DisplayVersion words

-- the words are refused, for something other than help and the version
pub record AreRefused (words : List Text) : Type 0 where
  pub kind : ErrorKind
  pub refusal : IsRefusal kind words
  pub not_help : kind ≢ DisplayHelp
  pub not_version : kind ≢ DisplayVersion

-- nothing of the words is refused, and they ask for this
pub record AskFor (words : List Text) (asked : Asked) : Type 0 where
  pub allowed : refusals words ≡ []
  pub verb : Text
  pub rows : List Row
  pub is_met : subcommand_of sllink_app words ≡ Some (verb, rows)
  pub complete : is_complete verb rows ≡ true
  pub asks : Asks verb rows asked
