-- The command line: what its builders make, what its getters read, and what the outcomes of a parse say of the words.
use Rattle.std.proofs.Common.{◌≡◌, ◌∙◌, ◌&&◌, ◌||◌, ◌<◌, ◌^◌, ℕ, suc, Bool, true, false, refl, sym, ap, subst, List, [], ◌∷◌, Option, Some, None, Result, map, codes, arith, inl, inr, Ok, Err}
use Rattle.std.specs.Prelude.{fold, option_map, unwrap_or, ◌⊎◌, Box}
use Rattle.std.specs.List.{list_all}
use Rattle.std.specs.Borrow.{Bor}
use Rattle.std.specs.Option.{IsSomeAnd, option_map_or}
use Rattle.std.specs.Str.{bytes_eq}
use Rattle.std.specs.Str.Parse.{ExplainsUnsignedError, HasUnsignedDigitsIfOk, ParsesBool, ParsesUnsigned}
use Rattle.std.specs.declared.num.ParseIntError.{ParseIntError}
use Rattle.std.proofs.lemmas.Bool.{false_from_ne_true}
use Rattle.std.proofs.lemmas.Slice.Eq.{bytes_eq-Decides}
use Rattle.std.specs.Box.{box_value}
use Rattle.clap.specs.ValueTests.{accepts}
use Rattle.clap.specs.Words.{AddsArg, AddsInTurn, App, ReadsOne, Text, app_of, first_of, first_value, one_of, one_text, rows_of, rule_of, with_rule, BuildsTo, FailsBy, HasMatchesOf, IsParsed, Kinds, Row, fault_of, found_of, has_subcommand, is_simple_and_free, kind_of, subcommand_name_of, subcommand_rows, subcommand_rows_of, with_subcommand}
use Rattle.clap.specs.declared.builder.arg.Arg.{Arg}
use Rattle.clap.specs.declared.builder.command.Command.{Command}
use Rattle.clap.specs.declared.builder.command.Command.TheViews.{out-Command as fields_of}
use Rattle.clap.specs.declared.builder.value_parser.ValueParser.TheVariants.{Unsigned}
use Rattle.clap.specs.declared.parser.matches.Found.{Found}
use Rattle.clap.proofs.SimpleLemmas.{is_false, plain_fields}
use Rattle.clap.proofs.ValueTestLemmas.{Accepts-accepts, accepts-Accepts}
use Rattle.clap.proofs.WalkLemmas.{both, first_value-rows, one_text-rows}
use Rattle.clap.specs.declared.error.Error.{Error}
use Rattle.clap.specs.declared.error.kind.ErrorKind.TheVariants.{OutOfMemory}
use Rattle.clap.specs.declared.parser.matches.ArgMatches.{ArgMatches}
use Rattle.clap.specs.declared.parser.matches.ArgMatches.TheViews.{out-ArgMatches, out-SubCommand}
use Rattle.clap.specs.declared.parser.matches.SubCommand.{SubCommand}
use Rattle.clap.proofs.CallerLemmas.{subcommand_required}
use Rattle.sl_link.specs.Program.CommandLine.{with_arguments, is_complete, is_set, number_in, number_read, AskFor, Asks, IsRefusal, IsSllink, refusals}
use Rattle.sl_link.specs.declared.program.command_line.Asked.{Asked}
use Rattle.sl_link.proofs.lemmas.Program.Complete.{words_ask_something}
use Rattle.sl_link.proofs.lemmas.Program.SameWalk.{same_fault, same_subcommand}

-- ---- arguments

-- an argument that is not global makes no command global
pub stays_local : (has_globals : Bool) (global : Bool) → global ≡ false → (has_globals || global) ≡ has_globals
stays_local true global e = refl
stays_local false global e = e

right : (a b : Bool) → (a && b) ≡ true → b ≡ true
right a b h = (both a b h).1

-- an argument with no setting that changes how words are read is not global
simple_local : (a : Arg) → (rule_of a).is_simple ≡ true → a.global ≡ false
simple_local a simple = is_false a.global (search right depth 12)

-- such arguments, added in turn
pub adds_rules : (old new : Command) (args : List Arg) → list_all (λ a. a.is_simple) (map rule_of args) ≡ true → AddsInTurn AddsArg old args new
    → (app_of new ≡ fold with_rule (app_of old) (map rule_of args)) × ((fields_of new).has_globals ≡ (fields_of old).has_globals)
adds_rules old new [] simple adds = (ap app_of (sym adds), ap (λ (c : Command). (fields_of c).has_globals) (sym adds))
adds_rules old new (a ∷ args) simple adds =
    let parts = both (rule_of a).is_simple _ simple in
    let local = simple_local a parts.0 in
    let step = adds.1 in
    let rest = adds_rules adds.0 new args parts.1 adds.2 in
    (rest.0 ∙ ap (λ (app : App). fold with_rule app (map rule_of args)) (step.shape local), rest.1 ∙ step.globals ∙ stays_local _ _ local)

-- a command with one verb more, by what is known of the verb before it has arguments
pub with_named_verb : (old : App) (kinds : Bor (List (Bor Text))) {with verb named : App} → verb ≡ named → with ≡ with_subcommand old (with_arguments verb kinds).top
    → with ≡ with_subcommand old (with_arguments named kinds).top
with_named_verb old kinds same is = is ∙ ap (λ (a : App). with_subcommand old (with_arguments a kinds).top) same

-- ---- texts, numbers and flags

-- what `get_str` reads, by the rows
pub text_got : (f : Found) (id : Text) (r : Option (Bor Text)) → option_map (λ s. s.now) r ≡ first_value f id → option_map (λ s. s.now) r ≡ first_of id (rows_of f)
text_got f id r is = is ∙ first_value-rows f id

-- what `get_one` reads, by the rows: what holds of no text and of each text
by_rows : {T E : Type 0} (G : List ℕ → Result T E → Type 0) (Q : Option T → Option Text → Type 0) → Q None None → ((t : Text) (r : Option T) → ReadsOne G t r → Q r (Some t))
    → (f : Found) (id : Text) (r : Option T) → (one_text f id ≡ None → r ≡ None) → ((t : List ℕ) → one_text f id ≡ Some t → ReadsOne G t r) → Q r (one_of id (rows_of f))
by_rows {T} G Q at_none at_some f id r none value = subst (Q r) (one_text-rows f id) (go (one_text f id) refl)
  where
    go : (o : Option Text) → one_text f id ≡ o → Q r o
    go None e = subst (λ (x : Option T). Q x None) (sym (none e)) at_none
    go (Some t) e = at_some t r (value t e)

-- what `parse` says of an unsigned type of that many bits
abbrev Reads : ℕ → List ℕ → Result ℕ ParseIntError → Type 0
Reads bits bs r = ParsesUnsigned bits 10 bs r × ExplainsUnsignedError 10 bs r × HasUnsignedDigitsIfOk bs r

number_reads : (bits most : ℕ) → 2 ^ bits ≡ suc most → most < 2 ^ 64 → (t : Text) (r : Option ℕ) → ReadsOne (Reads bits) t r → unwrap_or r 0 ≡ number_read most t
number_reads bits most is small t (Some n) h = rw (Accepts-accepts false (Unsigned 0 most) t (h.0.0.0, omega arith, omega arith, omega arith)) h.0.1
number_reads bits most is small t None h =
    let refused : accepts false (Unsigned 0 most) t ≡ false = false_from_ne_true _ (λ e. let fits = accepts-Accepts false (Unsigned 0 most) t e in h.1.0 (fits.0, omega arith)) in
    rw refused refl

pub number_got : (bits most : ℕ) → 2 ^ bits ≡ suc most → most < 2 ^ 64 → (f : Found) (id : Text) (r : Option ℕ) → (one_text f id ≡ None → r ≡ None)
    → ((t : List ℕ) → one_text f id ≡ Some t → ReadsOne (Reads bits) t r) → unwrap_or r 0 ≡ number_in most id (rows_of f)
number_got bits most is small = by_rows (Reads bits) (λ r o. unwrap_or r 0 ≡ option_map_or (number_read most) o 0) refl (number_reads bits most is small)

-- what `parse` reads as a `bool`
flag_reads : (E : Type 0) (text : Text) (r : Option Bool) → ReadsOne {E = E} ParsesBool text r → unwrap_or r false ≡ bytes_eq text (codes "true")
flag_reads E text (Some true) h = sym ((bytes_eq-Decides text (codes "true")).1 h)
flag_reads E text (Some false) h = rw h refl
flag_reads E text None h = sym (false_from_ne_true _ (λ e. h.1.0 ((bytes_eq-Decides text (codes "true")).0 e)))

pub flag_got : (E : Type 0) (f : Found) (id : Text) (r : Option Bool) → (one_text f id ≡ None → r ≡ None) → ((t : List ℕ) → one_text f id ≡ Some t → ReadsOne {E = E} ParsesBool t r)
    → unwrap_or r false ≡ is_set id (rows_of f)
flag_got E = by_rows {E = E} ParsesBool (λ r o. unwrap_or r false ≡ option_map_or (λ text. bytes_eq text (codes "true")) o false) refl (flag_reads E)

-- ---- a parse

-- words that are taken have a verb
pub verb_there : (old new : Command) (m : ArgMatches) → IsSllink (app_of old) → BuildsTo old new
    → ((fields_of new).has_globals ≡ false → IsParsed new (found_of m) (has_subcommand m)) → has_subcommand m ≡ true
verb_there old new m h builds parsed =
    subcommand_required old m (record { built = new; from = builds; parsed = parsed })
    (plain_fields old (ap (λ (a : App). a.top.is_plain) h.same)).globals (ap (λ (a : App). a.top.subcommand_required) h.same)

-- the subcommand by its name and its rows
entered : {Z : Type 0} (o : Option (Box SubCommand Z)) (verb : Text) (rows : List Row) → Some verb ≡ option_map (λ b. (out-SubCommand (box_value b)).name.now) o
    → Some rows ≡ option_map (λ p. p.1) (subcommand_rows o) → subcommand_rows o ≡ Some (verb, rows)
entered None verb rows name arguments = absurd (cc)
entered (Some b) verb rows name arguments =
    let is_verb : (out-SubCommand (box_value b)).name.now ≡ verb = cc in
    let are_rows : rows_of (found_of (out-SubCommand (box_value b)).matches) ≡ rows = cc in
    λ i. Some (is_verb i, are_rows i)

module _ (words : List Text) (c : Command) (h : IsSllink (app_of c)) (r : Result ArgMatches Error) (kinds : is_simple_and_free (app_of c) ≡ true → FailsBy (fault_of (app_of c) words) r) where
  faults : FailsBy (refusals words) r
  faults =
      let at_place = subst (λ (a : App). is_simple_and_free a ≡ true → FailsBy (fault_of a words) r) h.same kinds refl in
      subst (λ (ks : Kinds). FailsBy ks r) (same_fault h.list h.tm h.tc words) at_place

  -- an error is a refusal, or there was no memory
  pub error_refused : (e : Error) → r ≡ Err e → (kind_of e ≡ OutOfMemory) ⊎ IsRefusal (kind_of e) words
  error_refused e is = elim (rw is at faults) [
    | inl memory ↦ inl memory
    | inr among ↦ inr (record { among = among })
  ]

  -- what the verb asks for with its arguments is what the words ask for
  pub words_ask : (m : ArgMatches) → r ≡ Ok m → HasMatchesOf (app_of c) words m → (verb : Text) (rows : List Row) → Some verb ≡ subcommand_name_of m
      → Some rows ≡ option_map (λ p. p.1) (subcommand_rows_of m) → (asked : Asked) → Asks verb rows asked → AskFor words asked
  words_ask m is has verb rows name arguments asked asks =
      let met = (subst (λ (a : App). HasMatchesOf a words m) h.same has refl).1 ∙ same_subcommand h.list h.tm h.tc words in
      let is_met = sym met ∙ entered (out-ArgMatches m).subcommand verb rows name arguments in
      let allowed = rw is at faults in
      record { allowed = allowed; verb = verb; rows = rows; is_met = is_met; complete = subst (λ (met : Option (Text × List Row)). IsSomeAnd met (λ p. is_complete p.0 p.1 ≡ true)) is_met (words_ask_something words allowed); asks = asks }
