-- Words of which nothing is refused enter a verb, and are complete. A walk without a fault adds only rows whose first
-- value their argument takes. In the end each argument that is required or has a default has a row.
use Rattle.std.proofs.Common.{◌≡◌, ◌≢◌, ◌&&◌, ◌||◌, ◌^◌, ◌<◌, ◌⊎◌, ℕ, Bool, suc, true, false, cond, not, pos, refl, inl, inr, take, drop, sym, ap, subst, append-nil, List, [], ◌∷◌, ◌++◌, length, Option, Some, None, is_some, Err, arith, codes, ◌∙◌}
use Rattle.std.proofs.Math.Bool.{and-true}
use Rattle.std.specs.Prelude.{IfSome, find, fold, option_and_then, option_map, slice_get, unwrap_or}
use Rattle.std.specs.List.{AllByRecursion}
use Rattle.std.specs.Option.{IsSomeAnd, option_map_or}
use Rattle.std.specs.Str.{bytes_eq}
use Rattle.std.specs.Str.Parse.{ParsesUnsigned}
use Rattle.std.proofs.lemmas.List.Folds.{list_any-append}
use Rattle.std.proofs.lemmas.Slice.Eq.{bytes_eq-Decides}
use Rattle.clap.specs.Facts.{explicit_source, parser_of_value}
use Rattle.clap.specs.Faults.{check_fault, defaults_fault, entered_fault, fault_of, level_fault, repeat_fault, settle_fault, values_fault, walk_fault}
use Rattle.clap.specs.Kinds.{check_kinds, or_else, range_kinds}
use Rattle.clap.specs.Lexer.{without_minus}
use Rattle.clap.specs.Simple.{App, Shape, built, entered, names_of, new_rule, new_shape, rows_at, subcommand_of}
use Rattle.clap.specs.Takes.{is_given, value_passes}
use Rattle.clap.specs.ValueTests.{accepts}
use Rattle.clap.specs.Values.{read_as, reading_of}
use Rattle.clap.specs.Walk.{Row, Rule, Text, answers_to, arg_by_id, at_row, default_rows, finished, first_of, has_row, more_values, nothing_held, one_of, reading_by, row_text, rows_after, settled, values_or_missing, walk, walk_from, with_default, with_values, without}
use Rattle.clap.specs.declared.builder.value_parser.Reading.{Reading}
use Rattle.clap.specs.declared.builder.value_parser.ValueParser.{ValueParser}
use Rattle.clap.specs.declared.builder.value_parser.ValueParser.TheVariants.{Signed, Unsigned}
use Rattle.clap.specs.declared.parser.matches.ValueSource.{ValueSource}
use Rattle.clap.specs.declared.parser.matches.ValueSource.TheVariants.{CommandLine, DefaultValue}
use Rattle.clap.proofs.CallerReads.{signed_reads}
use Rattle.clap.proofs.ValueTestLemmas.{Accepts-accepts, accepts-Accepts}
use Rattle.sl_fields.proofs.ListLemmas.{each-append, each-every, each-weaker}
use Rattle.sl_link.specs.Program.CommandLine.{bits_64, has_number, is_complete, is_one_of, is_verb, recording_kinds, sllink_app}
use Rattle.sl_link.proofs.lemmas.Program.SameWalk.{rules_at, verb_at}
use Rattle.sl_link.proofs.lemmas.Program.Walk.{IsNoHelp, KeepsUse, first, found_first, met, neither, settled_keeps, unmet, walk_keeps}

-- ---- the rows

-- The argument takes the first of these values. Where there is none, Z holds.
abbrev TakesFirst : Type 0 → Rule → List Text → Type 0
TakesFirst Z a [] = Z
TakesFirst Z a (v ∷ vs) = value_passes a v ≡ true

abbrev row_with : Rule → ValueSource → List Text → Row
row_with a source values = record { id = a.id; values = values; count = None; source = Some source; reading = reading_by a }

-- an argument that has no row gets one at the end
appended : (id : Text) (change : Row → List Row) (missing rows : List Row) → has_row id rows ≡ false → at_row id change missing rows ≡ rows ++ missing
appended id change missing [] e = refl
appended id change missing (r ∷ rows) e = go (bytes_eq r.id id) e (appended id change missing rows)
  where
    go : (b : Bool) → (b || has_row id rows) ≡ false → (has_row id rows ≡ false → at_row id change missing rows ≡ rows ++ missing)
        → cond b (change r ++ rows) (r ∷ at_row id change missing rows) ≡ r ∷ (rows ++ missing)
    go true f later = absurd (cc)
    go false f later = ap (λ out. r ∷ out) (later f)

-- a row is there where one is found, and where the argument was given
row_there : (id : Text) (rows : List Row) → is_some (find (λ r. bytes_eq r.id id) rows) ≡ has_row id rows
row_there id [] = refl
row_there id (r ∷ rows) = go (bytes_eq r.id id) (row_there id rows)
  where
    go : (b : Bool) → is_some (find (λ r. bytes_eq r.id id) rows) ≡ has_row id rows → is_some (cond b (Some r) (find (λ r. bytes_eq r.id id) rows)) ≡ (b || has_row id rows)
    go true later = refl
    go false later = later

given : (id : Text) (rows : List Row) → is_given id rows ≡ true → has_row id rows ≡ true
given id rows e = sym (row_there id rows) ∙ go (find (λ r. bytes_eq r.id id) rows) e
  where
    go : (o : Option Row) → option_map_or (λ (r : Row). explicit_source r.source) o false ≡ true → is_some o ≡ true
    go None e = e
    go (Some r) e = refl

-- an argument without a use gets its default
default_is : (a : Rule) (rows : List Row) (Q : List Row → Type 0) → ((has_row a.id rows ≡ true) ⊎ (a.defaults ≡ []) → Q rows)
    → ((v : Text) (vs : List Text) → v ∷ vs ≡ a.defaults → has_row a.id rows ≡ false → Q (rows ++ row_with a DefaultValue (v ∷ vs) ∷ [])) → Q (with_default rows a)
default_is a rows Q stays added = go (has_row a.id rows) refl a.defaults refl
  where
    go : (b : Bool) → has_row a.id rows ≡ b → (ds : List Text) → ds ≡ a.defaults → Q (cond b rows (default_rows a.id (reading_by a) ds rows))
    go true is ds d = stays (inl is)
    go false is [] d = stays (inr (sym d))
    go false is (v ∷ vs) d = subst Q (sym (appended a.id (more_values DefaultValue (v ∷ vs)) (row_with a DefaultValue (v ∷ vs) ∷ []) rows is)) (added v vs d is)

defaults_keep : (id : Text) (ds : List Rule) (rows : List Row) → has_row id rows ≡ true → has_row id (fold with_default rows ds) ≡ true
defaults_keep id [] rows h = h
defaults_keep id (a ∷ ds) rows h =
    defaults_keep id ds (with_default rows a) (default_is a rows (λ out. has_row id out ≡ true) (λ _. h) (λ v vs d is. list_any-append (λ r. bytes_eq r.id id) rows _ ∙ ap (λ b. b || (bytes_eq a.id id || false)) h))

-- an argument with a default, wherever it stands among the rules, has a row
defaulted : (before : List Rule) (a : Rule) (after : List Rule) (rows : List Row) → a.defaults ≢ [] → has_row a.id (fold with_default rows (before ++ a ∷ after)) ≡ true
defaulted [] a after rows some = defaults_keep a.id after (with_default rows a) (default_is a rows (λ out. has_row a.id out ≡ true) (λ o. elim o [ inl is ↦ is | inr none ↦ absurd (some none) ])
    (λ v vs d is. list_any-append (λ r. bytes_eq r.id a.id) rows _ ∙ rw (is, (bytes_eq-Decides a.id a.id).1 refl) refl))
defaulted (b ∷ before) a after rows some = defaulted before a after (with_default rows b) some

module _ (c : List Rule) where
  -- the argument is the one of its id
  abbrev IsFound : Rule → Type 0
  IsFound a = arg_by_id c a.id ≡ Some a

  -- the argument of the row takes the row's first value, and reads it
  abbrev Fits : Row → Type 0
  Fits r = IfSome (arg_by_id c r.id) (λ a. (r.reading ≡ reading_by a) × TakesFirst ⊥ a r.values)

  abbrev AllFit : List Row → Type 0
  AllFit = AllByRecursion Fits

  fits_more : (a : Rule) → IsFound a → (source : ValueSource) (values : List Text) → TakesFirst ⊥ a values → (rows : List Row) → AllFit rows → AllFit (rows ++ row_with a source values ∷ [])
  fits_more a found source values takes rows fit = each-append Fits rows (row_with a source values ∷ []) fit (subst (λ (o : Option Rule). IfSome o (λ b. (reading_by a ≡ reading_by b) × TakesFirst ⊥ b values)) (sym found) (refl, takes), tt)

  taken : (a : Rule) (values : List Text) → values ≢ [] → values_fault a values ≡ [] → TakesFirst ⊥ a values
  taken a [] some e = absurd (some refl)
  taken a (v ∷ vs) some e = met (value_passes a v) _ (neither _ _ e).0

  -- a use without a fault
  use_fits : (a : Rule) (n : ℕ) → IsFound a → ((values : List Text) → range_kinds n n (length values) ≡ [] → values_or_missing a values ≢ []) → (values : List Text) (rows : List Row)
      → or_else (range_kinds n n (length values)) (or_else (repeat_fault false a.id rows) (values_fault a (values_or_missing a values))) ≡ [] → AllFit rows
      → AllFit (with_values a.id (reading_by a) CommandLine (values_or_missing a values) (without a.id rows))
  use_fits a n found some values rows e fit =
      let parts = neither (range_kinds n n (length values)) _ e in
      let once = neither (repeat_fault false a.id rows) _ parts.1 in
      let fresh = sym (and-true (has_row a.id rows)) ∙ unmet (has_row a.id rows && true) _ _ once.0 in
      let used = values_or_missing a values in
      let row = row_with a CommandLine used in
      let put = ap (with_values a.id (reading_by a) CommandLine used) (appended a.id (λ _. []) [] rows fresh ∙ append-nil rows) ∙ appended a.id (more_values CommandLine used) (row ∷ []) rows fresh in
      subst AllFit (sym put) (fits_more a found CommandLine used (taken a used (some values parts.0) once.1) rows fit)

  -- the argument is found by its id and takes its first default, and its uses keep rows fitting
  abbrev IsSound : Shape → Rule → Type 0
  IsSound s a = IsFound a × TakesFirst Unit a a.defaults × KeepsUse s AllFit a

  defaults_fit : (s : Shape) (ds : List Rule) → AllByRecursion (IsSound s) ds → (rows : List Row) → AllFit rows → AllFit (fold with_default rows ds)
  defaults_fit s [] own rows fit = fit
  defaults_fit s (a ∷ ds) own rows fit =
      defaults_fit s ds own.1 (with_default rows a) (default_is a rows AllFit (λ _. fit) (λ v vs d is. fits_more a own.0.0 DefaultValue (v ∷ vs) (subst (TakesFirst Unit a) (sym d) own.0.1) rows fit))

  -- what the row of an argument gives
  got : (a : Rule) → IsFound a → (rows : List Row) → AllFit rows → has_row a.id rows ≡ true
      → (v : Text) × (first_of a.id rows ≡ Some v) × (one_of a.id rows ≡ Some (read_as (reading_by a) v)) × (value_passes a v ≡ true)
  got a found rows fit has = go (find (λ r. bytes_eq r.id a.id) rows) (first Fits (λ r. bytes_eq r.id a.id) rows fit) (row_there a.id rows ∙ has)
    where
      value_of : (how : Reading) (values : List Text) → (how ≡ reading_by a) × TakesFirst ⊥ a values
          → (v : Text) × (slice_get values 0 ≡ Some v) × (option_map (read_as how) (slice_get values 0) ≡ Some (read_as (reading_by a) v)) × (value_passes a v ≡ true)
      value_of how [] h = absurd h.1
      value_of how (v ∷ vs) h = (v, refl, ap (λ how. Some (read_as how v)) h.0, h.1)

      go : (o : Option Row) → IfSome o (λ r. Fits r × (bytes_eq r.id a.id ≡ true)) → is_some o ≡ true
          → (v : Text) × (option_and_then (λ r. slice_get r.values 0) o ≡ Some v) × (option_and_then row_text o ≡ Some (read_as (reading_by a) v)) × (value_passes a v ≡ true)
      go None fits there = absurd (cc)
      go (Some r) fits there =
          let own : arg_by_id c r.id ≡ Some a = ap (arg_by_id c) ((bytes_eq-Decides r.id a.id).0 fits.1) ∙ found in
          value_of r.reading r.values (subst (λ (o : Option Rule). IfSome o (λ b. (r.reading ≡ reading_by b) × TakesFirst ⊥ b r.values)) own fits.0)

-- ---- a verb

-- A text that passed as a signed number passes as an unsigned one without its minus, which can only be that of -0.
-- Else reading it could be an error, which `signed_reads` excludes.
reads_number : (bits most : ℕ) → 2 ^ bits ≡ suc most → most < 2 ^ 64 → (v : Text) → accepts false (Signed (pos 0) (pos most)) v ≡ true → accepts false (Unsigned 0 most) (without_minus v) ≡ true
reads_number bits most is small v passes = go (accepts false (Unsigned 0 most) (without_minus v)) refl
  where
    unread : accepts false (Unsigned 0 most) (without_minus v) ≡ false → ParsesUnsigned {E = Unit} bits 10 (without_minus v) (Err tt)
    unread fails (numeral, fits) =
        let is_read : accepts false (Unsigned 0 most) (without_minus v) ≡ true = Accepts-accepts false (Unsigned 0 most) (without_minus v) (numeral, omega arith, omega arith, omega arith) in
        let bad : true ≡ false = sym is_read ∙ fails in
        absurd (cc)

    go : (b : Bool) → accepts false (Unsigned 0 most) (without_minus v) ≡ b → b ≡ true
    go true e = refl
    go false e =
        let read = signed_reads Unit (λ u r. ParsesUnsigned bits 10 u r) bits 0 most v None (tt, unread e) (λ u r g. g) (omega arith) (accepts-Accepts false (Signed (pos 0) (pos most)) v passes) in
        let bad : ◌≡◌ {A = Option ℕ} None (Some read.0) = read.1 in
        absurd (cc)

-- the arguments of a verb: kind, scid, tm-length, tc-length, tm-fecf, tc-fecf, window, vr, vr-of, plain, limit, help
abbrev rules : List Rule
rules = rules_at recording_kinds

abbrev rule : ℕ → Rule
rule n = unwrap_or (slice_get rules n) (new_rule [])

abbrev verb_of : Text → Shape
verb_of name = verb_at name recording_kinds

-- a use of an argument that takes one value has one, and for that of a flag stands one
one_value : (a : Rule) (values : List Text) → range_kinds 1 1 (length values) ≡ [] → values_or_missing a values ≢ []
one_value a [] = λ e. absurd (cc)
one_value a (v ∷ vs) = λ e is. cc

no_value : (a : Rule) → a.missing ≡ codes "true" ∷ [] → (values : List Text) → range_kinds 0 0 (length values) ≡ [] → values_or_missing a values ≢ []
no_value a missing [] = λ e is. cc
no_value a missing (v ∷ vs) = λ e is. cc

sound : AllByRecursion (IsSound rules (verb_of [])) rules
sound = ((refl, tt, use_fits rules (rule 0) 1 refl (one_value (rule 0))), ((refl, tt, use_fits rules (rule 1) 1 refl (one_value (rule 1))), ((refl, refl, use_fits rules (rule 2) 1 refl (one_value (rule 2))), ((refl, refl, use_fits rules (rule 3) 1 refl (one_value (rule 3))), ((refl, refl, use_fits rules (rule 4) 0 refl (no_value (rule 4) refl)), ((refl, refl, use_fits rules (rule 5) 0 refl (no_value (rule 5) refl)), ((refl, refl, use_fits rules (rule 6) 1 refl (one_value (rule 6))), ((refl, refl, use_fits rules (rule 7) 1 refl (one_value (rule 7))), ((refl, tt, use_fits rules (rule 8) 1 refl (one_value (rule 8))), ((refl, tt, use_fits rules (rule 9) 1 refl (one_value (rule 9))), ((refl, refl, use_fits rules (rule 10) 1 refl (one_value (rule 10))), ((refl, tt, λ values rows e fit. fit), tt))))))))))))

-- what is required is given
required_given : (rows : List Row) → check_fault (verb_of []) rows false ≡ [] → (is_given (codes "kind") rows ≡ true) × (is_given (codes "scid") rows ≡ true)
required_given rows = go (is_given (codes "kind") rows) (is_given (codes "scid") rows)
  where
    go : (x y : Bool) → check_kinds false false (not x || (not y || false)) ≡ [] → (x ≡ true) × (y ≡ true)
    go true true e = (refl, refl)
    go true false e = absurd (cc)
    go false y e = absurd (cc)

-- the number of an argument of these bits that has a row
number_there : (bits most : ℕ) → 2 ^ bits ≡ suc most → most < 2 ^ 64 → (a : Rule) → IsFound rules a → parser_of_value a.parser ≡ Signed (pos 0) (pos most) → (rows : List Row) → AllFit rules rows
    → has_row a.id rows ≡ true → has_number most a.id rows ≡ true
number_there bits most is small a found parser rows fit has =
    let v = got rules a found rows fit has in
    let text : one_of a.id rows ≡ Some (without_minus v.0) = v.2 ∙ ap (λ (p : ValueParser). Some (read_as (reading_of p) v.0)) parser in
    let passes = subst (λ (p : ValueParser). accepts a.ignore_case p v.0 ≡ true) parser v.3 in
    ap (λ (o : Option Text). option_map_or (accepts false (Unsigned 0 most)) o false) text ∙ reads_number bits most is small v.0 passes

not_none : {value : Text} {values : List Text} → (value ∷ values) ≢ []
not_none is = cc

-- words in which a verb finds no fault
complete : (verb : Text) → is_verb verb ≡ true → (words : List Text) → level_fault (verb_of verb) [] nothing_held words false [] ≡ [] → is_complete verb (rows_after rules [] words) ≡ true
complete verb named words e =
    let s = verb_of verb in
    let found = found_first s (AllFit rules) (each-weaker (IsSound rules s) (KeepsUse s (AllFit rules)) (λ a h. h.2) rules sound) in
    let end = (walk rules [] nothing_held words).held in
    let walked_well = neither (walk_fault s [] (walk_from nothing_held) words) _ e in
    let settled_well = neither (settle_fault rules false end) _ walked_well.1 in
    let checked = neither (defaults_fault (settled rules end).rows rules) _ settled_well.1 in
    let stands = walk_keeps s (AllFit rules) found [] (walk_from nothing_held) words walked_well.0 (tt, tt) in
    let before = (settled rules end).rows in
    let rows = finished rules end in
    let fit = defaults_fit rules s rules sound before (settled_keeps s (AllFit rules) found end settled_well.0 stands.0) in
    let must = required_given rows checked.1 in
    let of_kind = got rules (rule 0) refl rows fit (given (codes "kind") rows must.0) in
    let of_limit = got rules (rule 10) refl rows fit (defaulted (take 10 rules) (rule 10) (drop 11 rules) before not_none) in
    let kind = ap (λ (o : Option Text). option_map_or (is_one_of (codes "tm" ∷ codes "tc" ∷ [])) o false) of_kind.1 ∙ of_kind.3 in
    let scid = number_there 16 65535 refl (omega arith) (rule 1) refl refl rows fit (given (codes "scid") rows must.1) in
    let tm_length = number_there 16 65535 refl (omega arith) (rule 2) refl refl rows fit (defaulted (take 2 rules) (rule 2) (drop 3 rules) before not_none) in
    let tc_length = number_there 16 65535 refl (omega arith) (rule 3) refl refl rows fit (defaulted (take 3 rules) (rule 3) (drop 4 rules) before not_none) in
    let window = number_there 8 255 refl (omega arith) (rule 6) refl refl rows fit (defaulted (take 6 rules) (rule 6) (drop 7 rules) before not_none) in
    let vr = number_there 8 255 refl (omega arith) (rule 7) refl refl rows fit (defaulted (take 7 rules) (rule 7) (drop 8 rules) before not_none) in
    let limit = ap (λ (o : Option Text). option_map_or (accepts false bits_64) o false) of_limit.2 ∙ of_limit.3 in
    λ i. named i && (kind i && (scid i && (tm_length i && (tc_length i && (window i && (vr i && limit i))))))

-- ---- all words

abbrev app : App
app = built sllink_app

-- a verb is required
verb_required : (has : Bool) (rows : List Row) → check_fault app.top rows has ≡ [] → has ≡ true
verb_required true rows e = refl
verb_required false rows e = absurd (cc)

-- the verb at which the words stop
verb_complete : (stop : Option (Text × List Text)) → IfSome stop (λ p. IsNoHelp app.top p.0) → entered_fault app stop ≡ [] → is_some (entered app stop) ≡ true
    → IsSomeAnd (entered app stop) (λ p. is_complete p.0 p.1 ≡ true)
verb_complete None no_help e there = absurd (cc)
verb_complete (Some p) no_help e there = try (codes "show") refl _ (try (codes "check") refl _ (try (codes "packets") refl _ (try (codes "normalise") refl _ (help (bytes_eq (codes "help") p.0) refl)))) e there
  where
    Enters : Option Shape → Type 0
    Enters o = option_map_or (λ s. level_fault s [] nothing_held p.1 false []) o [] ≡ [] → is_some (option_map (λ s. rows_at s p.1) o) ≡ true
        → IsSomeAnd (option_map (λ s. rows_at s p.1) o) (λ q. is_complete q.0 q.1 ≡ true)

    try : (name : Text) → is_verb name ≡ true → (o : Option Shape) → Enters o → Enters (cond (answers_to p.0 (name, [])) (Some (verb_of name)) o)
    try name named o later = go (answers_to p.0 (name, []))
      where
        go : (b : Bool) → Enters (cond b (Some (verb_of name)) o)
        go true = λ e there. complete name named p.1 e
        go false = later

    help : (b : Bool) → bytes_eq (codes "help") p.0 ≡ b → Enters (cond (b || false) (Some (unwrap_or (slice_get app.subs 4) (new_shape []))) None)
    help true is e there =
        let bad : true ≡ false = subst (λ (name : Text). IsNoHelp app.top name) (sym ((bytes_eq-Decides (codes "help") p.0).0 is)) no_help in
        absurd (cc)
    help false is e there = absurd (cc)

-- words of which nothing is refused enter a verb, and are complete
pub words_ask_something : (words : List Text) → fault_of sllink_app words ≡ [] → IsSomeAnd (subcommand_of sllink_app words) (λ p. is_complete p.0 p.1 ≡ true)
words_ask_something words e =
    let names = names_of app in
    let start = walk_from nothing_held in
    let Any : List Row → Type 0 = λ _. Unit in
    let w = walk app.top.rules names nothing_held (drop 1 words) in
    let walked_well = neither (walk_fault app.top names start (drop 1 words)) _ e in
    let entered_well = neither (entered_fault app w.stopped) _ walked_well.1 in
    let settled_well = neither (settle_fault app.top.rules false w.held) _ entered_well.1 in
    let checked = neither (defaults_fault (settled app.top.rules w.held).rows app.top.rules) _ settled_well.1 in
    let kept = each-every (KeepsUse app.top Any) (λ a values rows f p. tt) app.top.rules in
    let stands = walk_keeps app.top Any (found_first app.top Any kept) names start (drop 1 words) walked_well.0 (tt, tt) in
    verb_complete w.stopped stands.1 entered_well.0 (verb_required (is_some (entered app w.stopped)) (finished app.top.rules w.held) checked.1)
