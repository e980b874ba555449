-- Rules that differ in nothing that a walk reads: the same words are met and refused in the same way. So it makes no
-- difference to a parse where the names of the kinds lie in memory.
use Rattle.std.proofs.Common.{◌≡◌, ℕ, Bool, zero, suc, refl, List, [], ◌∷◌, length, Option, Some, None, ◌==◌, true, false, cond, drop, codes, option_map}
use Rattle.std.specs.Prelude.{fold, slice_get, find, unwrap_or}
use Rattle.std.specs.Option.{option_map_or}
use Rattle.std.specs.Str.{chars, bytes_eq}
use Rattle.std.specs.Borrow.{Bor}
use Rattle.clap.specs.Faults.{bundle_fault, bundle_step_fault, flag_word_fault, flags_fault, long_fault, option_fault, other_fault, positional_fault, settle_fault, short_fault, step_fault, stray_fault, walk_fault, defaults_fault, entered_fault, fault_of, level_fault, use_fault}
use Rattle.clap.specs.Kinds.{Kinds, values_kinds}
use Rattle.clap.specs.Lexer.{long_of, short_of}
use Rattle.clap.specs.Simple.{Shape, built, entered, filled, label_of, new_shape, rows_at, subcommand_of, with_index}
use Rattle.clap.specs.Walk.{Held, Names, Outcome, Row, Rule, Step, Text, Waiting, Walk, after_flag, after_step, arg_by_id, arg_by_index, arg_by_long, arg_by_short, attached_value, bundle_met, bundle_step, done, idle, long_met, long_or_other, option, option_met, option_word, plain, plain_word, settled_rows, short_met, short_or_plain, subcommand_or_other, to_positional, value, waits, walk, walk_from, walked, walked_from, answers_to, nothing_held, used_by_id}
use Rattle.clap.specs.declared.builder.value_parser.ValueParser.TheVariants.{Names as OneOf}
use Rattle.sl_link.specs.Program.CommandLine.{Address, kind_rule, kinds_at, recording_kinds, sllink_with}

-- the shape with these rules
abbrev pub with_rules : Shape → List Rule → Shape
with_rules s c = record s { rules = c }

-- what happens to a word that goes to a positional
abbrev value_fault : Shape → List Rule → ℕ → Held → Kinds
value_fault s c i h = option_map_or (λ a. positional_fault c s.args_override_self a h) (arg_by_index c i) (stray_fault s)

-- two lists of rules by which a walk goes the same way, and is refused for the same, at a command of this shape
pub record SameWalk (s : Shape) (c c' : List Rule) : Type 0 where
  pub long : (name : Text) → arg_by_long c name ≡ arg_by_long c' name
  pub short : (x : ℕ) → arg_by_short c x ≡ arg_by_short c' x
  pub rows : (p : Option (Text × List Text)) (rs : List Row) → settled_rows c p rs ≡ settled_rows c' p rs
  pub by_id : (id word : Text) (h : Held) → option_word (arg_by_id c id) id word h ≡ option_word (arg_by_id c' id) id word h
  pub by_index : (i : ℕ) (word : Text) (w : Walk) (h : Held) → to_positional c (arg_by_index c i) word w h ≡ to_positional c' (arg_by_index c' i) word w h
  pub settle : (h : Held) → settle_fault c s.args_override_self h ≡ settle_fault c' s.args_override_self h
  pub value : (i : ℕ) (h : Held) → value_fault s c i h ≡ value_fault s c' i h

module _ {s : Shape} {c c' : List Rule} (same : SameWalk s c c') where
  abbrev again : Bool
  again = s.args_override_self

  -- an option, a long flag and a short one
  option_is : (a : Rule) (v : Option Text) (h : Held) → (option_met c a v h ≡ option_met c' a v h) × (option_fault c again a v h ≡ option_fault c' again a v h)
  option_is a (Some v) h = (simp same.rows, simp (same.settle, same.rows))
  option_is a None h = (simp same.rows, same.settle h)

  long_is : (o : Option Rule) (v : Option Text) (h : Held) → (long_met c o v h ≡ long_met c' o v h) × (long_fault c again o v h ≡ long_fault c' again o v h)
  long_is None v h = (refl, refl)
  long_is (Some a) None h = (simp same.rows, simp (same.settle, same.rows))
  long_is (Some a) (Some v) h = (simp same.rows, simp (same.settle, same.rows))

  short_is : (o : Option Rule) (rest : Text) (h : Held) (on on' : Held → Held × Outcome) (fault fault' : Held → Kinds) → ((x : Held) → (on x ≡ on' x) × (fault x ≡ fault' x))
      → (short_met c o rest h on ≡ short_met c' o rest h on') × (short_fault c again o rest h fault ≡ short_fault c' again o rest h fault')
  short_is None rest h on on' fault fault' e = (refl, refl)
  short_is (Some a) rest h on on' fault fault' e =
      let same_on : (x : Held) → on x ≡ on' x = λ x. (e x).0 in
      let same_fault : (x : Held) → fault x ≡ fault' x = λ x. (e x).1 in
      let met = option_is a (attached_value rest) h in
      (simp (met.0, same.rows, same_on), simp (met.1, same.settle, same.rows, same_fault))

  -- a word of short flags
  abbrev SameFlags : ℕ → Text → ℕ → Outcome → Held → Type 0
  SameFlags k flags skip so_far h = (bundle_met c k flags skip so_far h ≡ bundle_met c' k flags skip so_far h) × (flags_fault c again k flags skip h ≡ flags_fault c' again k flags skip h)

  flags_are : (k : ℕ) (flags : Text) (skip : ℕ) (so_far : Outcome) (h : Held) → SameFlags k flags skip so_far h
  unfolding bundle_met flags_fault
  flags_are zero flags skip so_far h = (refl, refl)
  flags_are (suc k) flags skip so_far h = go (slice_get (chars flags) 0) skip (λ fs n o x. flags_are k fs n o x)
    where
      go : (o : Option ℕ) (n : ℕ) → ((fs : Text) (n : ℕ) (so_far : Outcome) (x : Held) → SameFlags k fs n so_far x)
          → (bundle_step c o flags n so_far h (bundle_met c k) ≡ bundle_step c' o flags n so_far h (bundle_met c' k))
          × (bundle_step_fault c again o flags n h (flags_fault c again k) ≡ bundle_step_fault c' again o flags n h (flags_fault c' again k))
      go None n shorter = (refl, refl)
      go (Some x) zero shorter = rw (same.short x) (short_is (arg_by_short c' x) _ h _ _ _ _ (λ y. shorter _ 0 done y))
      go (Some x) (suc n) shorter = shorter _ n so_far h

  plain_word_is : (waiting : Waiting) (word : Text) (h : Held) → plain_word c waiting word h ≡ plain_word c' waiting word h
  plain_word_is (option id) word h = simp same.by_id
  plain_word_is _ word h = refl

  after_flag_is : (waiting : Waiting) (word : Text) (h : Held) (o : Outcome) → after_flag c waiting word h o ≡ after_flag c' waiting word h o
  after_flag_is waiting word h done = refl
  after_flag_is waiting word h (waits id) = refl
  after_flag_is waiting word h _ = plain_word_is waiting word h

  -- a word that names no subcommand, by its flags
  flag_word_is : (waiting : Waiting) (word : Text) (h : Held) (o : Option (Text × Option Text))
      → (long_or_other c waiting word o h ≡ long_or_other c' waiting word o h) × (flag_word_fault c again o word h ≡ flag_word_fault c' again o word h)
  flag_word_is waiting word h (Some p) =
      let met = long_is (arg_by_long c' p.0) p.1 h in
      (simp (same.long, met.0, after_flag_is), simp (same.long, met.1))
  flag_word_is waiting word h None = go (short_of word)
    where
      go : (o : Option Text) → (short_or_plain c waiting word o h ≡ short_or_plain c' waiting word o h)
          × (option_map_or (λ flags. bundle_fault c again flags h) o [] ≡ option_map_or (λ flags. bundle_fault c' again flags h) o [])
      go None = (plain_word_is waiting word h, refl)
      go (Some flags) =
          let met = flags_are (length flags) flags h.skip plain (record h { skip = 0 }) in
          (simp (met.0, after_flag_is), met.1)

  met_is : (o : Option Text) (waiting : Waiting) (position : ℕ) (word : Text) (h : Held) → subcommand_or_other c o waiting position word h ≡ subcommand_or_other c' o waiting position word h
  met_is (Some name) waiting position word h = refl
  met_is None waiting position word h = simp (flag_word_is waiting word h (long_of word)).0

  step_is : (word : Text) (w : Walk) (h : Held) (step : Step) → after_step c word w h step ≡ after_step c' word w h step
  step_is word w h value = same.by_index w.position word w h
  step_is word w h _ = refl

  met_fault_is : (o : Option Text) (word : Text) (h : Held) → other_fault (with_rules s c) o word h ≡ other_fault (with_rules s c') o word h
  met_fault_is (Some name) word h = refl
  met_fault_is None word h = simp (flag_word_is idle word h (long_of word)).1

  step_fault_is : (position : ℕ) (h : Held) (step : Step) → step_fault (with_rules s c) position h step ≡ step_fault (with_rules s c') position h step
  step_fault_is position h value = same.value position h
  step_fault_is position h _ = refl

  walked_is : (names : Names) (w : Walk) (word : Text) → walked c names w word ≡ walked c' names w word
  unfolding walked
  walked_is names w word = go w.stopped
    where
      go : (o : Option (Text × List Text)) → walked_from c names o w word ≡ walked_from c' names o w word
      go (Some p) = refl
      go None = simp (met_is, step_is)

  -- the walks are the same
  pub walk_is : (names : Names) (h : Held) (words : List Text) → walk c names h words ≡ walk c' names h words
  walk_is names h words = λ i. fold (λ w word. walked_is names w word i) (walk_from h) words

  pub walk_fault_is : (names : Names) (w : Walk) (words : List Text) → walk_fault (with_rules s c) names w words ≡ walk_fault (with_rules s c') names w words
  unfolding walk_fault
  walk_fault_is names w [] = refl
  walk_fault_is names w (word ∷ rest) = simp (met_is, met_fault_is, step_fault_is, walked_is, walk_fault_is names (walked c' names w word) rest)

-- ---- where the names lie

-- a verb with the kinds that it takes, as it is built: verbs differ in their names alone
abbrev pub verb_at : Text → Bor (List (Bor Text)) → Shape
verb_at name kinds = record (unwrap_or (slice_get (built (sllink_with kinds)).subs 0) (new_shape [])) { name = name }

abbrev pub rules_at : Bor (List (Bor Text)) → List Rule
rules_at kinds = (verb_at [] kinds).rules

-- the rule of its kind, the first
abbrev kind_at : Bor (List (Bor Text)) → Rule
kind_at kinds = with_index 1 (filled (kind_rule kinds))

-- where the first of two things is taken in both cases, or the other
choose : {X : Type 0} (P : Option X → Option X → Type 0) {x x' : X} → P (Some x) (Some x') → (o o' : Option X) → P o o' → (b : Bool) → P (cond b (Some x) o) (cond b (Some x') o')
choose P here o o' later true = here
choose P here o o' later false = later

module _ (list tm tc : Address) where
  abbrev k : Bor (List (Bor Text))
  k = kinds_at list tm tc

  abbrev l : Bor (List (Bor Text))
  l = recording_kinds

  values_is : (vs : List Text) → values_kinds false (OneOf k) vs ≡ values_kinds false (OneOf l) vs
  values_is [] = refl
  values_is (v ∷ vs) = simp (values_is vs)

  -- what holds of both rules of the kind, and of any other rule twice, holds of the rules of an id
  by_id_is : (P : Option Rule → Option Rule → Type 0) → P (Some (kind_at k)) (Some (kind_at l)) → ((o : Option Rule) → P o o) → (id : Text) → P (arg_by_id (rules_at k) id) (arg_by_id (rules_at l) id)
  by_id_is P kind same id = choose P kind (arg_by_id (drop 1 (rules_at l)) id) _ (same _) (bytes_eq (codes "kind") id)

  rows_is : (p : Option (Text × List Text)) (rs : List Row) → settled_rows (rules_at k) p rs ≡ settled_rows (rules_at l) p rs
  rows_is None rs = refl
  rows_is (Some p) rs = by_id_is (λ x y. used_by_id x p.1 rs ≡ used_by_id y p.1 rs) refl (λ o. refl) p.0

  settle_is : (h : Held) → settle_fault (rules_at k) false h ≡ settle_fault (rules_at l) false h
  settle_is h = go h.pending
    where
      fault : List Text → Option Rule → Kinds
      fault values o = option_map_or (λ a. use_fault false a values h.rows) o []

      go : (o : Option (Text × List Text)) → option_map_or (λ p. fault p.1 (arg_by_id (rules_at k) p.0)) o [] ≡ option_map_or (λ p. fault p.1 (arg_by_id (rules_at l) p.0)) o []
      go None = refl
      go (Some p) = by_id_is (λ x y. fault p.1 x ≡ fault p.1 y) (simp values_is) (λ o. refl) p.0

  walks : (name : Text) → SameWalk (verb_at name k) (rules_at k) (rules_at l)
  walks name = record {
    long = λ name. refl;
    short = λ x. refl;
    rows = rows_is;
    by_id = λ id word h. by_id_is (λ x y. option_word x id word h ≡ option_word y id word h) refl (λ o. refl) id;
    by_index = λ i word w h. choose (λ x y. to_positional (rules_at k) x word w h ≡ to_positional (rules_at l) y word w h) (simp rows_is) None None refl (1 == i);
    settle = settle_is;
    value = λ i h. choose (λ x y. option_map_or (λ a. positional_fault (rules_at k) false a h) x (stray_fault (verb_at name k)) ≡ option_map_or (λ a. positional_fault (rules_at l) false a h) y (stray_fault (verb_at name k)))
        (simp settle_is) None None refl (1 == i);
  }

  -- what holds of both of each verb, and of any other command twice, holds of the commands that a word names
  verb_is : (P : Option Shape → Option Shape → Type 0) → ((name : Text) → P (Some (verb_at name k)) (Some (verb_at name l))) → ((o : Option Shape) → P o o)
      → (word : Text) → P (find (λ s. answers_to word (label_of s)) (built (sllink_with k)).subs) (find (λ s. answers_to word (label_of s)) (built (sllink_with l)).subs)
  verb_is P verb same word = go (codes "show") _ _ (go (codes "check") _ _ (go (codes "packets") _ _ (go (codes "normalise") _ _ (same _))))
    where
      go : (name : Text) (o o' : Option Shape) → P o o' → P (cond (answers_to word (name, [])) (Some (verb_at name k)) o) (cond (answers_to word (name, [])) (Some (verb_at name l)) o')
      go name o o' later = choose P (verb name) o o' later (answers_to word (name, []))

  entered_is : (stop : Option (Text × List Text)) → entered (built (sllink_with k)) stop ≡ entered (built (sllink_with l)) stop
  entered_is None = refl
  entered_is (Some p) = verb_is (λ o o'. option_map (λ s. rows_at s p.1) o ≡ option_map (λ s. rows_at s p.1) o') (λ name. simp (rows_is, walk_is (walks name))) (λ o. refl) p.0

  fault_is : (stop : Option (Text × List Text)) → entered_fault (built (sllink_with k)) stop ≡ entered_fault (built (sllink_with l)) stop
  unfolding defaults_fault
  fault_is None = refl
  fault_is (Some p) =
      verb_is (λ o o'. option_map_or (λ s. level_fault s [] nothing_held p.1 false []) o [] ≡ option_map_or (λ s. level_fault s [] nothing_held p.1 false []) o' []) (λ name. simp (rows_is, settle_is, walk_is (walks name), walk_fault_is (walks name))) (λ o. refl) p.0

  -- the words name the same subcommand, with the same matches
  pub same_subcommand : (words : List Text) → subcommand_of (sllink_with k) words ≡ subcommand_of (sllink_with l) words
  same_subcommand words = simp entered_is

  -- and are refused for the same
  pub same_fault : (words : List Text) → fault_of (sllink_with k) words ≡ fault_of (sllink_with l) words
  same_fault words = simp (entered_is, fault_is)
