-- What a walk over words keeps of the rows where it meets no fault, and that it enters no help.
use Rattle.std.proofs.Common.{◌≡◌, ◌&&◌, ℕ, Bool, suc, zero, true, false, cond, not, refl, List, [], ◌∷◌, length, Option, Some, None, is_some, codes}
use Rattle.std.specs.Prelude.{IfSome, find, fold, slice_get}
use Rattle.std.specs.List.{AllByRecursion}
use Rattle.std.specs.Option.{option_map_or}
use Rattle.std.specs.Str.{bytes_eq, chars}
use Rattle.std.proofs.lemmas.Option.{IfSome_then}
use Rattle.clap.specs.Faults.{bundle_fault, bundle_step_fault, flag_word_fault, flags_fault, long_fault, option_fault, other_fault, positional_fault, react_fault, settle_fault, short_fault, step_fault, stray_fault, turn_fault, use_fault, walk_fault, word_fault}
use Rattle.clap.specs.Kinds.{Kinds, or_else}
use Rattle.clap.specs.Lexer.{long_of, short_of}
use Rattle.clap.specs.Simple.{Shape}
use Rattle.clap.specs.Walk.{Held, Names, Outcome, Row, Rule, Step, Text, Waiting, Walk, after_flag, after_step, arg_by_id, arg_by_index, arg_by_long, arg_by_short, attached_value, bundle, bundle_met, bundle_step, done, is_pending, long_met, long_or_other, next, option, option_met, option_word, plain, reacted, refused, settled, settled_rows, short_met, short_or_plain, subcommand, subcommand_met, subcommand_or_other, takes_several, takes_values, to_positional, trailing, used, used_by_id, value, waits, walked, walked_from, word_met}
use Rattle.clap.specs.declared.error.kind.ErrorKind.{ErrorKind}

-- neither of the two has a kind
pub neither : (a b : Kinds) → or_else a b ≡ [] → (a ≡ []) × (b ≡ [])
neither [] b e = (refl, e)
neither (k ∷ ks) b e = absurd (cc)

-- no kind comes, so the test was false; so the test was true
pub unmet : (b : Bool) (k : ErrorKind) (ks : Kinds) → cond b (k ∷ ks) [] ≡ [] → b ≡ false
unmet true k ks e = absurd (cc)
unmet false k ks e = refl

pub met : (b : Bool) (k : ErrorKind) → cond b [] (k ∷ []) ≡ [] → b ≡ true
met true k e = refl
met false k e = absurd (cc)

-- the first that passes, by what holds of each
pub first : {X : Type 0} (Q : X → Type 0) (p : X → Bool) (xs : List X) → AllByRecursion Q xs → IfSome (find p xs) (λ x. Q x × (p x ≡ true))
first Q p [] all = tt
first Q p (x ∷ xs) all = go (p x) refl (first Q p xs all.1)
  where
    go : (b : Bool) → p x ≡ b → IfSome (find p xs) (λ x. Q x × (p x ≡ true)) → IfSome (cond b (Some x) (find p xs)) (λ x. Q x × (p x ≡ true))
    go true is later = (all.0, is)
    go false is later = later

-- ---- the walk

-- the name of a subcommand that isn't `help`, where `help` is one
abbrev pub IsNoHelp : Shape → Text → Type 0
IsNoHelp s name = (bytes_eq name (codes "help") && not s.disable_help_subcommand) ≡ false

-- a step that doesn't enter help
abbrev IsFine : Shape → Step → Type 0
IsFine s (subcommand name) = IsNoHelp s name
IsFine s _ = Unit

-- P stays true of the rows where no use of a rule has a fault
module _ (s : Shape) (P : List Row → Type 0) where
  abbrev c : List Rule
  c = s.rules

  abbrev again : Bool
  again = s.args_override_self

  abbrev Keeps : Kinds → Held → Held → Type 0
  Keeps e h end = e ≡ [] → P h.rows → P end.rows

  -- a use without a fault keeps P
  abbrev pub KeepsUse : Rule → Type 0
  KeepsUse a = (values : List Text) (rows : List Row) → use_fault again a values rows ≡ [] → P rows → P (used a values rows)

  in_turn : (e e' : Kinds) (h on end : Held) → Keeps e h on → Keeps e' on end → Keeps (or_else e e') h end
  in_turn e e' h on end k k' f p =
      let parts = neither e e' f in
      k' parts.1 (k parts.0 p)

  on_cond : {X : Type 0} (held : X → Held) (b : Bool) (e e' : Kinds) (h : Held) (x x' : X) → Keeps e h (held x) → Keeps e' h (held x') → Keeps (cond b e e') h (held (cond b x x'))
  on_cond held true e e' h x x' k k' = k
  on_cond held false e e' h x x' k k' = k'

  -- the rows and the step after a word
  abbrev Met : Kinds → Held → Held × Step → Type 0
  Met e h x = e ≡ [] → P h.rows → P x.0.rows × IsFine s x.1

  -- P holds of the rows, and help was not entered
  abbrev pub Stands : Walk → Type 0
  Stands w = P w.held.rows × IfSome w.stopped (λ p. IsNoHelp s p.0)

  module _ (found : (p : Rule → Bool) → IfSome (find p c) KeepsUse) where
    pub settled_keeps : (h : Held) → Keeps (settle_fault c again h) h (settled c h)
    settled_keeps h = go h.pending
      where
        spend : (values : List Text) (o : Option Rule) → IfSome o KeepsUse → option_map_or (λ a. use_fault again a values h.rows) o [] ≡ [] → P h.rows → P (used_by_id o values h.rows)
        spend values None k e p = p
        spend values (Some a) k e p = k values h.rows e p

        go : (o : Option (Text × List Text)) → option_map_or (λ p. option_map_or (λ a. use_fault again a p.1 h.rows) (arg_by_id c p.0) []) o [] ≡ [] → P h.rows → P (settled_rows c o h.rows)
        go None e p = p
        go (Some q) e p = spend q.1 (arg_by_id c q.0) (found (λ a. bytes_eq a.id q.0)) e p

    reacted_keeps : (a : Rule) (values : List Text) (h : Held) → KeepsUse a → Keeps (react_fault c again a values h) h (reacted c a values h)
    reacted_keeps a values h k = in_turn _ _ h (settled c h) (reacted c a values h) (settled_keeps h) (k values (settled c h).rows)

    option_keeps : (a : Rule) (v : Option Text) (h : Held) → KeepsUse a → Keeps (option_fault c again a v h) h (option_met c a v h).0
    option_keeps a (Some v) h k = reacted_keeps a (v ∷ []) h k
    option_keeps a None h k = settled_keeps h

    long_keeps : (o : Option Rule) (v : Option Text) (h : Held) → IfSome o KeepsUse → Keeps (long_fault c again o v h) h (long_met c o v h).0
    long_keeps None v h k = λ e p. p
    long_keeps (Some a) None h k = on_cond (λ x. x.0) (takes_values a) _ _ h (option_met c a None h) (reacted c a [] h, done) (option_keeps a None h k) (reacted_keeps a [] h k)
    long_keeps (Some a) (Some v) h k = on_cond (λ x. x.0) (takes_values a) _ _ h (option_met c a (Some v) h) (h, refused) (option_keeps a (Some v) h k) (λ e p. p)

    short_keeps : (o : Option Rule) (rest : Text) (h : Held) (on : Held → Held × Outcome) (fault : Held → Kinds) → IfSome o KeepsUse
        → ((x : Held) → Keeps (fault x) x (on x).0) → Keeps (short_fault c again o rest h fault) h (short_met c o rest h on).0
    short_keeps None rest h on fault k more = λ e p. p
    short_keeps (Some a) rest h on fault k more =
        let x = reacted c a [] h in
        on_cond (λ x. x.0) (takes_values a) _ _ h (option_met c a (attached_value rest) h) (on x) (option_keeps a (attached_value rest) h k) (in_turn _ _ h x (on x).0 (reacted_keeps a [] h k) (more x))

    flags_keep : (k : ℕ) (flags : Text) (skip : ℕ) (so_far : Outcome) (h : Held) → Keeps (flags_fault c again k flags skip h) h (bundle_met c k flags skip so_far h).0
    unfolding bundle_met flags_fault
    flags_keep zero flags skip so_far h = λ e p. p
    flags_keep (suc k) flags skip so_far h = go (slice_get (chars flags) 0) skip (λ fs n o x. flags_keep k fs n o x)
      where
        go : (o : Option ℕ) (n : ℕ) → ((fs : Text) (n : ℕ) (so_far : Outcome) (x : Held) → Keeps (flags_fault c again k fs n x) x (bundle_met c k fs n so_far x).0)
            → Keeps (bundle_step_fault c again o flags n h (flags_fault c again k)) h (bundle_step c o flags n so_far h (bundle_met c k)).0
        go None n shorter = λ e p. p
        go (Some x) zero shorter = short_keeps (arg_by_short c x) _ h _ _ (found _) (λ y. shorter _ 0 done y)
        go (Some x) (suc n) shorter = shorter _ n so_far h

    -- after a word that may be a flag
    after_flag_keeps : (waiting : Waiting) (word : Text) (h : Held) (o : Outcome) → P h.rows → P (after_flag c waiting word h o).0.rows × IsFine s (after_flag c waiting word h o).1
    after_flag_keeps waiting word h done p = (p, tt)
    after_flag_keeps waiting word h (waits id) p = (p, tt)
    after_flag_keeps (option id) word h _ p = (go (arg_by_id c id), tt)
      where
        go : (o : Option Rule) → P (option_word o id word h).0.rows
        go None = p
        go (Some a) = p
    after_flag_keeps _ word h _ p = (p, tt)

    flag_word_keeps : (waiting : Waiting) (word : Text) (h : Held) (o : Option (Text × Option Text)) → Met (flag_word_fault c again o word h) h (long_or_other c waiting word o h)
    flag_word_keeps waiting word h (Some q) = λ e p. after_flag_keeps waiting word _ (long_met c (arg_by_long c q.0) q.1 h).1 (long_keeps (arg_by_long c q.0) q.1 h (found _) e p)
    flag_word_keeps waiting word h None = go (short_of word)
      where
        go : (o : Option Text) → Met (option_map_or (λ flags. bundle_fault c again flags h) o []) h (short_or_plain c waiting word o h)
        go None = λ e p. after_flag_keeps waiting word h plain p
        go (Some flags) = λ e p. after_flag_keeps waiting word _ (bundle c flags h).1 (flags_keep (length flags) flags h.skip plain (record h { skip = 0 }) e p)

    other_keeps : (o : Option Text) (waiting : Waiting) (position : ℕ) (word : Text) (h : Held) → Met (other_fault s o word h) h (subcommand_or_other c o waiting position word h)
    other_keeps (Some name) waiting position word h = λ e p. (p, unmet (bytes_eq name (codes "help") && not s.disable_help_subcommand) _ _ e)
    other_keeps None waiting position word h = go (bytes_eq word (45 ∷ 45 ∷ []))
      where
        go : (b : Bool) → Met (cond b [] (flag_word_fault c again (long_of word) word h)) h (cond b (h, trailing position) (long_or_other c waiting word (long_of word) h))
        go true = λ e p. (p, tt)
        go false = flag_word_keeps waiting word h (long_of word)

    word_keeps : (names : Names) (is_trailing : Bool) (waiting : Waiting) (position : ℕ) (word : Text) (h : Held)
        → Met (word_fault s names is_trailing waiting word h) h (word_met c names is_trailing waiting position word h)
    word_keeps names true waiting position word h = λ e p. (p, tt)
    word_keeps names false waiting position word h = other_keeps (subcommand_met names waiting word) waiting position word h

    step_keeps : (word : Text) (w : Walk) (h : Held) (step : Step) → IfSome w.stopped (λ p. IsNoHelp s p.0) → step_fault s w.position h step ≡ [] → P h.rows × IsFine s step
        → Stands (after_step c word w h step)
    step_keeps word w h (next waiting) stopped e met = (met.0, stopped)
    step_keeps word w h (trailing position) stopped e met = (met.0, stopped)
    step_keeps word w h (subcommand name) stopped e met = met
    step_keeps word w h value stopped e met = go (arg_by_index c w.position) e
      where
        go : (o : Option Rule) → option_map_or (λ a. positional_fault c again a h) o (stray_fault s) ≡ [] → Stands (to_positional c o word w h)
        go None e = (met.0, stopped)
        go (Some a) e = (on_cond (λ x. x) (is_pending a h.pending && takes_several a) [] (settle_fault c again h) h h (settled c h) (λ e p. p) (settled_keeps h) e met.0, tt)

    walked_keeps : (names : Names) (w : Walk) (word : Text) → turn_fault s names w word ≡ [] → Stands w → Stands (walked c names w word)
    unfolding walked
    walked_keeps names w word e stands = go w.stopped e stands.1
      where
        met : Held × Step
        met = word_met c names w.is_trailing w.waiting w.position word w.held

        go : (o : Option (Text × List Text)) → cond (is_some o) [] (or_else (word_fault s names w.is_trailing w.waiting word w.held) (step_fault s w.position met.0 met.1)) ≡ []
            → IfSome o (λ p. IsNoHelp s p.0) → Stands (walked_from c names o w word)
        go (Some q) e stopped = (stands.0, stopped)
        go None e stopped =
            let parts = neither (word_fault s names w.is_trailing w.waiting word w.held) _ e in
            step_keeps word w met.0 met.1 stands.1 parts.1 (word_keeps names w.is_trailing w.waiting w.position word w.held parts.0 stands.0)

    pub walk_keeps : (names : Names) (w : Walk) (words : List Text) → walk_fault s names w words ≡ [] → Stands w → Stands (fold (walked c names) w words)
    unfolding walk_fault
    walk_keeps names w [] e stands = stands
    walk_keeps names w (word ∷ rest) e stands =
        let parts = neither (turn_fault s names w word) _ e in
        walk_keeps names (walked c names w word) rest parts.1 (walked_keeps names w word parts.0 stands)

-- the premise of the walk, by what holds of each rule
pub found_first : (s : Shape) (P : List Row → Type 0) → AllByRecursion (KeepsUse s P) s.rules → (p : Rule → Bool) → IfSome (find p s.rules) (KeepsUse s P)
found_first s P all p = IfSome_then (find p s.rules) (first (KeepsUse s P) p s.rules all) (λ a h. h.0)
