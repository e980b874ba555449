-- Frames that would stand twice, and how often their payloads come.
use Rattle.std.proofs.Common.{◌≡◌, ℕ, ◌+◌, Bool, true, false, cond, List, [], ◌∷◌, Option, Some, inl, inr, refl, sym, ◌∙◌, ap, ap₂, arith}
use Rattle.std.proofs.lemmas.Bool.Decides.{nat_tests}
use Rattle.std.specs.Prelude.{◌&&◌, ◌||◌, min, nat_le, not, unwrap_or, bytes_eq}
use Rattle.std.specs.List.{list_all, list_any}
use Rattle.std.proofs.lemmas.Bool.{cases_Bool}
use Rattle.std.proofs.lemmas.Slice.Eq.{bytes_eq-Decides}
use Rattle.std.proofs.lemmas.List.Sums.{sum_by-cons}
use Rattle.sl_tmframe.specs.TmFrame.{TmFormat}
use Rattle.sl_merge.specs.declared.twice.Times.{Times}
use Rattle.sl_merge.specs.Fates.{Fated, exchanged, turned, turned_item}
use Rattle.sl_merge.specs.Merge.{comes_twice, is_first_alone, is_in_second, is_kept, payload, stands_twice, times_kept}
use Rattle.sl_merge.specs.Twice.{is_excused, no_times, times_after, times_more}

-- ---- frames of the second recording alone

put : (e old r : Bool) → (cond e true old || r) ≡ (old || ((true && e) || r))
put true true r = refl
put true false r = refl
put false true r = refl
put false false r = refl

pub seconds_more : (frame : List ℕ) (items rest : List Fated) (item : Fated) → items ≡ item ∷ rest → is_first_alone (turned item.fate) ≡ true
    → (old new : Bool) → new ≡ cond (bytes_eq item.frame frame) true old → (new || is_in_second frame rest) ≡ (old || is_in_second frame items)
seconds_more frame items rest item is alone old new e =
    let r = is_in_second frame rest in
    ap (λ b. b || r) e ∙ put (bytes_eq item.frame frame) old r
    ∙ sym (ap (λ l. old || is_in_second frame l) is ∙ ap (λ a. old || ((a && bytes_eq item.frame frame) || r)) alone)

-- where no frame stands twice, none has to be excused
pub none_suspect : (format : TmFormat) (all items : List Fated) → list_any (stands_twice all) items ≡ false → list_all (is_excused format all) items ≡ true
none_suspect format all [] none = refl
none_suspect format all (item ∷ items) none =
    elim (cases_Bool (stands_twice all item)) [
      | inl twice ↦ absurd (let e : true ≡ false = sym (ap (λ b. b || list_any (stands_twice all) items) twice) ∙ none in cc)
      | inr once ↦
          ap (λ b. (not b || comes_twice format (payload format item.frame) all) && list_all (is_excused format all) items) once
          ∙ none_suspect format all items (ap (λ b. b || list_any (stands_twice all) items) (sym once) ∙ none)
    ]

pub excused_more : (format : TmFormat) (all items rest : List Fated) (item : Fated) → items ≡ item ∷ rest → is_excused format all item ≡ true
    → list_all (is_excused format all) rest ≡ list_all (is_excused format all) items
excused_more format all items rest item is holds =
    sym (ap (list_all (is_excused format all)) is ∙ ap (λ b. b && list_all (is_excused format all) rest) holds)

pub excused_not : (format : TmFormat) (all items rest : List Fated) (item : Fated) → items ≡ item ∷ rest → is_excused format all item ≡ false
    → list_all (is_excused format all) items ≡ false
excused_not format all items rest item is fails =
    ap (list_all (is_excused format all)) is ∙ ap (λ b. b && list_all (is_excused format all) rest) fails

-- ---- how often a payload comes

abbrev timed : ℕ → ℕ → Times
timed first second = record { first = first; second = second }

abbrev bit : Bool → ℕ
bit b = cond b 1 0

same_bit : (k e : Bool) → e ≡ true → bit (k && e) ≡ bit k
same_bit true e same = ap bit same
same_bit false e same = refl

no_bit : (k e : Bool) → e ≡ false → bit (k && e) ≡ 0
no_bit true e other = ap bit other
no_bit false e other = refl

times_cons : (format : TmFormat) (octets : List ℕ) (item : Fated) (rest : List Fated)
    → times_kept format octets (item ∷ rest) ≡ bit (is_kept item && bytes_eq (payload format item.frame) octets) + times_kept format octets rest
times_cons format octets item rest = sum_by-cons (λ (i : Fated). bit (is_kept i && bytes_eq (payload format i.frame) octets)) item rest

capped : (a b m n : ℕ) → m ≡ b + n → min (min (a + b) 255 + n) 255 ≡ min (a + m) 255
capped a b m n e = omega (arith, e)

module _ (format : TmFormat) (octets : List ℕ) (items rest : List Fated) (item : Fated) (is : items ≡ item ∷ rest) where
  abbrev e : Bool
  e = bytes_eq (payload format item.frame) octets

  kept_more : e ≡ true → times_kept format octets items ≡ bit (is_kept item) + times_kept format octets rest
  kept_more same = ap (times_kept format octets) is ∙ times_cons format octets item rest ∙ ap (λ n. n + times_kept format octets rest) (same_bit (is_kept item) e same)

  turned_more : e ≡ true → times_kept format octets (exchanged items) ≡ bit (is_kept (turned_item item)) + times_kept format octets (exchanged rest)
  turned_more same =
      ap (λ l. times_kept format octets (exchanged l)) is ∙ times_cons format octets (turned_item item) (exchanged rest)
      ∙ ap (λ n. n + times_kept format octets (exchanged rest)) (same_bit (is_kept (turned_item item)) e same)

  came : e ≡ true → (t : Times) → times_more format octets (times_after t item) rest ≡ times_more format octets t items
  came same t =
      ap₂ timed
      (capped t.first (bit (is_kept item)) (times_kept format octets items) (times_kept format octets rest) (kept_more same))
      (capped t.second (bit (is_kept (turned_item item))) (times_kept format octets (exchanged items)) (times_kept format octets (exchanged rest))
      (turned_more same))

  stayed : e ≡ false → (t : Times) → times_more format octets t rest ≡ times_more format octets t items
  stayed other t =
      let first : times_kept format octets items ≡ times_kept format octets rest =
      ap (times_kept format octets) is ∙ times_cons format octets item rest ∙ ap (λ n. n + times_kept format octets rest) (no_bit (is_kept item) e other) ∙ omega arith in
      let second : times_kept format octets (exchanged items) ≡ times_kept format octets (exchanged rest) =
      ap (λ l. times_kept format octets (exchanged l)) is ∙ times_cons format octets (turned_item item) (exchanged rest)
      ∙ ap (λ n. n + times_kept format octets (exchanged rest)) (no_bit (is_kept (turned_item item)) e other) ∙ omega arith in
      ap₂ (λ a b. timed (min (t.first + a) 255) (min (t.second + b) 255)) (sym first) (sym second)

  -- a look-up after an item was counted, where `old` is what was there for each key
  pub times_step : (old : List ℕ → Option Times) (new : Option Times) (before after : Times) → new ≡ cond e (Some after) (old octets)
      → before ≡ unwrap_or (old (payload format item.frame)) no_times → after ≡ times_after before item
      → times_more format octets (unwrap_or new no_times) rest ≡ times_more format octets (unwrap_or (old octets) no_times) items
  times_step old new before after is_new was counted =
      elim (cases_Bool e) [
        | inl same ↦
            let key : payload format item.frame ≡ octets = (bytes_eq-Decides (payload format item.frame) octets).0 same in
            ap (λ o. times_more format octets (unwrap_or o no_times) rest) (is_new ∙ ap (λ b. cond b (Some after) (old octets)) same)
            ∙ ap (λ t. times_more format octets t rest) (counted ∙ ap (λ t. times_after t item) (was ∙ ap (λ k. unwrap_or (old k) no_times) key))
            ∙ came same (unwrap_or (old octets) no_times)
        | inr other ↦
            ap (λ o. times_more format octets (unwrap_or o no_times) rest) (is_new ∙ ap (λ b. cond b (Some after) (old octets)) other)
            ∙ stayed other (unwrap_or (old octets) no_times)
      ]

at_least_two : (a n : ℕ) → min (a + 0) 255 ≡ min (0 + n) 255 → nat_le 2 a ≡ nat_le 2 n
at_least_two a n e = grind (arith, nat_tests)

pub excused_by : (format : TmFormat) (items : List Fated) (item : Fated) (t : Times) → is_first_alone item.fate ≡ true → is_in_second item.frame items ≡ true
    → times_more format (payload format item.frame) t [] ≡ times_more format (payload format item.frame) no_times items
    → (nat_le 2 t.first || nat_le 2 t.second) ≡ is_excused format items item
excused_by format items item t alone there times =
    ap₂ (λ a b. a || b)
    (at_least_two t.first (times_kept format (payload format item.frame) items) (ap (λ (u : Times). u.first) times))
    (at_least_two t.second (times_kept format (payload format item.frame) (exchanged items)) (ap (λ (u : Times). u.second) times))
    ∙ sym (ap₂ (λ a b. not (a && b) || comes_twice format (payload format item.frame) items) alone there)
