-- Texts in a row, and words with their numbers.
use Rattle.std.proofs.Common.{◌≡◌, ◌∙◌, ap, sym, ◌<◌, ℕ, zero, suc, Bool, true, false, ◌+◌, List, [], ◌∷◌, ◌++◌, append_assoc, append-nil, refl, arith}
use Rattle.std.specs.Prelude.{◌==◌, if◌then◌else◌, flat_map}
use Rattle.std.specs.List.{range_with_len}
use Rattle.std.proofs.lemmas.Grind.{flat_map-append}
use Rattle.sl_engine.specs.Compare.Words.{word_text}
use Rattle.sl_engine.specs.declared.compare.words.WordCounts.{WordCounts}
use Rattle.sllink_compare.specs.Totals.{found_at, listed, mark_before, word_found, word_number}
use Rattle.sllink_compare.specs.Words.{number_at, word_at}

-- whether there are no texts, so that the next one is the first
abbrev pub is_none_yet : List (List ℕ) → Bool
is_none_yet [] = true
is_none_yet (first ∷ others) = false

-- not after one text more
none_no_more : (texts : List (List ℕ)) (text : List ℕ) → is_none_yet (texts ++ text ∷ []) ≡ false
none_no_more [] text = refl
none_no_more (first ∷ others) text = refl

-- one text more
listed_more : (between : List ℕ) (texts : List (List ℕ)) (text : List ℕ)
    → listed between (texts ++ text ∷ []) ≡ listed between texts ++ (mark_before between (is_none_yet texts) ++ text)
listed_more between [] text = rw append-nil refl
listed_more between (first ∷ others) text =
    rw (
      flat_map-append (λ other. mark_before between false ++ other) others (text ∷ []),
      append-nil (mark_before between false ++ text),
      append_assoc first (flat_map (λ other. mark_before between false ++ other) others) (mark_before between false ++ text),
    ) refl

-- a range with one place more
range_more : (a n j : ℕ) → a + n ≡ j → range_with_len a (suc n) ≡ range_with_len a n ++ j ∷ []
range_more a zero j e = let same : a ≡ j = omega (arith, e) in ap (λ k. k ∷ []) same
range_more a (suc n) j e = ap (λ l. a ∷ l) (range_more (a + 1) n j (omega (arith, e)))

module _ (found : ℕ → List (List ℕ)) where
  -- one place more
  found_more : (n : ℕ) → found_at found (n + 1) ≡ found_at found n ++ found n
  found_more n =
      let on : n + 1 ≡ suc n = omega arith in
      ap (found_at found) on
      ∙ ap (flat_map found) (range_more 0 n n (omega arith))
      ∙ flat_map-append found (range_with_len 0 n) (n ∷ [])
      ∙ ap (λ l. found_at found n ++ l) (append-nil (found n))

  -- what is found at this place is appended
  pub one_listed : (between old : List ℕ) (place : ℕ) {text text' mark it : List ℕ} {is_first : Bool} → text' ≡ text ++ (mark ++ it)
      → text ≡ old ++ listed between (found_at found place) → found place ≡ it ∷ []
      → mark ≡ mark_before between is_first → is_first ≡ is_none_yet (found_at found place)
      → (text' ≡ old ++ listed between (found_at found (place + 1))) × (false ≡ is_none_yet (found_at found (place + 1)))
  one_listed between old place {text} {text'} {mark} {it} {is_first} appended so_far found_is mark_is first_is =
      let before = found_at found place in
      let after = found_more place ∙ ap (λ l. before ++ l) found_is in (
        appended ∙ ap (λ l. l ++ (mark ++ it)) so_far ∙ append_assoc old (listed between before) (mark ++ it)
            ∙ ap (λ m. old ++ (listed between before ++ (m ++ it))) (mark_is ∙ ap (mark_before between) first_is)
            ∙ ap (λ l. old ++ l) (sym (ap (listed between) after ∙ listed_more between before it)),
        sym (ap is_none_yet after ∙ none_no_more before it),
      )

  -- nothing is found there
  pub none_listed : (place : ℕ) → found place ≡ [] → found_at found (place + 1) ≡ found_at found place
  none_listed place nothing = found_more place ∙ ap (λ l. found_at found place ++ l) nothing ∙ append-nil (found_at found place)

-- a word that has lines
pub word_is_found : (counts : WordCounts) (place : ℕ) {number : ℕ} {word : List ℕ} → number ≡ number_at counts place → 0 < number
    → word ≡ word_text (word_at place) → word_found counts place ≡ word_number word number ∷ []
word_is_found counts place {number} {word} number_is some word_is = rw (← number_is, ← word_is) (some_found number (word_number word number ∷ []) some)
  where
    some_found : (number : ℕ) (found : List (List ℕ)) → 0 < number → (if number == 0 then [] else found) ≡ found
    some_found number found some = let no : (number == 0) ≡ false = grind (arith, some) in rw no refl

-- it has none
pub no_word_found : (counts : WordCounts) (place : ℕ) {number : ℕ} → number ≡ number_at counts place → number ≡ 0 → word_found counts place ≡ []
no_word_found counts place number_is zero_is = rw (← number_is, zero_is) refl
