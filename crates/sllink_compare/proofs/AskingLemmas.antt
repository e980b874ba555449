-- Words that are asked about.
use Rattle.std.proofs.Common.{◌≡◌, ◌∙◌, sym, ℕ, Bool, true, false, List, [], ◌∷◌, refl}
use Rattle.std.specs.Prelude.{if◌then◌else◌}
use Rattle.sl_engine.specs.Compare.Words.{word_text}
use Rattle.sl_engine.specs.declared.compare.words.WordCounts.{WordCounts}
use Rattle.sllink_compare.specs.Asking.{word_asked}
use Rattle.sllink_compare.specs.Questions.{is_asked}
use Rattle.sllink_compare.specs.Words.{word_at}

module _ (allowed : List Bool) (first second : WordCounts) (place : ℕ) {asked : Bool} (asked_is : asked ≡ is_asked allowed first second place) where
  pub word_is_asked : {word : List ℕ} → asked ≡ true → word ≡ word_text (word_at place) → word_asked allowed first second place ≡ word ∷ []
  word_is_asked {word} holds word_is = rw (← word_is) (found (is_asked allowed first second place) (sym asked_is ∙ holds))
    where
      found : (b : Bool) → b ≡ true → (if b then word ∷ [] else []) ≡ word ∷ []
      found b is = rw is refl

  pub no_word_asked : asked ≡ false → word_asked allowed first second place ≡ []
  no_word_asked fails = none (is_asked allowed first second place) (sym asked_is ∙ fails)
    where
      none : (b : Bool) → b ≡ false → (if b then word_text (word_at place) ∷ [] else []) ≡ []
      none b is = rw is refl
