-- The frames that fates take, one fate after another.
use Rattle.std.proofs.Common.{◌≡◌, ◌+◌, ◌<◌, ℕ, Bool, true, false, cond, List, [], ◌∷◌, ◌++◌, map, length, take, drop, get_or, inl, inr, refl, sym, ◌∙◌, ap, ap₂, append_assoc, length-take-le}
use Rattle.std.specs.Prelude.{◌&&◌, nat_lt}
use Rattle.std.specs.List.{IsSplitAt}
use Rattle.std.proofs.lemmas.Bool.{cases_lt, le-ltb, lt-ltb}
use Rattle.std.proofs.lemmas.List.{drop_more, take-append-drop}
use Rattle.sl_tmframe.specs.TmDelimited.{tm_frames_of}
use Rattle.sl_tmframe.proofs.DelimitedLemmas.{frames_of-first, frames_of-short}
use Rattle.sl_merge.specs.declared.fate.Fate.{Fate}
use Rattle.sl_merge.specs.declared.item.Seen.{Seen}
use Rattle.sl_merge.specs.Fates.{Fated, fated, fits, octets_of, standing, stands, taken}
use Rattle.sl_merge.specs.Told.{Finds, has_none}

-- ---- one step of a loop over the fates

module _ (fates later : List Fate) (fate : Fate) (firsts seconds : List (List ℕ)) (is : fates ≡ fate ∷ later) where
  module _ (frame : List ℕ) (same : Bool) (firsts' seconds' : List (List ℕ)) (found : Finds fate frame same firsts seconds firsts' seconds') where
    pub taken_more : taken fates firsts seconds ≡ fated fate frame ∷ taken later firsts' seconds'
    taken_more = ap (λ f. taken f firsts seconds) is ∙ found.taken later

    pub seen_more : (see : Fated → Seen) (before : List Seen)
        → (before ++ see (fated fate frame) ∷ []) ++ map see (taken later firsts' seconds') ≡ before ++ map see (taken fates firsts seconds)
    seen_more see before =
        append_assoc before (see (fated fate frame) ∷ []) (map see (taken later firsts' seconds'))
        ∙ ap (λ l. before ++ map see l) (sym taken_more)

    -- the octets of what stands, with the frame and without it
    pub octets_more : stands fate ≡ true → (before : List ℕ)
        → (before ++ frame) ++ octets_of (standing (taken later firsts' seconds')) ≡ before ++ octets_of (standing (taken fates firsts seconds))
    octets_more stays before =
        let rest = standing (taken later firsts' seconds') in
        append_assoc before frame (octets_of rest)
        ∙ ap (λ o. before ++ o) (sym (ap (λ items. octets_of (standing items)) taken_more ∙ ap (λ b. octets_of (cond b (fated fate frame ∷ rest) rest)) stays))

    pub octets_stay : stands fate ≡ false → (before : List ℕ)
        → before ++ octets_of (standing (taken later firsts' seconds')) ≡ before ++ octets_of (standing (taken fates firsts seconds))
    octets_stay leaves before =
        let rest = standing (taken later firsts' seconds') in
        ap (λ o. before ++ o) (sym (ap (λ items. octets_of (standing items)) taken_more ∙ ap (λ b. octets_of (cond b (fated fate frame ∷ rest) rest)) leaves))

    pub fits_more : (b : Bool) → ((b && same) && fits later firsts' seconds') ≡ (b && fits fates firsts seconds)
    fits_more true = sym (ap (λ f. fits f firsts seconds) is ∙ found.fits later)
    fits_more false = refl

-- ---- the first frame of octets

pub none_short : (len : ℕ) (octets : List ℕ) → 0 < len → nat_lt (length octets) len ≡ has_none (tm_frames_of len octets)
none_short len octets positive = elim (cases_lt (length octets) len) [
  | inl short ↦ lt-ltb (length octets) len short ∙ sym (ap has_none (frames_of-short len octets short))
  | inr long ↦
      le-ltb (length octets) len long ∙ sym (ap (λ o. has_none (tm_frames_of len o)) (sym (take-append-drop len octets))
      ∙ ap has_none (frames_of-first len (take len octets) (drop len octets) positive (length-take-le len octets long)))
]

pub frames_of-split : (len : ℕ) (octets frame later : List ℕ) → 0 < len → IsSplitAt octets len frame later
    → tm_frames_of len octets ≡ frame ∷ tm_frames_of len later
frames_of-split len octets frame later positive parts =
    let whole : frame ++ later ≡ octets = ap₂ (λ f l. f ++ l) parts.1 parts.2 ∙ take-append-drop len octets in
    ap (tm_frames_of len) (sym whole) ∙ frames_of-first len frame later positive parts.3

-- the element at an index is the next one
pub next_here : {X : Type 0} (xs : List X) (i : ℕ) (x : X) → i < length xs → x ≡ get_or xs i x → drop i xs ≡ x ∷ drop (i + 1) xs
next_here xs i x below is = drop_more xs i x below ∙ ap (λ y. y ∷ drop (i + 1) xs) (sym is)
