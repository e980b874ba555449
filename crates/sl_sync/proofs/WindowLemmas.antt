-- A window of a file is cut, a part at a time.
use Rattle.std.proofs.Common.{◌≡◌, ℕ, zero, suc, ◌+◌, ◌-◌, ◌≤◌, ◌<◌, ◌⊎◌, inl, inr, Bool, true, false, List, [], ◌∷◌, ◌++◌, length}
use Rattle.std.proofs.Common.{take, drop, refl, sym, ◌∙◌, ap, arith, append_assoc, append-nil, length-append, length-drop, take-append-drop}
use Rattle.std.proofs.lemmas.List.{drop-append-le, drop-drop}
use Rattle.std.specs.List.{concat}
use Rattle.std.specs.Prelude.{replicate}
use Rattle.sl_sync.specs.Held.{Holds}
use Rattle.sl_sync.specs.Totals.{totals_of, CountsUnit, CountsStray}
use Rattle.sl_sync.specs.Units.{AreStray, Content, Rule, Part, unit, stray, IsSound, parts_of, text_of}
use Rattle.sl_sync.specs.Window.{Cuts}
use Rattle.sl_sync.specs.declared.totals.Totals.{Totals}
use Rattle.sl_sync.specs.declared.units.Held.{Held}
use Rattle.sl_sync.specs.declared.units.Place.{Place}
use Rattle.sl_sync.specs.declared.units.Place.TheVariants.{Next}
use Rattle.sl_sync.proofs.TotalsLemmas.{totals-unit, totals-stray}
use Rattle.sl_sync.proofs.UnitsLemmas.{parts-unit, parts-stray, text-append}

-- what was cut so far, and what is left is the end of the window
pub record IsCutting (r : Rule) (ended : Bool) (from : Place) (window : List ℕ) (place : Place) (rest old new : List ℕ)
    (totals totals' : Totals) : Type 0 where
  pub front : List ℕ
  pub halves : window ≡ front ++ rest
  pub cut : Cuts r ended from window place rest old new totals totals'

passed : (window front rest : List ℕ) (n : ℕ) → window ≡ front ++ rest → window ≡ (front ++ take n rest) ++ drop n rest
passed window front rest n e =
    e ∙ ap (λ (r : List ℕ). front ++ r) (sym (take-append-drop n rest)) ∙ sym (append_assoc front (take n rest) (drop n rest))

-- a stray octet, whatever comes after the octets that are seen
seen-stray : {r : Rule} {ended : Bool} (place : Place) (rest : List ℕ) → IsSound r → (ended ≡ true) ⊎ (r.ahead ≤ length rest)
    → 0 < length rest → r.begins place rest ≡ false → (more : List ℕ) → (ended ≡ true → more ≡ [])
    → parts_of r place (rest ++ more) ≡ stray (r.behind place rest) ∷ parts_of r (r.behind place rest) (drop 1 rest ++ more)
seen-stray {r} place rest is (inl end) some b more e = simp (e end, append-nil) (parts-stray r place rest (omega arith) b)
seen-stray {r} place rest is (inr far) some b more e =
    let b' = is.begins_seen place rest more far ∙ b in
    parts-stray r place (rest ++ more) (omega (arith, length-append rest more)) b'
    ∙ ap (λ (p : Place). stray p ∷ parts_of r p (drop 1 (rest ++ more))) (is.behind_seen place rest more far)
    ∙ ap (λ (x : List ℕ). stray (r.behind place rest) ∷ parts_of r (r.behind place rest) x) (drop-append-le 1 rest more (omega arith))

module _ {ended : Bool} (ahead n : ℕ) (rest : List ℕ) where
  -- the first of some octets that are seen, and the others
  shorter : (ended ≡ true) ⊎ (suc n + ahead ≤ length rest + 1) → 1 ≤ length rest
      → (ended ≡ true) ⊎ (n + ahead ≤ length (drop 1 rest) + 1)
  shorter (inl end) some = inl end
  shorter (inr far) some = inr (omega (arith, length-drop 1 rest))

  front-seen : (ended ≡ true) ⊎ (suc n + ahead ≤ length rest + 1) → (ended ≡ true) ⊎ (ahead ≤ length rest)
  front-seen (inl end) = inl end
  front-seen (inr far) = inr (omega arith)

  first-seen : (ended ≡ true) ⊎ (n + ahead ≡ length rest + 1) → 1 ≤ n → (ended ≡ true) ⊎ (ahead ≤ length rest)
  first-seen (inl end) some = inl end
  first-seen (inr far) some = inr (omega arith)

rest-seen : {ended : Bool} (ahead most n : ℕ) (rest : List ℕ) → (ended ≡ true) ⊎ (most + ahead ≡ length rest + 1) → suc n ≤ most
    → 1 ≤ length rest → (ended ≡ true) ⊎ (n + ahead ≤ length (drop 1 rest) + 1)
rest-seen ahead most n rest (inl end) few some = inl end
rest-seen ahead most n rest (inr far) few some = inr (omega (arith, length-drop 1 rest))

drop-next : (n : ℕ) (rest : List ℕ) → drop n (drop 1 rest) ≡ drop (suc n) rest
drop-next n rest = let e : 1 + n ≡ suc n = omega arith in drop-drop n 1 rest ∙ ap (λ (k : ℕ). drop k rest) e

-- a number of stray octets that have one place behind them, and before them
seen-strays : {r : Rule} {ended : Bool} (place : Place) (n : ℕ) (rest : List ℕ) → IsSound r
    → (ended ≡ true) ⊎ (n + r.ahead ≤ length rest + 1) → n ≤ length rest
    → ((j : ℕ) → j < n → (r.begins place (drop j rest) ≡ false) × (place ≡ r.behind place (drop j rest)))
    → (more : List ℕ) → (ended ≡ true → more ≡ [])
    → parts_of r place (rest ++ more) ≡ replicate n (stray place) ++ parts_of r place (drop n rest ++ more)
seen-strays place zero rest is seen inside h more e = refl
seen-strays {r} {ended} place (suc n) rest is seen inside h more e =
    let first = h 0 (omega arith) in
    let here = seen-stray place rest is (front-seen r.ahead n rest seen) (omega arith) first.0 more e in
    let others : (j : ℕ) → j < n → (r.begins place (drop j (drop 1 rest)) ≡ false) × (place ≡ r.behind place (drop j (drop 1 rest))) =
    λ j l. rw (drop-drop j 1 rest) (h (1 + j) (omega arith)) in
    let left : (ended ≡ true) ⊎ (n + r.ahead ≤ length (drop 1 rest) + 1) = shorter r.ahead n rest seen (omega arith) in
    let next = seen-strays place n (drop 1 rest) is left (omega (arith, length-drop 1 rest)) others more e in
    here ∙ ap (λ (p : Place). stray p ∷ parts_of r p (drop 1 rest ++ more)) (sym first.1)
    ∙ ap (λ (p : List Part). stray place ∷ p) next
    ∙ ap (λ (x : List ℕ). replicate (suc n) (stray place) ++ parts_of r place (x ++ more)) (drop-next n rest)

text-strays : (n : ℕ) (place : Place) → text_of (replicate n (stray place)) ≡ []
text-strays zero place = refl
text-strays (suc n) place = text-strays n place

module _ {r : Rule} {ended : Bool} {from place : Place} {window rest old new : List ℕ} {totals totals' : Totals} (s : IsCutting r ended from window place rest old new totals totals') where
  -- more parts
  cut-more : {place2 : Place} {rest' new' : List ℕ} {totals2 : Totals} (some : List Part)
      → ((more : List ℕ) → (ended ≡ true → more ≡ []) → parts_of r place (rest ++ more) ≡ some ++ parts_of r place2 (rest' ++ more))
      → new' ≡ new ++ text_of some
      → ((earlier : List Part) → totals' ≡ totals_of earlier → totals2 ≡ totals_of (earlier ++ some))
      → Cuts r ended from window place2 rest' old new' totals totals2
  cut-more {place2} {rest'} {new'} {totals2} some first e count =
      let h = s.cut in
      record {
        parts = h.parts ++ some;
        all = λ more end. h.all more end ∙ ap (λ (p : List Part). h.parts ++ p) (first more end)
            ∙ sym (append_assoc h.parts some (parts_of r place2 (rest' ++ more)));
        added = e ∙ ap (λ (x : List ℕ). x ++ text_of some) h.added ∙ append_assoc old (text_of h.parts) (text_of some)
            ∙ ap (λ (x : List ℕ). old ++ x) (sym (text-append h.parts some));
        counted = λ earlier q. count (earlier ++ h.parts) (h.counted earlier q)
            ∙ ap totals_of (append_assoc earlier h.parts some);
      }

  seen-unit : IsSound r → (ended ≡ true) ⊎ (r.ahead ≤ length rest) → r.begins place rest ≡ true
      → (more : List ℕ) → (ended ≡ true → more ≡ [])
      → parts_of r place (rest ++ more) ≡ unit (r.content rest) ∷ parts_of r Next (drop (r.size rest) rest ++ more)
  seen-unit is (inl end) b more e =
      simp (e end, append-nil) (parts-unit r place rest (is.has_octet place rest b) (is.size_some rest) b)
  seen-unit is (inr far) b more e =
      let b' = is.begins_seen place rest more far ∙ b in
      let first = parts-unit r place (rest ++ more) (is.has_octet place (rest ++ more) b') (is.size_some (rest ++ more)) b' in
      let most : r.size rest ≤ length rest = omega (arith, is.size_most rest) in
      first ∙ ap (λ (c : Content). unit c ∷ parts_of r Next (drop (r.size (rest ++ more)) (rest ++ more))) (is.content_seen rest more far)
      ∙ ap (λ (n : ℕ). unit (r.content rest) ∷ parts_of r Next (drop n (rest ++ more))) (is.size_seen rest more far)
      ∙ ap (λ (x : List ℕ). unit (r.content rest) ∷ parts_of r Next x) (drop-append-le (r.size rest) rest more most)

  seen-all : {most count : ℕ} {place2 : Place} → IsSound r → (ended ≡ true) ⊎ (most + r.ahead ≡ length rest + 1)
      → most ≤ length rest → r.begins place rest ≡ false → AreStray r place rest most place2 count
      → (more : List ℕ) → (ended ≡ true → more ≡ [])
      → parts_of r place (rest ++ more) ≡ replicate count (stray place2) ++ parts_of r place2 (drop count rest ++ more)
  seen-all {most} {count} {place2} is seen inside b a more e =
      let n = count - 1 in
      let is_count : suc n ≡ count = omega (arith, a.some) in
      let some : 1 ≤ length rest = omega (arith, a.some, a.inside) in
      let first : (ended ≡ true) ⊎ (r.ahead ≤ length rest) = first-seen r.ahead most rest seen (omega (arith, a.some, a.inside)) in
      let here = seen-stray place rest is first (omega arith) b more e in
      let others : (j : ℕ) → j < n → (r.begins place2 (drop j (drop 1 rest)) ≡ false) × (place2 ≡ r.behind place2 (drop j (drop 1 rest))) =
      λ j l. rw (drop-drop j 1 rest) (a.others (1 + j) (omega arith) (omega arith)) in
      let left : (ended ≡ true) ⊎ (n + r.ahead ≤ length (drop 1 rest) + 1) = rest-seen r.ahead most n rest seen (omega (arith, a.inside)) some in
      let next = seen-strays place2 n (drop 1 rest) is left (omega (arith, length-drop 1 rest, a.inside)) others more e in
      here ∙ ap (λ (p : Place). stray p ∷ parts_of r p (drop 1 rest ++ more)) (sym a.first)
      ∙ ap (λ (p : List Part). stray place2 ∷ p) next
      ∙ ap (λ (x : List ℕ). replicate (suc n) (stray place2) ++ parts_of r place2 (x ++ more)) (drop-next n rest)
      ∙ ap (λ (k : ℕ). replicate k (stray place2) ++ parts_of r place2 (drop k rest ++ more)) is_count

  pub cutting-unit : {held : Held} {totals2 : Totals} (new' rest' : List ℕ) → IsSound r
      → (ended ≡ true) ⊎ (r.ahead ≤ length rest) → r.begins place rest ≡ true
      → new' ≡ new ++ concat (r.content rest).frames → Holds (r.content rest) (r.size rest) held → rest' ≡ drop held.size rest
      → CountsUnit totals' held totals2 → IsCutting r ended from window Next rest' old new' totals totals2
  cutting-unit {held} {totals2} new' rest' is seen b e h k n =
      let left : rest' ≡ drop (r.size rest) rest = k ∙ ap (λ (x : ℕ). drop x rest) h.octets in
      let text : new' ≡ new ++ text_of (unit (r.content rest) ∷ []) = e ∙ ap (λ (x : List ℕ). new ++ x) (sym (append-nil (concat (r.content rest).frames))) in
      rw left (record {
        front = s.front ++ take (r.size rest) rest;
        halves = passed window s.front rest (r.size rest) s.halves;
        cut = cut-more (unit (r.content rest) ∷ []) (seen-unit is seen b) text (λ earlier q. totals-unit earlier (r.content rest) (r.size rest) q h n);
      })

  pub cutting-stray : {totals2 : Totals} (rest' : List ℕ) (most : ℕ) (place2 : Place) (count : ℕ) → IsSound r
      → (ended ≡ true) ⊎ (most + r.ahead ≡ length rest + 1) → most ≤ length rest → r.begins place rest ≡ false
      → AreStray r place rest most place2 count → rest' ≡ drop count rest
      → CountsStray totals' place2 count totals2 → IsCutting r ended from window place2 rest' old new totals totals2
  cutting-stray {totals2} rest' most place2 count is seen inside b a k n =
      let text : new ≡ new ++ text_of (replicate count (stray place2)) =
      sym (append-nil new) ∙ ap (λ (x : List ℕ). new ++ x) (sym (text-strays count place2)) in
      rw k (record {
        front = s.front ++ take count rest;
        halves = passed window s.front rest count s.halves;
        cut = cut-more (replicate count (stray place2)) (seen-all is seen inside b a) text
            (λ earlier q. totals-stray earlier place2 count q n);
      })
