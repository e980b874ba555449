-- The line of a reason, as it is appended line by line.
use Rattle.std.proofs.Common.{◌≡◌, ℕ, ◌++◌, List, [], ◌∷◌, Bool, cond, true, false, eqb, length, get_or, drop, map, ◌+◌, ◌<◌, refl, sym, ap, ◌∙◌, append_assoc, arith, codes}
use Rattle.std.specs.Prelude.{filter, flat_map, not}
use Rattle.std.specs.List.{before_first, join_by, onto_first, slice_split}
use Rattle.std.specs.Str.{trim}
use Rattle.std.specs.Str.Lines.{lines}
use borrow.Author.Tests.{ne_eqb}
use Rattle.std.proofs.lemmas.List.{at_drop_all, at_drop_more}
use Rattle.std.proofs.lemmas.List.Sums.{take_while-cons}
use Rattle.sl_files.specs.Line.{ends_reason, joined, one_line, reason_lines}

-- ---- what is appended, where `before` stands before the next line that isn't blank

-- what stands before it, once a blank line came
abbrev pub after_blank : List ℕ → List ℕ
after_blank before = cond (eqb (length before) 0) before (codes "; ")

abbrev pub rest_of : List ℕ → List (List ℕ) → List ℕ
rest_of before [] = []
rest_of before (line ∷ lines) =
    cond (eqb (length line) 0) (rest_of (after_blank before) lines) ((before ++ line) ++ rest_of (codes " ") lines)

-- the same of lines with what follows the reason
abbrev pub to_come : List ℕ → List (List ℕ) → List ℕ
to_come before lines = rest_of before (before_first ends_reason (map trim lines))

cond_not : {X : Type 0} (b : Bool) (x y : X) → cond (not b) x y ≡ cond b y x
cond_not true x y = refl
cond_not false x y = refl

before_first-cons : {X : Type 0} (p : X → Bool) (x : X) (xs : List X)
    → before_first p (x ∷ xs) ≡ cond (p x) [] (x ∷ before_first p xs)
before_first-cons p x xs = take_while-cons (λ y. not (p y)) x xs ∙ cond_not (p x) (x ∷ before_first p xs) []

-- ---- lines in parts

first_part : {X : Type 0} → List (List X) → List X
first_part [] = []
first_part (part ∷ parts) = part

later_parts : {X : Type 0} → List (List X) → List (List X)
later_parts [] = []
later_parts (part ∷ parts) = parts

onto_first_is : {X : Type 0} (x : X) (parts : List (List X)) → onto_first x parts ≡ (x ∷ first_part parts) ∷ later_parts parts
unfolding first_part later_parts
onto_first_is x [] = refl
onto_first_is x (part ∷ parts) = refl

-- lines of a part behind its first, and parts behind the first
abbrev behind : List (List ℕ) → List ℕ
behind lines = flat_map (λ line. codes " " ++ line) lines

abbrev parts_behind : List (List (List ℕ)) → List ℕ
parts_behind parts =
    flat_map (λ part. codes "; " ++ join_by (λ line. line) (codes " ") part) (filter (λ part. not (eqb (length part) 0)) parts)

abbrev split : List (List ℕ) → List (List (List ℕ))
split lines = slice_split (λ line. eqb (length line) 0) lines

-- what is appended at the beginning, behind a line, and behind a blank line
record Appended (lines : List (List ℕ)) : Type 0 where
  first : rest_of [] lines ≡ joined lines
  line : rest_of (codes " ") lines ≡ behind (first_part (split lines)) ++ parts_behind (later_parts (split lines))
  part : rest_of (codes "; ") lines ≡ parts_behind (split lines)

split-cons : (x : List ℕ) (lines : List (List ℕ)) → eqb (length x) 0 ≡ false
    → split (x ∷ lines) ≡ (x ∷ first_part (split lines)) ∷ later_parts (split lines)
split-cons x lines h = ap (λ b. cond b ([] ∷ split lines) (onto_first x (split lines))) h ∙ onto_first_is x (split lines)

kept : (x : List ℕ) (lines : List (List ℕ)) (parts : List (List (List ℕ)))
    → filter (λ part. not (eqb (length part) 0)) ((x ∷ lines) ∷ parts) ≡ (x ∷ lines) ∷ filter (λ part. not (eqb (length part) 0)) parts
kept x lines parts =
    let more = filter (λ part. not (eqb (length part) 0)) parts in
    ap (λ b. cond (not b) ((x ∷ lines) ∷ more) more) (ne_eqb (length (x ∷ lines)) 0 (λ e. omega arith))

parts_behind-cons : (x : List ℕ) (lines : List (List ℕ)) (parts : List (List (List ℕ)))
    → parts_behind ((x ∷ lines) ∷ parts) ≡ (codes "; " ++ (x ++ behind lines)) ++ parts_behind parts
parts_behind-cons x lines parts = ap (flat_map (λ part. codes "; " ++ join_by (λ line. line) (codes " ") part)) (kept x lines parts)

joined-cons : (x : List ℕ) (lines : List (List ℕ)) → eqb (length x) 0 ≡ false
    → joined (x ∷ lines) ≡ (x ++ behind (first_part (split lines))) ++ parts_behind (later_parts (split lines))
joined-cons x lines h = ap (λ parts. join_by (join_by (λ line. line) (codes " ")) (codes "; ") parts)
    (ap (λ parts. filter (λ part. not (eqb (length part) 0)) parts) (split-cons x lines h)
    ∙ kept x (first_part (split lines)) (later_parts (split lines)))

rest_of-cons : (before x : List ℕ) (lines : List (List ℕ)) → eqb (length x) 0 ≡ false
    → rest_of before (x ∷ lines) ≡ (before ++ x) ++ rest_of (codes " ") lines
rest_of-cons before x lines h = ap (λ b. cond b (rest_of (after_blank before) lines) ((before ++ x) ++ rest_of (codes " ") lines)) h

appended : (lines : List (List ℕ)) → Appended lines
unfolding first_part later_parts
appended [] = record { first = refl; line = refl; part = refl }
appended ([] ∷ lines) = let more = appended lines in record { first = more.first; line = more.part; part = more.part }
appended ((c ∷ cs) ∷ lines) =
    let more = appended lines in
    let x = c ∷ cs in
    let full : eqb (length x) 0 ≡ false = ne_eqb (length x) 0 (λ e. omega arith) in
    let inside = behind (first_part (split lines)) in
    let after = parts_behind (later_parts (split lines)) in
    record {
      first = rest_of-cons [] x lines full ∙ ap (λ t. x ++ t) more.line ∙ sym (append_assoc x inside after) ∙ sym (joined-cons x lines full);
      line = rest_of-cons (codes " ") x lines full ∙ ap (λ t. (codes " " ++ x) ++ t) more.line
          ∙ sym (append_assoc (codes " " ++ x) inside after)
          ∙ ap (λ ps. behind (first_part ps) ++ parts_behind (later_parts ps)) (sym (split-cons x lines full));
      part = rest_of-cons (codes "; ") x lines full ∙ ap (λ t. (codes "; " ++ x) ++ t) more.line
          ∙ sym (append_assoc (codes "; " ++ x) inside after) ∙ ap (λ t. t ++ after) (append_assoc (codes "; ") x inside)
          ∙ sym (parts_behind-cons x (first_part (split lines)) (later_parts (split lines)))
          ∙ ap parts_behind (sym (split-cons x lines full));
    }

-- ---- the loop

pub to_come-all : (text : List ℕ) → to_come [] (lines text) ≡ one_line text
to_come-all text = (appended (reason_lines text)).first

-- the line that comes next, as it stands and without white space around it
pub record Next (lines : List (List ℕ)) (n : ℕ) (x t : List ℕ) : Type 0 where
  pub at : (n < length lines) × (x ≡ get_or lines n x)
  pub trimmed : t ≡ trim x

-- what the reason has from there on
reason_from : {lines : List (List ℕ)} {n : ℕ} {x t : List ℕ} → Next lines n x t
    → before_first ends_reason (map trim (drop n lines))
    ≡ cond (ends_reason t) [] (t ∷ before_first ends_reason (map trim (drop (n + 1) lines)))
reason_from {lines} {n} {x} {t} next =
    at_drop_more (λ ls. before_first ends_reason (map trim ls)) lines n x next.at.0
    ∙ ap (λ y. before_first ends_reason (map trim (y ∷ drop (n + 1) lines))) (sym next.at.1)
    ∙ before_first-cons ends_reason (trim x) (map trim (drop (n + 1) lines))
    ∙ ap (λ y. cond (ends_reason y) [] (y ∷ before_first ends_reason (map trim (drop (n + 1) lines)))) (sym next.trimmed)

pub to_come-end : {lines : List (List ℕ)} {n : ℕ} {x t : List ℕ} (before : List ℕ) → Next lines n x t → ends_reason t ≡ true
    → to_come before (drop n lines) ≡ []
to_come-end {lines} {n} {x} {t} before next ends = ap (rest_of before) (reason_from next
    ∙ ap (λ b. cond b [] (t ∷ before_first ends_reason (map trim (drop (n + 1) lines)))) ends)

goes_on : {lines : List (List ℕ)} {n : ℕ} {x t : List ℕ} (before : List ℕ) → Next lines n x t → ends_reason t ≡ false
    → to_come before (drop n lines) ≡ rest_of before (t ∷ before_first ends_reason (map trim (drop (n + 1) lines)))
goes_on {lines} {n} {x} {t} before next goes = ap (rest_of before) (reason_from next
    ∙ ap (λ b. cond b [] (t ∷ before_first ends_reason (map trim (drop (n + 1) lines)))) goes)

-- a turn of the loop at a blank line, and at another one; m is the number of lines from then on
pub blank_turn : {all : List (List ℕ)} {n m : ℕ} {x t : List ℕ} (written before then whole : List ℕ)
    → written ++ to_come before (drop n all) ≡ whole → Next all n x t → ends_reason t ≡ false → eqb (length t) 0 ≡ true
    → after_blank before ≡ then → m ≡ n + 1 → written ++ to_come then (drop m all) ≡ whole
blank_turn {all} {n} {m} {x} {t} written before then whole invariant next goes blank after turn =
    let more = before_first ends_reason (map trim (drop (n + 1) all)) in
    let here = ap (λ b. cond b (rest_of (after_blank before) more) ((before ++ t) ++ rest_of (codes " ") more)) blank in
    ap (λ k. written ++ to_come then (drop k all)) turn ∙ ap (λ b. written ++ rest_of b more) (sym after)
    ∙ ap (λ r. written ++ r) (sym (goes_on before next goes ∙ here)) ∙ invariant

pub line_turn : {all : List (List ℕ)} {n m : ℕ} {x t : List ℕ} (written before new whole : List ℕ)
    → written ++ to_come before (drop n all) ≡ whole → Next all n x t → ends_reason t ≡ false → eqb (length t) 0 ≡ false
    → new ≡ (written ++ before) ++ t → m ≡ n + 1 → new ++ to_come (codes " ") (drop m all) ≡ whole
line_turn {all} {n} {m} {x} {t} written before new whole invariant next goes full appends turn =
    let more = before_first ends_reason (map trim (drop (n + 1) all)) in
    let rest = rest_of (codes " ") more in
    ap (λ k. new ++ to_come (codes " ") (drop k all)) turn ∙ ap (λ w. w ++ rest) (appends ∙ append_assoc written before t)
    ∙ append_assoc written (before ++ t) rest
    ∙ ap (λ r. written ++ r) (sym (goes_on before next goes ∙ rest_of-cons before t more full)) ∙ invariant

pub to_come-over : (lines : List (List ℕ)) (n : ℕ) (before : List ℕ) → n ≡ length lines → to_come before (drop n lines) ≡ []
to_come-over lines n before over = at_drop_all (to_come before) lines n (omega arith)
