-- A frame has its parts, and no others.
use Rattle.std.proofs.Common.{◌≡◌, ℕ, ◌+◌, ◌-◌, ◌≤◌, Bool, true, false, if◌then◌else◌, List, ◌++◌, length, take, drop, refl, sym, ◌∙◌, ap, arith, append_assoc, length-append, length-drop, length-take-le}
use Rattle.std.proofs.Math.Seq.{take-append_seam, drop-append_seam, drop-append-add}
use Rattle.std.proofs.lemmas.List.{take-append-drop, drop-drop}
use Rattle.sl_fields.specs.FecfField.{fecf_len}
use Rattle.sl_fields.specs.TmHeader.{tm_header}
use Rattle.sl_fields.proofs.FecfLemmas.{fecf_len_le}
use Rattle.sl_tmframe.specs.TmFrame.{TmFormat, TmParts, ArePartsOf, tm_header_of, control_len, field_len, tm_parts_of}

-- a list in four parts, where three have given lengths
four_parts : (a b c : ℕ) (xs : List ℕ) → xs ≡ take a xs ++ take b (drop a xs) ++ take c (drop (a + b) xs) ++ drop (a + b + c) xs
four_parts a b c xs =
    let last : take c (drop (a + b) xs) ++ drop (a + b + c) xs ≡ drop (a + b) xs =
    ap (λ l. take c (drop (a + b) xs) ++ l) (sym (drop-drop c (a + b) xs)) ∙ take-append-drop c (drop (a + b) xs) in
    let tail : take b (drop a xs) ++ drop (a + b) xs ≡ drop a xs =
    ap (λ l. take b (drop a xs) ++ l) (sym (drop-drop b a xs)) ∙ take-append-drop b (drop a xs) in
    sym (append_assoc (take a xs ++ take b (drop a xs)) (take c (drop (a + b) xs)) (drop (a + b + c) xs)
    ∙ ap (λ l. take a xs ++ take b (drop a xs) ++ l) last ∙ append_assoc (take a xs) (take b (drop a xs)) (drop (a + b) xs)
    ∙ ap (λ l. take a xs ++ l) tail ∙ take-append-drop a xs)

pub either_le : (b : Bool) (n : ℕ) → (if b then n else 0) ≤ n
either_le true n = omega arith
either_le false n = omega arith

pub has_parts : (format : TmFormat) (frame : List ℕ) → 12 ≤ format.len → length frame ≡ format.len → ArePartsOf format frame (tm_parts_of format frame)
has_parts format frame least whole =
    let control : control_len frame ≤ 4 = either_le (tm_header_of frame).control 4 in
    let fecf : fecf_len format.fecf ≤ 2 = fecf_len_le format.fecf in
    let field : field_len format frame ≡ length frame - 6 - control_len frame - fecf_len format.fecf = refl in
    let behind = length-drop (6 + field_len format frame) frame in
    let end = length-drop (6 + field_len format frame + control_len frame) frame in
    let fits : control_len frame ≤ length (drop (6 + field_len format frame) frame) = omega arith in
    record {
      whole = whole;
      in_order = four_parts 6 (field_len format frame) (control_len frame) frame;
      header = length-take-le 6 frame (omega arith);
      control = length-take-le (control_len frame) (drop (6 + field_len format frame) frame) fits;
      fecf = end ∙ omega arith;
    }

-- the four parts of a list, by their lengths
cut_parts : (h f c e : List ℕ) → (take (length h) (h ++ f ++ c ++ e) ≡ h) × (take (length f) (drop (length h) (h ++ f ++ c ++ e)) ≡ f)
    × (take (length c) (drop (length h + length f) (h ++ f ++ c ++ e)) ≡ c) × (drop (length h + length f + length c) (h ++ f ++ c ++ e) ≡ e)
cut_parts h f c e =
    let nested : h ++ f ++ c ++ e ≡ h ++ (f ++ (c ++ e)) = append_assoc (h ++ f) c e ∙ append_assoc h f (c ++ e) in
    let second : drop (length h) (h ++ (f ++ (c ++ e))) ≡ f ++ (c ++ e) = drop-append_seam h (f ++ (c ++ e)) in
    let third : drop (length h + length f) (h ++ (f ++ (c ++ e))) ≡ c ++ e = drop-append-add h (f ++ (c ++ e)) (length f) ∙ drop-append_seam f (c ++ e) in
    let fourth : drop (length h + length f + length c) (h ++ (f ++ (c ++ e))) ≡ e =
    sym (drop-drop (length c) (length h + length f) (h ++ (f ++ (c ++ e)))) ∙ ap (drop (length c)) third ∙ drop-append_seam c e in
    rw (nested, second, third, fourth)
    (take-append_seam h (f ++ (c ++ e)), take-append_seam f (c ++ e), take-append_seam c e, refl)

abbrev parts : List ℕ → List ℕ → List ℕ → List ℕ → TmParts
parts h f c e =
    record {
      header = h;
      field = f;
      control = c;
      fecf = e;
    }

same_parts : (h h' f f' c c' e e' : List ℕ) → h ≡ h' → f ≡ f' → c ≡ c' → e ≡ e'
    → parts h f c e ≡ parts h' f' c' e'
same_parts h h' f f' c c' e e' p q r s = rw (p, q, r, s) refl

pub parts_once : (format : TmFormat) (frame : List ℕ) (p : TmParts) → ArePartsOf format frame p → tm_parts_of format frame ≡ p
parts_once format frame p a =
    let cut = cut_parts p.header p.field p.control p.fecf in
    let header : take 6 frame ≡ p.header = ap (λ n. take n frame) (sym a.header) ∙ ap (take (length p.header)) a.in_order ∙ cut.0 in
    let control : control_len frame ≡ length p.control = ap (λ h. if (tm_header h).control then 4 else 0) header ∙ sym a.control in
    let all : length frame ≡ length p.header + length p.field + length p.control + length p.fecf =
    ap length a.in_order ∙ length-append (p.header ++ p.field ++ p.control) p.fecf
    ∙ omega (arith, length-append (p.header ++ p.field) p.control, length-append p.header p.field) in
    let h6 = a.header in
    let fecf : fecf_len format.fecf ≡ length p.fecf = sym a.fecf in
    let field : field_len format frame ≡ length p.field = omega arith in
    let third : take (length p.field) (drop 6 frame) ≡ p.field =
    ap (λ n. take (length p.field) (drop n frame)) (sym h6) ∙ ap (λ l. take (length p.field) (drop (length p.header) l)) a.in_order ∙ cut.1 in
    let fourth : take (length p.control) (drop (6 + length p.field) frame) ≡ p.control =
    ap (λ n. take (length p.control) (drop (n + length p.field) frame)) (sym h6) ∙ ap (λ l. take (length p.control) (drop (length p.header + length p.field) l)) a.in_order ∙ cut.2 in
    let last : drop (6 + length p.field + length p.control) frame ≡ p.fecf =
    ap (λ n. drop (n + length p.field + length p.control) frame) (sym h6) ∙ ap (drop (length p.header + length p.field + length p.control)) a.in_order ∙ cut.3 in
    same_parts (take 6 frame) p.header _ p.field _ p.control _ p.fecf header
    (ap (λ n. take n (drop 6 frame)) field ∙ third)
    (ap (λ n. take (control_len frame) (drop (6 + n) frame)) field ∙ ap (λ n. take n (drop (6 + length p.field) frame)) control ∙ fourth)
    (ap (λ n. drop (6 + n + control_len frame) frame) field ∙ ap (λ n. drop (6 + length p.field + n) frame) control ∙ last)
