-- A frame has its parts, and no others.
use Rattle.std.proofs.Common.{◌≡◌, ℕ, ◌+◌, ◌-◌, ◌≤◌, ◌==◌, nat_lt, true, not, List, ◌++◌, length, take, drop, refl, sym, ◌∙◌, ap, arith, append_assoc, length-append, length-drop, length-take-le}
use Rattle.std.proofs.Math.Seq.{take-append_seam, drop-append_seam, drop-append-add}
use Rattle.std.proofs.lemmas.Bool.{not-true, ltb-false, eqb-true, le-ltb, eq-eqb}
use Rattle.std.proofs.lemmas.List.{take-append-drop, drop-drop}
use Rattle.sl_fields.specs.FecfField.{fecf_len}
use Rattle.sl_fields.specs.TcHeader.{tc_header}
use Rattle.sl_tcframe.specs.TcFrame.{TcFormat, TcParts, ArePartsOf, field_len, is_cut, least_of, tc_parts_of, stated_frame_len}
use Rattle.std.proofs.lemmas.Bool.{and_parts}

-- the facts about a frame by its frame length field
pub cut_facts : (format : TcFormat) (frame : List ℕ) → is_cut format frame ≡ true
    → (least_of format ≤ length frame) × (length frame ≡ stated_frame_len frame)
cut_facts format frame h =
    let b = and_parts (not (nat_lt (length frame) (least_of format))) (length frame == stated_frame_len frame) h in (
      ltb-false (length frame) (least_of format) (not-true _ b.0),
      eqb-true (length frame) (stated_frame_len frame) b.1,
    )

pub facts_cut : (format : TcFormat) (frame : List ℕ) → least_of format ≤ length frame → length frame ≡ stated_frame_len frame
    → is_cut format frame ≡ true
facts_cut format frame least stated =
    rw (le-ltb (length frame) (least_of format) least, eq-eqb (length frame) (stated_frame_len frame) stated) refl

-- a list in three parts, where two have given lengths
three_parts : (a b : ℕ) (xs : List ℕ) → xs ≡ take a xs ++ take b (drop a xs) ++ drop (a + b) xs
three_parts a b xs =
    let tail : take b (drop a xs) ++ drop (a + b) xs ≡ drop a xs =
    ap (λ l. take b (drop a xs) ++ l) (sym (drop-drop b a xs)) ∙ take-append-drop b (drop a xs) in
    sym (append_assoc (take a xs) (take b (drop a xs)) (drop (a + b) xs) ∙ ap (λ l. take a xs ++ l) tail ∙ take-append-drop a xs)

pub has_parts : (format : TcFormat) (frame : List ℕ) → is_cut format frame ≡ true → ArePartsOf format frame (tc_parts_of format frame)
has_parts format frame cut =
    let facts = cut_facts format frame cut in
    let least = facts.0 in
    let field : field_len format frame ≡ length frame - 5 - fecf_len format.fecf = refl in
    record {
      in_order = three_parts 5 (field_len format frame) frame;
      header = length-take-le 5 frame (omega arith);
      fecf = length-drop (5 + field_len format frame) frame ∙ omega arith;
      stated = facts.1;
    }

-- the three parts of a list, by their lengths
split_three : (h f e : List ℕ) → (take (length h) (h ++ f ++ e) ≡ h) × (take (length f) (drop (length h) (h ++ f ++ e)) ≡ f)
    × (drop (length h + length f) (h ++ f ++ e) ≡ e)
split_three h f e =
    let nested : h ++ f ++ e ≡ h ++ (f ++ e) = append_assoc h f e in
    let second : drop (length h) (h ++ (f ++ e)) ≡ f ++ e = drop-append_seam h (f ++ e) in
    let third : drop (length h + length f) (h ++ (f ++ e)) ≡ e = drop-append-add h (f ++ e) (length f) ∙ drop-append_seam f e in
    rw (nested, second, third) (take-append_seam h (f ++ e), take-append_seam f e, refl)

abbrev parts : List ℕ → List ℕ → List ℕ → TcParts
parts h f e = record { header = h; field = f; fecf = e }

same_parts : (h h' f f' e e' : List ℕ) → h ≡ h' → f ≡ f' → e ≡ e' → parts h f e ≡ parts h' f' e'
same_parts h h' f f' e e' p q r = rw (p, q, r) refl

-- the length of a frame with these parts
all_octets : (format : TcFormat) (frame : List ℕ) (p : TcParts) → ArePartsOf format frame p → length frame ≡ 5 + length p.field + fecf_len format.fecf
all_octets format frame p a =
    ap length a.in_order ∙ length-append (p.header ++ p.field) p.fecf ∙ omega (arith, length-append p.header p.field, a.header, a.fecf)

-- the header at the front of a frame with these parts
same_header : (format : TcFormat) (frame : List ℕ) (p : TcParts) → ArePartsOf format frame p → take 5 frame ≡ p.header
same_header format frame p a =
    ap (λ n. take n frame) (sym a.header) ∙ ap (take (length p.header)) a.in_order ∙ (split_three p.header p.field p.fecf).0

pub parts_once : (format : TcFormat) (frame : List ℕ) (p : TcParts) → ArePartsOf format frame p → tc_parts_of format frame ≡ p
parts_once format frame p a =
    let three = split_three p.header p.field p.fecf in
    let all = all_octets format frame p a in
    let field : field_len format frame ≡ length p.field = omega arith in
    let second : take (length p.field) (drop 5 frame) ≡ p.field =
    ap (λ n. take (length p.field) (drop n frame)) (sym a.header) ∙ ap (λ l. take (length p.field) (drop (length p.header) l)) a.in_order ∙ three.1 in
    let last : drop (5 + length p.field) frame ≡ p.fecf =
    ap (λ n. drop (n + length p.field) frame) (sym a.header) ∙ ap (drop (length p.header + length p.field)) a.in_order ∙ three.2 in
    same_parts (take 5 frame) p.header _ p.field _ p.fecf (same_header format frame p a)
    (ap (λ n. take n (drop 5 frame)) field ∙ second)
    (ap (λ n. drop (5 + n) frame) field ∙ last)

pub parts_cut : (format : TcFormat) (frame : List ℕ) (p : TcParts) → ArePartsOf format frame p → is_cut format frame ≡ true
parts_cut format frame p a =
    let all = all_octets format frame p a in
    let stated : length frame ≡ stated_frame_len frame = a.stated ∙ ap (λ h. (tc_header h).length + 1) (sym (same_header format frame p a)) in
    facts_cut format frame (omega arith) stated
