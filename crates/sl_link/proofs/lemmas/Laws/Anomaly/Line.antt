-- Which line is whose: an anomaly is read back from its line, by its word and its numbers.
use Rattle.std.proofs.Common.{◌≡◌, ℕ, ◌+◌, ◌*◌, ◌^◌, ◌<◌, ◌==◌, nat_lt, Bool, true, false, if◌then◌else◌, get_or, drop, List, [], ◌∷◌, ◌++◌, length, Option, None, Some, refl, sym, ◌∙◌, ap, subst, inl, inr, arith, append_assoc, codes, decimal}
use Rattle.std.specs.List.{AllByRecursion}
use Rattle.std.specs.Str.Parse.{AllDigits, digits_value, digits_value_after}
use Rattle.std.specs.Char.{digit_value}
use Rattle.std.proofs.lemmas.Bool.{lt-ltb}
use Rattle.std.proofs.lemmas.Bool.Decides.{eqb_tells}
use Rattle.std.proofs.lemmas.Fmt.{decimal_is_IsNumeral}
use Rattle.sl_cop.specs.declared.verdict.Verdict.TheVariants as verdict
use Rattle.sl_engine.specs.Compare.Words.{behind_space}
use Rattle.sl_engine.specs.Verbs.Check.Lines.{some_text}
use Rattle.sl_link.specs.Laws.Anomaly.{Anomaly, Finding, IsCounted, LinesTellAnomalies, Reason, line_of, numbers_of, text_of}
use Rattle.sl_link.specs.Laws.Anomaly.{Discarded, Dropped, Foreign, Gap, Opaque, Open, Rest, Skip, Stray, Tail, TooLong}
use Rattle.sl_link.specs.Laws.Anomaly.{Command, Empty, Fecf, Kind, Long, Spacecraft, Version}

-- ---- the numbers of a text

-- the numbers, where the text goes on in the middle of one or not
abbrev read : Bool → ℕ → List ℕ → List ℕ
read inside so_far [] = if inside then so_far ∷ [] else []
read inside so_far (c ∷ cs) =
    if nat_lt (digit_value c) 10 then read true (so_far * 10 + digit_value c) cs
    else if inside then so_far ∷ read false 0 cs
    else read false 0 cs

-- the text begins with no digit
abbrev Stops : List ℕ → Type 0
Stops text = (v : ℕ) → read true v text ≡ v ∷ read false 0 text

read_on : (so_far : ℕ) (ds text : List ℕ) → AllDigits 10 ds → Stops text → read true so_far (ds ++ text) ≡ digits_value_after 10 so_far ds ∷ read false 0 text
read_on so_far [] text digits stops = stops so_far
read_on so_far (d ∷ ds) text digits stops = rw (lt-ltb (digit_value d) 10 digits.0) (read_on (so_far * 10 + digit_value d) ds text digits.1 stops)

read_first : (ds text : List ℕ) → 0 < length ds → AllDigits 10 ds → Stops text → read false 0 (ds ++ text) ≡ digits_value 10 ds ∷ read false 0 text
read_first [] text some digits stops = absurd (omega (arith, some))
read_first (d ∷ ds) text some digits stops = rw (lt-ltb (digit_value d) 10 digits.0) (read_on (0 * 10 + digit_value d) ds text digits.1 stops)

number : (n : ℕ) (text : List ℕ) → n < 2 ^ 64 → Stops text → read false 0 (decimal n ++ text) ≡ n ∷ read false 0 text
number n text small stops =
    let numeral = decimal_is_IsNumeral n small in
    read_first (decimal n) text numeral.0.0 numeral.0.1 stops ∙ ap (λ v. v ∷ read false 0 text) numeral.1

-- one more number, before others
number_then : (n : ℕ) (text : List ℕ) {ns : List ℕ} → n < 2 ^ 64 → Stops text → read false 0 text ≡ ns → read false 0 (decimal n ++ text) ≡ n ∷ ns
number_then n text small stops later = number n text small stops ∙ ap (λ l. n ∷ l) later

-- parts of a text, from the last one on
three : (a b c d : List ℕ) → a ++ b ++ c ++ d ≡ a ++ (b ++ (c ++ d))
three a b c d = append_assoc (a ++ b) c d ∙ append_assoc a b (c ++ d)

five : (a b c d e f : List ℕ) → a ++ b ++ c ++ d ++ e ++ f ≡ a ++ (b ++ (c ++ (d ++ (e ++ f))))
five a b c d e f = append_assoc (a ++ b ++ c ++ d) e f ∙ append_assoc (a ++ b ++ c) d (e ++ f) ∙ three a b c (d ++ (e ++ f))

-- ---- an anomaly by its word and its numbers

-- three letters as a number
abbrev letters : List ℕ → ℕ
letters [] = 0
letters (a ∷ []) = 0
letters (a ∷ b ∷ []) = 0
letters (a ∷ b ∷ c ∷ more) = a * 65536 + b * 256 + c

abbrev nth : List ℕ → ℕ → ℕ
nth ns i = get_or ns i 0

-- the MAP, where there are three numbers, and the last number of two or three
abbrev map_in : List ℕ → Option ℕ
map_in ns = if length ns == 3 then Some (nth ns 1) else None

abbrev last_in : List ℕ → ℕ
last_in ns = if length ns == 3 then nth ns 2 else nth ns 1

abbrev reason_by : ℕ → Reason
reason_by word =
    if word == letters (codes "fec") then Fecf
    else if word == letters (codes "ver") then Version
    else if word == letters (codes "spa") then Spacecraft
    else if word == letters (codes "lon") then Long
    else if word == letters (codes "kin") then Kind
    else if word == letters (codes "emp") then Empty
    else Command

abbrev finding_by : ℕ → ℕ → List ℕ → Finding
finding_by word next ns =
    if word == letters (codes "ski") then Skip (reason_by next)
    else if word == letters (codes "gap") then Gap (nth ns 0) (nth ns 1) (nth ns 2)
    else if word == letters (codes "str") then Stray (nth ns 0) (nth ns 1)
    else if word == letters (codes "dro") then Dropped (nth ns 0) (map_in ns) (last_in ns)
    else if word == letters (codes "opa") then Opaque (nth ns 0)
    else if word == letters (codes "for") then Foreign (nth ns 0)
    else if word == letters (codes "lon") then TooLong (nth ns 0) (nth ns 1)
    else if word == letters (codes "tai") then Tail (nth ns 0) (nth ns 1) (nth ns 2)
    else if word == letters (codes "res") then Rest (nth ns 0)
    else if word == letters (codes "ope") then Open (nth ns 0) (map_in ns) (last_in ns)
    else if word == letters (codes "acc") then Discarded verdict.Accept (nth ns 0) (nth ns 1)
    else if word == letters (codes "ear") then Discarded verdict.Early (nth ns 0) (nth ns 1)
    else if word == letters (codes "lat") then Discarded verdict.Late (nth ns 0) (nth ns 1)
    else if word == letters (codes "out") then Discarded verdict.Outside (nth ns 0) (nth ns 1)
    else if word == letters (codes "ref") then Discarded verdict.Refused (nth ns 0) (nth ns 1)
    else Discarded verdict.Command (nth ns 0) (nth ns 1)

-- the finding of a text
abbrev finding_in : List ℕ → Finding
finding_in text = finding_by (letters text) (letters (drop 5 text)) (read false 0 text)

-- the text of a finding behind its first space
abbrev behind : Finding → List ℕ
behind f = drop 1 (text_of f ++ codes "\n")

-- ---- the numbers of each text

abbrev AreSmall : List ℕ → Type 0
AreSmall ns = AllByRecursion (λ n. n < 2 ^ 64) ns

last_number : (n : ℕ) → n < 2 ^ 64 → read false 0 (decimal n ++ codes "\n") ≡ n ∷ []
last_number n small = number n (codes "\n") small (λ v. refl)

discarded_numbers : (vc ns : ℕ) → AreSmall (vc ∷ ns ∷ []) → read false 0 (decimal vc ++ codes " ad " ++ decimal ns ++ codes "\n") ≡ vc ∷ ns ∷ []
discarded_numbers vc ns small =
    ap (read false 0) (three (decimal vc) (codes " ad ") (decimal ns) (codes "\n"))
    ∙ number_then vc (codes " ad " ++ (decimal ns ++ codes "\n")) small.0 (λ v. refl) (last_number ns small.1.0)

channel_numbers : (vc : ℕ) (map_id octets : Option ℕ) {ns : List ℕ} → vc < 2 ^ 64 → Stops (some_text (codes " map ") map_id ++ (some_text (codes " octets ") octets ++ codes "\n"))
    → read false 0 (some_text (codes " map ") map_id ++ (some_text (codes " octets ") octets ++ codes "\n")) ≡ ns
    → read false 0 (decimal vc ++ some_text (codes " map ") map_id ++ some_text (codes " octets ") octets ++ codes "\n") ≡ vc ∷ ns
channel_numbers vc map_id octets small stops later =
    let rest = some_text (codes " map ") map_id ++ (some_text (codes " octets ") octets ++ codes "\n") in
    ap (read false 0) (three (decimal vc) (some_text (codes " map ") map_id) (some_text (codes " octets ") octets) (codes "\n")) ∙ number_then vc rest small stops later

octets_numbers : (vc octets : ℕ) → AreSmall (vc ∷ octets ∷ []) → read false 0 (decimal vc ++ [] ++ (codes " octets " ++ decimal octets) ++ codes "\n") ≡ vc ∷ octets ∷ []
octets_numbers vc octets small = channel_numbers vc None (Some octets) small.0 (λ v. refl) (last_number octets small.1.0)

map_numbers : (vc map_id : ℕ) → AreSmall (vc ∷ map_id ∷ []) → read false 0 (decimal vc ++ (codes " map " ++ decimal map_id) ++ [] ++ codes "\n") ≡ vc ∷ map_id ∷ []
map_numbers vc map_id small = channel_numbers vc (Some map_id) None small.0 (λ v. refl) (last_number map_id small.1.0)

all_numbers : (vc map_id octets : ℕ) → AreSmall (vc ∷ map_id ∷ octets ∷ [])
    → read false 0 (decimal vc ++ (codes " map " ++ decimal map_id) ++ (codes " octets " ++ decimal octets) ++ codes "\n") ≡ vc ∷ map_id ∷ octets ∷ []
all_numbers vc map_id octets small =
    channel_numbers vc (Some map_id) (Some octets) small.0 (λ v. refl)
    (number_then map_id (codes " octets " ++ decimal octets ++ codes "\n") small.1.0 (λ v. refl) (last_number octets small.1.1.0))

channel_alone : (vc : ℕ) → AreSmall (vc ∷ []) → read false 0 (decimal vc ++ [] ++ [] ++ codes "\n") ≡ vc ∷ []
channel_alone vc small = channel_numbers vc None None small.0 (λ v. refl) refl

numbers_are : (f : Finding) → AreSmall (numbers_of f) → read false 0 (behind f) ≡ numbers_of f
numbers_are (Skip Fecf) small = refl
numbers_are (Skip Version) small = refl
numbers_are (Skip Spacecraft) small = refl
numbers_are (Skip Long) small = refl
numbers_are (Skip Kind) small = refl
numbers_are (Skip Empty) small = refl
numbers_are (Skip Command) small = refl
numbers_are (Gap vc expected found) small =
    ap (read false 0) (five (decimal vc) (codes " expected ") (decimal expected) (codes " found ") (decimal found) (codes "\n"))
    ∙ number_then vc (codes " expected " ++ (decimal expected ++ (codes " found " ++ (decimal found ++ codes "\n")))) small.0 (λ v. refl)
    (number_then expected (codes " found " ++ (decimal found ++ codes "\n")) small.1.0 (λ v. refl) (last_number found small.1.1.0))
numbers_are (Discarded verdict.Accept vc ns) small = discarded_numbers vc ns small
numbers_are (Discarded verdict.Early vc ns) small = discarded_numbers vc ns small
numbers_are (Discarded verdict.Late vc ns) small = discarded_numbers vc ns small
numbers_are (Discarded verdict.Outside vc ns) small = discarded_numbers vc ns small
numbers_are (Discarded verdict.Refused vc ns) small = discarded_numbers vc ns small
numbers_are (Discarded verdict.Command vc ns) small = discarded_numbers vc ns small
numbers_are (Stray vc map_id) small = map_numbers vc map_id small
numbers_are (Dropped vc None octets) small = octets_numbers vc octets small
numbers_are (Dropped vc (Some map_id) octets) small = all_numbers vc map_id octets small
numbers_are (Opaque vc) small = channel_alone vc small
numbers_are (Foreign vc) small = channel_alone vc small
numbers_are (TooLong vc map_id) small = map_numbers vc map_id small
numbers_are (Tail vc map_id octets) small = all_numbers vc map_id octets small
numbers_are (Rest octets) small = last_number octets small.0
numbers_are (Open vc None octets) small = octets_numbers vc octets small
numbers_are (Open vc (Some map_id) octets) small = all_numbers vc map_id octets small

by_numbers : (f : Finding) → finding_by (letters (behind f)) (letters (drop 5 (behind f))) (numbers_of f) ≡ f
by_numbers (Skip Fecf) = refl
by_numbers (Skip Version) = refl
by_numbers (Skip Spacecraft) = refl
by_numbers (Skip Long) = refl
by_numbers (Skip Kind) = refl
by_numbers (Skip Empty) = refl
by_numbers (Skip Command) = refl
by_numbers (Gap vc expected found) = refl
by_numbers (Discarded verdict.Accept vc ns) = refl
by_numbers (Discarded verdict.Early vc ns) = refl
by_numbers (Discarded verdict.Late vc ns) = refl
by_numbers (Discarded verdict.Outside vc ns) = refl
by_numbers (Discarded verdict.Refused vc ns) = refl
by_numbers (Discarded verdict.Command vc ns) = refl
by_numbers (Stray vc map_id) = refl
by_numbers (Dropped vc None octets) = refl
by_numbers (Dropped vc (Some map_id) octets) = refl
by_numbers (Opaque vc) = refl
by_numbers (Foreign vc) = refl
by_numbers (TooLong vc map_id) = refl
by_numbers (Tail vc map_id octets) = refl
by_numbers (Rest octets) = refl
by_numbers (Open vc None octets) = refl
by_numbers (Open vc (Some map_id) octets) = refl

-- each text begins with a space
spaced : (f : Finding) → text_of f ++ codes "\n" ≡ 32 ∷ behind f
spaced (Skip reason) = refl
spaced (Gap vc expected found) = refl
spaced (Discarded verdict vc ns) = refl
spaced (Stray vc map_id) = refl
spaced (Dropped vc map_id octets) = refl
spaced (Opaque vc) = refl
spaced (Foreign vc) = refl
spaced (TooLong vc map_id) = refl
spaced (Tail vc map_id octets) = refl
spaced (Rest octets) = refl
spaced (Open vc map_id octets) = refl

-- ---- an anomaly by its line

stops_at_space : (text more : List ℕ) → text ≡ 32 ∷ more → Stops text
stops_at_space text more is v = rw is refl

behind_digits : (ds more : List ℕ) → AllDigits 10 ds → behind_space (ds ++ 32 ∷ more) ≡ more
behind_digits [] more digits = refl
behind_digits (d ∷ ds) more digits = elim (eqb_tells d 32) [
  | inl (is, same) ↦ absurd (omega (arith, subst (λ c. digit_value c < 10) same digits.0))
  | inr (is, other) ↦ rw is (behind_digits ds more digits.1)
]

abbrev anomaly_by : List ℕ → Anomaly
anomaly_by line = record { offset = nth (read false 0 line) 0; finding = finding_in (behind_space line) }

anomaly_is : (a : Anomaly) → IsCounted a → anomaly_by (line_of a) ≡ a
anomaly_is a small =
    let text = text_of a.finding ++ codes "\n" in
    let whole : line_of a ≡ decimal a.offset ++ text = append_assoc (decimal a.offset) (text_of a.finding) (codes "\n") in
    let offset : nth (read false 0 (line_of a)) 0 ≡ a.offset = ap (λ l. nth (read false 0 l) 0) whole ∙ ap (λ ns. nth ns 0) (number a.offset text small.0 (stops_at_space text (behind a.finding) (spaced a.finding))) in
    let rest : behind_space (line_of a) ≡ behind a.finding = ap behind_space whole ∙ ap (λ t. behind_space (decimal a.offset ++ t)) (spaced a.finding) ∙ behind_digits (decimal a.offset) (behind a.finding) (decimal_is_IsNumeral a.offset small.0).0.1 in
    let found : finding_in (behind_space (line_of a)) ≡ a.finding =
    ap finding_in rest ∙ ap (finding_by (letters (behind a.finding)) (letters (drop 5 (behind a.finding)))) (numbers_are a.finding small.1) ∙ by_numbers a.finding in
    λ i. record { offset = offset i; finding = found i }

pub lines_tell : LinesTellAnomalies
lines_tell a b small others same = sym (anomaly_is a small) ∙ ap anomaly_by same ∙ anomaly_is b others
