-- The marker of a text.
use Rattle.std.proofs.Common.{◌≡◌, ◌⊎◌, inl, inr, ◌∙◌, sym, refl, ap, arith, ℕ, ◌/◌, ◌%◌, ◌*◌, ◌<◌, ◌≤◌, true, false, List, length}
use Rattle.std.proofs.Common.{Option, Some, None, Result, Ok, Err, take, length-take-le}
use Rattle.std.proofs.lemmas.Bool.{cases_eq, cases_lt, le-leb, lt-leb}
use Rattle.std.specs.Option.{ok_or}
use Rattle.std.specs.Prelude.{is_err, replicate, MatchResult, SomeIff}
use Rattle.hex.specs.Hex.{decode_of, decode_sized}
use Rattle.hex.specs.declared.error.FromHexError.{FromHexError}
use Rattle.hex.proofs.HexLemmas.{decode_of-odd, decode_of-ok, decode_sized-odd, decode_sized-twice}
use Rattle.sl_sync.specs.Marker.{IsMarker, Marker}
use Rattle.sllink_frames.specs.CommandLine.{marker_in, marker_read, marker_with}
use Rattle.sllink_frames.specs.declared.command_line.Refused.{Refused}
use Rattle.sllink_frames.specs.declared.command_line.Refused.TheVariants as refused

-- a text is decoded into half as many octets, or not at all
pub sized : (s : List ℕ) → decode_sized s (length s / 2) ≡ decode_of s
sized s = elim (cases_eq (length s % 2) 1) [
  | inl odd ↦ decode_sized-odd s (length s / 2) odd ∙ sym (decode_of-odd s odd)
  | inr even ↦ decode_sized-twice s (length s / 2) (omega arith)
]

-- room for sixteen octets
abbrev pub zeros : List ℕ
zeros = replicate 16 0

-- the same in a part of it
pub room : (a s : List ℕ) → a ≡ s → length s / 2 ≤ 16 → decode_sized a (length (take (length s / 2) zeros)) ≡ decode_of s
room a s e few =
    let long : length zeros ≡ 16 = refl in
    let n : length (take (length s / 2) zeros) ≡ length s / 2 = length-take-le (length s / 2) zeros (omega arith) in
    ap (λ (x : List ℕ). decode_sized x (length (take (length s / 2) zeros))) e ∙ ap (λ (k : ℕ). decode_sized s k) n ∙ sized s

-- more octets than sixteen, or none
pub wrong-length : (octets : List ℕ) (errors : ℕ) → (length octets ≡ 0) ⊎ (16 < length octets)
    → Err refused.Marker ≡ marker_with octets errors
unfolding marker_with
wrong-length octets errors (inl none) = grind arith
wrong-length octets errors (inr many) = grind arith

-- what is read of a text that has no right number of octets
wrong-read : (d : Result (List ℕ) FromHexError) (errors : ℕ)
    → ((octets : List ℕ) → d ≡ Ok octets → (length octets ≡ 0) ⊎ (16 < length octets))
    → Err refused.Marker ≡ marker_read d errors
wrong-read (Ok octets) errors h = wrong-length octets errors (h octets refl)
wrong-read (Err e) errors h = refl

half : (n m : ℕ) → n ≡ 2 * m → (n / 2 ≡ 0) ⊎ (16 < n / 2) → (m ≡ 0) ⊎ (16 < m)
half n m e (inl none) = inl (omega arith)
half n m e (inr many) = inr (omega arith)

pub wrong-text : (s : List ℕ) (errors : ℕ) → (length s / 2 ≡ 0) ⊎ (16 < length s / 2)
    → Err refused.Marker ≡ marker_in s errors
unfolding marker_in
wrong-text s errors h =
    wrong-read (decode_of s) errors (λ octets e. half (length s) (length octets) (decode_of-ok s octets e).2 h)

-- what a text is decoded to, by the answer and the octets after it
pub decoded-not : (d : Result (List ℕ) FromHexError) (r : Result Unit FromHexError) (out : List ℕ) (errors : ℕ)
    → MatchResult d (λ octets. (r ≡ Ok tt) × (out ≡ octets)) (λ e. r ≡ Err e) → is_err r ≡ true
    → Err refused.Marker ≡ marker_read d errors
decoded-not (Ok octets) r out errors h is = cc
decoded-not (Err e) r out errors h is = refl

pub decoded-is : (d : Result (List ℕ) FromHexError) (r : Result Unit FromHexError) (out : List ℕ)
    → MatchResult d (λ octets. (r ≡ Ok tt) × (out ≡ octets)) (λ e. r ≡ Err e) → is_err r ≡ false → d ≡ Ok out
decoded-is (Ok octets) r out h is = cc
decoded-is (Err e) r out h is = cc

too_many : (octets : List ℕ) (errors : ℕ) → length octets ≤ 16
    → ((length octets ≤ 16) × (errors ≤ 2 * length octets) → ⊥) → 2 * length octets < errors
too_many octets errors few h = elim (cases_lt (2 * length octets) errors) [
  | inl many ↦ many
  | inr some ↦ absurd (h (few, some))
]

-- a marker of one to sixteen octets, where a marker can have them, and else it is for the wrong bits that it can't
pub made : (octets : List ℕ) (errors : ℕ) (made : Option Marker) → 1 ≤ length octets → length octets ≤ 16
    → (let m : Marker = record { octets = octets; errors = errors } in SomeIff made (IsMarker m) m)
    → ok_or made refused.Errors ≡ marker_with octets errors
unfolding marker_with
made octets errors (Some m) some few h = rw (h.1, le-leb 1 (length octets) some, le-leb (length octets) 16 few, le-leb errors (2 * length octets) h.0.1) refl
made octets errors None some few h =
    let many : 2 * length octets < errors = too_many octets errors few h in
    rw (le-leb 1 (length octets) some, le-leb (length octets) 16 few, lt-leb errors (2 * length octets) many) refl

-- the marker of a text that was decoded
pub read : (s octets : List ℕ) (errors : ℕ) (m : Option Marker) (x : Result Marker Refused) → decode_of s ≡ Ok octets
    → (length s / 2 ≡ 0 → ⊥) → length s / 2 ≤ 16
    → (let m' : Marker = record { octets = octets; errors = errors } in SomeIff m (IsMarker m') m')
    → x ≡ ok_or m refused.Errors → x ≡ marker_in s errors
unfolding marker_in
read s octets errors m x e some few h is =
    let twice = (decode_of-ok s octets e).2 in
    is ∙ made octets errors m (omega arith) (omega arith) h
    ∙ ap (λ (d : Result (List ℕ) FromHexError). marker_read d errors) (sym e)
