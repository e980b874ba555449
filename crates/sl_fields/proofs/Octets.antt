-- Octets and their number in base 256.
use Rattle.std.proofs.Common.{◌≡◌, ℕ, zero, suc, ◌+◌, ◌*◌, ◌/◌, ◌^◌, ◌<◌, List, [], ◌∷◌, length, refl, sym, ◌∙◌, ap, arith, append-nil}
use Rattle.std.proofs.lemmas.Nat.{mul-add-lt, same_from_place, mod_below}
use Rattle.std.proofs.Math.Nat.{pow-suc}
use Rattle.std.proofs.lemmas.List.Elements.{All-head, All-tail, All-nil, All-cons}
use Rattle.std.specs.Int.{byte_at}
use Rattle.byteorder.specs.Endian.{big_from, big_bytes}
use Rattle.byteorder.specs.Numbers.{big_from-cons, big_number-reads_back, length-bytes_high_first}
use Rattle.sl_fields.specs.Field.{IsOctets, number_of, octets_of, packed}

-- the number that `byteorder` reads
pub number_of-big : (octets : List ℕ) → number_of octets ≡ big_from 0 (length octets) octets
number_of-big [] = refl
number_of-big (x ∷ xs) = ap (λ n. x * 256 ^ length xs + n) (number_of-big xs ∙ sym (big_from-cons 0 (length xs) x xs))

-- the number has at most as many digits in base 256 as there are octets
pub number_of_lt : (octets : List ℕ) → IsOctets octets → number_of octets < 256 ^ length octets
number_of_lt [] h = omega arith
number_of_lt (x ∷ xs) h =
    let head : x < 256 = All-head (λ n. n < 256) x xs h in
    rw (pow-suc 256 (length xs)) (mul-add-lt x (256 ^ length xs) (number_of xs) 256 head (number_of_lt xs (All-tail (λ n. n < 256) x xs h)))

-- the number determines the octets
pub number_of_injective : (xs ys : List ℕ) → IsOctets xs → IsOctets ys → length xs ≡ length ys → number_of xs ≡ number_of ys → xs ≡ ys
number_of_injective [] [] h k e n = refl
number_of_injective [] (y ∷ ys) h k e n = absurd (omega arith)
number_of_injective (x ∷ xs) [] h k e n = absurd (omega arith)
number_of_injective (x ∷ xs) (y ∷ ys) h k e n =
    let same : length xs ≡ length ys = omega arith in
    let tail_h = All-tail (λ n. n < 256) x xs h in
    let tail_k = All-tail (λ n. n < 256) y ys k in
    let below : number_of ys < 256 ^ length xs = rw same (number_of_lt ys tail_k) in
    let digits = same_from_place x (number_of xs) y (number_of ys) (256 ^ length xs) (number_of_lt xs tail_h) below (n ∙ ap (λ k. y * 256 ^ k + number_of ys) (sym same)) in
    let rest = number_of_injective xs ys tail_h tail_k same digits.1 in
    let first = digits.0 in
    cc

-- the octets of a number, the highest first, have that number
pub number_of-bytes : (k n : ℕ) → n < 256 ^ k → number_of (big_bytes k n) ≡ n
number_of-bytes k n h =
    number_of-big (big_bytes k n) ∙ ap (λ j. big_from 0 j (big_bytes k n)) (length-bytes_high_first k n)
    ∙ ap (λ xs. big_from 0 k xs) (sym (append-nil (big_bytes k n))) ∙ big_number-reads_back k n [] h

byte_at_lt : (k n : ℕ) → byte_at k n < 256
byte_at_lt zero n = mod_below n 256 (omega arith)
byte_at_lt (suc k) n = mod_below (n / 256 ^ suc k) 256 (omega arith)

pub octets-bytes : (k n : ℕ) → IsOctets (big_bytes k n)
octets-bytes zero n = All-nil (λ octet. octet < 256)
octets-bytes (suc k) n =
    All-cons (λ octet. octet < 256) (byte_at k n) (big_bytes k n) (byte_at_lt k n) (octets-bytes k n)

-- fields packed into `count` octets
pub length-octets_of : (count : ℕ) (fields : List (ℕ × ℕ)) → length (octets_of count fields) ≡ count
length-octets_of count fields = length-bytes_high_first count (packed fields)
