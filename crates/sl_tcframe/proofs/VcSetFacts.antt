-- Texts that list virtual channels, and texts that don't. A wrong definition would fail these facts.
use Rattle.std.proofs.Common.{◌≡◌, ℕ, suc, ◌≤◌, true, false, List, [], ◌∷◌, length, refl, ap, arith}
use Rattle.std.specs.Fmt.{decimal, digits}
use Rattle.std.proofs.lemmas.Fmt.{decimal_injective, decimal_nonempty}
use Rattle.sl_tcframe.specs.VcSet.{Lists, has_vc, with_vc}
use Rattle.sl_tcframe.specs.VcSetModel.{numbers_from}
use Rattle.sl_fields.proofs.DecimalLemmas.{unpadded}
use Rattle.sl_fields.proofs.JoinedLemmas.{has_no}
use Rattle.sl_tcframe.proofs.VcTextLemmas.{has_more, has_one}

pub record AreSets : Type 0 where
  pub none : has_vc [] 5 ≡ false
  pub one : with_vc [] 5 ≡ 5 ∷ []
  pub before : with_vc (5 ∷ 9 ∷ []) 0 ≡ 0 ∷ 5 ∷ 9 ∷ []
  pub between : with_vc (5 ∷ 9 ∷ []) 7 ≡ 5 ∷ 7 ∷ 9 ∷ []
  pub after : with_vc (5 ∷ 9 ∷ []) 63 ≡ 5 ∷ 9 ∷ 63 ∷ []
  pub again : with_vc (5 ∷ 9 ∷ []) 9 ≡ 5 ∷ 9 ∷ []
  pub has : has_vc (5 ∷ 9 ∷ []) 9 ≡ true
  pub has_not : has_vc (5 ∷ 9 ∷ []) 8 ≡ false
  pub flags : numbers_from 0 (true ∷ false ∷ false ∷ true ∷ []) ≡ 0 ∷ 3 ∷ []

pub are_sets : AreSets
are_sets = record { none = refl; one = refl; before = refl; between = refl; after = refl; again = refl; has = refl; has_not = refl; flags = refl }

-- `0,63` and `5`
pub lists_least_and_greatest : Lists 0 (0x30 ∷ 0x2C ∷ 0x36 ∷ 0x33 ∷ []) (0 ∷ 63 ∷ [])
unfolding digits
lists_least_and_greatest = record { some = omega arith; rising = (omega arith, omega arith, (omega arith, omega arith, tt)); written = refl }

pub lists_one_channel : Lists 0 (0x35 ∷ []) (5 ∷ [])
unfolding digits
lists_one_channel = record { some = omega arith; rising = (omega arith, omega arith, tt); written = refl }

-- ---- refused

abbrev pub IsRefused : List ℕ → Type 0
IsRefused text = (vcs : List ℕ) → Lists 0 text vcs → ⊥

-- the empty text
pub empty : IsRefused []
empty vcs listed =
    let one = has_one 0 [] vcs (has_no 44 [] refl) listed in
    absurd (omega (arith, ap length one.is, decimal_nonempty one.vc (let high = one.high in omega arith)))

-- `5,`
pub trailing : IsRefused (0x35 ∷ 0x2C ∷ [])
trailing vcs listed =
    let more = has_more 0 (0x35 ∷ 0x2C ∷ []) (0x35 ∷ []) [] vcs refl (has_no 44 (0x35 ∷ []) refl) listed in
    let one = has_one (suc more.vc) [] more.above (has_no 44 [] refl) more.listed in
    absurd (omega (arith, ap length one.is, decimal_nonempty one.vc (let high = one.high in omega arith)))

-- `05`
pub padded : IsRefused (0x30 ∷ 0x35 ∷ [])
padded vcs listed =
    let one = has_one 0 (0x30 ∷ 0x35 ∷ []) vcs (has_no 44 (0x30 ∷ 0x35 ∷ []) refl) listed in
    absurd (omega (arith, unpadded (0x30 ∷ 0x35 ∷ []) one.vc (let high = one.high in omega arith) one.is (omega arith)))

-- a blank and `5`
pub blank : IsRefused (0x20 ∷ 0x35 ∷ [])
blank vcs listed =
    let one = has_one 0 (0x20 ∷ 0x35 ∷ []) vcs (has_no 44 (0x20 ∷ 0x35 ∷ []) refl) listed in
    absurd (omega (arith, unpadded (0x20 ∷ 0x35 ∷ []) one.vc (let high = one.high in omega arith) one.is (omega arith)))

-- two numbers with the same digits are equal
is_number : (n vc : ℕ) → n ≤ 64 → vc ≤ 63 → decimal n ≡ decimal vc → n ≡ vc
is_number n vc small high is = decimal_injective n vc (omega arith) (omega arith) is

-- `5,5`
pub repeated : IsRefused (0x35 ∷ 0x2C ∷ 0x35 ∷ [])
unfolding digits
repeated vcs listed =
    let more = has_more 0 (0x35 ∷ 0x2C ∷ 0x35 ∷ []) (0x35 ∷ []) (0x35 ∷ []) vcs refl (has_no 44 (0x35 ∷ []) refl) listed in
    let one = has_one (suc more.vc) (0x35 ∷ []) more.above (has_no 44 (0x35 ∷ []) refl) more.listed in
    absurd (omega (arith, is_number 5 more.vc (omega arith) more.high more.is, is_number 5 one.vc (omega arith) one.high one.is, one.low))

-- `6,5`
pub falling : IsRefused (0x36 ∷ 0x2C ∷ 0x35 ∷ [])
unfolding digits
falling vcs listed =
    let more = has_more 0 (0x36 ∷ 0x2C ∷ 0x35 ∷ []) (0x36 ∷ []) (0x35 ∷ []) vcs refl (has_no 44 (0x36 ∷ []) refl) listed in
    let one = has_one (suc more.vc) (0x35 ∷ []) more.above (has_no 44 (0x35 ∷ []) refl) more.listed in
    absurd (omega (arith, is_number 6 more.vc (omega arith) more.high more.is, is_number 5 one.vc (omega arith) one.high one.is, one.low))

-- `64`
pub above_the_greatest : IsRefused (0x36 ∷ 0x34 ∷ [])
unfolding digits
above_the_greatest vcs listed =
    let one = has_one 0 (0x36 ∷ 0x34 ∷ []) vcs (has_no 44 (0x36 ∷ 0x34 ∷ []) refl) listed in
    absurd (omega (arith, is_number 64 one.vc (omega arith) one.high one.is, one.high))
