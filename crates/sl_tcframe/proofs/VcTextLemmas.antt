-- A text of several virtual channels, and how it is split.
use Rattle.std.proofs.Common.{◌≡◌, ℕ, suc, ◌≤◌, List, [], ◌∷◌, ◌++◌, inl, sym, subst, ◌∙◌, arith}
use Rattle.std.specs.Fmt.{decimal}
use Rattle.std.specs.List.{AllByRecursion}
use Rattle.std.proofs.lemmas.Fmt.{decimal_injective}
use Rattle.sl_fields.proofs.DecimalLemmas.{decimal_has_no}
use Rattle.sl_fields.proofs.JoinedLemmas.{HasNo, has_first, has_only, joined_more, joined_once}
use Rattle.sl_tcframe.specs.VcSet.{AreRising, Lists}

abbrev IsVc : ℕ → Type 0
IsVc vc = vc ≤ 63

-- a number in decimal has no comma
no_comma : (vc : ℕ) → IsVc vc → HasNo 44 (decimal vc)
no_comma vc small = decimal_has_no 44 vc (inl (omega arith)) (omega arith)

-- a decimal text is the text of one number
same_number : (vc other : ℕ) → IsVc vc → IsVc other → decimal vc ≡ decimal other → vc ≡ other
same_number vc other small low is = decimal_injective vc other (omega arith) (omega arith) is

-- each of the rising numbers is 63 at most
each_vc : (least : ℕ) (vcs : List ℕ) → AreRising least vcs → AllByRecursion IsVc vcs
each_vc least [] rising = tt
each_vc least (vc ∷ vcs) rising = (rising.1, each_vc (suc vc) vcs rising.2)

-- no number has a comma
clear : (least : ℕ) (vcs : List ℕ) → AreRising least vcs → AllByRecursion (λ vc. HasNo 44 (decimal vc)) vcs
clear least [] rising = tt
clear least (vc ∷ vcs) rising = (no_comma vc rising.1, clear (suc vc) vcs rising.2)

-- the parts of a text before and after its first comma, where it lists numbers
pub record HasMore (least : ℕ) (first rest vcs : List ℕ) : Type 0 where
  pub vc : ℕ
  pub above : List ℕ
  pub low : least ≤ vc
  pub high : vc ≤ 63
  pub is : first ≡ decimal vc
  pub listed : Lists (suc vc) rest above
  pub both : vcs ≡ vc ∷ above

pub has_more : (least : ℕ) (text first rest vcs : List ℕ) → text ≡ first ++ 44 ∷ rest → HasNo 44 first → Lists least text vcs → HasMore least first rest vcs
has_more least text first rest vcs split none listed =
    let it = has_first 44 decimal text first rest vcs split none listed.some (clear least vcs listed.rising) listed.written in
    let rising = subst (AreRising least) it.both listed.rising in
    record {
      vc = it.item;
      above = it.others;
      low = rising.0;
      high = rising.1;
      is = it.written;
      listed = record { some = it.some; rising = rising.2; written = it.joined };
      both = it.both;
    }

-- the number of a text without a comma that lists numbers
pub record HasOne (least : ℕ) (text vcs : List ℕ) : Type 0 where
  pub vc : ℕ
  pub low : least ≤ vc
  pub high : vc ≤ 63
  pub is : text ≡ decimal vc
  pub alone : vcs ≡ vc ∷ []

pub has_one : (least : ℕ) (text vcs : List ℕ) → HasNo 44 text → Lists least text vcs → HasOne least text vcs
has_one least text vcs none listed =
    let it = has_only 44 decimal text vcs none listed.some listed.written in
    let rising = subst (AreRising least) it.alone listed.rising in
    record { vc = it.item; low = rising.0; high = rising.1; is = it.written; alone = it.alone }

-- a number in front of the numbers of a text
pub lists_more : (least : ℕ) (text first rest : List ℕ) (vc : ℕ) (vcs : List ℕ) → text ≡ first ++ 44 ∷ rest → least ≤ vc → vc ≤ 63 → first ≡ decimal vc → Lists (suc vc) rest vcs → Lists least text (vc ∷ vcs)
lists_more least text first rest vc vcs split low high is listed =
    record { some = omega arith; rising = (low, high, listed.rising); written = joined_more 44 decimal text first rest vc vcs split is listed.some listed.written }

-- a text lists numbers in one way
pub lists_once : (least : ℕ) (text vcs others : List ℕ) → Lists least text vcs → Lists least text others → vcs ≡ others
lists_once least text vcs others listed other =
    joined_once 44 decimal IsVc no_comma same_number vcs others (each_vc least vcs listed.rising) (each_vc least others other.rising) listed.some other.some
    (sym listed.written ∙ other.written)
