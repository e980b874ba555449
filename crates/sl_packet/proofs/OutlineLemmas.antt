-- Six octets of which the first are kept, and others put behind these.
use Rattle.std.proofs.Common.{◌≡◌, ℕ, ◌+◌, ◌-◌, ◌<◌, ◌≤◌, List, ◌++◌, length, take, drop, inl, inr, sym, ◌∙◌, ap, arith, length-append}
use Rattle.std.proofs.lemmas.Bool.{cases_lt}
use Rattle.std.proofs.lemmas.List.{length-take, length-take-le, take_all, take-append-le}
use Rattle.std.proofs.Math.Seq.{take-append-add}
use Rattle.std.proofs.lemmas.List.{length-drop}
use borrow.Rule.Slice.PartMut.{put_mid, same_len_mid}

pub length_put : (six ys : List ℕ) (i k : ℕ) → length six ≡ 6 → i + k ≤ 6 → length ys ≡ k → length (put_mid i k six ys) ≡ 6
length_put six ys i k long fits same = same_len_mid i k six ys (omega (arith, length-take-le k (drop i six) (omega (arith, length-drop i six)))) ∙ long

pub whole_six : (six more : List ℕ) (known : ℕ) → length six ≡ 6 → 6 ≤ known → take (known + length more) six ≡ take 6 (take known six ++ more)
whole_six six more known long past =
    take_all (known + length more) six (omega arith)
    ∙ sym (take-append-le 6 (take known six) more (omega (arith, length-take-le known six, length-take known six))
    ∙ ap (take 6) (take_all known six (omega arith)) ∙ take_all 6 six (omega arith))

pub filled_six : (six more put : List ℕ) (known many : ℕ) → length put ≡ 6 → known < 6 → length six ≡ 6 → many ≤ length more → many ≤ 6 - known → (length more ≤ 6 - known → many ≡ length more) → (6 - known ≤ length more → many ≡ 6 - known)
    → take (known + many) put ≡ take known six ++ take many more → take (known + length more) put ≡ take 6 (take known six ++ more)
filled_six six more put known many long few six_long within room all part is =
    let front : length (take known six) ≡ known = length-take-le known six (omega arith) in
    elim (cases_lt (6 - known) (length more)) [
      | inl greater ↦
          let same = part (omega arith) in
          let end : known + many ≡ 6 = omega arith in
          take_all (known + length more) put (omega arith) ∙ sym (take_all (known + many) put (omega arith)) ∙ is
          ∙ sym (ap (λ n. take n (take known six ++ more)) (sym end ∙ ap (λ k. k + many) (sym front)) ∙ take-append-add (take known six) more many)
      | inr less ↦
          let same = all (omega arith) in
          ap (λ n. take (known + n) put) (sym same) ∙ is ∙ ap (λ l. take known six ++ l) (take_all many more (omega arith))
          ∙ sym (take_all 6 (take known six ++ more) (omega (arith, length-append (take known six) more)))
    ]
