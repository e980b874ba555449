-- What FARM-1, CCSDS 232.1-B, accepts of elements, such as frames, that arrive one after another.
-- The verdicts on the elements stand in a list of their own, in the same order. Each element
-- carries a list: what stands for its frame data unit, or the empty list where the element has
-- none.
use Rattle.std.specs.Prelude.{List, [], ◌∷◌, ◌++◌}
use Rattle.sl_cop.specs.declared.verdict.Verdict.{Verdict}
use Rattle.sl_cop.specs.declared.verdict.Verdict.TheVariants.{Accept}

-- the whole list under the verdict `Accept`, and none of it under any other verdict
abbrev pub if_accepted : {A : Type 0} → Verdict → List A → List A
if_accepted Accept carried = carried
if_accepted verdict carried = []

-- the lists that the accepted elements carry, in order and joined, where the elements have these
-- verdicts
abbrev pub accepted_by : {A B : Type 0} → (A → List B) → List Verdict → List A → List B
accepted_by carried [] elements = []
accepted_by carried (verdict ∷ verdicts) [] = []
accepted_by carried (verdict ∷ verdicts) (element ∷ elements) =
    if_accepted verdict (carried element) ++ accepted_by carried verdicts elements
