use Rattle.std.proofs.Common.{◌≡◌, ◌<◌, ◌-◌, ◌∙◌, ℕ, true, false, Option, None, Some, List, length, inl, inr, refl, ap, sym, arith}
use Rattle.std.specs.Prelude.{is_some, option_map}
use Rattle.std.specs.List.{slice_index_or}
use Rattle.std.proofs.lemmas.Bool.{cases_lt}
use Rattle.std.proofs.lemmas.List.{get_or_past, get_or_default}
use Rattle.sl_tcflow.specs.SeriesStore.{at, IncompleteSeries}
use Rattle.sl_tcflow.proofs.series_store.SeriesStore.none_open_from.Goals as goal
use Rattle.sl_tcflow.proofs.series_store.SeriesStore.none_open_from.Goals.{then-loop-from-test+else-is_none, else-loop-from-test}

some_held : (series : Option (List ℕ)) → is_some (option_map length series) ≡ is_some series
some_held None = refl
some_held (Some octets) = refl

none_where_not_some : (series : Option (List ℕ)) → is_some series ≡ false → series ≡ None
none_where_not_some None none = refl
none_where_not_some (Some octets) none = absurd (cc)

-- what is held of a channel's series says whether one is incomplete
held_at : (list : List (Option (List ℕ))) (channel : ℕ) (series : Option (List ℕ)) (held : Option ℕ) → channel < length list
    → series ≡ slice_index_or list channel series → held ≡ option_map length series → is_some (at list channel) ≡ is_some held
held_at list channel series held below is octets =
    sym (ap is_some octets ∙ some_held series ∙ ap is_some (is ∙ get_or_default list channel series None below))

pub loop-from-init : goal.loop-from-init
loop-from-init c =
    let size = ap (λ (s : IncompleteSeries). length s.list) c.self.view_is in (
      omega (arith, c.min-from.ensures),
      omega (arith, c.min-from.ensures, c.len.ensures, size),
      λ channel most from. get_or_past c.args.self.now.list channel None (omega (arith, c.min-from.ensures, c.len.ensures, size, most, from)),
    )

pub index-requires : goal.index-requires
index-requires c =
    omega (arith, c.loop-from.invariant.1, c.loop-from-test.true, ap (λ (s : IncompleteSeries). length s.list) c.self.view_is)

pub loop-from-preserved : goal.loop-from-preserved
loop-from-preserved c =
    let i = c.loop-from.invariant in (
      omega (arith, i.0),
      omega (arith, i.1),
      λ channel most from.
          elim (cases_lt channel c.loop-from.from) [
            | inl below ↦
                let last : c.loop-from.from - 1 ≡ channel = omega (arith, from, below, c.loop-from-test.true) in
                let inside : c.loop-from.from - 1 < length c.args.self.now.list = omega (arith, i.1, c.loop-from-test.true) in
                let is = c.index.ensures ∙ ap (λ (s : IncompleteSeries). slice_index_or s.list (c.loop-from.from - 1) c.index.result.now) c.self.view_is in
                ap (at c.args.self.now.list) (sym last)
                ∙ none_where_not_some _ (held_at c.args.self.now.list _ _ _ inside is c.held.ensures.octets ∙ c.if-is_none.ensures)
            | inr past ↦ i.2 channel most past
          ],
    )

pub overflow_cast-result : goal.overflow_cast-result
overflow_cast-result c = omega (arith, c.loop-from.invariant.0)

pub returns-clause-most : goal.returns-clause-most
returns-clause-most c = c.loop-from.invariant.0

pub returns-clause-none : goal.returns-clause-none
returns-clause-none c = c.loop-from.invariant.2

pub returns-clause-least : goal.returns-clause-least
returns-clause-least c channel before none =
    elim c.loop-from-test.branch [
      | then-loop-from-test+else-is_none w ↦
          let i = c.loop-from.invariant in
          let last : c.loop-from.from - 1 ≡ channel = omega (arith, before) in
          let inside : c.loop-from.from - 1 < length c.args.self.now.list = omega (arith, i.1, w.loop-from-test.true) in
          let is = w.index.ensures ∙ ap (λ (s : IncompleteSeries). slice_index_or s.list (c.loop-from.from - 1) w.index.result.now) c.self.view_is in
          let some = held_at c.args.self.now.list _ _ _ inside is w.held.ensures.octets ∙ w.if-is_none.ensures in
          let differ : false ≡ true = ap is_some (sym (ap (at c.args.self.now.list) last ∙ none)) ∙ some in
          absurd (cc)
      | else-loop-from-test w ↦ absurd (omega (arith, before, w.loop-from-test.false))
    ]
