use Rattle.std.proofs.Common.{◌≡◌, ◌+◌, ◌*◌, ◌/◌, [], length, drop, get_or, refl, sym, ap, ◌∙◌, arith, append-nil}
use Rattle.std.specs.Simd.{first_chunks}
use Rattle.std.proofs.lemmas.List.{get_or-drop}
use Rattle.sl_fields.specs.FecfFolds.{first_two_of}
use Rattle.sl_fields.proofs.FecfFolds.{slices_of, up_to, holds-first, holds-more, holds-fours, holds-four, up_to-all}
use Rattle.sl_fields.proofs.folds.four_of_all.Goals as goal

pub loop-four-init : goal.loop-four-init
loop-four-init c =
    let two = c.first_two.result in
    rw (append-nil (first_two_of c.args.octets.now), ← c.first_two.ensures) (holds-first two.0 two.1 (omega arith) (omega arith))

pub loop-four-preserved : goal.loop-four-preserved
loop-four-preserved c =
    let octets = c.args.octets.now in
    let l = c.loop-four in
    let fours = c.as_chunks.result.0.now in
    let is : fours ≡ first_chunks 4 (length octets / 16 / 4) (slices_of octets) = rw (c.as_chunks.ensures.front, c.as_rchunks.ensures.back_len, c.as_rchunks.ensures.back) refl in
    rw (c.from_4-in-loop-four-3.ensures, c.from_4-in-loop-four-2.ensures, c.from_4-in-loop-four.ensures, c.from_4.ensures)
    (holds-fours octets l.four-index l.oldest l.older l.newer l.newest fours (omega arith) is l.invariant)

pub loop-slice-init : goal.loop-slice-init
loop-slice-init c =
    let l = c.loop-four in
    let same : length c.args.octets.now / 16 / 4 * 4 + 0 ≡ l.four-index * 4 = omega arith in
    rw same l.invariant

pub loop-slice-preserved : goal.loop-slice-preserved
loop-slice-preserved c =
    let octets = c.args.octets.now in
    let l = c.loop-slice in
    let j = l.slice-index in
    let rest = c.as_chunks.result.1.now in
    let done = length octets / 16 / 4 * 4 in
    let is : rest ≡ drop done (slices_of octets) = rw (c.as_chunks.ensures.back, c.as_rchunks.ensures.back_len, c.as_rchunks.ensures.back) refl in
    let here : get_or (slices_of octets) (done + j) [] ≡ get_or rest j [] = sym (ap (λ all. get_or all j []) is ∙ get_or-drop done (slices_of octets) j []) in
    rw c.from_4-in-loop-slice.ensures (holds-more octets (done + j) (done + (j + 1)) l.oldest l.older l.newer l.newest (get_or rest j []) (omega arith) (omega arith) here l.invariant)

pub returns : goal.returns
returns c =
    let octets = c.args.octets.now in
    let l = c.loop-slice in
    let count = length octets / 16 / 4 * 4 + l.slice-index in
    rw (c.from_4-2.ensures, c.from_4-3.ensures) (holds-four (up_to octets count) l.oldest l.older l.newer l.newest l.invariant)
    ∙ up_to-all octets count (omega arith)
