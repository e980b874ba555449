use Rattle.std.proofs.Common.{◌≡◌, ◌-◌, ◌<◌, ◌≤◌, length, take, refl, sym, ap, ◌∙◌, arith}
use Rattle.sl_tcframe.specs.TcFrame.{least_of, stated_frame_len}
use Rattle.sl_tcframe.specs.TcFraming.{len_by_four}
use Rattle.sl_tcframe.proofs.FramingLemmas.{len_by_four-append, len_told, filled, rest_fits, takes_either, takes_low, unfilled}
use Rattle.sl_tcframe.proofs.tc_framer.complete.Goals as goal

pub returns-then-len-from-clause-taken : goal.returns-then-len-from-clause-taken
returns-then-len-from-clause-taken c =
    let told = len_told c.as_slice.result.now c.in-Some.len (sym c.len_if_stated.ensures.value ∙ c.in-Some.is) in
    let first = filled 4 c.args.taken.now.items c.args.chunk.now.now in
    let is : c.as_slice.result.now ≡ first = c.as_slice.ensures.value ∙ c.fill.ensures.taken in
    let low : len_by_four first < least_of c.args.shape.now = omega (arith, told.1, ap len_by_four is, c.if-len-from.true, c.from.ensures, c.least.ensures.value) in
    rw (c.fill.ensures.taken, c.fill.ensures.left)
    (takes_low c.args.shape.now c.args.taken.now.items c.args.chunk.now.now (rest_fits c.args.shape.now c.args.taken.now.items c.requires) (omega (arith, told.0, ap length is)) low)

pub is_whole-requires-clause-stated : goal.is_whole-requires-clause-stated
is_whole-requires-clause-stated c =
    let told = len_told c.as_slice.result.now c.in-Some.len (sym c.len_if_stated.ensures.value ∙ c.in-Some.is) in
    let first = c.fill.new.taken.items in
    let more = take (c.in-Some.len - length first) c.fill.new.chunk.now in
    let is : c.as_slice.result.now ≡ first = c.as_slice.ensures.value in
    told.1 ∙ ap len_by_four is ∙ sym (len_by_four-append first more (omega (arith, told.0, ap length is)))
    ∙ ap len_by_four (sym (c.as_slice-2.ensures.value ∙ c.fill-2.ensures.taken))

pub is_whole-requires-clause-header : goal.is_whole-requires-clause-header
is_whole-requires-clause-header c = omega (arith, c.if-len-from.false, c.from.ensures, c.least.ensures.value)

pub returns-clause-taken : goal.returns-clause-taken
returns-clause-taken c =
    let told = len_told c.as_slice.result.now c.in-Some.len (sym c.len_if_stated.ensures.value ∙ c.in-Some.is) in
    let first = filled 4 c.args.taken.now.items c.args.chunk.now.now in
    let is : c.as_slice.result.now ≡ first = c.as_slice.ensures.value ∙ c.fill.ensures.taken in
    let len_is : c.in-Some.len ≡ len_by_four first = told.1 ∙ ap len_by_four is in
    let enough : least_of c.args.shape.now ≤ len_by_four first = omega (arith, len_is, c.if-len-from.false, c.from.ensures, c.least.ensures.value) in
    let whole_is : c.as_slice-2.result.now ≡ filled (len_by_four first) first (unfilled 4 c.args.taken.now.items c.args.chunk.now.now) =
    c.as_slice-2.ensures.value ∙ rw (c.fill-2.ensures.taken, c.fill.ensures.taken, c.fill.ensures.left, len_is) refl in
    rw (c.fill-2.ensures.taken, c.fill-2.ensures.left, c.fill.ensures.taken, c.fill.ensures.left, len_is)
    (takes_either c.args.shape.now c.args.taken.now.items c.args.chunk.now.now (rest_fits c.args.shape.now c.args.taken.now.items c.requires) (omega (arith, told.0, ap length is)) enough
    c.is_whole.result
    (λ yes. let w = c.is_whole.ensures.whole yes in (omega (arith, w.0, len_is, ap length whole_is), sym len_is ∙ w.1 ∙ ap stated_frame_len whole_is))
    (λ no. let short = c.is_whole.ensures.part no in omega (arith, short, len_is, ap length whole_is)))
