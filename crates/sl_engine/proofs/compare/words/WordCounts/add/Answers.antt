use Rattle.std.proofs.Common.{◌∙◌, ap, arith}
use Rattle.sl_engine.specs.Compare.Words.{word_text}
use Rattle.sl_engine.specs.declared.compare.words.CheckWord.TheVariants.{Skip, Gap, Dropped, Opaque, Foreign, Rest, Open}
use Rattle.sl_engine.specs.declared.compare.words.CheckWord.TheVariants.{Early, Late, Outside, Refused, Stray, Long, Tail}
use Rattle.sl_engine.specs.declared.compare.words.WordCounts.{WordCounts}
use Rattle.sl_engine.proofs.lemmas.Compare.Words.{counted, room_for, with_one}
use Rattle.sl_engine.proofs.compare.words.WordCounts.add.Goals as goal

pub overflow_add-self : goal.overflow_add-self
overflow_add-self c =
    let r = c.requires in
    omega (arith, ap (λ (w : WordCounts). w.skip) r.2, room_for (word_text Skip) (word_text c.args.word) r.0 r.1 c.args.holds c.if-not-holds.false r.3 r.4)

pub overflow_add-self-in-Gap : goal.overflow_add-self-in-Gap
overflow_add-self-in-Gap c =
    let r = c.requires in
    omega (arith, ap (λ (w : WordCounts). w.gap) r.2, room_for (word_text Gap) (word_text c.args.word) r.0 r.1 c.args.holds c.if-not-holds.false r.3 r.4)

pub overflow_add-self-in-Dropped : goal.overflow_add-self-in-Dropped
overflow_add-self-in-Dropped c =
    let r = c.requires in
    omega (arith, ap (λ (w : WordCounts). w.dropped) r.2, room_for (word_text Dropped) (word_text c.args.word) r.0 r.1 c.args.holds c.if-not-holds.false r.3 r.4)

pub overflow_add-self-in-Opaque : goal.overflow_add-self-in-Opaque
overflow_add-self-in-Opaque c =
    let r = c.requires in
    omega (arith, ap (λ (w : WordCounts). w.opaque) r.2, room_for (word_text Opaque) (word_text c.args.word) r.0 r.1 c.args.holds c.if-not-holds.false r.3 r.4)

pub overflow_add-self-in-Foreign : goal.overflow_add-self-in-Foreign
overflow_add-self-in-Foreign c =
    let r = c.requires in
    omega (arith, ap (λ (w : WordCounts). w.foreign) r.2, room_for (word_text Foreign) (word_text c.args.word) r.0 r.1 c.args.holds c.if-not-holds.false r.3 r.4)

pub overflow_add-self-in-Rest : goal.overflow_add-self-in-Rest
overflow_add-self-in-Rest c =
    let r = c.requires in
    omega (arith, ap (λ (w : WordCounts). w.rest) r.2, room_for (word_text Rest) (word_text c.args.word) r.0 r.1 c.args.holds c.if-not-holds.false r.3 r.4)

pub overflow_add-self-in-Open : goal.overflow_add-self-in-Open
overflow_add-self-in-Open c =
    let r = c.requires in
    omega (arith, ap (λ (w : WordCounts). w.incomplete) r.2, room_for (word_text Open) (word_text c.args.word) r.0 r.1 c.args.holds c.if-not-holds.false r.3 r.4)

pub overflow_add-self-in-Early : goal.overflow_add-self-in-Early
overflow_add-self-in-Early c =
    let r = c.requires in
    omega (arith, ap (λ (w : WordCounts). w.early) r.2, room_for (word_text Early) (word_text c.args.word) r.0 r.1 c.args.holds c.if-not-holds.false r.3 r.4)

pub overflow_add-self-in-Late : goal.overflow_add-self-in-Late
overflow_add-self-in-Late c =
    let r = c.requires in
    omega (arith, ap (λ (w : WordCounts). w.late) r.2, room_for (word_text Late) (word_text c.args.word) r.0 r.1 c.args.holds c.if-not-holds.false r.3 r.4)

pub overflow_add-self-in-Outside : goal.overflow_add-self-in-Outside
overflow_add-self-in-Outside c =
    let r = c.requires in
    omega (arith, ap (λ (w : WordCounts). w.outside) r.2, room_for (word_text Outside) (word_text c.args.word) r.0 r.1 c.args.holds c.if-not-holds.false r.3 r.4)

pub overflow_add-self-in-Refused : goal.overflow_add-self-in-Refused
overflow_add-self-in-Refused c =
    let r = c.requires in
    omega (arith, ap (λ (w : WordCounts). w.refused) r.2, room_for (word_text Refused) (word_text c.args.word) r.0 r.1 c.args.holds c.if-not-holds.false r.3 r.4)

pub overflow_add-self-in-Stray : goal.overflow_add-self-in-Stray
overflow_add-self-in-Stray c =
    let r = c.requires in
    omega (arith, ap (λ (w : WordCounts). w.stray) r.2, room_for (word_text Stray) (word_text c.args.word) r.0 r.1 c.args.holds c.if-not-holds.false r.3 r.4)

pub overflow_add-self-in-Long : goal.overflow_add-self-in-Long
overflow_add-self-in-Long c =
    let r = c.requires in
    omega (arith, ap (λ (w : WordCounts). w.long) r.2, room_for (word_text Long) (word_text c.args.word) r.0 r.1 c.args.holds c.if-not-holds.false r.3 r.4)

pub overflow_add-self-in-Tail : goal.overflow_add-self-in-Tail
overflow_add-self-in-Tail c =
    let r = c.requires in
    omega (arith, ap (λ (w : WordCounts). w.tail) r.2, room_for (word_text Tail) (word_text c.args.word) r.0 r.1 c.args.holds c.if-not-holds.false r.3 r.4)

pub returns-in-Skip-clause-counted : goal.returns-in-Skip-clause-counted
returns-in-Skip-clause-counted c = λ lines more is one. ap (with_one Skip) is ∙ counted Skip c.args.word lines more c.args.holds c.in-Skip.is c.if-not-holds.false one

pub returns-in-Gap-clause-counted : goal.returns-in-Gap-clause-counted
returns-in-Gap-clause-counted c = λ lines more is one. ap (with_one Gap) is ∙ counted Gap c.args.word lines more c.args.holds c.in-Gap.is c.if-not-holds.false one

pub returns-in-Dropped-clause-counted : goal.returns-in-Dropped-clause-counted
returns-in-Dropped-clause-counted c = λ lines more is one. ap (with_one Dropped) is ∙ counted Dropped c.args.word lines more c.args.holds c.in-Dropped.is c.if-not-holds.false one

pub returns-in-Opaque-clause-counted : goal.returns-in-Opaque-clause-counted
returns-in-Opaque-clause-counted c = λ lines more is one. ap (with_one Opaque) is ∙ counted Opaque c.args.word lines more c.args.holds c.in-Opaque.is c.if-not-holds.false one

pub returns-in-Foreign-clause-counted : goal.returns-in-Foreign-clause-counted
returns-in-Foreign-clause-counted c = λ lines more is one. ap (with_one Foreign) is ∙ counted Foreign c.args.word lines more c.args.holds c.in-Foreign.is c.if-not-holds.false one

pub returns-in-Rest-clause-counted : goal.returns-in-Rest-clause-counted
returns-in-Rest-clause-counted c = λ lines more is one. ap (with_one Rest) is ∙ counted Rest c.args.word lines more c.args.holds c.in-Rest.is c.if-not-holds.false one

pub returns-in-Open-clause-counted : goal.returns-in-Open-clause-counted
returns-in-Open-clause-counted c = λ lines more is one. ap (with_one Open) is ∙ counted Open c.args.word lines more c.args.holds c.in-Open.is c.if-not-holds.false one

pub returns-in-Early-clause-counted : goal.returns-in-Early-clause-counted
returns-in-Early-clause-counted c = λ lines more is one. ap (with_one Early) is ∙ counted Early c.args.word lines more c.args.holds c.in-Early.is c.if-not-holds.false one

pub returns-in-Late-clause-counted : goal.returns-in-Late-clause-counted
returns-in-Late-clause-counted c = λ lines more is one. ap (with_one Late) is ∙ counted Late c.args.word lines more c.args.holds c.in-Late.is c.if-not-holds.false one

pub returns-in-Outside-clause-counted : goal.returns-in-Outside-clause-counted
returns-in-Outside-clause-counted c = λ lines more is one. ap (with_one Outside) is ∙ counted Outside c.args.word lines more c.args.holds c.in-Outside.is c.if-not-holds.false one

pub returns-in-Refused-clause-counted : goal.returns-in-Refused-clause-counted
returns-in-Refused-clause-counted c = λ lines more is one. ap (with_one Refused) is ∙ counted Refused c.args.word lines more c.args.holds c.in-Refused.is c.if-not-holds.false one

pub returns-in-Stray-clause-counted : goal.returns-in-Stray-clause-counted
returns-in-Stray-clause-counted c = λ lines more is one. ap (with_one Stray) is ∙ counted Stray c.args.word lines more c.args.holds c.in-Stray.is c.if-not-holds.false one

pub returns-in-Long-clause-counted : goal.returns-in-Long-clause-counted
returns-in-Long-clause-counted c = λ lines more is one. ap (with_one Long) is ∙ counted Long c.args.word lines more c.args.holds c.in-Long.is c.if-not-holds.false one

pub returns-in-Tail-clause-counted : goal.returns-in-Tail-clause-counted
returns-in-Tail-clause-counted c = λ lines more is one. ap (with_one Tail) is ∙ counted Tail c.args.word lines more c.args.holds c.in-Tail.is c.if-not-holds.false one
