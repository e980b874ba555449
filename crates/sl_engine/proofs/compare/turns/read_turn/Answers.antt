use Rattle.std.proofs.Common.{◌++◌, ap, inl, inr, refl, sym, ◌∙◌, List, ℕ}
use Rattle.sl_engine.proofs.lemmas.Compare.Turns.{first_frames, frames_counted, turn_begins, turn_ends}
use Rattle.sl_engine.proofs.lemmas.Framing.Reading.{memory_of, more_came, passed_as, stops_alone, taken_first}
use Rattle.sl_engine.proofs.lemmas.Link.Answers.{either_way, passed_up}
use Rattle.sl_engine.proofs.compare.turns.read_turn.Goals as goal

pub read-requires-clause-ready : goal.read-requires-clause-ready
read-requires-clause-ready g c =
    let r = c.requires.ready in (
      r.0,
      r.1,
      passed_as (λ frames d. (refl, refl, turn_begins d (frames_counted d.delivered))) r.2,
    )

pub shape_of-recording : goal.shape_of-recording
shape_of-recording g c =
    let r = c.requires.ready in
    either_way c.read.result c.read.ensures.passed c.read.ensures.fault
    (λ taken after. sym (after r.0 r.1 (passed_as (λ frames d. (refl, refl, turn_begins d (frames_counted d.delivered))) r.2)).1.all.cut.done.0)
    (λ fault after. elim (after r.0 r.1 (passed_as (λ frames d. (refl, refl, turn_begins d (frames_counted d.delivered))) r.2)).cause [
      | inl at ↦ sym at.0.0
      | inr at ↦ sym at.0.0
    ])

pub returns-in_err-taken-clause-fault : goal.returns-in_err-taken-clause-fault
returns-in_err-taken-clause-fault g c =
    passed_up _ _ c.from_residual.ensures.1 (λ begun so_far s.
    let stop = c.in_err-taken.ensures.fault begun so_far (passed_as (λ frames d. (refl, refl, turn_begins d (frames_counted d.delivered))) s) in
    (stops_alone stop (λ frames t. t.1.0), memory_of stop (g.met.D.Followed.frames c.args.managed.now) (λ frames t. t.1.1)))

pub returns-clause-paired : goal.returns-clause-paired
returns-clause-paired g c = λ begun so_far s.
    let p = c.args.managed.now in
    let same = λ (octets : List ℕ). ap (λ (f : List ℕ → List (List ℕ)). f octets) (g.met.D.Followed.frames p) in
    let after = c.in_ok-taken.ensures.passed begun so_far (passed_as (λ frames d. (refl, refl, turn_begins d (frames_counted d.delivered))) s) in
    let t = after.1.all.cut.done in
    let its = sym after.1.all.all ∙ taken_first (more_came s after.0) g.met.D.Framer.Framer.front in
    let first = first_frames _ s.all.cut.frames _ after.1.all.cut.frames (frames_counted s.all.cut.done.delivered) its ∙ sym s.all.all ∙ same so_far in (
      after.0,
      passed_as (λ frames t. t.2.delivered) after.1,
      rw (c.pairing-1.given.1 (sym t.1)) (turn_ends c.args.pairing.now c.args.station _ _ t.2 c.take_turn.ensures.turn c.take_turn.ensures.kept first (sym after.1.all.all ∙ same (so_far ++ after.0))),
    )
