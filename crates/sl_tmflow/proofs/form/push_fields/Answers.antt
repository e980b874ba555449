use Rattle.std.proofs.Common.{◌≡◌, ◌<◌, ◌≤◌, ◌*◌, ◌++◌, ◌∙◌, arith, refl, sym, ap, length, vec_len}
use Rattle.std.proofs.lemmas.List.{take-append-drop}
use Rattle.std.proofs.lemmas.Result.{err_from_is_err_and}
use Rattle.std.proofs.Math.Nat.{suc-mul}
use Rattle.sl_tmframe.specs.PacketFrame.{field_room_of}
use Rattle.sl_tmflow.specs.Form.{fields_in}
use Rattle.sl_tmflow.proofs.lemmas.Form.Frames.{pushes_next, all_pushed, counts_next, all_counted, one_more_field}
use Rattle.sl_tmflow.proofs.form.push_fields.Goals.{After-split_at}
use Rattle.sl_tmflow.proofs.form.push_fields.Goals as goal

pub loop-left-init : goal.loop-left-init
loop-left-init c = (record { frames = refl; sizes = refl }, (omega arith, (record { count = omega arith; beyond = refl; most = omega arith }, (c.requires.first, (c.requires.spacecraft, c.requires.vc)))))

-- the octets are a data field and the later ones
parts : (c : After-split_at)
    → (0 < field_room_of c.args.shape.now) × (c.loop-left.left.now ≡ c.split_at.result.0.now ++ c.split_at.result.1.now) × (length c.split_at.result.0.now ≡ field_room_of c.args.shape.now)
parts c =
    let room = c.from-field_len.ensures ∙ c.room.ensures.value in (
      omega (arith, room, c.room.ensures.least, c.from-field_len.ensures),
      rw (c.split_at.ensures.front, c.split_at.ensures.back) (sym (take-append-drop c.from-field_len.result c.loop-left.left.now)),
      c.split_at.ensures.front_len ∙ room,
    )

pub loop-left-preserved : goal.loop-left-preserved
loop-left-preserved c =
    let (roomy, divided, whole) = parts (goal.at.loop-left-preserved c).After-split_at in
    let long : 8 ≤ c.args.shape.now.len = omega (arith, c.room.ensures.value, c.room.ensures.least) in
    rw (c.after-heading.ensures) (
      pushes_next c.args.shape.now c.loop-left.heading _ _ c.loop-left.first c.loop-left.left.now c.split_at.result.0.now c.split_at.result.1.now c.loop-left.form.items c.push_tm.new.out.items
          (vec_len c.loop-left.form) (vec_len c.push_tm.new.out) roomy long divided whole c.in_ok-push_tm.ensures.added (omega arith) (omega arith) c.loop-left.invariant.0,
      (
        omega (arith, c.loop-left.invariant.1.0, c.push_tm.ensures.capacity),
        (
          counts_next c.args.shape.now c.args.packets.now.octets.now c.loop-left.left.now c.split_at.result.0.now c.split_at.result.1.now c.loop-left.frames roomy divided whole c.loop-left.invariant.1.1.0,
          (tt, c.loop-left.invariant.1.1.1.1),
        ),
      ),
    )

pub returns-in_err-push_tm-clause-full : goal.returns-in_err-push_tm-clause-full
returns-in_err-push_tm-clause-full c =
    let (roomy, divided, whole) = parts (goal.at.returns-in_err-push_tm-clause-full c).After-split_at in
    let step = ap (λ n. n * c.args.shape.now.len) (one_more_field c.args.shape.now c.loop-left.left.now c.split_at.result.0.now c.split_at.result.1.now roomy divided whole) in
    let lengths = suc-mul (fields_in c.args.shape.now c.split_at.result.1.now) c.args.shape.now.len in
    let sizes = c.loop-left.invariant.0.sizes in
    let out = err_from_is_err_and c.from_residual.result c.from_residual.ensures.1 in
    rw (out.1) (omega (arith, c.in_err-push_tm.ensures.full, c.loop-left.invariant.1.0, sizes, step, lengths))

pub returns-clause-frames : goal.returns-clause-frames
returns-clause-frames c =
    let few : length c.loop-left.left.now < field_room_of c.args.shape.now = omega (arith, c.loop-left-test.false, c.from-field_len.ensures ∙ c.room.ensures.value) in
    (all_pushed c.args.shape.now c.loop-left.heading _ _ c.loop-left.first c.loop-left.left.now c.loop-left.form.items (vec_len c.loop-left.form) few c.loop-left.invariant.0).0

pub returns-clause-size : goal.returns-clause-size
returns-clause-size c =
    let few : length c.loop-left.left.now < field_room_of c.args.shape.now = omega (arith, c.loop-left-test.false, c.from-field_len.ensures ∙ c.room.ensures.value) in
    (all_pushed c.args.shape.now c.loop-left.heading _ _ c.loop-left.first c.loop-left.left.now c.loop-left.form.items (vec_len c.loop-left.form) few c.loop-left.invariant.0).1

pub returns-clause-count : goal.returns-clause-count
returns-clause-count c =
    let few : length c.loop-left.left.now < field_room_of c.args.shape.now = omega (arith, c.loop-left-test.false, c.from-field_len.ensures ∙ c.room.ensures.value) in
    (all_counted c.args.shape.now c.args.packets.now.octets.now c.loop-left.left.now c.loop-left.frames few c.loop-left.invariant.1.1.0).0

pub returns-clause-beyond : goal.returns-clause-beyond
returns-clause-beyond c =
    let few : length c.loop-left.left.now < field_room_of c.args.shape.now = omega (arith, c.loop-left-test.false, c.from-field_len.ensures ∙ c.room.ensures.value) in
    (all_counted c.args.shape.now c.args.packets.now.octets.now c.loop-left.left.now c.loop-left.frames few c.loop-left.invariant.1.1.0).1

pub returns-clause-most : goal.returns-clause-most
returns-clause-most c = omega (arith, c.loop-left.invariant.1.1.0.most)

pub returns-clause-few : goal.returns-clause-few
returns-clause-few c = omega (arith, c.loop-left-test.false, c.from-field_len.ensures ∙ c.room.ensures.value)
