use Rattle.std.proofs.Common.{◌<◌, ◌≤◌, ◌++◌, ◌∙◌, None, Some, length, map, refl, sym, ap, arith, length-append}
use Rattle.std.specs.List.{concat}
use Rattle.std.specs.Vec.{vec_items}
use Rattle.sl_packet.proofs.StoppingLemmas.{on_err}
use Rattle.sl_tmframe.specs.PacketFrame.{field_room_of}
use Rattle.sl_tmflow.specs.Form.{filled_frames, headed_frame}
use Rattle.sl_tmflow.proofs.lemmas.Form.Field.{headed_len}
use Rattle.sl_tmflow.proofs.lemmas.Form.Frames.{FillsUp, beyond_both, fields_of_both, frames_len_of_both, frames_of_both, small_piece}
use Rattle.sl_tmflow.proofs.form.add_packets.Goals as goal

pub push_first-requires-clause-roomy : goal.push_first-requires-clause-roomy
push_first-requires-clause-roomy c = omega (arith, c.room.ensures.value, c.room.ensures.least)

pub push_first-requires-clause-start : goal.push_first-requires-clause-start
push_first-requires-clause-start c =
    let tail = c.args.tail.now in
    let inside = concat (map vec_items c.args.field.now.inside.now) in
    omega (arith, c.room.ensures.value, c.room.ensures.most, c.requires.whole, length-append (tail ++ inside) c.args.field.now.head.now, length-append tail inside)

pub returns-in_err-frames-clause-full : goal.returns-in_err-frames-clause-full
returns-in_err-frames-clause-full c =
    let format = c.args.shape.now in
    let field = c.args.field.now in
    let octets = c.args.tail.now ++ concat (map vec_items field.inside.now) in
    let frame = headed_frame format c.args.heading (Some (length c.args.tail.now)) (octets ++ field.head.now) in
    let s : FillsUp format octets (field.head.now ++ field.rest.now) field.head.now field.rest.now =
    record { roomy = omega (arith, c.room.ensures.value, c.room.ensures.least); divided = refl; whole = c.requires.whole } in
    let few : length octets < field_room_of format = omega (arith, c.requires.whole, c.requires.some, length-append octets field.head.now) in
    let wide : 24 ≤ field_room_of format = omega (arith, c.room.ensures.value, c.room.ensures.least) in
    let narrow : field_room_of format ≤ 2042 = omega (arith, c.room.ensures.value, c.room.ensures.most) in
    let small = small_piece format octets (field.head.now ++ field.rest.now) wide narrow few c.requires.short in
    let size = headed_len format c.args.heading (Some (length c.args.tail.now)) (octets ++ field.head.now) (omega (arith, wide)) c.requires.whole in
    on_err c.from_residual-in_err-frames.result _
    (omega (arith, c.in_err-frames.ensures.full, c.push_first.ensures.capacity, ap length c.in_ok-push_first.ensures.frame, length-append c.args.form.now.items frame, size, frames_len_of_both s, small))

pub returns-clause-frames : goal.returns-clause-frames
returns-clause-frames c =
    let format = c.args.shape.now in
    let field = c.args.field.now in
    let octets = c.args.tail.now ++ concat (map vec_items field.inside.now) in
    let s : FillsUp format octets (field.head.now ++ field.rest.now) field.head.now field.rest.now =
    record { roomy = omega (arith, c.room.ensures.value, c.room.ensures.least); divided = refl; whole = c.requires.whole } in
    let middle = c.push_first.new.form.items in
    let two = c.in_ok-frames.ensures.frames ∙ ap (λ h. middle ++ filled_frames format h None field.rest.now) c.after.ensures in
    frames_of_both s c.args.heading (Some (length c.args.tail.now)) c.args.form.now.items middle c.push_fields.new.form.items c.in_ok-push_first.ensures.frame two

pub returns-clause-beyond : goal.returns-clause-beyond
returns-clause-beyond c =
    let format = c.args.shape.now in
    let field = c.args.field.now in
    let octets = c.args.tail.now ++ concat (map vec_items field.inside.now) in
    let s : FillsUp format octets (field.head.now ++ field.rest.now) field.head.now field.rest.now =
    record { roomy = omega (arith, c.room.ensures.value, c.room.ensures.least); divided = refl; whole = c.requires.whole } in
    c.in_ok-frames.ensures.beyond ∙ sym (beyond_both s)

pub returns-clause-count : goal.returns-clause-count
returns-clause-count c =
    let format = c.args.shape.now in
    let field = c.args.field.now in
    let octets = c.args.tail.now ++ concat (map vec_items field.inside.now) in
    let s : FillsUp format octets (field.head.now ++ field.rest.now) field.head.now field.rest.now =
    record { roomy = omega (arith, c.room.ensures.value, c.room.ensures.least); divided = refl; whole = c.requires.whole } in
    omega (arith, fields_of_both s, c.in_ok-frames.ensures.count)
