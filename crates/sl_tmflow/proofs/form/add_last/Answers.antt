use Rattle.std.proofs.Common.{◌≡◌, ◌<◌, ◌++◌, ◌∙◌, ap, arith, length, map}
use Rattle.std.specs.List.{concat}
use Rattle.std.specs.Vec.{vec_items}
use Rattle.sl_tmframe.specs.PacketFrame.{field_room_of}
use Rattle.sl_tmflow.specs.Form.{frames_len}
use Rattle.sl_tmflow.specs.NormalForm.{filling}
use Rattle.sl_tmflow.proofs.lemmas.Form.Frames.{small_filling}
use Rattle.sl_tmflow.proofs.form.add_last.Goals as goal

-- with the memory that is reserved, adding isn't refused any
never : goal.After-from_residual-in_err-frames → ⊥
never c =
    let format = c.args.shape.now in
    let octets = c.push_all.new.out.items in
    let value = c.room.ensures.value in
    let added : octets ≡ c.args.tail.now ++ concat (map vec_items c.args.packets.now) =
    c.in_ok-push_all.ensures.added
    ∙ ap (λ octets. octets ++ concat (map vec_items c.args.packets.now))
    (c.in_ok-extend_from_slice.ensures.items ∙ ap (λ octets. octets ++ c.args.tail.now) (c.in_ok-reserve_piece.ensures.octets ∙ c.requires.empty))
    in
    let short : length octets < field_room_of format = rw (added) c.requires.few in
    let filled = ap (frames_len format) (c.as_slice.ensures.value ∙ c.in_ok-fill_up.ensures.octets ∙ ap (λ n. octets ++ concat (filling n (length octets))) (c.from-field_len.ensures ∙ value)) in
    let small = small_filling format octets (omega (arith, value, c.room.ensures.least)) (omega (arith, value, c.room.ensures.most)) short in
    omega (arith, c.in_err-frames.ensures.full, filled, small, c.in_ok-reserve_piece.ensures.room)

pub returns-in_err-frames-clause-empty : goal.returns-in_err-frames-clause-empty
returns-in_err-frames-clause-empty c = absurd (never c)

pub returns-in_err-frames-clause-unchanged : goal.returns-in_err-frames-clause-unchanged
returns-in_err-frames-clause-unchanged c = absurd (never c)

pub returns-in_err-frames-clause-full : goal.returns-in_err-frames-clause-full
returns-in_err-frames-clause-full c = absurd (never c)
