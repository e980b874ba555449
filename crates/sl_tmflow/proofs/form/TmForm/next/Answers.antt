use Rattle.std.proofs.Common.{◌<◌, ◌≤◌, ◌++◌, ◌∙◌, [], ◌∷◌, Some, ap, arith, length, length-append, map, rules, slice_index_or, sym, subst, take}
use Rattle.std.proofs.lemmas.List.{length-map, nil_from_length}
use Rattle.std.specs.List.{AllByRecursion, concat}
use Rattle.std.specs.Vec.{vec_items}
use Rattle.sl_packet.proofs.StoppingLemmas.{on_err}
use Rattle.sl_packet.specs.Delivered.{IsDeliverable}
use Rattle.sl_tmframe.specs.PacketFrame.{field_room_of}
use Rattle.sl_tmflow.specs.Form.{fields_in, filled_up, filled_frames}
use Rattle.sl_tmflow.specs.declared.form.Heading.{Heading}
use Rattle.sl_tmflow.proofs.lemmas.Form.Field.{in_the_middle, is_short, some_octets}
use Rattle.sl_tmflow.proofs.lemmas.Form.Left.{fills_last, next_comes, none_comes, octets_come, same_heading, some_filled, some_frames, takes_field}
use Rattle.sl_tmflow.proofs.form.TmForm.next.Goals as goal

pub overflow_sub-wanted : goal.overflow_sub-wanted
overflow_sub-wanted c = omega (arith, c.from.ensures, c.room.ensures.value, c.loop-field.invariant.is.few)

pub next_field-requires : goal.next_field-requires
next_field-requires c = record { some = omega (arith, c.from.ensures, c.room.ensures.value, c.loop-field.invariant.is.few) }

pub returns-in_err-reserve-clause-full : goal.returns-in_err-reserve-clause-full
returns-in_err-reserve-clause-full c =
    let i = c.loop-field.invariant in
    on_err c.from_residual.result _ (λ reserved. omega (arith, c.in_err-reserve.ensures.full, i.capacity, ap length i.form))

pub returns-in_err-reserve-clause-pieces : goal.returns-in_err-reserve-clause-pieces
returns-in_err-reserve-clause-pieces c =
    let i = c.loop-field.invariant in
    let field = c.in-Some.field in
    on_err c.from_residual.result _
    (λ none. octets_come c.loop-field.self-inside i.is
    (omega (arith, ap length c.in-Some.ensures.packets, length-append (map vec_items field.inside.now) ((field.head.now ++ field.rest.now) ∷ map vec_items field.later.now)))
    (i.left ∙ none))

pub returns-in_err-reserve-clause-unchanged : goal.returns-in_err-reserve-clause-unchanged
returns-in_err-reserve-clause-unchanged c =
    let i = c.loop-field.invariant in
    on_err c.from_residual.result _ (i.left, c.in_err-reserve.ensures.items ∙ i.form)

pub add_packets-requires-clause-short : goal.add_packets-requires-clause-short
add_packets-requires-clause-short c =
    let field = c.in-Some.field in
    let packet = field.head.now ++ field.rest.now in
    let each = subst (AllByRecursion IsDeliverable) c.in-Some.ensures.packets c.loop-field.invariant.is.deliverable in
    is_short packet (in_the_middle (map vec_items field.inside.now) packet (map vec_items field.later.now) each).0

pub invariant_of-self-in-Some : goal.invariant_of-self-in-Some
invariant_of-self-in-Some c =
    let i = c.loop-field.invariant.is in
    let field = c.in-Some.field in
    let each = subst (AllByRecursion IsDeliverable) c.in-Some.ensures.packets i.deliverable in
    let after = c.after-self-inside.ensures in
    record {
      format = i.format;
      spacecraft = omega (arith, i.spacecraft, ap (λ (h : Heading). h.spacecraft) after);
      vc = omega (arith, i.vc, ap (λ (h : Heading). h.vc) after);
      mc_count = omega (arith, ap (λ (h : Heading). h.mc_count) after);
      vc_count = omega (arith, ap (λ (h : Heading). h.vc_count) after);
      few = c.in_ok-frames.ensures.few;
      deliverable = (in_the_middle (map vec_items field.inside.now) (field.head.now ++ field.rest.now) (map vec_items field.later.now) each).1;
      empty = i.empty;
    }

pub returns-in-Some-clause-piece : goal.returns-in-Some-clause-piece
returns-in-Some-clause-piece c = λ _.
    let f = c.loop-field.self-inside in
    let i = c.loop-field.invariant in
    let field = c.in-Some.field in
    let tail = f.tail.now in
    let inside = concat (map vec_items field.inside.now) in
    let packet = field.head.now ++ field.rest.now in
    let all = (tail ++ inside) ++ packet in
    let piece = filled_frames f.shape f.heading (Some (length tail)) all in
    let done = c.in_ok-frames.ensures in
    let few : length (tail ++ inside) < field_room_of f.shape = omega (arith, c.in-Some.ensures.filled, c.in-Some.ensures.some, length-append tail inside, c.from.ensures, c.room.ensures.value, i.is.few) in
    record {
      piece = piece;
      some = some_frames f.shape (fields_in f.shape all) f.heading (Some (length tail)) all (omega (arith, done.count, done.some));
      front = sym i.left
          ∙ takes_field f.shape f.heading c.after-self-inside.result tail (map vec_items f.packets.now) (take 8 f.delivered.now.lists) c.in_ok-frames.frames (map vec_items field.inside.now) (map vec_items field.later.now) packet c.in_ok-frames.tail.now
          (same_heading f.heading i.is.mc_count i.is.vc_count) c.in-Some.ensures.packets few done.beyond done.count done.some c.after-self-inside.ensures;
      added = done.frames ∙ ap (λ l. l ++ piece) (c.in_ok-reserve.ensures.items ∙ i.form);
    }

pub invariant_of-self-in_err-frames-2 : goal.invariant_of-self-in_err-frames-2
invariant_of-self-in_err-frames-2 c =
    let i = c.loop-field.invariant.is in
    record {
      format = i.format;
      spacecraft = i.spacecraft;
      vc = i.vc;
      mc_count = i.mc_count;
      vc_count = i.vc_count;
      few = i.few;
      deliverable = i.deliverable;
      empty = c.add_last.ensures.empty;
    }

pub returns-in_err-frames-2-clause-full : goal.returns-in_err-frames-2-clause-full
returns-in_err-frames-2-clause-full c =
    let i = c.loop-field.invariant in
    on_err c.from_residual-in_err-frames-2.result _ (λ reserved. omega (arith, reserved, c.in_err-frames-2.ensures.full, i.keeps, i.capacity, ap length i.form))

pub returns-in_err-frames-2-clause-pieces : goal.returns-in_err-frames-2-clause-pieces
returns-in_err-frames-2-clause-pieces c =
    let i = c.loop-field.invariant in
    let f = c.loop-field.self-inside in
    on_err c.from_residual-in_err-frames-2.result _
    (λ none. octets_come f i.is (omega (arith, c.are_left.ensures.some c.if-are_left.true, length-map f.packets.now vec_items)) (i.left ∙ none))

pub returns-in_err-frames-2-clause-unchanged : goal.returns-in_err-frames-2-clause-unchanged
returns-in_err-frames-2-clause-unchanged c =
    let i = c.loop-field.invariant in
    on_err c.from_residual-in_err-frames-2.result _ (i.left, c.in_err-frames-2.ensures.unchanged ∙ i.form)

pub invariant_of-self-then-are_left : goal.invariant_of-self-then-are_left
invariant_of-self-then-are_left c =
    let i = c.loop-field.invariant.is in
    let after = c.after-self-inside-then-are_left.ensures in
    record {
      format = i.format;
      spacecraft = omega (arith, i.spacecraft, ap (λ (h : Heading). h.spacecraft) after);
      vc = omega (arith, i.vc, ap (λ (h : Heading). h.vc) after);
      mc_count = omega (arith, ap (λ (h : Heading). h.mc_count) after);
      vc_count = omega (arith, ap (λ (h : Heading). h.vc_count) after);
      few = omega (arith, c.room.ensures.value, c.room.ensures.least);
      deliverable = tt;
      empty = c.add_last.ensures.empty;
    }

pub returns-then-are_left-clause-piece : goal.returns-then-are_left-clause-piece
returns-then-are_left-clause-piece c = λ _.
    let f = c.loop-field.self-inside in
    let i = c.loop-field.invariant in
    let tail = f.tail.now in
    let packets = map vec_items f.packets.now in
    let octets = tail ++ concat packets in
    let wide : 7 ≤ field_room_of f.shape = omega (arith, c.room.ensures.value, c.room.ensures.least) in
    let short : field_room_of f.shape ≤ 65536 = omega (arith, c.room.ensures.value, c.room.ensures.most) in
    let some = some_octets tail packets i.is.deliverable (omega (arith, c.are_left.ensures.some c.if-are_left.true, length-map f.packets.now vec_items)) in
    let few : length octets < field_room_of f.shape = omega (arith, c.in_default.ensures.none, length-append tail (concat packets), c.from.ensures, c.room.ensures.value, i.is.few) in
    let piece = filled_frames f.shape f.heading (Some (length tail)) (filled_up f.shape octets) in
    let done = c.in_ok-frames-2.ensures in
    record {
      piece = piece;
      some = some_frames f.shape (fields_in f.shape (filled_up f.shape octets)) f.heading (Some (length tail)) (filled_up f.shape octets) (some_filled f.shape octets wide short some);
      front = sym i.left
          ∙ fills_last f.shape f.heading c.after-self-inside-then-are_left.result tail packets (take 8 f.delivered.now.lists) c.in_ok-frames-2.frames wide short
          (same_heading f.heading i.is.mc_count i.is.vc_count) some few done.count c.after-self-inside-then-are_left.ensures;
      added = done.frames ∙ ap (λ l. l ++ piece) i.form;
    }

pub loop-field-preserved : goal.loop-field-preserved
loop-field-preserved c =
    let f = c.loop-field.self-inside in
    let i = c.loop-field.invariant in
    let none = c.are_left.ensures.none c.if-are_left.false in
    let no_tail = nil_from_length f.tail.now (omega (arith, none)) in
    let no_packets = ap (map vec_items) (nil_from_length f.packets.now (omega (arith, none))) in
    let before = rw (no_packets, no_tail) at i.left in
    let are = c.list-self-inside.ensures.packets ∙ ap (λ n. slice_index_or f.delivered.now.lists n []) c.from-then-self-lt7.ensures in
    record {
      left = rw (no_tail) (sym (next_comes f.shape f.heading 0 f.delivered.now.lists (map vec_items c.list-self-inside.result.now) c.if-self-lt7.true (omega (arith, c.list-self-inside.ensures.channels)) are) ∙ before);
      form = i.form;
      keeps = i.keeps;
      capacity = i.capacity;
      is = search rules;
    }

pub returns-else-self-lt7-clause-end : goal.returns-else-self-lt7-clause-end
returns-else-self-lt7-clause-end c = λ _.
    let f = c.loop-field.self-inside in
    let i = c.loop-field.invariant in
    let none = c.are_left.ensures.none c.if-are_left.false in
    let no_tail = nil_from_length f.tail.now (omega (arith, none)) in
    let no_packets = ap (map vec_items) (nil_from_length f.packets.now (omega (arith, none))) in
    let end = sym (rw (no_packets, no_tail) at i.left) ∙ none_comes f.shape f.heading 0 f.delivered.now.lists (omega (arith, c.if-self-lt7.false)) in
    (end, i.left ∙ end, i.form)
