use Rattle.std.proofs.Common.{arith, length-take-le, take}
use Rattle.std.specs.List.{AllByRecursion}
use Rattle.sl_fields.proofs.ListLemmas.{each-take}
use Rattle.sl_packet.specs.Delivered.{IsDeliverable}
use Rattle.sl_tmflow.specs.FormDelivery.{IsFormat}
use Rattle.sl_tmflow.proofs.lemmas.Form.Delivery.{delivers, short_room, wide_room}
use Rattle.sl_tmflow.proofs.lemmas.Form.Left.{all_left}
use Rattle.sl_tmflow.proofs.form.TmForm.new.Goals.{After-len}
use Rattle.sl_tmflow.proofs.form.TmForm.new.Goals as goal

format_is : (c : After-len) → IsFormat c.args.shape.now
format_is c = record { least = omega (arith, c.len.ensures.value, c.len.ensures.least); most = omega (arith, c.len.ensures.value, c.len.ensures.most) }

pub returns-clause-left : goal.returns-clause-left
returns-clause-left c =
    let is = format_is (goal.at.returns-clause-left c).After-len in
    rw (c.list.ensures.packets)
    (all_left c.args.shape.now c.args.spacecraft c.args.delivered.now.lists (omega (arith, wide_room c.args.shape.now is)) (omega (arith, short_room c.args.shape.now is)))

pub returns-clause-delivers : goal.returns-clause-delivers
returns-clause-delivers c =
    let lists = c.args.delivered.now.lists in
    let eight = length-take-le 8 lists (omega (arith, c.list.ensures.channels)) in
    delivers c.args.shape.now c.args.spacecraft (take 8 lists) (format_is (goal.at.returns-clause-delivers c).After-len) c.requires.spacecraft
    (record { eight = eight; each = each-take (AllByRecursion IsDeliverable) 8 lists c.list.ensures.each_deliverable })
