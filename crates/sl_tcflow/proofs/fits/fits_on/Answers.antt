use Rattle.std.proofs.Common.{◌≡◌, ◌≤◌, ◌<◌, ◌+◌, ◌*◌, ℕ, List, [], sym, subst, arith, length, vec_len}
use Rattle.std.specs.List.{AllByRecursion, slice_index_or}
use Rattle.std.specs.Vec.{vec_items}
use Rattle.sl_tcframe.specs.AdFrame.{plain_room_of}
use Rattle.sl_tcflow.proofs.lemmas.Each.{all_short, short_all}
use Rattle.sl_tcflow.proofs.lemmas.Form.Plain.{fits_by, none_by, short_by}
use Rattle.sl_tcflow.proofs.fits.fits_on.Goals as goal
use Rattle.sl_tcflow.proofs.fits.fits_on.Goals.{in-Some+else-next-channel, in_default}

pub returns-then-next-channel : goal.returns-then-next-channel
returns-then-next-channel c =
    let channel = 64 * c.from-channel.result in
    let here : channel ≡ 64 * c.args.vc = omega (arith, c.from-channel.ensures) in
    let least = c.in-Some.ensures.some in (
      λ never. absurd (cc),
      λ fits. absurd (least.some (none_by c.args.shape.now c.args.delivered.now.lists c.args.vc channel here c.in-Some.next least.after (omega (arith, c.if-next-channel.true)) fits)),
    )

pub returns : goal.returns
returns c =
    let d = c.args.delivered.now in
    let channel = 64 * c.from-channel.result in
    let here : channel ≡ 64 * c.args.vc = omega (arith, c.from-channel.ensures) in
    let room : c.plain_room.result ≡ plain_room_of c.args.shape.now = c.plain_room.ensures.value in
    let none : (other : ℕ) → channel + 1 ≤ other → other < channel + 64 → slice_index_or d.lists other [] ≡ [] =
    elim c.match-at_or_above.branch [
      | in-Some+else-next-channel w ↦ λ other low high. w.in-Some.ensures.some.least other low (omega (arith, high, w.if-next-channel.false))
      | in_default w ↦ λ other low high. w.in_default.ensures.none other low (omega (arith, high, c.ranges.vc.fits, here))
    ] in (
      λ yes. fits_by c.args.shape.now d.lists c.args.vc channel here
          (subst (λ (l : List (List ℕ)). AllByRecursion (λ (packet : List ℕ). length packet ≤ plain_room_of c.args.shape.now) l) c.list.ensures.packets
          (short_all vec_items vec_len (λ packet. omega arith) (plain_room_of c.args.shape.now) c.list.result.now
          (subst (λ (n : ℕ). AllByRecursion (λ packet. vec_len packet ≤ n) c.list.result.now) room (c.fit.ensures.0 yes)))) none,
      λ fits. c.fit.ensures.1 (subst (λ (n : ℕ). AllByRecursion (λ packet. vec_len packet ≤ n) c.list.result.now) (sym room)
          (all_short vec_items vec_len (λ packet. omega arith) (plain_room_of c.args.shape.now) c.list.result.now
          (subst (λ (l : List (List ℕ)). AllByRecursion (λ (packet : List ℕ). length packet ≤ plain_room_of c.args.shape.now) l) (sym c.list.ensures.packets)
          (short_by c.args.shape.now d.lists c.args.vc channel here fits)))),
    )
