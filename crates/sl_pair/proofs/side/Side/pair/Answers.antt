use Rattle.std.proofs.Common.{◌∙◌, Some, None, ap, sym, map}
use Rattle.sl_pair.specs.Side.{place_of}
use Rattle.sl_pair.specs.Store.{waiting_at}
use Rattle.sl_pair.proofs.SideLemmas.{front_of, no_more, other_waits, own_waits, paired_in_place, still_waits, unpaired_in_place}
use Rattle.sl_pair.proofs.side.Side.pair.Goals as goal

pub returns-in-Some : goal.returns-in-Some
returns-in-Some g c = λ before others own other.
    let p = c.args.packet.now in
    let same = c.in_ok-octets.ensures in
    let n = c.in_ok-place.ensures before own.counted in
    let front = front_of before others p (waiting_at c.args.other.now.waiting) c.in_ok-octets.octets same other.waits (Some c.in-Some.counterpart) c.in-Some.ensures.taken in (
      record { counted = n.1; waits = λ q. own.waits q ∙ ap (map place_of) (sym (still_waits before others p c.in-Some.counterpart c.in_ok-place.place n.0 front q)) },
      record {
        counted = other.counted;
        waits = other_waits before others p (waiting_at c.args.other.now.waiting) (waiting_at c.take.new.self) c.in_ok-octets.octets same other.waits c.in-Some.ensures.left;
      },
      paired_in_place before others p c.in-Some.counterpart c.in_ok-place.place n.0 front,
    )

pub returns-in_ok-add-in-None : goal.returns-in_ok-add-in-None
returns-in_ok-add-in-None g c = λ before others own other.
    let p = c.args.packet.now in
    let same = c.in_ok-octets.ensures in
    let n = c.in_ok-place.ensures before own.counted in
    let front = front_of before others p (waiting_at c.args.other.now.waiting) c.in_ok-octets.octets same other.waits None c.in-None.ensures.taken in (
      record {
        counted = n.1;
        waits = own_waits before others p (no_more before others p front) c.in_ok-place.place n.0 (waiting_at c.args.self.now.waiting) (waiting_at c.add.new.self) own.waits c.in_ok-add-in-None.ensures;
      },
      record {
        counted = other.counted;
        waits = other_waits before others p (waiting_at c.args.other.now.waiting) (waiting_at c.take.new.self) c.in_ok-octets.octets same other.waits c.in-None.ensures.left;
      },
      unpaired_in_place before others p front,
    )
