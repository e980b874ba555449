use Rattle.std.proofs.Common.{ap, arith, refl, sym}
use Rattle.std.proofs.lemmas.List.{length-map}
use Rattle.sl_packet.specs.Delivered.{PacketLists}
use Rattle.sl_packet.specs.DeliveredModel.{kept_lists}
use Rattle.sl_packet.proofs.SamePackets.{same_padded}
use Rattle.sl_packet.proofs.delivered.Delivered.has_same_packets.Goals as goal

pub returns : goal.returns
returns c = (
  λ is. same_padded c.args.self.now.lists (kept_lists c.self.inside) (ap (λ (d : PacketLists). d.lists) (sym c.self.view_is)) c.self.invariant.fit
      c.args.other.now.lists (kept_lists c.other.inside) (ap (λ (d : PacketLists). d.lists) (sym c.other.view_is)) c.other.invariant.fit
      c.loop-channel.channel (simp length-map (omega arith)) (simp length-map (omega arith)) c.loop-channel.invariant,
  λ same. refl,
)
