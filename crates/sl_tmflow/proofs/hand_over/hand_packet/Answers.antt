use Rattle.std.proofs.Common.{◌∙◌, [], ◌∷◌, Bool, not, if◌then◌else◌, refl, sym, ap}
use Rattle.sl_tmflow.proofs.hand_over.hand_packet.Goals as goal

-- the sink refuses the only packet
pub returns-in-Err-clause-hands_over : goal.returns-in-Err-clause-hands_over
returns-in-Err-clause-hands_over g c =
    let packet = c.args.packet.now in
    record {
      accepted = tt;
      kept = tt;
      packets = tt;
      idle = tt;
      stopped = (
        record {
          accepted = [];
          refused = packet;
          later = [];
          in_order = ap (λ (idle : Bool). if not idle then packet ∷ [] else []) (sym c.is_idle.ensures ∙ c.if-is_idle.false);
          before = c.args.sink.now;
          takes = refl;
          fails = c.in-Err.ensures.refused;
        },
        c.in-Err.ensures.counted,
      );
    }
