-- What a receiver hands over, one frame after another.
use Rattle.std.proofs.Common.{arith, ◌≡◌, ℕ, ◌==◌, if◌then◌else◌, List, [], ◌∷◌, ◌++◌, sym, ◌∙◌, ap, append_assoc, append-nil}
use Rattle.std.proofs.lemmas.Bool.Decides.{eqb_tells}
use Rattle.sl_packet.specs.Packets.{without_idle}
use Rattle.sl_packet.proofs.WithoutIdleLemmas.{without_idle-append}
use Rattle.sl_tcframe.specs.TcFrame.{TcView}
use Rattle.sl_tcflow.specs.Receiver.{DeliveredAreHandedOver, ended_by, handed_over, unit_channel}
use Rattle.sl_tcflow.specs.ReceptionParameters.{ReceptionParameters}
use Rattle.sl_tcflow.specs.Recording.{packets_of_channel}
use Rattle.sl_tcflow.proofs.lemmas.Reception.Channel.{packets_other, packets_own}

module _ (r : ReceptionParameters) (channel : ℕ) where
  abbrev delivered : List TcView → List (List ℕ)
  delivered views = without_idle (packets_of_channel r views channel)

  -- the packets that a frame adds to those of a channel
  handed_step : (views : List TcView) (next : TcView)
      → delivered (views ++ next ∷ []) ≡ delivered views ++ (if unit_channel r next == channel then without_idle (ended_by r views next) else [])
  handed_step views next = grind (arith, eqb_tells, packets_own, without_idle-append, packets_other, append-nil)

  handed_after : (views later : List TcView) → delivered views ++ handed_over r channel views later ≡ delivered (views ++ later)
  handed_after views [] = append-nil (delivered views) ∙ ap delivered (sym (append-nil views))
  handed_after views (next ∷ later) = grind (arith, append_assoc, handed_step, handed_after (views ++ next ∷ []) later)

pub delivered_are_handed_over : DeliveredAreHandedOver
delivered_are_handed_over r channel views = handed_after r channel [] views
