-- The packets that an extractor hands over, one frame after another.
use Rattle.std.proofs.Common.{◌≡◌, ℕ, ◌==◌, not, if◌then◌else◌, List, [], ◌∷◌, ◌++◌, inl, inr, sym, ◌∙◌, ap, subst, append_assoc, append-nil}
use Rattle.std.proofs.lemmas.Bool.Decides.{eqb_tells}
use Rattle.sl_packet.specs.Packet.{is_idle_packet}
use Rattle.sl_packet.specs.Packets.{without_idle}
use Rattle.sl_tmframe.specs.TmFrame.{TmView}
use Rattle.sl_tmflow.specs.VirtualChannel.{views_on}
use Rattle.sl_tmflow.specs.Delivery.{deliveries_of, packets_delivered, packets_ending}
use Rattle.sl_tmflow.specs.Extractor.{DeliveredAreHandedOver, ended_by, handed_over}
use Rattle.sl_tmflow.specs.Loss.{HandedOverAreKept, HandedOverAreSublist}
use Rattle.sl_tmflow.specs.Recording.{packets_of_channel}
use Rattle.sl_packet.specs.Sublist.{IsSublist}
use Rattle.sl_tmflow.proofs.lemmas.Delivery.Channel.{other_seen, same_seen}
use Rattle.sl_tmflow.proofs.lemmas.Delivery.Push.{delivered_push}
use Rattle.sl_packet.proofs.WithoutIdleLemmas.{without_idle-append}
use Rattle.sl_tmflow.proofs.lemmas.Loss.Kept.{packets_are_kept, packets_are_sublist, sublist_filter}

-- the packets that a frame adds to those of a virtual channel
handed_step : (vc : ℕ) (views : List TmView) (next : TmView)
    → without_idle (packets_of_channel (views ++ next ∷ []) vc)
    ≡ without_idle (packets_of_channel views vc) ++ (if next.vc == vc then without_idle (ended_by views next) else [])
handed_step vc views next =
    elim (eqb_tells next.vc vc) [
      | inl (test, same) ↦
          let more : packets_of_channel (views ++ next ∷ []) vc ≡ packets_of_channel views vc ++ packets_ending (views_on vc views) next =
          ap (λ c. packets_delivered (deliveries_of c)) (same_seen vc views next same) ∙ delivered_push (views_on vc views) next in
          rw (test)
          (ap without_idle more ∙ without_idle-append (packets_of_channel views vc) (packets_ending (views_on vc views) next)
          ∙ ap (λ n. without_idle (packets_of_channel views vc) ++ without_idle (packets_ending (views_on n views) next)) (sym same))
      | inr (test, other) ↦
          rw (test)
          (ap (λ c. without_idle (packets_delivered (deliveries_of c))) (other_seen vc views next other) ∙ sym (append-nil (without_idle (packets_of_channel views vc))))
    ]

handed_after : (vc : ℕ) (views later : List TmView)
    → without_idle (packets_of_channel views vc) ++ handed_over vc views later ≡ without_idle (packets_of_channel (views ++ later) vc)
handed_after vc views [] =
    append-nil (without_idle (packets_of_channel views vc)) ∙ ap (λ l. without_idle (packets_of_channel l vc)) (sym (append-nil views))
handed_after vc views (next ∷ later) =
    sym (append_assoc (without_idle (packets_of_channel views vc)) (if next.vc == vc then without_idle (ended_by views next) else [])
    (handed_over vc (views ++ next ∷ []) later))
    ∙ ap (λ l. l ++ handed_over vc (views ++ next ∷ []) later) (sym (handed_step vc views next)) ∙ handed_after vc (views ++ next ∷ []) later
    ∙ ap (λ l. without_idle (packets_of_channel l vc)) (append_assoc views (next ∷ []) later)

pub delivered_are_handed_over : DeliveredAreHandedOver
delivered_are_handed_over vc views = handed_after vc [] views

pub handed_over_are_kept : HandedOverAreKept
handed_over_are_kept vc channel numbers views left =
    delivered_are_handed_over vc views ∙ ap without_idle (packets_are_kept channel numbers (views_on vc views) left)

pub handed_over_are_sublist : HandedOverAreSublist
handed_over_are_sublist vc channel numbers views left =
    let whole : List (List ℕ) = packets_delivered (deliveries_of channel) in
    subst (λ l. IsSublist l (without_idle whole)) (sym (delivered_are_handed_over vc views))
    (sublist_filter (λ packet. not (is_idle_packet packet)) (packets_of_channel views vc) whole
    (packets_are_sublist channel numbers (views_on vc views) left))
