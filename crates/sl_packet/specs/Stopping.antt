-- How a list of packets is handed over to a sink: the whole list, or the first packets of the list
-- where the handing over stops with a `FlowFault`. The contracts of `sl_tmflow` and `sl_tcflow` cite
-- these definitions. They stand here since both crates build on this one. No contract of this crate
-- cites them; that of `hand_over` has a `SinkFault`, and states itself what is handed over.
use Rattle.std.specs.Prelude.{◌≡◌, ℕ, List, ◌++◌, length, Result, OnOk, IfOk, IfErr}
use Rattle.sl_packet.specs.Packets.{only_idle, without_idle}
use Rattle.sl_packet.specs.Sink.{TakesAll, StopsTaking, one_more}
use Rattle.sl_packet.specs.declared.flow_fault.FlowFault.{FlowFault}
use Rattle.sl_packet.specs.declared.flow_fault.FlowFault.TheVariants.{Memory, Sink, Failed}
use Rattle.sl_packet.specs.declared.sink.SinkFault.{SinkFault}

-- The sink's count of refused packets after a fault: one more where the sink refused a packet,
-- unless the count was at its greatest, and the same as before otherwise. A call that returns `Failed`
-- has handed over nothing, so the count stays.
abbrev pub CountsFault : {S : Type 0} → (S → ℕ) → S → FlowFault → S → Type 0
CountsFault failures old Memory new = failures new ≡ failures old
CountsFault failures old (Sink fault) new = failures new ≡ one_more (failures old)
CountsFault failures old Failed new = failures new ≡ failures old

module _ {S : Type 0} (taking : S → ℕ → List ℕ → S → Type 0) where
  -- the sink accepted the first packets of the list, and the others weren't handed over
  pub record TakesSome (old : S) (channel : ℕ) (packets : List (List ℕ)) (new : S) : Type 0 where
    pub accepted : List (List ℕ)
    pub later : List (List ℕ)
    pub in_order : packets ≡ accepted ++ later
    pub takes : TakesAll taking old channel accepted new

  module _ (failing : S → ℕ → List ℕ → SinkFault → S → Type 0) (failures : S → ℕ) where
    -- The handing over stopped with a fault. Where memory was refused, the sink accepted the first
    -- packets of the list and refused none. Where the sink refused a packet, it accepted the
    -- packets before this one. `Failed` isn't among its faults: no handing over stops with it, since
    -- a call that returns `Failed` hands over nothing.
    abbrev pub IsStopped : S → ℕ → List (List ℕ) → FlowFault → S → Type 0
    IsStopped old channel packets Memory new = TakesSome old channel packets new × (failures new ≡ failures old)
    IsStopped old channel packets (Sink fault) new =
        StopsTaking taking failing old channel packets fault new × (failures new ≡ one_more (failures old))
    IsStopped old channel packets Failed new = ⊥

    -- What a step, the processing of one frame, hands over of the packets that end in the step
    -- (`ended`, with the idle ones). On Ok the step has handed over those that aren't idle, in order,
    -- and has counted both kinds: `counts` gives the two numbers of what the step returns. At a fault
    -- `IsStopped` says how far the step came. Only contracts of private functions cite this record.
    pub record HandsOver {X : Type 0} (counts : X → ℕ × ℕ) (old : S) (channel : ℕ) (ended : List (List ℕ))
        (result : Result X FlowFault) (new : S) : Type 0 where
      pub accepted : OnOk result (TakesAll taking old channel (without_idle ended) new)
      pub kept : OnOk result (failures new ≡ failures old)
      pub packets : IfOk result (λ step. (counts step).0 ≡ length (without_idle ended))
      pub idle : IfOk result (λ step. (counts step).1 ≡ length (only_idle ended))
      pub stopped : IfErr result (λ flow. IsStopped old channel (without_idle ended) flow new)
