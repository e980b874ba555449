-- Why the handing over of packets stopped, and what that says of the engine.
use Rattle.std.proofs.Common.{◌≡◌, ◌≢◌, ℕ, ◌<◌, ◌⊎◌, Bool, true, false, List, length, length-append, Result, Err, ◌∙◌, ap, arith}
use Rattle.sl_packet.specs.declared.flow_fault.FlowFault.{FlowFault}
use Rattle.sl_packet.specs.declared.flow_fault.FlowFault.TheVariants as flow
use Rattle.sl_packet.specs.declared.sink.SinkFault.{SinkFault}
use Rattle.sl_packet.specs.declared.sink.SinkFault.TheVariants as sink
use Rattle.sl_packet.specs.Stopping.{IsStopped}
use Rattle.sl_io.specs.declared.fault.LinkFault.TheVariants.{Memory}
use Rattle.sl_engine.specs.Link.Fault.{flow_fault}

-- where no call had failed before, that isn't why one fails now
pub never_failed : {A : Type 0} (has_failed : Bool) (result : Result A FlowFault) (fault : FlowFault) → result ≡ Err fault
    → (result ≡ Err flow.Failed → has_failed ≡ true) → has_failed ≡ false → fault ≢ flow.Failed
never_failed has_failed result fault is left working e = absurd (let failed = left (is ∙ ap Err e) in cc)

-- ---- a store of packets

module _ {S : Type 0} (taking : S → ℕ → List ℕ → S → Type 0) (failing : S → ℕ → List ℕ → SinkFault → S → Type 0) (failures : S → ℕ) where
  -- it refuses packets for want of memory alone
  pub memory_refused : ((old : S) (channel : ℕ) (packet : List ℕ) (fault : SinkFault) (new : S) → failing old channel packet fault new → fault ≡ sink.Memory)
      → (packets : List (List ℕ)) (old new : S) (channel : ℕ) (fault : FlowFault)
      → IsStopped taking failing failures old channel packets fault new → flow_fault fault ≡ Memory
  memory_refused only packets old new channel fault stopped = grind arith

  -- the fault is `Memory` of the extractor or the receiver itself, where X holds, or a packet was to be handed over
  pub incomplete_or_some : {X : Type 0} (packets : List (List ℕ)) (old new : S) (channel : ℕ) (fault : FlowFault)
      → IsStopped taking failing failures old channel packets fault new → (fault ≡ flow.Memory → X) → X ⊎ (0 < length packets)
  incomplete_or_some packets old new channel fault stopped allowed = grind (arith, length-append)
