-- A `Receiver` stands for its FARM-1s, the virtual channels without segment headers, its series that
-- are incomplete, and whether a fault came.
use Rattle.sl_tcflow.specs.Receiver.{ReceiverState}
use Rattle.sl_tcflow.specs.declared.receiver.Receiver.TheInside.{Inside}

-- what a `Receiver` stands for
abbrev pub receiver_state : Inside → ReceiverState
receiver_state r = record { farms = r.farms; plain = r.plain; series = r.series; has_failed = r.has_failed }
