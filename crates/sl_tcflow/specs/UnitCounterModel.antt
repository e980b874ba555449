-- A `UnitCounter` stands for its FARM-1s, the virtual channels without segment headers, and the counts
-- of its series that are incomplete.
use Rattle.sl_tcflow.specs.UnitCounter.{CounterState}
use Rattle.sl_tcflow.specs.declared.unit_counter.UnitCounter.TheInside.{Inside}

-- what a `UnitCounter` stands for
abbrev pub counter_state : Inside → CounterState
counter_state c = record { farms = c.farms; plain = c.plain; counts = c.series }
