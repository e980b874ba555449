-- A `SeriesStore` stands for the series that are incomplete, and for how many channels it has memory.
use Rattle.std.specs.Vec.{vec_capacity}
use Rattle.sl_tcflow.specs.SeriesStore.{IncompleteSeries}
use Rattle.sl_tcflow.specs.declared.series_store.SeriesStore.TheInside.{Inside}

-- what a `SeriesStore` stands for
abbrev pub series_in : Inside → IncompleteSeries
series_in s = record { list = s.list.items; capacity = vec_capacity s.list }
