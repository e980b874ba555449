-- A `SyncMarker` stands for its octets and the number of their bits that may be wrong.
use Rattle.std.specs.Prelude.{◌*◌, ◌≤◌, length}
use Rattle.sl_sync.specs.Marker.{Marker}
use Rattle.sl_sync.specs.declared.marker.SyncMarker.TheInside.{Inside}

-- the marker that a `SyncMarker` stands for
abbrev pub marker_of : Inside → Marker
marker_of m = record { octets = m.octets.items; errors = m.errors }

-- sixteen octets at most, of whose bits a quarter may be wrong at most
pub record IsSyncMarker (m : Inside) : Type 0 where
  pub short : length m.octets.items ≤ 16
  pub few : m.errors ≤ 2 * length m.octets.items
