-- What waits, as packets with their numbers. Contracts of private functions and the view of `Left` cite this.
use Rattle.std.specs.Prelude.{ℕ, List}
use Rattle.sl_pair.specs.Placed.{Placed}
use Rattle.sl_pair.specs.declared.waiting.Place.{Place}

-- a packet at the place at which it waits
abbrev pub placed_at : List ℕ → Place → Placed
placed_at packet place = record { packet = packet; number = place.number; apid_number = place.apid_number }
