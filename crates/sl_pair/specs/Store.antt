-- The places of all copies that wait in a store. Contracts of private functions alone cite this.
use Rattle.std.specs.Prelude.{ℕ, List, ◌++◌, bytes_eq}
use Rattle.std.specs.HashMap.{get_by}
use Rattle.std.specs.Option.{option_to_list}
use Rattle.std.specs.declared.hash.BuildHasher as builder
use Rattle.std.specs.declared.hash.Hasher as hasher
use Rattle.sl_pair.specs.declared.waiting.Place.{Place}
use Rattle.sl_pair.specs.declared.waiting.Waiting.{Waiting}
use Rattle.sl_pair.specs.Queue.{queued}

-- The places at which copies of a packet wait, in the order in which they came: those in its queue, and the newest.
abbrev pub waiting_at : {S T : Type 0} {b : builder.Ghosts S T} {h : hasher.Ghosts T} → Waiting S T b h → List ℕ → List Place
waiting_at w packet = queued w.earlier packet ++ option_to_list (get_by (bytes_eq packet) w.newest)
