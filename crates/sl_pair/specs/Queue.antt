-- The places of copies that wait, in the queues of a store. Contracts of private functions alone cite this.
use Rattle.std.specs.Prelude.{ℕ, List, [], Option, None, Some, bytes_eq}
use Rattle.std.specs.HashMap.{HashMap, get_by}
use Rattle.std.specs.declared.collections.VecDeque.{VecDeque}
use Rattle.sl_pair.specs.declared.waiting.Place.{Place}

-- the places in a queue, none where there is no queue
abbrev pub places_in : {A : Type 0} → Option (VecDeque Place A) → List Place
places_in None = []
places_in (Some queue) = queue.items

-- the places in the queue of a packet
abbrev pub queued : {A S : Type 0} → HashMap (List ℕ) (VecDeque Place A) S → List ℕ → List Place
queued queues packet = places_in (get_by (bytes_eq packet) queues)
