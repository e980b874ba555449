-- The lists of packets that a store keeps: one for each channel from 0 on, up to the highest channel
-- that has needed a list.
use Rattle.std.specs.Prelude.{◌≡◌, ℕ, ◌-◌, List, [], ◌++◌, length, map, take, replicate}
use Rattle.std.specs.Vec.{vec_items}
use Rattle.std.specs.declared.vec.Vec.{Vec}
use Rattle.sl_packet.specs.Delivered.{channel_count, empty_lists}

-- the lists that vectors stand for, whatever their allocators X, Y and Z are
abbrev pub lists_in : {X Y Z : Type 0} → Vec (Vec (Vec ℕ X) Y) Z → List (List (List ℕ))
lists_in lists = map (λ list. map vec_items (vec_items list)) (vec_items lists)

-- the kept lists, and an empty list for each channel after them
unfoldable pub with_empty_lists : List (List (List ℕ)) → List (List (List ℕ))
with_empty_lists lists = take channel_count (lists ++ empty_lists)

-- the new lists are the old ones, with empty lists after them
abbrev pub IsGrown : List (List (List ℕ)) → List (List (List ℕ)) → Type 0
IsGrown old new = new ≡ old ++ replicate (length new - length old) []
