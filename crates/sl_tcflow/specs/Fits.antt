-- Lists of packets that frames without segment headers can carry, CCSDS 232.0-B.
use Rattle.std.specs.Prelude.{◌≡◌, ℕ, ◌+◌, ◌*◌, ◌<◌, ◌≤◌, true, List, [], length}
use Rattle.std.specs.List.{AllByRecursion, slice_index_or}
use Rattle.sl_tcframe.specs.AdFrame.{plain_room_of}
use Rattle.sl_tcframe.specs.TcFrame.{TcFormat}
use Rattle.sl_tcframe.specs.VcSet.{has_vc}

-- The packets of a virtual channel fit in frames without segment headers: all are on MAP 0, and
-- each has no more octets than a data field. The list of virtual channel v and MAP m has the index
-- 64 v + m.
pub record FitsOn (format : TcFormat) (lists : List (List (List ℕ))) (vc : ℕ) : Type 0 where
  pub short : AllByRecursion (λ packet. length packet ≤ plain_room_of format) (slice_index_or lists (64 * vc) [])
  pub others : (map_id : ℕ) → 0 < map_id → map_id < 64 → slice_index_or lists (64 * vc + map_id) [] ≡ []

-- the packets of each virtual channel without segment headers (`plain_vcs`) fit in its frames
abbrev pub FitsTc : TcFormat → List ℕ → List (List (List ℕ)) → Type 0
FitsTc format plain_vcs lists = (vc : ℕ) → vc < 64 → has_vc plain_vcs vc ≡ true → FitsOn format lists vc
