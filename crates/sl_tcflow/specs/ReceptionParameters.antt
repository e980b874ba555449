-- The managed parameters of the reception of TC frames, CCSDS 232.0-B and 232.1-B.
use Rattle.std.specs.Prelude.{ℕ, Bool, List}
use Rattle.std.specs.List.{slice_index_or}
use Rattle.sl_tcframe.specs.VcSet.{has_vc}

-- The width of FARM-1's sliding window; for each of 64 virtual channels the initial V(R), the value
-- of the receiver frame sequence number before the first frame; and the virtual channels whose
-- frames have no segment headers. A separate initial V(R) for each virtual channel is this
-- project's choice.
pub record ReceptionParameters : Type 0 where
  pub window : ℕ
  pub starts : List ℕ
  pub plain : List ℕ

-- the initial V(R) of a virtual channel
abbrev pub initial_vr : ReceptionParameters → ℕ → ℕ
initial_vr r vc = slice_index_or r.starts vc 0

-- whether a virtual channel's frames have no segment headers
abbrev pub is_plain : ReceptionParameters → ℕ → Bool
is_plain r vc = has_vc r.plain vc
