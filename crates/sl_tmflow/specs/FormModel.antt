-- A `TmForm` stands for the octets of its form that are still to come, and for the number of octets
-- that it has memory for.
use Rattle.std.specs.Prelude.{◌≡◌, ℕ, ◌+◌, ◌<◌, ◌≤◌, List, [], length, take, drop, map}
use Rattle.std.specs.List.{AllByRecursion}
use Rattle.std.specs.Vec.{vec_capacity, vec_items}
use Rattle.sl_packet.specs.Delivered.{IsDeliverable}
use Rattle.sl_tmframe.specs.PacketFrame.{field_room_of}
use Rattle.sl_tmflow.specs.Form.{FormState, form_left}
use Rattle.sl_tmflow.specs.FormDelivery.{IsFormat}
use Rattle.sl_tmflow.specs.declared.form.TmForm.TheInside.{Inside}

-- the octets that are still to come
abbrev pub octets_to_come : Inside → List ℕ
octets_to_come f =
    form_left f.shape f.heading (length f.tail.now) f.tail.now (map vec_items f.packets.now)
    (drop (f.heading.vc + 1) (take 8 f.delivered.now.lists))

-- what a `TmForm` stands for
abbrev pub form_state : Inside → FormState
form_state f = record { left = octets_to_come f; capacity = vec_capacity f.octets }

-- The format, the spacecraft, the virtual channel and the frame counts are in range. The `tail`
-- doesn't fill a data field, the packets aren't idle, and no octets are kept.
pub record IsTmForm (f : Inside) : Type 0 where
  pub format : IsFormat f.shape
  pub spacecraft : f.heading.spacecraft ≤ 1023
  pub vc : f.heading.vc ≤ 7
  pub mc_count : f.heading.mc_count < 256
  pub vc_count : f.heading.vc_count < 256
  pub few : length f.tail.now < field_room_of f.shape
  pub deliverable : AllByRecursion IsDeliverable (map vec_items f.packets.now)
  pub empty : f.octets.items ≡ []
