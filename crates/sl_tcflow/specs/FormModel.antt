-- A `TcForm` stands for the octets of its form that are still to come.
use Rattle.std.specs.Prelude.{◌≡◌, ℕ, ◌≤◌, List, length, map}
use Rattle.std.specs.List.{AllByRecursion}
use Rattle.std.specs.Vec.{vec_items}
use Rattle.sl_packet.specs.Delivered.{IsDeliverable, channel_count, list_at}
use Rattle.sl_tcflow.specs.Fits.{FitsTc}
use Rattle.sl_tcflow.specs.Form.{IsPlace, form_left}
use Rattle.sl_tcflow.specs.declared.form.TcForm.TheInside.{Inside}

-- what a `TcForm` stands for
abbrev pub octets_to_come : Inside → List ℕ
octets_to_come f =
    form_left f.shape f.spacecraft f.starts f.plain f.delivered.now.lists f.place.channel f.place.framed f.place.ns

-- the invariant of a `TcForm`: a spacecraft of ten bits, packets that frames can carry, the place of
-- a packet or after all packets, and the packets of its channel, which aren't idle
pub record IsTcForm (f : Inside) : Type 0 where
  pub spacecraft : f.spacecraft ≤ 1023
  pub fits : FitsTc f.shape f.plain f.delivered.now.lists
  pub place : IsPlace f.delivered.now f.place.channel f.place.framed
  pub packets : map vec_items f.packets.now ≡ list_at f.delivered.now f.place.channel
  pub deliverable : AllByRecursion IsDeliverable (map vec_items f.packets.now)
  pub channels : length f.delivered.now.lists ≡ channel_count
