-- The managed parameters of a link, and which of them are refused.
use Rattle.std.specs.Prelude.{◌≡◌, ℕ, ◌%◌, ◌==◌, nat_lt, Bool, not, ◌||◌, if◌then◌else◌, List, Result, Ok, Err}
use Rattle.sl_cop.specs.Starts.{AreStarts}
use Rattle.sl_engine.specs.declared.link.managed.ManagedFault.{ManagedFault}
use Rattle.sl_engine.specs.declared.link.managed.ManagedFault.TheVariants.{Spacecraft, TmLength, TcLength, Window, Limit}
use Rattle.sl_fields.specs.Bounds.{is_outside}
use Rattle.sl_tcframe.specs.TcFrame.{TcFormat}
use Rattle.sl_tmframe.specs.TmFrame.{TmFormat}
use Rattle.sl_tcflow.specs.ReceptionParameters.{ReceptionParameters}

-- Managed parameters, accepted or not: `tc_max` is the length of the longest TC frame, `max_octets`
-- the octets that may be read of a recording.
pub record Parameters : Type 0 where
  pub spacecraft : ℕ
  pub tm_length : ℕ
  pub tm_fecf : Bool
  pub tc_max : ℕ
  pub tc_fecf : Bool
  pub window : ℕ
  -- V(R) of each virtual channel of TC frames before its first frame
  pub starts : List ℕ
  -- the virtual channels of TC frames without segment headers
  pub plain : List ℕ
  pub max_octets : ℕ

-- the parameters, or the first that is refused: a spacecraft over 1023, a TM frame length outside 32 to
-- 2048, a greatest TC frame length outside 16 to 1024, a FARM-1 window that is 0 or odd, a limit of 0
abbrev pub managed_of : Parameters → Result Parameters ManagedFault
managed_of p =
    if nat_lt 1023 p.spacecraft then Err Spacecraft
    else if is_outside 32 2048 p.tm_length then Err TmLength
    else if is_outside 16 1024 p.tc_max then Err TcLength
    else if (p.window == 0) || not (p.window % 2 == 0) then Err Window
    else if p.max_octets == 0 then Err Limit
    else Ok p

-- managed parameters that aren't refused, with an initial V(R) of one octet for each of the 64 virtual channels
pub record AreAccepted (p : Parameters) : Type 0 where
  pub allowed : managed_of p ≡ Ok p
  pub starts : AreStarts p.starts

-- the managed format of the TM frames
abbrev pub tm_format : Parameters → TmFormat
tm_format p = record { len = p.tm_length; fecf = p.tm_fecf }

-- the managed format of the TC frames
abbrev pub tc_format : Parameters → TcFormat
tc_format p = record { max = p.tc_max; fecf = p.tc_fecf }

-- the managed parameters of the reception of TC frames
abbrev pub reception_of : Parameters → ReceptionParameters
reception_of p = record { window = p.window; starts = p.starts; plain = p.plain }
