-- The managed parameters of a link, and what is counted in a recording, as C has them.
use Rattle.std.specs.Prelude.{ℕ, nat_lt, if◌then◌else◌, Result, Ok, Err}
use Rattle.sl_tcframe.specs.VcSetModel.{numbers_from}
use Rattle.sl_engine.specs.declared.link.managed.ManagedFault.{ManagedFault}
use Rattle.sl_engine.specs.declared.link.managed.ManagedFault.TheVariants as fault
use Rattle.sl_engine.specs.Link.Managed.{Parameters, managed_of}
use Rattle.sl_engine.specs.Link.Totals.{Counts}
use Rattle.sl_c.specs.declared.answer.Answer.{Answer}
use Rattle.sl_c.specs.declared.answer.Answer.TheVariants.{Spacecraft, TmLength, TcLength, Window, Limit, TooLong}
use Rattle.sl_c.specs.declared.link.ManagedFields.{ManagedFields}
use Rattle.sl_c.specs.declared.link.TotalsFields.{TotalsFields}

-- the parameters that C gives
abbrev pub parameters_from : ManagedFields → Parameters
parameters_from m =
    record {
      spacecraft = m.spacecraft;
      tm_length = m.tm_length;
      tm_fecf = m.tm_fecf;
      tc_max = m.tc_length;
      tc_fecf = m.tc_fecf;
      window = m.window;
      starts = m.vr;
      plain = numbers_from 0 m.plain;
      max_octets = m.limit;
    }

-- what is answered where a parameter is refused
abbrev pub refusal_of : ManagedFault → Answer
refusal_of fault.Spacecraft = Spacecraft
refusal_of fault.TmLength = TmLength
refusal_of fault.TcLength = TcLength
refusal_of fault.Window = Window
refusal_of fault.Limit = Limit

-- the parameters for recordings of `octets` octets, unless a parameter is refused or the recordings are over the limit
abbrev pub reading_under : ℕ → Result Parameters ManagedFault → Result Parameters Answer
reading_under octets (Ok p) = if nat_lt p.max_octets octets then Err TooLong else Ok p
reading_under octets (Err refused) = Err (refusal_of refused)

-- the parameters that C gives, for recordings of `octets` octets: the first that is refused is
-- answered, else that the recordings are over the limit
abbrev pub reading_of : ManagedFields → ℕ → Result Parameters Answer
reading_of m octets = reading_under octets (managed_of (parameters_from m))

-- what is counted
abbrev pub counts_of_totals : TotalsFields → Counts
counts_of_totals t =
    record {
      octets = t.octets;
      frames = t.frames;
      skipped = t.skipped;
      rest = t.rest;
      packets = t.packets;
      idle = t.idle;
      anomalies = t.anomalies;
    }
