-- Headers as C has them: their fields, and what writing one does.
use Rattle.std.specs.Prelude.{◌≡◌, ℕ, List}
use Rattle.sl_c.specs.Answer.{Says}
use Rattle.sl_c.specs.declared.answer.Answer.TheVariants.{Done, Field}
use Rattle.sl_fields.specs.TmHeader.{TmFields}
use Rattle.sl_c.specs.declared.headers.tm.TmHeaderFields.{TmHeaderFields}
use Rattle.sl_fields.specs.TcHeader.{TcFields}
use Rattle.sl_c.specs.declared.headers.tc.TcHeaderFields.{TcHeaderFields}
use Rattle.sl_fields.specs.SegmentHeader.{SegmentFields}
use Rattle.sl_c.specs.declared.headers.segment.SegmentHeaderFields.{SegmentHeaderFields}
use Rattle.sl_fields.specs.PacketHeader.{PacketFields}
use Rattle.sl_c.specs.declared.headers.packet.PacketHeaderFields.{PacketHeaderFields}
use Rattle.sl_fields.specs.Clcw.{ClcwFields}
use Rattle.sl_c.specs.declared.headers.clcw.ClcwWordFields.{ClcwWordFields}

-- the fields of the primary header of a TM transfer frame
abbrev pub tm_fields_of : TmHeaderFields → TmFields
tm_fields_of h =
    record {
      version = h.version;
      spacecraft = h.spacecraft;
      vc = h.vc;
      control = h.control;
      mc = h.mc;
      vcc = h.vcc;
      secondary = h.secondary;
      sync = h.sync;
      order = h.order;
      segment = h.segment;
      first = h.first;
    }

-- the fields of the primary header of a TC transfer frame
abbrev pub tc_fields_of : TcHeaderFields → TcFields
tc_fields_of h =
    record {
      version = h.version;
      bypass = h.bypass;
      command = h.command;
      spare = h.spare;
      spacecraft = h.spacecraft;
      vc = h.vc;
      length = h.length;
      ns = h.ns;
    }

-- the fields of the segment header of a TC transfer frame
abbrev pub segment_fields_of : SegmentHeaderFields → SegmentFields
segment_fields_of h =
    record {
      flags = h.flags;
      map = h.map;
    }

-- the fields of the primary header of a space packet
abbrev pub packet_fields_of : PacketHeaderFields → PacketFields
packet_fields_of h =
    record {
      version = h.version;
      kind = h.kind;
      secondary = h.secondary;
      apid = h.apid;
      flags = h.flags;
      count = h.count;
      length = h.length;
    }

-- the fields of the Communications Link Control Word
abbrev pub clcw_fields_of : ClcwWordFields → ClcwFields
clcw_fields_of h =
    record {
      word = h.word;
      version = h.version;
      status = h.status;
      cop = h.cop;
      vc = h.vc;
      spare = h.spare;
      no_rf = h.no_rf;
      no_lock = h.no_lock;
      lockout = h.lockout;
      wait = h.wait;
      retransmit = h.retransmit;
      farm_b = h.farm_b;
      spare_end = h.spare_end;
      report = h.report;
    }

-- Where each field fits into its bits, the octets become those that are written. Else they are left as they were.
pub record WritesOctets (fits : Type 0) (written octets octets' : List ℕ) (answer : ℕ) : Type 0 where
  pub done : fits → Says answer Done × (octets' ≡ written)
  pub refused : (fits → ⊥) → Says answer Field × (octets' ≡ octets)
