-- Headers of known octets, computed from the definitions. A wrong bit position would fail these facts: of each header
-- they tell every flag from every other one.
use Rattle.std.proofs.Common.{◌≡◌, true, false, [], ◌∷◌, refl}
use Rattle.sl_fields.specs.TmHeader.{tm_header}
use Rattle.sl_fields.specs.Clcw.{clcw_word}
use Rattle.sl_fields.specs.PacketHeader.{packet_header}
use Rattle.sl_fields.specs.SegmentHeader.{segment_header}
use Rattle.sl_fields.specs.TcHeader.{tc_header}

pub record AreHeaders : Type 0 where
  pub telemetry :
      tm_header (0x00 ∷ 0x1D ∷ 0x4D ∷ 0xC8 ∷ 0x98 ∷ 0x19 ∷ [])
      ≡ record {
        version = 0;
        spacecraft = 1;
        vc = 6;
        control = true;
        mc = 77;
        vcc = 200;
        secondary = true;
        sync = false;
        order = false;
        segment = 3;
        first = 25;
      }
  pub mixed_telemetry :
      tm_header (0x6A ∷ 0x9B ∷ 0x01 ∷ 0xFE ∷ 0x5D ∷ 0x34 ∷ [])
      ≡ record {
        version = 1;
        spacecraft = 681;
        vc = 5;
        control = true;
        mc = 1;
        vcc = 254;
        secondary = false;
        sync = true;
        order = false;
        segment = 3;
        first = 1332;
      }
  pub greatest :
      tm_header (0xFF ∷ 0xFF ∷ 0xFF ∷ 0xFF ∷ 0xFF ∷ 0xFF ∷ [])
      ≡ record {
        version = 3;
        spacecraft = 1023;
        vc = 7;
        control = true;
        mc = 255;
        vcc = 255;
        secondary = true;
        sync = true;
        order = true;
        segment = 3;
        first = 2047;
      }
  pub control_word :
      clcw_word (0x01 ∷ 0x14 ∷ 0x28 ∷ 0x05 ∷ [])
      ≡ record {
        word = 0;
        version = 0;
        status = 0;
        cop = 1;
        vc = 5;
        spare = 0;
        no_rf = false;
        no_lock = false;
        lockout = true;
        wait = false;
        retransmit = true;
        farm_b = 0;
        spare_end = false;
        report = 5;
      }
  pub mixed_control_word :
      clcw_word (0x5B ∷ 0xA6 ∷ 0x94 ∷ 0xC3 ∷ [])
      ≡ record {
        word = 0;
        version = 2;
        status = 6;
        cop = 3;
        vc = 41;
        spare = 2;
        no_rf = true;
        no_lock = false;
        lockout = false;
        wait = true;
        retransmit = false;
        farm_b = 2;
        spare_end = false;
        report = 195;
      }
  pub other_control_word :
      clcw_word (0xB4 ∷ 0x59 ∷ 0xE2 ∷ 0x3C ∷ [])
      ≡ record {
        word = 1;
        version = 1;
        status = 5;
        cop = 0;
        vc = 22;
        spare = 1;
        no_rf = true;
        no_lock = true;
        lockout = true;
        wait = false;
        retransmit = false;
        farm_b = 1;
        spare_end = false;
        report = 60;
      }
  pub telecommand :
      tc_header (0x00 ∷ 0x01 ∷ 0x00 ∷ 0x0C ∷ 0x07 ∷ [])
      ≡ record { version = 0; bypass = false; command = false; spare = 0; spacecraft = 1; vc = 0; length = 12; ns = 7 }
  pub control_command :
      tc_header (0x30 ∷ 0x01 ∷ 0x00 ∷ 0x07 ∷ 0x00 ∷ [])
      ≡ record { version = 0; bypass = true; command = true; spare = 0; spacecraft = 1; vc = 0; length = 7; ns = 0 }
  pub bypass_telecommand :
      tc_header (0x20 ∷ 0x01 ∷ 0x04 ∷ 0x0C ∷ 0x00 ∷ [])
      ≡ record { version = 0; bypass = true; command = false; spare = 0; spacecraft = 1; vc = 1; length = 12; ns = 0 }
  pub mixed_telecommand :
      tc_header (0xBE ∷ 0xA9 ∷ 0xA6 ∷ 0xCB ∷ 0xC3 ∷ [])
      ≡ record {
        version = 2;
        bypass = true;
        command = true;
        spare = 3;
        spacecraft = 681;
        vc = 41;
        length = 715;
        ns = 195;
      }
  pub command_alone :
      tc_header (0x55 ∷ 0x56 ∷ 0x59 ∷ 0x34 ∷ 0x3C ∷ [])
      ≡ record {
        version = 1;
        bypass = false;
        command = true;
        spare = 1;
        spacecraft = 342;
        vc = 22;
        length = 308;
        ns = 60;
      }
  pub greatest_telecommand :
      tc_header (0xFF ∷ 0xFF ∷ 0xFF ∷ 0xFF ∷ 0xFF ∷ [])
      ≡ record {
        version = 3;
        bypass = true;
        command = true;
        spare = 3;
        spacecraft = 1023;
        vc = 63;
        length = 1023;
        ns = 255;
      }
  pub whole_segment :
      segment_header (0xC0 ∷ [])
      ≡ record { flags = 3; map = 0 }
  pub first_segment :
      segment_header (0x45 ∷ [])
      ≡ record { flags = 1; map = 5 }
  pub last_segment :
      segment_header (0xA9 ∷ [])
      ≡ record { flags = 2; map = 41 }
  pub greatest_segment :
      segment_header (0xFF ∷ [])
      ≡ record { flags = 3; map = 63 }
  pub telemetry_packet :
      packet_header (0x00 ∷ 0x01 ∷ 0xC0 ∷ 0x00 ∷ 0x00 ∷ 0x03 ∷ [])
      ≡ record { version = 0; kind = 0; secondary = false; apid = 1; flags = 3; count = 0; length = 3 }
  pub telecommand_packet :
      packet_header (0x10 ∷ 0x01 ∷ 0xC0 ∷ 0x00 ∷ 0x00 ∷ 0x03 ∷ [])
      ≡ record { version = 0; kind = 1; secondary = false; apid = 1; flags = 3; count = 0; length = 3 }
  pub greatest_packet :
      packet_header (0xFF ∷ 0xFF ∷ 0xFF ∷ 0xFF ∷ 0xFF ∷ 0xFF ∷ [])
      ≡ record { version = 7; kind = 1; secondary = true; apid = 2047; flags = 3; count = 16383; length = 65535 }
  pub mixed_packet :
      packet_header (0x2B ∷ 0x05 ∷ 0x4D ∷ 0x2A ∷ 0x12 ∷ 0x34 ∷ [])
      ≡ record { version = 1; kind = 0; secondary = true; apid = 773; flags = 1; count = 3370; length = 4660 }

pub headers : AreHeaders
headers = record {
  telemetry = refl;
  mixed_telemetry = refl;
  greatest = refl;
  control_word = refl;
  mixed_control_word = refl;
  other_control_word = refl;
  telecommand = refl;
  control_command = refl;
  bypass_telecommand = refl;
  mixed_telecommand = refl;
  command_alone = refl;
  greatest_telecommand = refl;
  whole_segment = refl;
  first_segment = refl;
  last_segment = refl;
  greatest_segment = refl;
  telemetry_packet = refl;
  telecommand_packet = refl;
  greatest_packet = refl;
  mixed_packet = refl;
}
