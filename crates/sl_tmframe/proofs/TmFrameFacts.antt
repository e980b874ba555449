-- Frames of known octets, read, written and cut. A wrong definition would fail these facts.
use Rattle.std.proofs.Common.{◌≡◌, ℕ, true, false, arith, List, [], ◌∷◌, ◌++◌, replicate, drop, Option, Some, None, Ok, Err, refl}
use Rattle.sl_fields.specs.Fecf.{fecf_of, register_of}
use Rattle.sl_tmframe.specs.declared.tm_frame.TmSkip.TheVariants.{Fecf, Version, Spacecraft}
use Rattle.sl_tmframe.specs.TmFrame.{TmFormat, TmView, DataField, Packets, Idle, Opaque, tm_frame}
use Rattle.sl_tmframe.specs.PacketFrame.{FitFrame, packet_frame, field_room_of}
use Rattle.sl_tmframe.specs.TmDelimited.{tm_frames_of, tm_remainder_of}

abbrev format : ℕ → TmFormat
format len = record { len = len; fecf = false }

abbrev with_error_control : ℕ → TmFormat
with_error_control len = record { len = len; fecf = true }

-- a data field of 22 octets: a packet of ten octets, and an idle packet of 16 without its last four octets
abbrev packets : List ℕ
packets =
    0x00 ∷ 0x01 ∷ 0xC0 ∷ 0x00 ∷ 0x00 ∷ 0x03 ∷ 0xAA ∷ 0xBB ∷ 0xCC ∷ 0xDD
    ∷ 0x07 ∷ 0xFF ∷ 0xC0 ∷ 0x00 ∷ 0x00 ∷ 0x09 ∷ 0 ∷ 0 ∷ 0 ∷ 0 ∷ 0 ∷ 0 ∷ []

-- a data field of 26 octets: the same two packets, both whole
abbrev field : List ℕ
field = packets ++ replicate 4 0

-- a primary header with these last two octets, which have the first header pointer
abbrev header : ℕ → ℕ → List ℕ
header a b = 0x00 ∷ 0x10 ∷ 0x00 ∷ 0x00 ∷ a ∷ b ∷ []

abbrev shows : Option (List ℕ) → DataField → TmView
shows control carried = record { vc = 0; mc_count = 0; vc_count = 0; control = control; field = carried }

-- the octets of an operational control field, and a frame with it
abbrev clcw : List ℕ
clcw = 0x01 ∷ 0x00 ∷ 0x28 ∷ 0x05 ∷ []

abbrev controlled : List ℕ
controlled = 0x00 ∷ 0x11 ∷ 0x00 ∷ 0x00 ∷ 0x18 ∷ 0x00 ∷ packets ++ clcw

-- In `error_control_first` the first octet is another, so that all three reasons to skip hold.
pub record AreRead : Type 0 where
  pub packet_start : tm_frame (format 32) 1 (header 0x18 0x00 ++ field) ≡ Ok (shows None (Packets (Some 0) field))
  pub no_start : tm_frame (format 32) 1 (header 0x1F 0xFF ++ field) ≡ Ok (shows None (Packets None field))
  pub idle : tm_frame (format 32) 1 (header 0x1F 0xFE ++ field) ≡ Ok (shows None Idle)
  pub secondary_header_alone : tm_frame (format 32) 1 (header 0x98 0x00 ++ field) ≡ Ok (shows None Opaque)
  pub synchronisation_flag_alone : tm_frame (format 32) 1 (header 0x58 0x00 ++ field) ≡ Ok (shows None Opaque)
  pub opaque_before_idle : tm_frame (format 32) 1 (header 0x9F 0xFE ++ field) ≡ Ok (shows None Opaque)
  pub last_offset : tm_frame (format 32) 1 (header 0x18 0x19 ++ field) ≡ Ok (shows None (Packets (Some 25) field))
  pub past_the_field : tm_frame (format 32) 1 (header 0x18 0x1A ++ field) ≡ Ok (shows None Opaque)
  pub control : tm_frame (format 32) 1 controlled ≡ Ok (shows (Some clcw) (Packets (Some 0) packets))
  pub control_before_error_control : tm_frame (with_error_control 34) 1 (controlled ++ 0x79 ∷ 0x7B ∷ []) ≡ Ok (shows (Some clcw) (Packets (Some 0) packets))
  pub wrong_error_control : tm_frame (with_error_control 34) 1 (controlled ++ 0x79 ∷ 0x7A ∷ []) ≡ Err Fecf
  pub error_control_first : tm_frame (with_error_control 34) 2 (0x40 ∷ drop 1 (controlled ++ 0x79 ∷ 0x7B ∷ [])) ≡ Err Fecf
  pub version_before_spacecraft : tm_frame (format 32) 2 (0x40 ∷ 0x10 ∷ 0 ∷ 0 ∷ 0x18 ∷ 0 ∷ field) ≡ Err Version
  pub spacecraft : tm_frame (format 32) 2 (header 0x18 0x00 ++ field) ≡ Err Spacecraft

pub frames_are_read : AreRead
unfolding fecf_of register_of
frames_are_read = record {
  packet_start = refl;
  no_start = refl;
  idle = refl;
  secondary_header_alone = refl;
  synchronisation_flag_alone = refl;
  opaque_before_idle = refl;
  last_offset = refl;
  past_the_field = refl;
  control = refl;
  control_before_error_control = refl;
  wrong_error_control = refl;
  error_control_first = refl;
  version_before_spacecraft = refl;
  spacecraft = refl;
}

pub record AreWritten : Type 0 where
  pub start : packet_frame (format 32) 1 0 0 0 (Some 0) field ≡ header 0x18 0x00 ++ field
  pub none : packet_frame (format 32) 1 7 77 200 None field ≡ 0x00 ∷ 0x1E ∷ 77 ∷ 200 ∷ 0x1F ∷ 0xFF ∷ field
  pub error_control : packet_frame (with_error_control 34) 1 0 0 0 (Some 0) field ≡ header 0x18 0x00 ++ field ++ 0x5E ∷ 0x0C ∷ []
  pub room : field_room_of (format 32) ≡ 26
  pub room_with_error_control : field_room_of (with_error_control 2048) ≡ 2040

pub frames_are_written : AreWritten
unfolding fecf_of register_of
frames_are_written = record {
  start = refl;
  none = refl;
  error_control = refl;
  room = refl;
  room_with_error_control = refl;
}

pub record AreDelimited : Type 0 where
  pub frames : tm_frames_of 32 (controlled ++ header 0x18 0x00 ++ field ++ 0x00 ∷ 0x10 ∷ []) ≡ controlled ∷ (header 0x18 0x00 ++ field) ∷ []
  pub remainder : tm_remainder_of 32 (controlled ++ header 0x18 0x00 ++ field ++ 0x00 ∷ 0x10 ∷ []) ≡ 0x00 ∷ 0x10 ∷ []

pub frames_are_delimited : AreDelimited
frames_are_delimited = record { frames = refl; remainder = refl }

-- a frame can be made from these values
pub fits : FitFrame (with_error_control 34) 1 0 0 0 (Some 0) field
fits = record {
  least = omega arith;
  most = omega arith;
  spacecraft_fits = omega arith;
  vc_fits = omega arith;
  mc_fits = omega arith;
  vcc_fits = omega arith;
  points_inside = omega arith;
  fills = refl;
}
