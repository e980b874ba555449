-- Frames of known octets, read, written and cut. A wrong definition would fail these facts.
use Rattle.std.proofs.Common.{◌≡◌, ℕ, true, false, arith, List, [], ◌∷◌, ◌++◌, replicate, Ok, Err, refl}
use Rattle.sl_fields.specs.Fecf.{fecf_of, register_of}
use Rattle.sl_fields.specs.SegmentHeader.{SegmentFields}
use Rattle.sl_tcframe.specs.declared.tc_frame.TcSkip.TheVariants.{Fecf, Version, Spacecraft, Long, Kind, Empty, Command}
use Rattle.sl_tcframe.specs.TcFrame.{TcFormat, TcView, Content, Ad, Bd, Unlock, SetVr, is_cut, tc_frame}
use Rattle.sl_tcframe.specs.AdFrame.{FitAdFrame, ad_frame, plain_room_of, segment_room_of, segment_unit}
use Rattle.sl_tcframe.specs.TcDelimited.{tc_frames_of, tc_remainder_of}

abbrev pub format : ℕ → TcFormat
format max = record { max = max; fecf = false }

abbrev pub with_error_control : ℕ → TcFormat
with_error_control max = record { max = max; fecf = true }

abbrev shows : ℕ → Content → TcView
shows vc content = record { vc = vc; content = content }

-- a segment that is one packet of ten octets, and the frame of type AD that carries it
abbrev unit : List ℕ
unit = 0xC0 ∷ 0x10 ∷ 0x01 ∷ 0xC0 ∷ 0x00 ∷ 0x00 ∷ 0x03 ∷ 0xAA ∷ 0xBB ∷ 0xCC ∷ 0xDD ∷ []

abbrev pub carrier : List ℕ
carrier = 0x00 ∷ 0x01 ∷ 0x00 ∷ 0x0F ∷ 0x00 ∷ unit

-- frames of seven octets with this first octet
abbrev short : ℕ → List ℕ
short first = first ∷ 0x01 ∷ 0x00 ∷ 0x06 ∷ 0x00 ∷ 0xC0 ∷ 0x00 ∷ []

-- frames of type BC without error control, with this frame length field and this data field
abbrev command : ℕ → List ℕ → List ℕ
command length field = 0x30 ∷ 0x01 ∷ 0x14 ∷ length ∷ 0x09 ∷ field

pub record AreRead : Type 0 where
  pub accepted : tc_frame (format 16) 1 carrier ≡ Ok (shows 0 (Ad 0 unit))
  pub count : tc_frame (format 16) 1 (0x00 ∷ 0x01 ∷ 0xFC ∷ 0x05 ∷ 0xFE ∷ 0x45 ∷ []) ≡ Ok (shows 63 (Ad 254 (0x45 ∷ [])))
  pub bypassing : tc_frame (format 16) 1 (0x20 ∷ 0x01 ∷ 0x04 ∷ 0x05 ∷ 0xFE ∷ 0x45 ∷ []) ≡ Ok (shows 1 (Bd (0x45 ∷ [])))
  pub spare_bits : tc_frame (format 16) 1 (short 0x0C) ≡ Ok (shows 0 (Ad 0 (0xC0 ∷ 0x00 ∷ [])))
  pub unlock : tc_frame (format 16) 1 (command 0x05 (0x00 ∷ [])) ≡ Ok (shows 5 Unlock)
  pub set_value : tc_frame (format 16) 1 (command 0x07 (0x82 ∷ 0x00 ∷ 0xC8 ∷ [])) ≡ Ok (shows 5 (SetVr 200))
  pub other_middle : tc_frame (format 16) 1 (command 0x07 (0x82 ∷ 0x01 ∷ 0xC8 ∷ [])) ≡ Err Command
  pub other_code : tc_frame (format 16) 1 (command 0x07 (0x83 ∷ 0x00 ∷ 0xC8 ∷ [])) ≡ Err Command
  pub no_value : tc_frame (format 16) 1 (command 0x06 (0x82 ∷ 0x00 ∷ [])) ≡ Err Command
  pub two_values : tc_frame (format 16) 1 (command 0x08 (0x82 ∷ 0x00 ∷ 0xC8 ∷ 0xC8 ∷ [])) ≡ Err Command
  pub no_unlock : tc_frame (format 16) 1 (command 0x05 (0x01 ∷ [])) ≡ Err Command
  pub other_spacecraft : tc_frame (format 16) 1 (0x00 ∷ 0x02 ∷ 0x00 ∷ 0x06 ∷ 0x00 ∷ 0xC0 ∷ 0x00 ∷ []) ≡ Err Spacecraft
  pub other_version : tc_frame (format 16) 1 (short 0x40) ≡ Err Version
  pub version_first : tc_frame (format 16) 2 (short 0x50) ≡ Err Version
  pub greatest : tc_frame (format 17) 1 (0x00 ∷ 0x01 ∷ 0x00 ∷ 0x10 ∷ 0x00 ∷ 0xC0 ∷ replicate 11 0) ≡ Ok (shows 0 (Ad 0 (0xC0 ∷ replicate 11 0)))
  pub long : tc_frame (format 16) 1 (0x00 ∷ 0x01 ∷ 0x00 ∷ 0x10 ∷ 0x00 ∷ 0xC0 ∷ replicate 11 0) ≡ Err Long
  pub spacecraft_before_long : tc_frame (format 16) 2 (0x00 ∷ 0x01 ∷ 0x00 ∷ 0x10 ∷ 0x00 ∷ 0xC0 ∷ replicate 11 0) ≡ Err Spacecraft
  pub long_before_kind : tc_frame (format 16) 1 (0x10 ∷ 0x01 ∷ 0x00 ∷ 0x10 ∷ 0x00 ∷ 0xC0 ∷ replicate 11 0) ≡ Err Long
  pub kind : tc_frame (format 16) 1 (short 0x10) ≡ Err Kind
  pub kind_before_empty : tc_frame (format 16) 1 (0x10 ∷ 0x01 ∷ 0x00 ∷ 0x04 ∷ 0x00 ∷ []) ≡ Err Kind
  pub empty : tc_frame (format 16) 1 (0x00 ∷ 0x01 ∷ 0x00 ∷ 0x04 ∷ 0x00 ∷ []) ≡ Err Empty
  pub empty_before_command : tc_frame (format 16) 1 (0x30 ∷ 0x01 ∷ 0x00 ∷ 0x04 ∷ 0x00 ∷ []) ≡ Err Empty
  pub error_control : tc_frame (with_error_control 16) 1 (0x30 ∷ 0x01 ∷ 0x00 ∷ 0x07 ∷ 0x00 ∷ 0x00 ∷ 0x0E ∷ 0x5D ∷ []) ≡ Ok (shows 0 Unlock)
  pub wrong_error_control : tc_frame (with_error_control 16) 1 (0x30 ∷ 0x01 ∷ 0x00 ∷ 0x07 ∷ 0x00 ∷ 0x00 ∷ 0x0E ∷ 0x5E ∷ []) ≡ Err Fecf
  pub error_control_first : tc_frame (with_error_control 16) 2 (0x70 ∷ 0x01 ∷ 0x00 ∷ 0x07 ∷ 0x00 ∷ 0x00 ∷ 0x0E ∷ 0x5D ∷ []) ≡ Err Fecf

pub frames_are_read : AreRead
unfolding fecf_of register_of
frames_are_read = record {
  accepted = refl;
  count = refl;
  bypassing = refl;
  spare_bits = refl;
  unlock = refl;
  set_value = refl;
  other_middle = refl;
  other_code = refl;
  no_value = refl;
  two_values = refl;
  no_unlock = refl;
  other_spacecraft = refl;
  other_version = refl;
  version_first = refl;
  greatest = refl;
  long = refl;
  spacecraft_before_long = refl;
  long_before_kind = refl;
  kind = refl;
  kind_before_empty = refl;
  empty = refl;
  empty_before_command = refl;
  error_control = refl;
  wrong_error_control = refl;
  error_control_first = refl;
}

abbrev unsegmented : SegmentFields
unsegmented = record { flags = 3; map = 0 }

pub record AreWritten : Type 0 where
  pub whole : ad_frame (format 16) 1 0 0 (segment_unit unsegmented (0x10 ∷ 0x01 ∷ 0xC0 ∷ 0x00 ∷ 0x00 ∷ 0x03 ∷ 0xAA ∷ 0xBB ∷ 0xCC ∷ 0xDD ∷ [])) ≡ carrier
  pub no_octets : ad_frame (format 16) 1023 63 255 (segment_unit (record { flags = 1; map = 5 }) []) ≡ 0x03 ∷ 0xFF ∷ 0xFC ∷ 0x05 ∷ 0xFF ∷ 0x45 ∷ []
  pub protected : ad_frame (with_error_control 16) 1 0 0 (segment_unit unsegmented (0xAA ∷ [])) ≡ 0x00 ∷ 0x01 ∷ 0x00 ∷ 0x08 ∷ 0x00 ∷ 0xC0 ∷ 0xAA ∷ 0x33 ∷ 0x59 ∷ []

pub frames_are_written : AreWritten
unfolding fecf_of register_of
frames_are_written = record { whole = refl; no_octets = refl; protected = refl }

-- the packet of the segment, in a frame on virtual channel 5, which has no segment headers
abbrev packet : List ℕ
packet = 0x10 ∷ 0x01 ∷ 0xC0 ∷ 0x00 ∷ 0x00 ∷ 0x03 ∷ 0xAA ∷ 0xBB ∷ 0xCC ∷ 0xDD ∷ []

pub record ArePlain : Type 0 where
  pub whole : ad_frame (format 1024) 1 5 0 packet ≡ 0x00 ∷ 0x01 ∷ 0x14 ∷ 0x0E ∷ 0x00 ∷ packet
  pub read : tc_frame (format 1024) 1 (0x00 ∷ 0x01 ∷ 0x14 ∷ 0x0E ∷ 0x00 ∷ packet) ≡ Ok (shows 5 (Ad 0 packet))
  pub one_octet : ad_frame (format 16) 1023 63 255 (0xAA ∷ []) ≡ 0x03 ∷ 0xFF ∷ 0xFC ∷ 0x05 ∷ 0xFF ∷ 0xAA ∷ []
  pub as_with_a_header : ad_frame (with_error_control 16) 1 0 0 (0xC0 ∷ 0xAA ∷ []) ≡ 0x00 ∷ 0x01 ∷ 0x00 ∷ 0x08 ∷ 0x00 ∷ 0xC0 ∷ 0xAA ∷ 0x33 ∷ 0x59 ∷ []
  pub room : plain_room_of (format 16) ≡ 11
  pub room_with_error_control : plain_room_of (with_error_control 1024) ≡ 1017
  pub segment_room : segment_room_of (format 16) ≡ 10

pub frames_are_plain : ArePlain
unfolding fecf_of register_of
frames_are_plain = record { whole = refl; read = refl; one_octet = refl; as_with_a_header = refl; room = refl; room_with_error_control = refl; segment_room = refl }

pub record AreDelimited : Type 0 where
  pub one : is_cut (format 16) carrier ≡ true
  pub one_octet_more : is_cut (format 16) (carrier ++ 0x00 ∷ []) ≡ false
  pub least : is_cut (format 16) (0x00 ∷ 0x01 ∷ 0x00 ∷ 0x04 ∷ 0x00 ∷ []) ≡ true
  pub below_the_least : is_cut (format 16) (0x00 ∷ 0x01 ∷ 0x00 ∷ 0x03 ∷ []) ≡ false
  pub error_control_least : is_cut (with_error_control 16) (0x00 ∷ 0x01 ∷ 0x00 ∷ 0x05 ∷ 0x00 ∷ 0x00 ∷ []) ≡ false
  pub frames : tc_frames_of (format 16) (carrier ++ short 0x40 ++ 0x00 ∷ 0x01 ∷ []) ≡ carrier ∷ short 0x40 ∷ []
  pub remainder : tc_remainder_of (format 16) (carrier ++ short 0x40 ++ 0x00 ∷ 0x01 ∷ []) ≡ 0x00 ∷ 0x01 ∷ []
  pub frames_before_a_wrong_length : tc_frames_of (format 16) (carrier ++ 0x00 ∷ 0x01 ∷ 0x00 ∷ 0x02 ∷ carrier) ≡ carrier ∷ []
  pub remainder_from_a_wrong_length : tc_remainder_of (format 16) (carrier ++ 0x00 ∷ 0x01 ∷ 0x00 ∷ 0x02 ∷ carrier) ≡ 0x00 ∷ 0x01 ∷ 0x00 ∷ 0x02 ∷ carrier
  pub four_octets : tc_frames_of (format 16) (0x00 ∷ 0x01 ∷ 0x00 ∷ 0x03 ∷ []) ≡ []
  pub five_octets : tc_frames_of (format 16) (0x00 ∷ 0x01 ∷ 0x00 ∷ 0x04 ∷ 0x00 ∷ []) ≡ (0x00 ∷ 0x01 ∷ 0x00 ∷ 0x04 ∷ 0x00 ∷ []) ∷ []
  pub longer_than_managed : tc_frames_of (format 16) ((0x00 ∷ 0x01 ∷ 0x00 ∷ 0x10 ∷ 0x00 ∷ replicate 12 0) ++ short 0x00) ≡ (0x00 ∷ 0x01 ∷ 0x00 ∷ 0x10 ∷ 0x00 ∷ replicate 12 0) ∷ short 0x00 ∷ []
  pub wrong_length_with_error_control : tc_frames_of (with_error_control 16) (0x00 ∷ 0x01 ∷ 0x00 ∷ 0x05 ∷ 0x00 ∷ 0x00 ∷ []) ≡ []
  pub nothing : tc_frames_of (format 16) [] ≡ []

pub frames_are_delimited : AreDelimited
frames_are_delimited = record {
  one = refl;
  one_octet_more = refl;
  least = refl;
  below_the_least = refl;
  error_control_least = refl;
  frames = refl;
  remainder = refl;
  frames_before_a_wrong_length = refl;
  remainder_from_a_wrong_length = refl;
  four_octets = refl;
  five_octets = refl;
  longer_than_managed = refl;
  wrong_length_with_error_control = refl;
  nothing = refl;
}

-- the conditions on a frame that is written can be met
pub fit_frame : FitAdFrame (format 16) 1 5 0 (replicate 11 0xAA)
fit_frame = record {
  least = omega arith;
  most = omega arith;
  spacecraft_fits = omega arith;
  vc_fits = omega arith;
  ns_fits = omega arith;
  some = omega arith;
  inside = omega arith;
}
