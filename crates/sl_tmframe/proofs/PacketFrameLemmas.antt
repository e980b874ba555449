-- A frame of packets, as it is made and as it is read back.
use Rattle.std.proofs.Common.{◌≡◌, ℕ, ◌<◌, ◌≤◌, ◌==◌, not, List, [], ◌++◌, length, Option, Some, None, IfSome, Ok, unwrap_or, if◌then◌else◌, refl, sym, ◌∙◌, ap, arith, append-nil, length-append}
use Rattle.std.proofs.lemmas.Bool.{eq-eqb, ne_eqb, lt-ltb}
use Rattle.sl_fields.specs.FecfField.{fecf_part, fecf_len, with_fecf}
use Rattle.sl_fields.specs.Field.{packed}
use Rattle.sl_fields.specs.TmHeader.{TmFields, FitsTmHeader, packets_header, tm_header, tm_fields, tm_octets}
use Rattle.sl_fields.proofs.FecfLemmas.{fecf_len_le, length-fecf_part, with_fecf_is_good}
use Rattle.sl_fields.proofs.HeaderLayout.{reads_back}
use Rattle.sl_fields.proofs.Octets.{length-octets_of}
use Rattle.sl_fields.proofs.Packing.{packed_lt}
use Rattle.sl_fields.proofs.TmHeaderLemmas.{tm_layout}
use Rattle.sl_tmframe.specs.TmFrame.{TmFormat, TmParts, TmView, DataField, Packets, tm_header_of, tm_parts_of, skip_reason, content_of_field, view_of, read_as, tm_frame}
use Rattle.sl_tmframe.specs.PacketFrame.{FitFrame, field_room_of, pointer_value, packet_frame, packet_view}
use Rattle.sl_tmframe.specs.declared.tm_frame.TmSkip.{TmSkip}
use Rattle.sl_tmframe.specs.declared.tm_frame.TmSkip.TheVariants.{Fecf, Version, Spacecraft}
use Rattle.sl_tmframe.proofs.PartLemmas.{parts_once}

-- the first header pointer of a frame that is made: 2047 for `None`
pub pointer_is : (first : Option ℕ) → unwrap_or first 2047 ≡ pointer_value first
pointer_is None = refl
pointer_is (Some first) = refl

-- a frame has the length of its format
pub with_fecf_whole : (format : TmFormat) (header field : List ℕ) → 8 ≤ format.len → length header ≡ 6 → length field ≡ field_room_of format
    → length (with_fecf format.fecf (header ++ field)) ≡ format.len
with_fecf_whole format header field least six fills =
    let last : fecf_len format.fecf ≤ 2 = fecf_len_le format.fecf in
    omega (
      arith,
      length-append (header ++ field) (fecf_part format.fecf (header ++ field)),
      length-append header field,
      length-fecf_part format.fecf (header ++ field),
    )

pointer_lt : (first : Option ℕ) (room : ℕ) → room ≤ 2042 → IfSome first (λ offset. offset < room) → pointer_value first < 2048
pointer_lt None room most inside = omega arith
pointer_lt (Some first) room most inside = omega arith

-- the pointer is read as it was written
class_is : (spacecraft vc mc vcc : ℕ) (first : Option ℕ) (field : List ℕ) (room : ℕ)
    → room ≤ 2042 → length field ≡ room → IfSome first (λ offset. offset < room)
    → content_of_field (packets_header spacecraft vc mc vcc (pointer_value first)) field ≡ Packets first field
class_is spacecraft vc mc vcc None field room most fills inside = refl
class_is spacecraft vc mc vcc (Some first) field room most fills inside =
    rw (ne_eqb first 2046 (λ e. omega arith), ne_eqb first 2047 (λ e. omega arith), lt-ltb first (length field) (omega arith)) refl

-- the reason to skip a frame under this header with a right error control field
abbrev reason_by : ℕ → TmFields → Option TmSkip
reason_by spacecraft h = if not (h.version == 0) then Some Version else if not (h.spacecraft == spacecraft) then Some Spacecraft else None

-- the view of these parts, under this header
abbrev shown_by : TmFields → TmParts → TmView
shown_by h p =
    record {
      vc = h.vc;
      mc_count = h.mc;
      vc_count = h.vcc;
      control = if h.control then Some p.control else None;
      field = content_of_field h p.field;
    }

module _ (format : TmFormat) (spacecraft vc mc vcc : ℕ) (first : Option ℕ) (field : List ℕ) (fit : FitFrame format spacecraft vc mc vcc first field) where
  abbrev h : TmFields
  h = packets_header spacecraft vc mc vcc (pointer_value first)

  abbrev frame : List ℕ
  frame = packet_frame format spacecraft vc mc vcc first field

  abbrev made_of : TmParts
  made_of =
      record {
        header = tm_octets h;
        field = field;
        control = [];
        fecf = fecf_part format.fecf (tm_octets h ++ field);
      }

  header_fits : FitsTmHeader h
  header_fits = record {
    version = omega arith;
    spacecraft = let s = fit.spacecraft_fits in omega arith;
    vc = let v = fit.vc_fits in omega arith;
    mc = fit.mc_fits;
    vcc = fit.vcc_fits;
    segment = omega arith;
    first = let m = fit.most in pointer_lt first (field_room_of format) (omega arith) fit.points_inside;
  }

  header_back : tm_header (tm_octets h) ≡ h
  header_back = reads_back tm_layout h (packed (tm_fields h)) header_fits (packed_lt (tm_fields h) (tm_layout.fit h header_fits)) refl

  pub length-packet_frame : length frame ≡ format.len
  length-packet_frame =
      let least = fit.least in
      with_fecf_whole format (tm_octets h) field (omega arith) (length-octets_of 6 (tm_fields h)) fit.fills

  made_of_parts : tm_parts_of format frame ≡ made_of
  made_of_parts = parts_once format frame made_of (record {
    whole = length-packet_frame;
    in_order = ap (λ l. l ++ fecf_part format.fecf (tm_octets h ++ field)) (sym (append-nil (tm_octets h ++ field)));
    header = length-octets_of 6 (tm_fields h);
    control = ap (λ (g : TmFields). if g.control then 4 else 0) (sym header_back);
    fecf = length-fecf_part format.fecf (tm_octets h ++ field);
  })

  pub packet_frame_back : tm_frame format spacecraft frame ≡ Ok (packet_view vc mc vcc first field)
  packet_frame_back =
      let header : tm_header_of frame ≡ h = ap (λ (p : TmParts). tm_header p.header) made_of_parts ∙ header_back in
      let some : 0 < length (tm_octets h ++ field) = omega (arith, length-append (tm_octets h) field, length-octets_of 6 (tm_fields h)) in
      let good = with_fecf_is_good format.fecf (tm_octets h ++ field) some in
      let kept : skip_reason format spacecraft frame ≡ None =
      ap (λ bad. if bad then Some Fecf else reason_by spacecraft (tm_header_of frame)) good ∙ ap (reason_by spacecraft) header
      ∙ ap (λ same. if not same then Some Spacecraft else None) (eq-eqb spacecraft spacecraft refl) in
      let most = fit.most in
      let class = class_is spacecraft vc mc vcc first field (field_room_of format) (omega arith) fit.fills fit.points_inside in
      let shown : view_of format frame ≡ packet_view vc mc vcc first field =
      ap (λ g. shown_by g (tm_parts_of format frame)) header ∙ ap (shown_by h) made_of_parts
      ∙ ap (λ (c : DataField). record { vc = vc; mc_count = mc; vc_count = vcc; control = None; field = c }) class in
      ap (λ reason. read_as reason (view_of format frame)) kept ∙ ap Ok shown
