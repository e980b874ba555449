-- A frame that is read from its octets, part by part.
use Rattle.std.proofs.Common.{◌≡◌, ℕ, ◌+◌, ◌-◌, ◌≤◌, Bool, true, false, List, length, take, drop, Option, Some, None, Ok, refl, sym, ◌∙◌, ap, arith, if◌then◌else◌, length-drop, length-take-le}
use Rattle.std.proofs.lemmas.List.{drop-drop, drop-take, take-take}
use Rattle.sl_fields.specs.FecfField.{fecf_len}
use Rattle.sl_fields.specs.TmHeader.{TmFields}
use Rattle.sl_fields.proofs.FecfLemmas.{fecf_len_le}
use Rattle.sl_tmframe.specs.TmFrame.{TmFormat, TmView, DataField, tm_header_of, content_of_field, view_of, skip_reason, read_as, tm_frame}

-- In the lemmas on where parts lie, a frame ends with a frame error control field of `fecf_size` octets. `between` are
-- the octets between it and the primary header, and end with an operational control field of `control_size` octets.

-- the data field, taken from `between` and from the frame
field_lies : (frame between : List ℕ) (fecf_size control_size : ℕ) → between ≡ take (length (drop 6 frame) - fecf_size) (drop 6 frame)
    → take (length between - control_size) between ≡ take (length frame - 6 - control_size - fecf_size) (drop 6 frame)
field_lies frame between fecf_size control_size is_between =
    let behind = length-drop 6 frame in
    let long : length between ≡ length (drop 6 frame) - fecf_size = ap length is_between ∙ length-take-le (length (drop 6 frame) - fecf_size) (drop 6 frame) (omega arith) in
    let same : length between - control_size ≡ length frame - 6 - control_size - fecf_size = omega arith in
    ap (take (length between - control_size)) is_between ∙ take-take (length between - control_size) (length (drop 6 frame) - fecf_size) (drop 6 frame) (omega arith)
    ∙ ap (λ n. take n (drop 6 frame)) same

-- the operational control field, taken from `between` and from the frame
control_octets_lie : (frame between : List ℕ) (fecf_size control_size : ℕ) → 6 + control_size + fecf_size ≤ length frame → between ≡ take (length (drop 6 frame) - fecf_size) (drop 6 frame)
    → drop (length between - control_size) between ≡ take control_size (drop (6 + (length frame - 6 - control_size - fecf_size)) frame)
control_octets_lie frame between fecf_size control_size long_enough is_between =
    let behind = length-drop 6 frame in
    let long : length between ≡ length (drop 6 frame) - fecf_size = ap length is_between ∙ length-take-le (length (drop 6 frame) - fecf_size) (drop 6 frame) (omega arith) in
    let from : length between - control_size ≡ length frame - 6 - control_size - fecf_size = omega arith in
    let whole : length (drop 6 frame) - fecf_size ≡ length frame - 6 - control_size - fecf_size + control_size = omega arith in
    ap (λ n. drop n between) from ∙ ap (drop (length frame - 6 - control_size - fecf_size)) (is_between ∙ ap (λ n. take n (drop 6 frame)) whole)
    ∙ drop-take (length frame - 6 - control_size - fecf_size) control_size (drop 6 frame) ∙ ap (take control_size) (drop-drop (length frame - 6 - control_size - fecf_size) 6 frame)

-- the operational control field, which has four octets where the header's flag is set, and is missing otherwise
control_lies : (flag : Bool) (frame between : List ℕ) (fecf_size : ℕ) → 10 + fecf_size ≤ length frame → between ≡ take (length (drop 6 frame) - fecf_size) (drop 6 frame)
    → (if flag then Some (drop (length between - 4) between) else None)
    ≡ (if flag then Some (take (if flag then 4 else 0) (drop (6 + (length frame - 6 - (if flag then 4 else 0) - fecf_size)) frame)) else None)
control_lies true frame between fecf_size long_enough is_between = ap Some (control_octets_lie frame between fecf_size 4 (omega arith) is_between)
control_lies false frame between fecf_size long_enough is_between = refl

-- the view of a frame under this header
abbrev view_with : TmFormat → List ℕ → TmFields → TmView
view_with format frame h =
    let control_size : ℕ = if h.control then 4 else 0 in
    let field_size : ℕ = length frame - 6 - control_size - fecf_len format.fecf in
    record {
      vc = h.vc;
      mc_count = h.mc;
      vc_count = h.vcc;
      control = if h.control then Some (take control_size (drop (6 + field_size) frame)) else None;
      field = content_of_field h (take field_size (drop 6 frame));
    }

-- the parts that the code takes give the frame's view
pub read_parts : (format : TmFormat) (spacecraft : ℕ) (frame between field : List ℕ) (h : TmFields) (control : Option (List ℕ)) (class : DataField)
    → 12 ≤ length frame
    → skip_reason format spacecraft frame ≡ None
    → h ≡ tm_header_of frame
    → between ≡ take (length (drop 6 frame) - fecf_len format.fecf) (drop 6 frame)
    → field ≡ take (length between - (if h.control then 4 else 0)) between
    → control ≡ (if h.control then Some (drop (length between - 4) between) else None)
    → class ≡ content_of_field h field
    → Ok (record { vc = h.vc; mc_count = h.mc; vc_count = h.vcc; control = control; field = class }) ≡ tm_frame format spacecraft frame
read_parts format spacecraft frame between field h control class long_enough kept header between_by field_by control_by class_by =
    let fecf_fits : fecf_len format.fecf ≤ 2 = fecf_len_le format.fecf in
    let carried = class_by ∙ ap (content_of_field h) (field_by ∙ field_lies frame between (fecf_len format.fecf) (if h.control then 4 else 0) between_by) in
    let operational = control_by ∙ control_lies h.control frame between (fecf_len format.fecf) (omega arith) between_by in
    let shown : record { vc = h.vc; mc_count = h.mc; vc_count = h.vcc; control = control; field = class } ≡ view_with format frame h = rw (carried, operational) refl in
    ap Ok (shown ∙ ap (view_with format frame) header) ∙ ap (λ reason. read_as reason (view_of format frame)) (sym kept)
