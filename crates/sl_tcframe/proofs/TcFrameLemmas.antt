-- A frame that is read from its octets, part by part.
use Rattle.std.proofs.Common.{◌≡◌, ◌==◌, ◌&&◌, ℕ, ◌-◌, Bool, true, false, not, if◌then◌else◌, List, [], ◌∷◌, length, take, drop, Option, Some, None, unwrap_or, Ok, Err, suc, sym, ◌∙◌, ap, refl, arith, length-drop}
use Rattle.std.proofs.lemmas.Bool.{ne_eqb}
use Rattle.sl_fields.specs.TcHeader.{TcFields}
use Rattle.sl_tcframe.specs.declared.tc_frame.TcSkip.{TcSkip}
use Rattle.sl_tcframe.specs.declared.tc_frame.TcSkip.TheVariants.{Command, Empty, Kind}
use Rattle.sl_tcframe.specs.TcFrame.{TcFormat, Content, tc_header_of, tc_parts_of, command_of, unit_content, content_of, early_reason, late_reason, read_as, tc_frame}

-- the data field that the code takes is the frame's
pub field_lies : (frame : List ℕ) (last : ℕ) → take (length (drop 5 frame) - last) (drop 5 frame) ≡ take (length frame - 5 - last) (drop 5 frame)
field_lies frame last = ap (λ n. take (n - last) (drop 5 frame)) (length-drop 5 frame)

-- a content rules the late reasons out
ruled_out_by : (bypass command : Bool) (unit : Option Content) (field : List ℕ) (content : Content) → (field ≡ [] → unit ≡ None)
    → (if not command then unit else if bypass then command_of field else None) ≡ Some content
    → (if not bypass && command then Some Kind else if length field == 0 then Some Empty else None) ≡ None
ruled_out_by true true unit [] content empty is = cc
ruled_out_by true true unit (octet ∷ octets) content empty is = rw (ne_eqb (suc (length octets)) 0 (λ e. omega (arith, e))) refl
ruled_out_by true false unit [] content empty is = let none = empty refl in cc
ruled_out_by true false unit (octet ∷ octets) content empty is = rw (ne_eqb (suc (length octets)) 0 (λ e. omega (arith, e))) refl
ruled_out_by false true unit field content empty is = cc
ruled_out_by false false unit [] content empty is = let none = empty refl in cc
ruled_out_by false false unit (octet ∷ octets) content empty is = rw (ne_eqb (suc (length octets)) 0 (λ e. omega (arith, e))) refl

ruled_out : (h : TcFields) (field : List ℕ) (content : Content) → content_of h field ≡ Some content → late_reason h field ≡ None
ruled_out h field content is = ruled_out_by h.bypass h.command (unit_content h field) field content (λ none. rw none refl) is

-- without a content a frame is skipped for the first of the late reasons, and else for `Command`
skipped : (reason : Option TcSkip) (h : TcFields) → Err (unwrap_or reason Command) ≡ read_as reason h None
skipped (Some reason) h = refl
skipped None h = refl

module _ (format : TcFormat) (spacecraft : ℕ) (frame field : List ℕ) (h : TcFields) (header : h ≡ tc_header_of frame) (lies : field ≡ (tc_parts_of format frame).field) (kept : early_reason format spacecraft frame ≡ late_reason h (tc_parts_of format frame).field) where
  -- `read_as` of what was found is how the frame is read
  read_with : (reason : Option TcSkip) (found : Option Content) → reason ≡ late_reason h field → found ≡ content_of h field → read_as reason h found ≡ tc_frame format spacecraft frame
  read_with reason found late carried =
      ap (λ r. read_as r h found) (late ∙ ap (late_reason h) lies ∙ sym kept)
      ∙ ap (λ g. read_as (early_reason format spacecraft frame) g found) header
      ∙ ap (read_as (early_reason format spacecraft frame) (tc_header_of frame)) (carried ∙ ap (λ g. content_of g field) header ∙ ap (content_of (tc_header_of frame)) lies)

  pub read_content : (vc : ℕ) (content : Content) → vc ≡ h.vc → Some content ≡ content_of h field → Ok (record { vc = vc; content = content }) ≡ tc_frame format spacecraft frame
  read_content vc content same carried =
      ap (λ (n : ℕ). Ok (record { vc = n; content = content })) same
      ∙ read_with None (Some content) (sym (ruled_out h field content (sym carried))) carried

  pub read_none : None ≡ content_of h field → Err (unwrap_or (late_reason h field) Command) ≡ tc_frame format spacecraft frame
  read_none carried = skipped (late_reason h field) h ∙ read_with (late_reason h field) None refl carried
