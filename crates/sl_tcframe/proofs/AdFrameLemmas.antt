-- A frame of type AD, as it is made and as it is read back.
use Rattle.std.proofs.Common.{◌≡◌, ℕ, ◌+◌, ◌-◌, ◌<◌, ◌≤◌, ◌==◌, nat_lt, true, false, not, ◌&&◌, List, [], ◌∷◌, ◌++◌, length, Option, Some, None, Ok, if◌then◌else◌, refl, sym, ◌∙◌, ap, arith, append_assoc, length-append}
use Rattle.std.proofs.lemmas.Bool.{eq-eqb, ne_eqb, le-ltb}
use Rattle.sl_fields.specs.FecfField.{fecf_part}
use Rattle.sl_fields.specs.Field.{packed}
use Rattle.sl_fields.specs.TcHeader.{TcFields, FitsTcHeader, ad_header, tc_header, tc_fields, tc_octets}
use Rattle.sl_fields.proofs.FecfLemmas.{fecf_len_le, length-fecf_part, length-with_fecf, with_fecf_is_good}
use Rattle.sl_fields.proofs.HeaderLayout.{reads_back}
use Rattle.sl_fields.proofs.Octets.{length-octets_of}
use Rattle.sl_fields.proofs.Packing.{packed_lt}
use Rattle.sl_fields.proofs.TcHeaderLemmas.{tc_layout}
use Rattle.sl_tcframe.specs.declared.tc_frame.TcSkip.{TcSkip}
use Rattle.sl_tcframe.specs.declared.tc_frame.TcSkip.TheVariants.{Fecf, Version, Spacecraft, Long, Kind, Empty}
use Rattle.sl_tcframe.specs.TcFrame.{TcFormat, TcParts, ArePartsOf, Ad, tc_header_of, tc_parts_of, is_cut, content_of, unit_content, early_reason, read_as, tc_frame}
use Rattle.sl_tcframe.specs.AdFrame.{FitAdFrame, ad_len, ad_frame}
use Rattle.sl_tcframe.proofs.PartLemmas.{parts_once, parts_cut}

-- a data field of one octet or more under a header of type AD
unit_is : (h : TcFields) (field : List ℕ) → h.bypass ≡ false → 0 < length field → unit_content h field ≡ Some (Ad h.ns field)
unit_is h [] not_bypassed some = absurd (omega arith)
unit_is h (octet ∷ octets) not_bypassed some = rw not_bypassed refl

-- the reason to skip a frame under this header, with this data field and a right error control field
abbrev reason_by : ℕ → ℕ → ℕ → TcFields → List ℕ → Option TcSkip
reason_by spacecraft max len h field =
    if not (h.version == 0) then Some Version
    else if not (h.spacecraft == spacecraft) then Some Spacecraft
    else if nat_lt max len then Some Long
    else if not h.bypass && h.command then Some Kind
    else if length field == 0 then Some Empty
    else None

module _ (format : TcFormat) (spacecraft vc ns : ℕ) (unit : List ℕ) (fit : FitAdFrame format spacecraft vc ns unit) where
  abbrev len : ℕ
  len = ad_len format (length unit)

  abbrev h : TcFields
  h = ad_header spacecraft vc (len - 1) ns

  abbrev frame : List ℕ
  frame = ad_frame format spacecraft vc ns unit

  abbrev covered : List ℕ
  covered = tc_octets h ++ unit

  abbrev made_of : TcParts
  made_of = record { header = tc_octets h; field = unit; fecf = fecf_part format.fecf covered }

  length-covered : length covered ≡ 5 + length unit
  length-covered = omega (arith, length-append (tc_octets h) unit, length-octets_of 5 (tc_fields h))

  pub length-ad_frame : length frame ≡ len
  length-ad_frame = omega (arith, length-with_fecf format.fecf covered, length-covered)

  pub within : len ≤ format.max
  within = let inside = fit.inside in let least = fit.least in omega (arith, fecf_len_le format.fecf)

  header_fits : FitsTcHeader h
  header_fits = record {
    version = omega arith;
    spare = omega arith;
    spacecraft = let s = fit.spacecraft_fits in omega arith;
    vc = let v = fit.vc_fits in omega arith;
    length = let m = fit.most in let w = within in omega arith;
    ns = fit.ns_fits;
  }

  header_back : tc_header (tc_octets h) ≡ h
  header_back = reads_back tc_layout h (packed (tc_fields h)) header_fits (packed_lt (tc_fields h) (tc_layout.fit h header_fits)) refl

  made_of_parts : ArePartsOf format frame made_of
  made_of_parts = record {
    in_order = append_assoc (tc_octets h) unit (fecf_part format.fecf covered);
    header = length-octets_of 5 (tc_fields h);
    fecf = length-fecf_part format.fecf covered;
    stated = length-ad_frame ∙ stated ∙ ap (λ (g : TcFields). g.length + 1) (sym header_back);
  }
    where
      stated : len ≡ h.length + 1
      stated = omega arith

  pub ad_frame_cut : is_cut format frame ≡ true
  ad_frame_cut = parts_cut format frame made_of made_of_parts

  pub ad_frame_back : tc_frame format spacecraft frame ≡ Ok (record { vc = vc; content = Ad ns unit })
  ad_frame_back =
      let parts = parts_once format frame made_of made_of_parts in
      let header : tc_header_of frame ≡ h = ap (λ (p : TcParts). tc_header p.header) parts ∙ header_back in
      let field : (tc_parts_of format frame).field ≡ unit = ap (λ (p : TcParts). p.field) parts in
      let good = with_fecf_is_good format.fecf covered (omega (arith, length-covered)) in
      let small : nat_lt format.max (length frame) ≡ false = le-ltb format.max (length frame) (let w = within in omega (arith, length-ad_frame)) in
      let some : (length unit == 0) ≡ false = ne_eqb (length unit) 0 (λ e. let s = fit.some in omega arith) in
      let kept : early_reason format spacecraft frame ≡ None =
      ap (λ bad. if bad then Some Fecf else reason_by spacecraft format.max (length frame) (tc_header_of frame) (tc_parts_of format frame).field) good
      ∙ ap (λ g. reason_by spacecraft format.max (length frame) g (tc_parts_of format frame).field) header
      ∙ ap (λ f. reason_by spacecraft format.max (length frame) h f) field
      ∙ rw (eq-eqb spacecraft spacecraft refl, small, some) refl in
      let carried : content_of (tc_header_of frame) (tc_parts_of format frame).field ≡ Some (Ad ns unit) =
      ap (λ g. content_of g (tc_parts_of format frame).field) header ∙ ap (content_of h) field ∙ unit_is h unit refl fit.some in
      ap (λ reason. read_as reason (tc_header_of frame) (content_of (tc_header_of frame) (tc_parts_of format frame).field)) kept
      ∙ ap (λ c. read_as None (tc_header_of frame) c) carried ∙ ap (λ g. read_as None g (Some (Ad ns unit))) header
