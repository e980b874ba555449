-- Octets are skipped for the first reason that holds, or are a frame of one class.
use Rattle.std.proofs.Common.{◌≡◌, ◌≢◌, ℕ, suc, ◌+◌, ◌-◌, ◌<◌, ◌≤◌, ◌==◌, nat_lt, Bool, true, false, not, ◌&&◌, if◌then◌else◌, List, ◌++◌, length, take, drop, Option, None, Some, Result, Ok, Err, inl, inr, refl, sym, ◌∙◌, ap, subst, arith, length-append}
use Rattle.std.proofs.Math.Seq.{take-append_seam, drop-append_seam}
use Rattle.std.proofs.lemmas.Bool.{lt-ltb}
use Rattle.std.proofs.lemmas.Bool.Decides.{eqb_tells, leb_tells}
use Rattle.sl_fields.specs.Fecf.{fecf_of, fecf_is_good}
use Rattle.sl_fields.specs.FecfField.{fecf_len}
use Rattle.sl_fields.specs.Field.{number_of}
use Rattle.sl_fields.specs.TmHeader.{TmFields, tm_header}
use Rattle.sl_tmframe.specs.declared.tm_frame.TmSkip.{TmSkip}
use Rattle.sl_tmframe.specs.declared.tm_frame.TmSkip.TheVariants.{Fecf, Version, Spacecraft}
use Rattle.sl_tmframe.specs.TmFrame.{TmFormat, TmParts, ArePartsOf, HasReason, order_of, DataField, Packets, Idle, Opaque, IsOffset, PointsTo, HasClass, TmView, ShowsControl, Shows, AreReadAs, EachIsRead, IsReadOnce, tm_parts_of, skip_reason, content_of_field, view_of, read_as, tm_frame}
use Rattle.sl_tmframe.proofs.PartLemmas.{has_parts, parts_once}
use Rattle.sl_fields.proofs.Tells.{Tells, tells_other}

-- ---- the first reason

-- The test on the frame's octets decides the reason `Fecf`, which speaks of its parts. `long` is the test of the
-- length, `a` the field and `b` the remainder by the octets, `a'` and `b'` the same by the parts.
tells_wrong : (has long : Bool) (a a' b b' : ℕ) → (has ≡ true → (long ≡ true) × (a ≡ a') × (b ≡ b'))
    → Tells (has && not (long && a == b)) ((has ≡ true) × (a' ≢ b'))
tells_wrong false long a a' b b' h = λ p. cc
tells_wrong true false a a' b b' h = absurd (let never = (h refl).0 in cc)
tells_wrong true true a a' b b' h =
    let is = (h refl).1 in
    let is' = (h refl).2 in
    elim (eqb_tells a b) [
      | inl (e, same) ↦ rw e (λ (p : (true ≡ true) × (a' ≢ b')). p.1 (sym is ∙ same ∙ is'))
      | inr (e, other) ↦ rw e (refl, λ (p : a' ≡ b'). other (is ∙ p ∙ sym is'))
    ]

module _ (Has : TmSkip → Type 0) where
  abbrev IsFirst : TmSkip → Type 0
  IsFirst reason = Has reason × ((earlier : TmSkip) → order_of earlier < order_of reason → Has earlier → ⊥)

  abbrev Finds : Option TmSkip → Type 0
  Finds (Some reason) = IsFirst reason
  Finds None = (reason : TmSkip) → Has reason → ⊥

  before_fecf : (earlier : TmSkip) → order_of earlier < 1 → Has earlier → ⊥
  before_fecf Fecf less has = omega arith
  before_fecf Version less has = omega arith
  before_fecf Spacecraft less has = omega arith

  before_version : (Has Fecf → ⊥) → (earlier : TmSkip) → order_of earlier < 2 → Has earlier → ⊥
  before_version fecf Fecf less has = fecf has
  before_version fecf Version less has = omega arith
  before_version fecf Spacecraft less has = omega arith

  before_spacecraft : (Has Fecf → ⊥) → (Has Version → ⊥) → (earlier : TmSkip) → order_of earlier < 3 → Has earlier → ⊥
  before_spacecraft fecf version Fecf less has = fecf has
  before_spacecraft fecf version Version less has = version has
  before_spacecraft fecf version Spacecraft less has = omega arith

  none_holds : (Has Fecf → ⊥) → (Has Version → ⊥) → (Has Spacecraft → ⊥) → (reason : TmSkip) → Has reason → ⊥
  none_holds fecf version spacecraft Fecf has = fecf has
  none_holds fecf version spacecraft Version has = version has
  none_holds fecf version spacecraft Spacecraft has = spacecraft has

  first_found : (a b c : Bool) → Tells a (Has Fecf) → Tells b (Has Version) → Tells c (Has Spacecraft)
      → Finds (if a then Some Fecf else if b then Some Version else if c then Some Spacecraft else None)
  first_found true b c p q r = (p, before_fecf)
  first_found false true c p q r = (q, before_version p)
  first_found false false true p q r = (r, before_spacecraft p q)
  first_found false false false p q r = none_holds p q r

  one_first : (r s : TmSkip) → IsFirst r → IsFirst s → r ≡ s
  one_first Fecf Fecf p q = refl
  one_first Fecf Version p q = absurd (q.1 Fecf (omega arith) p.0)
  one_first Fecf Spacecraft p q = absurd (q.1 Fecf (omega arith) p.0)
  one_first Version Fecf p q = absurd (p.1 Fecf (omega arith) q.0)
  one_first Version Version p q = refl
  one_first Version Spacecraft p q = absurd (q.1 Version (omega arith) p.0)
  one_first Spacecraft Fecf p q = absurd (p.1 Fecf (omega arith) q.0)
  one_first Spacecraft Version p q = absurd (p.1 Version (omega arith) q.0)
  one_first Spacecraft Spacecraft p q = refl

-- ---- the class

-- the header with these three fields, so that a proof can go by their cases
abbrev header_with : Bool → Bool → ℕ → TmFields → TmFields
header_with secondary sync first h =
    record {
      version = h.version;
      spacecraft = h.spacecraft;
      vc = h.vc;
      control = h.control;
      mc = h.mc;
      vcc = h.vcc;
      secondary = secondary;
      sync = sync;
      order = h.order;
      segment = h.segment;
      first = first;
    }

class_found : (secondary sync : Bool) (first : ℕ) (h : TmFields) (field : List ℕ)
    → HasClass (header_with secondary sync first h) field (content_of_field (header_with secondary sync first h) field)
class_found true sync first h field = inl refl
class_found false true first h field = inr (inl refl)
class_found false false first h field =
    elim (eqb_tells first 2046) [
      | inl (e, idle) ↦ rw e (refl, refl, idle)
      | inr (e, other) ↦
          elim (eqb_tells first 2047) [
            | inl (e', none) ↦ rw (e, e') (refl, refl, none, refl)
            | inr (e', another) ↦
                elim (leb_tells (suc first) (length field)) [
                  | inl (l, inside) ↦ rw (e, e', l) (refl, refl, ((other, another), omega arith, refl), refl)
                  | inr (l, past) ↦ rw (e, e', l) (inr (inr ((other, another), omega arith)))
                ]
          ]
    ]

has_class : (h : TmFields) (field : List ℕ) → HasClass h field (content_of_field h field)
has_class h field = class_found h.secondary h.sync h.first h field

-- a frame that isn't opaque by its flags, with a pointer before the end, isn't opaque at all
not_opaque : (h : TmFields) (field : List ℕ) → h.secondary ≡ false → h.sync ≡ false → (IsOffset h.first → h.first < length field) → HasClass h field Opaque → ⊥
not_opaque h field secondary sync inside (inl flag) = cc
not_opaque h field secondary sync inside (inr (inl flag)) = cc
not_opaque h field secondary sync inside (inr (inr past)) = let less = inside past.0 in let long = past.1 in omega arith

-- pointer 2046 is no offset, so it is no offset past the data field
idle_inside : (pointer : ℕ) (field : List ℕ) → pointer ≡ 2046 → IsOffset pointer → pointer < length field
idle_inside pointer field idle offset = absurd (offset.0 idle)

packets_inside : (pointer : ℕ) (field : List ℕ) (first : Option ℕ) → PointsTo pointer field first → IsOffset pointer → pointer < length field
packets_inside pointer field None none offset = absurd (offset.1 none)
packets_inside pointer field (Some start) p offset = p.1

-- the pointer of a data field of packets isn't 2046
not_idle : (pointer : ℕ) (field : List ℕ) (first : Option ℕ) → PointsTo pointer field first → pointer ≢ 2046
not_idle pointer field None none idle = omega arith
not_idle pointer field (Some start) p idle = p.0.0 idle

one_start : (pointer : ℕ) (field : List ℕ) (r s : Option ℕ) → PointsTo pointer field r → PointsTo pointer field s → r ≡ s
one_start pointer field None None p q = refl
one_start pointer field None (Some start) p q = absurd (q.0.1 p)
one_start pointer field (Some start) None p q = absurd (p.0.1 q)
one_start pointer field (Some start) (Some other) p q = ap Some (p.2 ∙ sym q.2)

one_class : (h : TmFields) (field : List ℕ) (a b : DataField) → HasClass h field a → HasClass h field b → a ≡ b
one_class h field Opaque Opaque p q = refl
one_class h field Opaque Idle p q = absurd (not_opaque h field q.0 q.1 (idle_inside h.first field q.2) p)
one_class h field Opaque (Packets first octets) p q = absurd (not_opaque h field q.0 q.1 (packets_inside h.first field first q.2) p)
one_class h field Idle Opaque p q = absurd (not_opaque h field p.0 p.1 (idle_inside h.first field p.2) q)
one_class h field Idle Idle p q = refl
one_class h field Idle (Packets first octets) p q = absurd (not_idle h.first field first q.2 p.2)
one_class h field (Packets first octets) Opaque p q = absurd (not_opaque h field p.0 p.1 (packets_inside h.first field first p.2) q)
one_class h field (Packets first octets) Idle p q = absurd (not_idle h.first field first p.2 q.2)
one_class h field (Packets first octets) (Packets start others) p q = rw (one_start h.first field first start p.2 q.2, p.3, q.3) refl

-- ---- the view of a frame

control_shown : (flag : Bool) (control : List ℕ) → ShowsControl flag control (if flag then Some control else None)
control_shown true control = (refl, refl)
control_shown false control = refl

one_control : (flag : Bool) (control : List ℕ) (a b : Option (List ℕ)) → ShowsControl flag control a → ShowsControl flag control b → a ≡ b
one_control flag control None None p q = refl
one_control flag control None (Some b) p q = absurd (cc)
one_control flag control (Some a) None p q = absurd (cc)
one_control flag control (Some a) (Some b) p q = ap Some (p.1 ∙ sym q.1)

abbrev view : ℕ → ℕ → ℕ → Option (List ℕ) → DataField → TmView
view vc mc vcc control field =
    record {
      vc = vc;
      mc_count = mc;
      vc_count = vcc;
      control = control;
      field = field;
    }

one_view : (p : TmParts) (v w : TmView) → Shows p v → Shows p w → v ≡ w
one_view p v w s t =
    same_view v.vc w.vc v.mc_count w.mc_count v.vc_count w.vc_count v.control w.control v.field w.field
    (s.vc ∙ sym t.vc) (s.mc_count ∙ sym t.mc_count) (s.vc_count ∙ sym t.vc_count)
    (one_control (tm_header p.header).control p.control v.control w.control s.control t.control)
    (one_class (tm_header p.header) p.field v.field w.field s.field t.field)
  where
    same_view : (a a' b b' c c' : ℕ) (d d' : Option (List ℕ)) (e e' : DataField) → a ≡ a' → b ≡ b' → c ≡ c' → d ≡ d' → e ≡ e' → view a b c d e ≡ view a' b' c' d' e'
    same_view a a' b b' c c' d d' e e' p q r s t = rw (p, q, r, s, t) refl

-- ---- the laws

-- the error control field, and the octets before it
covered_is : (format : TmFormat) (frame : List ℕ) (p : TmParts) → ArePartsOf format frame p → format.fecf ≡ true
    → (nat_lt 2 (length frame) ≡ true) × (drop (length frame - 2) frame ≡ p.fecf) × (take (length frame - 2) frame ≡ p.header ++ p.field ++ p.control)
covered_is format frame p a has =
    let covered = p.header ++ p.field ++ p.control in
    let two : length p.fecf ≡ 2 = a.fecf ∙ ap fecf_len has in
    let whole : length frame ≡ length covered + 2 = omega (arith, ap length a.in_order, length-append covered p.fecf) in
    let long : length frame - 2 ≡ length covered = omega arith in
    let least : 6 ≤ length covered = omega (arith, length-append (p.header ++ p.field) p.control, length-append p.header p.field, a.header) in (
      lt-ltb 2 (length frame) (omega arith),
      ap (λ n. drop n frame) long ∙ ap (drop (length covered)) a.in_order ∙ drop-append_seam covered p.fecf,
      ap (λ n. take n frame) long ∙ ap (take (length covered)) a.in_order ∙ take-append_seam covered p.fecf,
    )

module _ (format : TmFormat) (spacecraft : ℕ) (frame : List ℕ) where
  abbrev parts : TmParts
  parts = tm_parts_of format frame

  abbrev h : TmFields
  h = tm_header parts.header

  first_reason : ArePartsOf format frame parts → Finds (HasReason format spacecraft parts) (skip_reason format spacecraft frame)
  first_reason a =
      first_found (HasReason format spacecraft parts) (format.fecf && not (fecf_is_good frame)) (not (h.version == 0)) (not (h.spacecraft == spacecraft))
      (tells_wrong format.fecf (nat_lt 2 (length frame)) (number_of (drop (length frame - 2) frame)) (number_of parts.fecf) (fecf_of (take (length frame - 2) frame)) (fecf_of (parts.header ++ parts.field ++ parts.control))
      (λ has. let c = covered_is format frame parts a has in (c.0, ap number_of c.1, ap fecf_of c.2)))
      (tells_other h.version 0)
      (tells_other h.spacecraft spacecraft)

  shown : Shows parts (view_of format frame)
  shown = record {
    vc = refl;
    mc_count = refl;
    vc_count = refl;
    control = control_shown h.control parts.control;
    field = has_class h parts.field;
  }

  read_is : (reason : Option TmSkip) → Finds (HasReason format spacecraft parts) reason → AreReadAs format spacecraft parts (read_as reason (view_of format frame))
  read_is None none = (none, shown)
  read_is (Some reason) first = first

  are_read : ArePartsOf format frame parts → AreReadAs format spacecraft parts (tm_frame format spacecraft frame)
  are_read a = read_is (skip_reason format spacecraft frame) (first_reason a)

one_read : (format : TmFormat) (spacecraft : ℕ) (p : TmParts) (a b : Result TmView TmSkip) → AreReadAs format spacecraft p a → AreReadAs format spacecraft p b → a ≡ b
one_read format spacecraft p (Ok v) (Ok w) s t = ap Ok (one_view p v w s.1 t.1)
one_read format spacecraft p (Ok v) (Err reason) s t = absurd (s.0 reason t.0)
one_read format spacecraft p (Err reason) (Ok w) s t = absurd (t.0 reason s.0)
one_read format spacecraft p (Err r) (Err q) s t = ap Err (one_first (HasReason format spacecraft p) r q s t)

pub each_is_read : EachIsRead
each_is_read format spacecraft frame least whole =
    let a = has_parts format frame least whole in
    record { parts = a; reading = are_read format spacecraft frame a }

pub is_read_once : IsReadOnce
is_read_once format spacecraft frame p read r =
    let same = parts_once format frame p r.parts in
    let a : ArePartsOf format frame (tm_parts_of format frame) = subst (ArePartsOf format frame) (sym same) r.parts in
    let its : AreReadAs format spacecraft p (tm_frame format spacecraft frame) =
    subst (λ (q : TmParts). AreReadAs format spacecraft q (tm_frame format spacecraft frame)) same (are_read format spacecraft frame a) in
    (same, one_read format spacecraft p (tm_frame format spacecraft frame) read its r.reading)
