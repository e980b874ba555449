-- A frame is skipped for the first reason that holds, or carries one content.
use Rattle.std.proofs.Common.{◌≡◌, ◌≢◌, ℕ, suc, ◌+◌, ◌<◌, ◌≤◌, ◌==◌, nat_lt, Bool, true, false, not, ◌&&◌, if◌then◌else◌, List, [], ◌∷◌, length, Option, None, Some, Result, Ok, Err, inl, inr, refl, sym, ◌∙◌, ap, subst, arith}
use Rattle.std.proofs.lemmas.Bool.{ne_eqb}
use Rattle.std.proofs.lemmas.Bool.Decides.{eqb_tells, leb_tells}
use Rattle.sl_fields.specs.Fecf.{fecf_is_good}
use Rattle.sl_fields.specs.TcHeader.{TcFields}
use Rattle.sl_tcframe.specs.declared.tc_frame.TcSkip.{TcSkip}
use Rattle.sl_tcframe.specs.declared.tc_frame.TcSkip.TheVariants.{Fecf, Version, Spacecraft, Long, Kind, Empty, Command}
use Rattle.sl_tcframe.specs.TcFrame.{TcFormat, TcView, Content, Ad, Bd, Unlock, SetVr, Carries, HasReason, IsReadAs, tc_header_of, tc_parts_of, command_of, content_of, order_of, early_reason, read_as, tc_frame}
use Rattle.sl_fields.proofs.Tells.{Tells, tells_both, tells_less, tells_other}

-- ---- tests and the properties that they decide (std's `eqb_tells` and `leb_tells` give two cases instead)

tells_command_alone : (a b : Bool) → Tells (not a && b) ((a ≡ false) × (b ≡ true))
tells_command_alone false true = (refl, refl)
tells_command_alone false false = λ p. cc
tells_command_alone true b = λ p. cc

tells_empty : (octets : List ℕ) → Tells (length octets == 0) (octets ≡ [])
tells_empty [] = refl
tells_empty (octet ∷ octets) = rw (ne_eqb (length (octet ∷ octets)) 0 (λ p. omega arith)) (λ (p : octet ∷ octets ≡ []). cc)

-- ---- the reasons in their order

abbrev nth : ℕ → TcSkip
nth n =
    if n == 1 then Fecf else if n == 2 then Version else if n == 3 then Spacecraft
    else if n == 4 then Long else if n == 5 then Kind else if n == 6 then Empty else Command

nth-order_of : (reason : TcSkip) → nth (order_of reason) ≡ reason
nth-order_of Fecf = refl
nth-order_of Version = refl
nth-order_of Spacecraft = refl
nth-order_of Long = refl
nth-order_of Kind = refl
nth-order_of Empty = refl
nth-order_of Command = refl

order_of_injective : (r s : TcSkip) → order_of r ≡ order_of s → r ≡ s
order_of_injective r s h = sym (nth-order_of r) ∙ ap nth h ∙ nth-order_of s

order_of_least : (reason : TcSkip) → 1 ≤ order_of reason
order_of_least Fecf = omega arith
order_of_least Version = omega arith
order_of_least Spacecraft = omega arith
order_of_least Long = omega arith
order_of_least Kind = omega arith
order_of_least Empty = omega arith
order_of_least Command = omega arith

module _ (Has : TcSkip → Type 0) where
  -- no reason before the `n`th one holds
  abbrev NoneBelow : ℕ → Type 0
  NoneBelow n = (earlier : TcSkip) → order_of earlier < n → Has earlier → ⊥

  none_first : NoneBelow 1
  none_first earlier less has = let least = order_of_least earlier in omega arith

  none_next : (r : TcSkip) → NoneBelow (order_of r) → (Has r → ⊥) → NoneBelow (order_of r + 1)
  none_next r none not_this earlier less has =
      elim (eqb_tells (order_of earlier) (order_of r)) [
        | inl (e, same) ↦ not_this (subst Has (order_of_injective earlier r same) has)
        | inr (e, other) ↦ none earlier (omega arith) has
      ]

  -- the first reason that holds; where it is `None`, only `Command` may hold
  abbrev IsFirst : Option TcSkip → Type 0
  IsFirst (Some reason) = Has reason × NoneBelow (order_of reason)
  IsFirst None = NoneBelow (order_of Command)

  -- the reasons tried one after another
  abbrev tried : Bool → Bool → Bool → Bool → Bool → Bool → Option TcSkip
  tried a b c d e f =
      if a then Some Fecf else if b then Some Version else if c then Some Spacecraft else if d then Some Long else if e then Some Kind else if f then Some Empty else None

  first_is : (a b c d e f : Bool) → Tells a (Has Fecf) → Tells b (Has Version) → Tells c (Has Spacecraft) → Tells d (Has Long) → Tells e (Has Kind) → Tells f (Has Empty)
      → IsFirst (tried a b c d e f)
  first_is true b c d e f p q r s t u = (p, none_first)
  first_is false true c d e f p q r s t u = (q, none_next Fecf none_first p)
  first_is false false true d e f p q r s t u = (r, none_next Version (none_next Fecf none_first p) q)
  first_is false false false true e f p q r s t u = (s, none_next Spacecraft (none_next Version (none_next Fecf none_first p) q) r)
  first_is false false false false true f p q r s t u =
      (t, none_next Long (none_next Spacecraft (none_next Version (none_next Fecf none_first p) q) r) s)
  first_is false false false false false true p q r s t u =
      (u, none_next Kind (none_next Long (none_next Spacecraft (none_next Version (none_next Fecf none_first p) q) r) s) t)
  first_is false false false false false false p q r s t u =
      none_next Empty (none_next Kind (none_next Long (none_next Spacecraft (none_next Version (none_next Fecf none_first p) q) r) s) t) u

  -- two reasons that are both the first one are equal
  one_first : (r s : TcSkip) → Has r → NoneBelow (order_of r) → Has s → NoneBelow (order_of s) → r ≡ s
  one_first r s has none has' none' =
      elim (eqb_tells (order_of r) (order_of s)) [
        | inl (e, same) ↦ order_of_injective r s same
        | inr (e, other) ↦
            elim (leb_tells (suc (order_of r)) (order_of s)) [
              | inl (l, less) ↦ absurd (none' r (omega arith) has)
              | inr (l, more) ↦ absurd (none s (omega arith) has')
            ]
      ]

-- ---- the content of a data field

-- `Carries` with the header's flags and N(S) as arguments, so that a proof can go by cases of the flags
abbrev CarriesBy : Bool → Bool → ℕ → List ℕ → Content → Type 0
CarriesBy bypass command header_ns field (Ad ns unit) =
    (bypass ≡ false) × (command ≡ false) × (field ≢ []) × (ns ≡ header_ns) × (unit ≡ field)
CarriesBy bypass command header_ns field (Bd unit) = (bypass ≡ true) × (command ≡ false) × (field ≢ []) × (unit ≡ field)
CarriesBy bypass command header_ns field Unlock = (bypass ≡ true) × (command ≡ true) × (field ≡ 0x00 ∷ [])
CarriesBy bypass command header_ns field (SetVr vr) = (bypass ≡ true) × (command ≡ true) × (field ≡ 0x82 ∷ 0x00 ∷ vr ∷ [])

-- what was found is the content; or nothing was found, and nothing is one
abbrev Finds : (Content → Type 0) → Option Content → Type 0
Finds Is (Some content) = Is content
Finds Is None = (content : Content) → Is content → ⊥

no_command : (header_ns : ℕ) (field : List ℕ) → field ≢ 0x00 ∷ [] → ((vr : ℕ) → field ≢ 0x82 ∷ 0x00 ∷ vr ∷ []) → Finds (CarriesBy true true header_ns field) None
no_command header_ns field no_unlock no_set (Ad ns unit) h = absurd (cc)
no_command header_ns field no_unlock no_set (Bd unit) h = absurd (cc)
no_command header_ns field no_unlock no_set Unlock h = no_unlock h.2
no_command header_ns field no_unlock no_set (SetVr vr) h = no_set vr h.2

abbrev head_of : List ℕ → ℕ
head_of [] = 0
head_of (octet ∷ octets) = octet

abbrev second_of : List ℕ → ℕ
second_of [] = 0
second_of (octet ∷ octets) = head_of octets

command_found : (header_ns : ℕ) (field : List ℕ) → Finds (CarriesBy true true header_ns field) (command_of field)
command_found header_ns [] = no_command header_ns [] (λ e. cc) (λ vr e. cc)
command_found header_ns (code ∷ []) =
    elim (eqb_tells code 0x00) [
      | inl (e, same) ↦ rw e (refl, refl, ap (λ n. n ∷ []) same)
      | inr (e, other) ↦ rw e (no_command header_ns (code ∷ []) (λ p. other (ap head_of p)) (λ vr p. cc))
    ]
command_found header_ns (code ∷ second ∷ []) = no_command header_ns (code ∷ second ∷ []) (λ e. cc) (λ vr e. cc)
command_found header_ns (code ∷ second ∷ third ∷ []) =
    elim (eqb_tells code 0x82) [
      | inl (e, same) ↦
          elim (eqb_tells second 0x00) [
            | inl (e', same') ↦ rw (e, e') (refl, refl, rw (same, same') refl)
            | inr (e', other) ↦ rw (e, e') (no_command header_ns (code ∷ second ∷ third ∷ []) (λ p. cc) (λ vr p. other (ap second_of p)))
          ]
      | inr (e, other) ↦ rw e (no_command header_ns (code ∷ second ∷ third ∷ []) (λ p. cc) (λ vr p. other (ap head_of p)))
    ]
command_found header_ns (code ∷ second ∷ third ∷ fourth ∷ more) =
    no_command header_ns (code ∷ second ∷ third ∷ fourth ∷ more) (λ e. cc) (λ vr e. cc)

no_type : (header_ns : ℕ) (field : List ℕ) → Finds (CarriesBy false true header_ns field) None
no_type header_ns field (Ad ns unit) h = absurd (cc)
no_type header_ns field (Bd unit) h = absurd (cc)
no_type header_ns field Unlock h = absurd (cc)
no_type header_ns field (SetVr vr) h = absurd (cc)

no_unit : (bypass : Bool) (header_ns : ℕ) → Finds (CarriesBy bypass false header_ns []) None
no_unit bypass header_ns (Ad ns unit) h = h.2 refl
no_unit bypass header_ns (Bd unit) h = h.2 refl
no_unit bypass header_ns Unlock h = absurd (cc)
no_unit bypass header_ns (SetVr vr) h = absurd (cc)

-- `content_of`, with the same arguments
abbrev content_by : Bool → Bool → ℕ → List ℕ → Option Content
content_by bypass command header_ns [] = if not command then None else if bypass then command_of [] else None
content_by bypass command header_ns (octet ∷ octets) =
    if not command then Some (if bypass then Bd (octet ∷ octets) else Ad header_ns (octet ∷ octets))
    else if bypass then command_of (octet ∷ octets) else None

content_by_found : (bypass command : Bool) (header_ns : ℕ) (field : List ℕ) → Finds (CarriesBy bypass command header_ns field) (content_by bypass command header_ns field)
content_by_found bypass false header_ns [] = no_unit bypass header_ns
content_by_found true false header_ns (octet ∷ octets) = (refl, refl, (λ e. cc), refl)
content_by_found false false header_ns (octet ∷ octets) = (refl, refl, (λ e. cc), refl, refl)
content_by_found true true header_ns [] = command_found header_ns []
content_by_found true true header_ns (octet ∷ octets) = command_found header_ns (octet ∷ octets)
content_by_found false true header_ns [] = no_type header_ns []
content_by_found false true header_ns (octet ∷ octets) = no_type header_ns (octet ∷ octets)

content_by-content_of : (h : TcFields) (field : List ℕ) → content_of h field ≡ content_by h.bypass h.command h.ns field
content_by-content_of h [] = refl
content_by-content_of h (octet ∷ octets) = refl

pub content_found : (h : TcFields) (field : List ℕ) → Finds (Carries h field) (content_of h field)
content_found h field = rw (content_by-content_of h field) (content_by_found h.bypass h.command h.ns field)

-- a data field that isn't empty and has no content is of type BC, unless its flags are of no type
type_bc : (bypass command : Bool) (header_ns : ℕ) (field : List ℕ) → ((bypass ≡ false) × (command ≡ true) → ⊥) → field ≢ [] → Finds (CarriesBy bypass command header_ns field) None
    → (bypass ≡ true) × (command ≡ true)
type_bc true true header_ns field kind some none = (refl, refl)
type_bc false true header_ns field kind some none = absurd (kind (refl, refl))
type_bc true false header_ns field kind some none = absurd (none (Bd field) (refl, refl, some, refl))
type_bc false false header_ns field kind some none = absurd (none (Ad header_ns field) (refl, refl, some, refl, refl))

one_content : (h : TcFields) (field : List ℕ) (a b : Content) → Carries h field a → Carries h field b → a ≡ b
one_content h field (Ad ns unit) (Ad ns' unit') p q = rw (p.3, p.4, q.3, q.4) refl
one_content h field (Ad ns unit) (Bd unit') p q = absurd (cc)
one_content h field (Ad ns unit) Unlock p q = absurd (cc)
one_content h field (Ad ns unit) (SetVr vr) p q = absurd (cc)
one_content h field (Bd unit) (Ad ns' unit') p q = absurd (cc)
one_content h field (Bd unit) (Bd unit') p q = rw (p.3, q.3) refl
one_content h field (Bd unit) Unlock p q = absurd (cc)
one_content h field (Bd unit) (SetVr vr) p q = absurd (cc)
one_content h field Unlock (Ad ns' unit') p q = absurd (cc)
one_content h field Unlock (Bd unit') p q = absurd (cc)
one_content h field Unlock Unlock p q = refl
one_content h field Unlock (SetVr vr) p q = absurd (cc)
one_content h field (SetVr vr) (Ad ns' unit') p q = absurd (cc)
one_content h field (SetVr vr) (Bd unit') p q = absurd (cc)
one_content h field (SetVr vr) Unlock p q = absurd (cc)
one_content h field (SetVr vr) (SetVr vr') p q = cc

-- ---- the laws

module _ (format : TcFormat) (spacecraft : ℕ) (frame : List ℕ) where
  abbrev h : TcFields
  h = tc_header_of frame

  abbrev data_field : List ℕ
  data_field = (tc_parts_of format frame).field

  abbrev Has : TcSkip → Type 0
  Has = HasReason format spacecraft frame

  first_reason : IsFirst Has (early_reason format spacecraft frame)
  first_reason =
      first_is Has (format.fecf && not (fecf_is_good frame)) (not (h.version == 0)) (not (h.spacecraft == spacecraft)) (nat_lt format.max (length frame)) (not h.bypass && h.command) (length data_field == 0)
      (tells_both format.fecf (fecf_is_good frame)) (tells_other h.version 0) (tells_other h.spacecraft spacecraft) (tells_less format.max (length frame))
      (tells_command_alone h.bypass h.command) (tells_empty data_field)

  no_reason : (content : Content) → Carries h data_field content → NoneBelow Has (order_of Command) → (reason : TcSkip) → Has reason → ⊥
  no_reason content carries none Fecf has = none Fecf (omega arith) has
  no_reason content carries none Version has = none Version (omega arith) has
  no_reason content carries none Spacecraft has = none Spacecraft (omega arith) has
  no_reason content carries none Long has = none Long (omega arith) has
  no_reason content carries none Kind has = none Kind (omega arith) has
  no_reason content carries none Empty has = none Empty (omega arith) has
  no_reason content carries none Command has = has.2 content carries

  read_is : (early : Option TcSkip) (content : Option Content) → IsFirst Has early → Finds (Carries h data_field) content → IsReadAs format spacecraft frame (read_as early h content)
  read_is (Some reason) content first finds = first
  read_is None (Some content) first finds = (no_reason content finds first, refl, finds)
  read_is None None first finds =
      let bc = type_bc h.bypass h.command h.ns data_field (first Kind (omega arith)) (first Empty (omega arith)) finds in
      ((bc.0, bc.1, finds), first)

  pub is_read : IsReadAs format spacecraft frame (tc_frame format spacecraft frame)
  is_read = read_is (early_reason format spacecraft frame) (content_of h data_field) first_reason (content_found h data_field)

  abbrev view : ℕ → Content → TcView
  view vc content = record { vc = vc; content = content }

  same_view : (v w : TcView) → v.vc ≡ w.vc → v.content ≡ w.content → v ≡ w
  same_view v w e f = ap (λ n. view n v.content) e ∙ ap (view w.vc) f

  one_read : (a b : Result TcView TcSkip) → IsReadAs format spacecraft frame a → IsReadAs format spacecraft frame b → a ≡ b
  one_read (Ok v) (Ok w) p q = ap Ok (same_view v w (p.1 ∙ sym q.1) (one_content h data_field v.content w.content p.2 q.2))
  one_read (Ok v) (Err reason) p q = absurd (p.0 reason q.0)
  one_read (Err reason) (Ok w) p q = absurd (q.0 reason p.0)
  one_read (Err r) (Err s) p q = ap Err (one_first Has r s p.0 p.1 q.0 q.1)

  pub is_read_once : (read : Result TcView TcSkip) → IsReadAs format spacecraft frame read → tc_frame format spacecraft frame ≡ read
  is_read_once read p = one_read (tc_frame format spacecraft frame) read is_read p
