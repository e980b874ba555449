use Rattle.std.proofs.Common.{◌≡◌, ◌+◌, ◌++◌, Bool, true, false, ℕ, not, if◌then◌else◌, refl, ap, arith, subst, drop, ◌∙◌}
use mir.Val.{bool_byte as from_bool}
use Rattle.sl_packet.specs.Packets.{rest_of}
use Rattle.sl_tcflow.specs.UnitCount.{IsCountOf}
use Rattle.sl_tcflow.proofs.lemmas.Count.{none_counted, packet_counted}
use Rattle.sl_tcflow.proofs.unit_count.UnitCount.with_part.Goals as goal

due_one : (idle : Bool) (n : ℕ) → n ≡ from_bool (not idle) → n ≡ (if idle then 0 else 1)
due_one true n is = is
due_one false n is = is

idle_one : (idle : Bool) (n : ℕ) → n ≡ from_bool idle → n ≡ (if idle then 1 else 0)
idle_one true n is = is
idle_one false n is = is

one_of : (idle : Bool) (n m : ℕ) → n ≡ from_bool (not idle) → m ≡ from_bool idle → n + m ≡ 1
one_of true n m is are = omega arith
one_of false n m is are = omega arith

pub returns-in_default : goal.returns-in_default
returns-in_default c octets is =
    none_counted octets c.args.part.now c.args.self.now _ is
    (c.in_default.ensures.none (rest_of octets ++ c.args.part.now) (c.plus-rest.ensures.outline (rest_of octets) is.rest))
    refl refl refl (c.plus-rest.ensures.outline (rest_of octets) is.rest)

pub invariant_of-result-2-clause-within : goal.invariant_of-result-2-clause-within
invariant_of-result-2-clause-within c =
    omega (arith, one_of c.is_idle-is_idle.result c.from.result c.from-2.result c.from.ensures c.from-2.ensures, c.of-later.result.within, c.of-later.ensures.size, c.args.self.now.within, c.in-Some.ensures.least, c.in-Some.ensures.within)

pub returns : goal.returns
returns c octets is =
    let all = c.plus-rest.ensures.outline (rest_of octets) is.rest in
    packet_counted octets c.args.part.now c.args.self.now c.of-later.result _ c.in-Some.len c.is_idle-is_idle.result is
    (c.in-Some.ensures.whole (rest_of octets ++ c.args.part.now) all) (c.is_idle-is_idle.ensures (rest_of octets ++ c.args.part.now) all)
    (subst (λ l. IsCountOf l c.of-later.result) (c.split_at.ensures.back ∙ ap (λ n. drop n c.args.part.now) c.saturating_sub.ensures) c.of-later.ensures) refl
    (ap (λ n. c.args.self.now.packets + n + c.of-later.result.packets) (due_one c.is_idle-is_idle.result c.from.result c.from.ensures))
    (ap (λ n. c.args.self.now.idle + n + c.of-later.result.idle) (idle_one c.is_idle-is_idle.result c.from-2.result c.from-2.ensures))
    refl
