-- What holds of parameters that aren't refused.
use Rattle.std.proofs.Common.{◌≡◌, ◌≤◌, Ok, arith}
use Rattle.std.proofs.lemmas.Bool.Decides.{nat_tests}
use Rattle.sl_engine.specs.Link.Managed.{Parameters, managed_of}

-- a TM frame has 32 to 2048 octets
pub managed_length : (p : Parameters) → managed_of p ≡ Ok p → (32 ≤ p.tm_length) × (p.tm_length ≤ 2048)
managed_length p h = (grind (arith, nat_tests), grind (arith, nat_tests))

-- a TC frame has 16 to 1024 octets at most
pub managed_greatest : (p : Parameters) → managed_of p ≡ Ok p → (16 ≤ p.tc_max) × (p.tc_max ≤ 1024)
managed_greatest p h = (grind (arith, nat_tests), grind (arith, nat_tests))

-- a spacecraft identifier has ten bits
pub managed_spacecraft : (p : Parameters) → managed_of p ≡ Ok p → p.spacecraft ≤ 1023
managed_spacecraft p h = grind (arith, nat_tests)
