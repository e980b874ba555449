-- What callers of the engines promise of the limit, where their recordings are slices and they write into a vector.
use Rattle.std.specs.Prelude.{◌≡◌, ◌⊎◌, ◌<◌, ◌≤◌, ℕ, IfErr, OnOk, Result}
use Rattle.sl_io.specs.declared.fault.LinkFault.{LinkFault}
use Rattle.sl_io.specs.declared.fault.LinkFault.TheVariants.{Memory, TooLong}

-- At Ok the octets are no more than the limit. The fault is `Memory`, or `TooLong` where they are more.
abbrev pub KeepsLimit : {T : Type 0} → ℕ → ℕ → Result T LinkFault → Type 0
KeepsLimit limit octets result =
    OnOk result (octets ≤ limit) × IfErr result (λ fault. (fault ≡ Memory) ⊎ ((fault ≡ TooLong) × (limit < octets)))
