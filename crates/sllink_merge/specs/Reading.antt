-- A recording that is read whole.
use Rattle.std.specs.Prelude.{ℕ}

-- how many octets are read at once, at most
abbrev pub chunk_size : ℕ
chunk_size = 65536
