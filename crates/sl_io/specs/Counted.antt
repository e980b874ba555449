-- A stream with the number of its faults.
use Rattle.std.specs.Prelude.{◌≡◌, ⊤, ℕ, ◌==◌, ◌&&◌, Bool, true, not, List, length, Result, Ok, Err}
use Rattle.sl_packet.specs.Sink.{one_more}
use Rattle.sl_io.specs.declared.counted.Counted.{Counted}

-- the stream itself
abbrev pub stream_of : {T : Type 0} → Counted T → T
stream_of c = c.stream

-- the count of its faults: of errors, and of writes that took none of one or more octets
abbrev pub faults_of : {T : Type 0} → Counted T → ℕ
faults_of c = c.faults

-- stands where no reader or no writer takes part
abbrev pub no_stream : Counted ⊤
no_stream = record { stream = tt; faults = 0 }

-- one fault came: the count rose by one, unless it was at its greatest
abbrev pub HadOneFault : {T : Type 0} → Counted T → Counted T → Type 0
HadOneFault old new = faults_of new ≡ one_more (faults_of old)

-- a write that failed, or took none of one or more octets
abbrev pub is_write_fault : {E : Type 0} → Result ℕ E → List ℕ → Bool
is_write_fault (Ok taken) octets = (taken == 0) && not (length octets == 0)
is_write_fault (Err e) octets = true
