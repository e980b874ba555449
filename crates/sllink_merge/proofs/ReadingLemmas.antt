-- A recording that is read whole, piece by piece.
use Rattle.std.proofs.Common.{◌≡◌, ◌∙◌, ◌-◌, ◌≤◌, ℕ, List, [], ◌++◌, Option, Result, Ok, Err, ap, append-nil, arith, length, length-append, length-take-le, refl, subst, sym, take}
use Rattle.std.proofs.KnownBytes.{Consumes-nil, Consumes-trans}
use Rattle.std.specs.Prelude.{IfErr}
use Rattle.std.specs.Result.{IsErrAnd}
use Rattle.sl_io.specs.declared.counted.Counted.{Counted}
use Rattle.sl_io.specs.declared.fault.LinkFault.{LinkFault}
use Rattle.sl_io.specs.declared.fault.LinkFault.TheVariants.{Memory}
use Rattle.sl_io.specs.Counted.{faults_of, no_stream, stream_of}
use Rattle.sl_io.specs.Streams.{IsCaused, IsRead, Reads, ReadsAll, ReadsSome, StopsReading}

-- a fault that `?` passes up as it is
pub passed_up : {T E : Type 0} {e : E} (r : Result T E) (P : E → Type 0) → IsErrAnd r (λ y. y ≡ e) → P e → IfErr r P
passed_up (Ok x) P given p = tt
passed_up (Err y) P given p = subst P (sym given) p

-- these octets were read so far
pub record IsReading {R : Type 0} (remaining : R → Option (List ℕ)) (reader mid : Counted R) (limit : ℕ) (octets : List ℕ) : Type 0 where
  pub read : Reads remaining reader mid octets
  pub few : length octets ≤ limit
  pub no_fault : faults_of mid ≡ faults_of reader

pub reading_none : {R : Type 0} {remaining : R → Option (List ℕ)} {reader : Counted R} {limit : ℕ} → IsReading remaining reader reader limit []
reading_none {remaining = remaining} {reader = reader} = record { read = Consumes-nil (remaining (stream_of reader)); few = omega arith; no_fault = refl }

-- memory was refused before anything was read
pub stops_at_once : {R : Type 0} {remaining : R → Option (List ℕ)} {reader : Counted R} {limit room : ℕ} → StopsReading remaining reader reader limit room Memory
stops_at_once {remaining = remaining} {reader = reader} =
    record { octets = []; read = Consumes-nil (remaining (stream_of reader)); cause = (refl, refl, omega arith) }

module _ {R : Type 0} {remaining : R → Option (List ℕ)} {reader mid : Counted R} {limit n : ℕ} {octets : List ℕ} (s : IsReading remaining reader mid limit octets) (size : n ≡ length octets) where
  reads_on : (reader' : Counted R) (piece : List ℕ) → Reads remaining mid reader' piece → Reads remaining reader reader' (octets ++ piece)
  reads_on reader' piece came = Consumes-trans (remaining (stream_of reader)) (remaining (stream_of mid)) (remaining (stream_of reader')) octets piece s.read came

  caused : (reader' : Counted R) (room past : ℕ) (piece : List ℕ) (fault : LinkFault) → past ≤ room → IsCaused mid reader' no_stream no_stream (limit - n) past piece fault
      → IsCaused reader reader' no_stream no_stream limit room (octets ++ piece) fault
  caused reader' room past piece fault fits cause = grind (arith, length-append, size, s.no_fault, s.few)

  -- the reader stopped
  pub stops_reading : {reader' : Counted R} {fault : LinkFault} (room past : ℕ) → past ≤ room → StopsReading remaining mid reader' (limit - n) past fault
      → StopsReading remaining reader reader' limit room fault
  stops_reading {reader'} {fault} room past fits stop =
      record { octets = octets ++ stop.octets; read = reads_on reader' stop.octets stop.read; cause = caused reader' room past stop.octets fault fits stop.cause }

  module _ {reader' : Counted R} {buffer : List ℕ} {k : ℕ} (came : ReadsSome remaining mid reader' buffer (limit - n) k) where
    few_next : length (octets ++ take k buffer) ≤ limit
    few_next = omega (arith, length-append octets (take k buffer), length-take-le k buffer came.inside, came.allowed, size, s.few)

    -- a piece came,
    pub reading_more : IsReading remaining reader reader' limit (octets ++ take k buffer)
    reading_more = record { read = reads_on reader' (take k buffer) came.read; few = few_next; no_fault = came.no_fault ∙ s.no_fault }

    -- for which memory was refused
    pub stops_memory : (room : ℕ) → StopsReading remaining reader reader' limit room Memory
    stops_memory room =
        record { octets = octets ++ take k buffer; read = reads_on reader' (take k buffer) came.read; cause = (came.no_fault ∙ s.no_fault, refl, few_next) }

    -- none, as the recording ended
    pub none_came : k ≡ 0 → IsRead remaining reader' → ReadsAll remaining reader reader' limit octets
    none_came none ended =
        let same : octets ++ take k buffer ≡ octets = ap (λ (m : ℕ). octets ++ take m buffer) none ∙ append-nil octets in
        record {
          within = s.few;
          read = subst (λ l. Reads remaining reader reader' l) same (reads_on reader' (take k buffer) came.read);
          to_end = ended;
          no_fault = came.no_fault ∙ s.no_fault;
        }
