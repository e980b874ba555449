-- A recording that is read whole, and a normal form of it that is written after that.
use Rattle.std.proofs.Common.{◌≡◌, ℕ, List, [], Option, append-nil, refl, subst, sym}
use Rattle.std.proofs.KnownBytes.{Appends-nil}
use Rattle.sl_io.specs.declared.counted.Counted.{Counted}
use Rattle.sl_io.specs.declared.fault.LinkFault.{LinkFault}
use Rattle.sl_engine.specs.Io.Streams.{Reads, ReadsAll, Stops, StopsReading, StopsWriting, Translates, Writes, WritesText}
use Rattle.sl_engine.specs.Link.Counted.{stream_of}
use Rattle.sl_engine.specs.Framing.{MayRefuseMemoryAtSome}
use Rattle.sl_io.proofs.StreamLemmas.{reader_caused, writer_caused}

module _ {R W : Type 0} {remaining : R → Option (List ℕ)} {contents : W → Option (List ℕ)} {reader reader' : Counted R} {writer : Counted W} {text : List ℕ → List ℕ} {limit : ℕ} where
  -- a fault before anything is written,
  pub stops_at_reading : {past : ℕ} {fault : LinkFault} → StopsReading remaining reader reader' limit past fault → Stops remaining contents reader reader' writer writer text limit past fault
  stops_at_reading {past} {fault} s = record {
    octets = s.octets;
    read = s.read;
    written = record { written = []; missing = text s.octets; front = refl; writes = Appends-nil (contents (stream_of writer)) };
    cause = reader_caused reader reader' writer writer limit past s.octets fault refl s.cause;
  }

  module _ {octets written : List ℕ} (r : ReadsAll remaining reader reader' limit octets) {writer' : Counted W} (same : written ≡ text octets) where
    -- or while a normal form is made or written
    pub stops_at_form : {past : ℕ} {at_memory : Type 0} {fault : LinkFault} → StopsWriting contents writer writer' written at_memory fault
        → Stops remaining contents reader reader' writer writer' text limit past fault
    stops_at_form {past} {fault = fault} s = record {
      octets = octets;
      read = r.read;
      written = rw (← same) s.front;
      cause = writer_caused reader reader' writer writer' limit past octets fault r.no_fault r.within s.cause;
    }

    -- all of it is written
    abbrev pub translates : WritesText contents writer writer' written → Translates remaining contents reader reader' writer writer' text limit
    translates w = record {
      octets = octets;
      within = r.within;
      read = r.read;
      to_end = r.to_end;
      written = subst (Writes contents writer writer') same w.writes;
      reader_kept = r.no_fault;
      writer_kept = w.no_fault;
    }

-- memory may be refused after the last frame
pub refused_at_end : {R : Type 0} {remaining : R → Option (List ℕ)} {reader reader' : Counted R} {frames_of : List ℕ → List (List ℕ)} {may_refuse_memory : List (List ℕ) → Type 0} (octets : List ℕ)
    → Reads remaining reader reader' octets → may_refuse_memory (frames_of octets) → MayRefuseMemoryAtSome remaining reader reader' frames_of may_refuse_memory
refused_at_end {frames_of} octets read at_last = record { octets = octets; read = read; first = frames_of octets; later = []; in_order = sym (append-nil (frames_of octets)); at_last = at_last }
