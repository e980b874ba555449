-- Pieces read one after another, whose frames are handed over one by one.
use Rattle.std.proofs.Common.{◌≡◌, ◌≢◌, ℕ, ◌+◌, ◌^◌, ◌<◌, List, [], ◌∷◌, ◌++◌, length, refl, sym, ◌∙◌, ap, arith, append_assoc, append-nil, length-append, ◌-◌, ◌≤◌, take, Option, length-take-le, inl, inr}
use Rattle.std.specs.List.{concat, AllByRecursion}
use Rattle.std.proofs.KnownBytes.{Consumes-nil, Consumes-trans}
use Rattle.sl_fields.proofs.ListLemmas.{concat-push, each-append}
use Rattle.sl_engine.specs.Link.Managed.{Parameters}
use Rattle.sl_engine.specs.Framing.{CutsFrame, HasCutFrames, HasCutAll, HasPassed, MayRefuseMemoryAtSome, MayRefuseMemoryIn, PassesOver, StopsPassing}
use Rattle.sl_io.specs.declared.counted.Counted.{Counted}
use Rattle.sl_io.specs.declared.fault.LinkFault.{LinkFault}
use Rattle.sl_io.specs.declared.fault.LinkFault.TheVariants.{Memory}
use Rattle.sl_engine.specs.Link.Counted.{stream_of, no_stream}
use Rattle.sl_engine.specs.Io.Streams.{IsCaused, IsRead, Reads, ReadsSome, StopsReading}

-- ---- frames handed over

-- frames at the front are the first ones
fronts : (is_frame : List ℕ → Type 0) (frames_of : List ℕ → List (List ℕ)) → ((frame more : List ℕ) → is_frame frame → frames_of (frame ++ more) ≡ frame ∷ frames_of more)
    → (frames : List (List ℕ)) (more : List ℕ) → AllByRecursion is_frame frames → frames_of (concat frames ++ more) ≡ frames ++ frames_of more
fronts is_frame frames_of front [] more a = refl
fronts is_frame frames_of front (frame ∷ frames) more a = rw (append_assoc, front frame (concat frames ++ more) a.0, fronts is_frame frames_of front frames more a.1) refl

module _ {F : Type 0} {is_frame : Parameters → List ℕ → Type 0} {waits : F → Parameters → List ℕ → Type 0} {taken : List (List ℕ) → Type 0} {p : Parameters} {framer : F} {octets left : List ℕ}
    (h : HasCutFrames is_frame waits taken p framer octets left) where
  pub fits_next : (left' frame : List ℕ) → CutsFrame (is_frame p) h.rest left left' frame → length octets < 2 ^ 64 → length (concat h.frames) + length frame < 2 ^ 64
  fits_next left' frame g small = omega (arith, small, simp length-append at (ap length h.parts), simp length-append at (ap length g.parts))

  -- with one frame more, of which this is true
  pub taken_next : {left' frame : List ℕ} {taken' : List (List ℕ) → Type 0} {framer' : F} → CutsFrame (is_frame p) h.rest left left' frame → waits framer' p [] → taken' (h.frames ++ frame ∷ [])
      → HasCutFrames is_frame waits taken' p framer' octets left'
  taken_next {left'} {frame} g w t = record {
    frames = h.frames ++ frame ∷ [];
    rest = [];
    waiting = w;
    parts = rw (concat-push h.frames frame, append_assoc (concat h.frames) frame left', ← g.parts) h.parts;
    whole = each-append (is_frame p) h.frames (frame ∷ []) h.whole (g.whole, tt);
    done = t;
  }

  -- with none more, and this is true of those before
  abbrev pub taken_so_far : {taken' : List (List ℕ) → Type 0} {framer' : F} → waits framer' p (h.rest ++ left) → taken' h.frames → HasCutFrames is_frame waits taken' p framer' octets []
  taken_so_far w t = record { frames = h.frames; rest = h.rest ++ left; waiting = w; parts = h.parts ∙ ap (λ l. concat h.frames ++ l) (sym (append-nil (h.rest ++ left))); whole = h.whole; done = t }

  module _ {frames_of : Parameters → List ℕ → List (List ℕ)} (front : (p : Parameters) (frame more : List ℕ) → is_frame p frame → frames_of p (frame ++ more) ≡ frame ∷ frames_of p more) where
    pub taken_first : frames_of p octets ≡ h.frames ++ frames_of p (h.rest ++ left)
    taken_first = ap (frames_of p) h.parts ∙ fronts (is_frame p) (frames_of p) (front p) h.frames (h.rest ++ left) h.whole

    pub taken_all : {taken' : List (List ℕ) → Type 0} {framer' : F} → frames_of p (h.rest ++ left) ≡ [] → waits framer' p (h.rest ++ left) → taken' h.frames
        → HasCutAll is_frame waits frames_of taken' p framer' octets
    taken_all none w t = record { cut = taken_so_far w t; all = taken_first ∙ ap (λ fs. h.frames ++ fs) none ∙ append-nil h.frames }

-- ---- a recording in memory, which is one chunk

module _ {F : Type 0} {is_frame : Parameters → List ℕ → Type 0} {waits : F → Parameters → List ℕ → Type 0} {p : Parameters} {framer : F} where
  -- nothing of it was taken
  pub taken_none : {taken : List (List ℕ) → Type 0} (octets : List ℕ) → waits framer p [] → taken [] → HasCutFrames is_frame waits taken p framer octets octets
  taken_none octets w t = record { frames = []; rest = []; waiting = w; parts = refl; whole = tt; done = t }

  -- memory was refused at one of its frames
  pub refused_in : {frames_of : Parameters → List ℕ → List (List ℕ)} {may : List (List ℕ) → Type 0} {octets left : List ℕ} {fault : LinkFault} (its : List ℕ → List (List ℕ)) → frames_of p ≡ its
      → ((p : Parameters) (frame more : List ℕ) → is_frame p frame → frames_of p (frame ++ more) ≡ frame ∷ frames_of p more)
      → HasCutFrames is_frame waits (λ frames. (fault ≡ Memory) × may frames) p framer octets left → (fault ≡ Memory) × MayRefuseMemoryIn its may octets
  refused_in {frames_of} {may} {octets} {left} its same front h = (
    h.done.0,
    record {
      first = h.frames;
      later = frames_of p (h.rest ++ left);
      in_order = sym (ap (λ (f : List ℕ → List (List ℕ)). f octets) same) ∙ taken_first h front;
      at_last = h.done.1;
    },
  )

-- ---- pieces read

pub passing_none : {R : Type 0} {remaining : R → Option (List ℕ)} {reader : Counted R} {limit : ℕ} {handed : List ℕ → Type 0} → handed [] → HasPassed remaining reader reader limit 0 handed []
passing_none {remaining} {reader} all = record { read = Consumes-nil (remaining (stream_of reader)); size = refl; allowed = omega arith; no_fault = refl; all = all }

module _ {R F : Type 0} {remaining : R → Option (List ℕ)} {is_frame : Parameters → List ℕ → Type 0} {waits : F → Parameters → List ℕ → Type 0} {frames_of : Parameters → List ℕ → List (List ℕ)}
    {taken : List (List ℕ) → Type 0} {p : Parameters} {framer : F} {reader mid : Counted R} {limit n : ℕ} {octets : List ℕ} (s : HasPassed remaining reader mid limit n (HasCutAll is_frame waits frames_of taken p framer) octets) where
  -- a chunk more
  abbrev pub more_came : (chunk : List ℕ) → HasCutFrames is_frame waits taken p framer (octets ++ chunk) chunk
  more_came chunk =
      let h = s.all.cut in
      record { frames = h.frames; rest = h.rest; waiting = h.waiting; parts = ap (λ l. l ++ chunk) h.parts ∙ simp (append_assoc, append-nil); whole = h.whole; done = h.done }

  reads_on : (reader' : Counted R) (chunk : List ℕ) → Reads remaining mid reader' chunk → Reads remaining reader reader' (octets ++ chunk)
  reads_on reader' chunk came = Consumes-trans (remaining (stream_of reader)) (remaining (stream_of mid)) (remaining (stream_of reader')) octets chunk s.read came

  module _ {reader' : Counted R} {buffer : List ℕ} {k : ℕ} (came : ReadsSome remaining mid reader' buffer (limit - n) k) where
    pub size_next : n + k ≡ length (octets ++ take k buffer)
    size_next = omega (arith, s.size, length-append octets (take k buffer), length-take-le k buffer came.inside)

    pub passing_next : {handed : List ℕ → Type 0} → handed (octets ++ take k buffer) → HasPassed remaining reader reader' limit (n + k) handed (octets ++ take k buffer)
    passing_next all = record {
      read = reads_on reader' (take k buffer) came.read;
      size = size_next;
      allowed = omega (arith, came.allowed, s.allowed);
      no_fault = came.no_fault ∙ s.no_fault;
      all = all;
    }

  -- the recording ended
  pub passes_over : IsRead remaining mid → PassesOver remaining reader mid (frames_of p) taken limit n
  passes_over ended = record {
    octets = octets;
    within = omega (arith, s.size, s.allowed);
    read = s.read;
    to_end = ended;
    no_fault = s.no_fault;
    size = s.size;
    inside = rw s.all.all (omega (arith, ap length s.all.cut.parts, length-append (concat s.all.cut.frames) (s.all.cut.rest ++ [])));
    all = rw s.all.all s.all.cut.done;
  }

  caused : (reader' : Counted R) (most room past : ℕ) (more : List ℕ) (fault : LinkFault) → limit ≡ most → past ≤ room → IsCaused mid reader' no_stream no_stream (limit - n) past more fault
      → IsCaused reader reader' no_stream no_stream most room (octets ++ more) fault
  caused reader' most room past more fault same fits cause = grind (arith, length-append, s.no_fault, s.size, s.allowed)

  module _ (front : (p : Parameters) (frame more : List ℕ) → is_frame p frame → frames_of p (frame ++ more) ≡ frame ∷ frames_of p more) {reader' : Counted R} {stopped : List (List ℕ) → LinkFault → Type 0} {fault : LinkFault} where
    -- the reader stopped
    pub stops_reading : {most room past : ℕ} → limit ≡ most → past ≤ room → StopsReading remaining mid reader' (limit - n) past fault → fault ≢ Memory
        → StopsPassing remaining reader reader' (frames_of p) taken stopped most room fault
    stops_reading {most} {room} {past} same fits r not_memory = record {
      octets = octets ++ r.octets;
      read = reads_on reader' r.octets r.read;
      first = s.all.cut.frames;
      later = frames_of p (s.all.cut.rest ++ r.octets);
      in_order = taken_first (more_came r.octets) front;
      cause = inl (s.all.cut.done, not_memory, caused reader' most room past r.octets fault same fits r.cause);
    }

    -- the sink stopped at a frame of a chunk, or after it
    pub stops_in_chunk : {most room k : ℕ} {buffer left : List ℕ} {framer' : F} {taken' : List (List ℕ) → Type 0} → limit ≡ most → ReadsSome remaining mid reader' buffer (limit - n) k → HasCutFrames is_frame waits (λ frames. stopped frames fault) p framer' (octets ++ take k buffer) left
        → StopsPassing remaining reader reader' (frames_of p) taken' stopped most room fault
    stops_in_chunk {most} {room} {k} {buffer} {left} same came h = record {
      octets = octets ++ take k buffer;
      read = reads_on reader' (take k buffer) came.read;
      first = h.frames;
      later = frames_of p (h.rest ++ left);
      in_order = taken_first h front;
      cause = inr (h.done, came.no_fault ∙ s.no_fault, omega (arith, same, size_next came, came.allowed, s.allowed));
    }

-- the same octets, of whose frames something else holds
pub passed_as : {R F : Type 0} {remaining : R → Option (List ℕ)} {is_frame : Parameters → List ℕ → Type 0} {waits : F → Parameters → List ℕ → Type 0} {frames_of : Parameters → List ℕ → List (List ℕ)}
    {taken taken' : List (List ℕ) → Type 0} {p : Parameters} {framer : F} {reader mid : Counted R} {limit n : ℕ} {octets : List ℕ} → ((frames : List (List ℕ)) → taken frames → taken' frames)
    → HasPassed remaining reader mid limit n (HasCutAll is_frame waits frames_of taken p framer) octets → HasPassed remaining reader mid limit n (HasCutAll is_frame waits frames_of taken' p framer) octets
passed_as weaker s =
    let h = s.all.cut in
    record {
      read = s.read;
      size = s.size;
      allowed = s.allowed;
      no_fault = s.no_fault;
      all = record { cut = record { frames = h.frames; rest = h.rest; waiting = h.waiting; parts = h.parts; whole = h.whole; done = weaker h.frames h.done }; all = s.all.all };
    }

-- ---- a recording that is read without being written

module _ {R : Type 0} {remaining : R → Option (List ℕ)} {reader reader' : Counted R} {frames_of : List ℕ → List (List ℕ)} {taken : List (List ℕ) → Type 0} {stopped : List (List ℕ) → LinkFault → Type 0} {limit past : ℕ} {fault : LinkFault}
    (s : StopsPassing remaining reader reader' frames_of taken stopped limit past fault) where
  -- it stopped at its reader, or for want of memory
  pub stops_alone : ((frames : List (List ℕ)) → stopped frames fault → fault ≡ Memory) → StopsReading remaining reader reader' limit past fault
  stops_alone of_memory = record {
    octets = s.octets;
    read = s.read;
    cause = elim s.cause [
      | inl at ↦ at.2
      | inr at ↦ rw (of_memory s.first at.0) (at.1, refl, at.2)
    ];
  }

  -- and memory was refused at some frame
  pub memory_of : {its : List ℕ → List (List ℕ)} {may : List (List ℕ) → Type 0} → frames_of ≡ its → ((frames : List (List ℕ)) → stopped frames fault → may frames) → fault ≡ Memory
      → MayRefuseMemoryAtSome remaining reader reader' its may
  memory_of same may is_memory = record {
    octets = s.octets;
    read = s.read;
    first = s.first;
    later = s.later;
    in_order = sym (ap (λ (f : List ℕ → List (List ℕ)). f s.octets) same) ∙ s.in_order;
    at_last = elim s.cause [
      | inl at ↦ absurd (at.1 is_memory)
      | inr at ↦ may s.first at.0
    ];
  }
