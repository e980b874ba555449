-- TM frames of a recording that comes in chunks, as a framer cuts them.
use Rattle.std.specs.Prelude.{◌≡◌, ◌<◌, ℕ, List, [], ◌∷◌, ◌++◌, length}
use Rattle.std.proofs.Common.{ap}
use Rattle.std.proofs.Math.Nat.{zero-div}
use Rattle.sl_tmframe.specs.TmDelimited.{tm_frames_from, tm_frames_of}
use Rattle.sl_tmframe.specs.TmFraming.{TmFraming}
use Rattle.sl_tmframe.proofs.DelimitedLemmas.{frames_of-first}
use Rattle.sl_engine.specs.Link.Managed.{Parameters}

-- that octets have the managed length, which isn't 0
abbrev pub is_tm_frame : Parameters → List ℕ → Type 0
is_tm_frame p frame = (0 < p.tm_length) × (length frame ≡ p.tm_length)

-- the frames of a recording, by the managed parameters, as framers, kinds and `engine_frames` have it; clauses of
-- calls, texts and counts cite `tm_frames_of`, which takes no more of them than it needs
abbrev pub tm_frames : Parameters → List ℕ → List (List ℕ)
tm_frames p recording = tm_frames_of p.tm_length recording

-- these octets came after the last frame
pub record TmWaits (f : TmFraming) (p : Parameters) (rest : List ℕ) : Type 0 where
  pub len : f.len ≡ p.tm_length
  pub rest_is : f.rest ≡ rest
  pub short : length rest < p.tm_length

-- ---- Two proofs, which the `Framer` of TM frames hands to its callers: they are members of its `impl`. Of its own
-- crate an `impl` cites only what stands in `specs`.

-- a frame at the front is the first one
pub tm_front_is_first : (p : Parameters) (frame more : List ℕ) → is_tm_frame p frame
    → tm_frames p (frame ++ more) ≡ frame ∷ tm_frames p more
tm_front_is_first p frame more h = frames_of-first p.tm_length frame more h.0 h.1

-- an empty recording has no frames
pub tm_nothing_has_none : (p : Parameters) → tm_frames p [] ≡ []
tm_nothing_has_none p = ap (λ n. tm_frames_from p.tm_length n []) (zero-div p.tm_length)
