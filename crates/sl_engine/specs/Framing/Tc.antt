-- TC frames of a recording that comes in chunks, as a framer cuts them.
use Rattle.std.specs.Prelude.{◌≡◌, ◌⊎◌, true, ℕ, List, [], ◌∷◌, ◌++◌}
use Rattle.std.proofs.Common.{refl}
use Rattle.sl_fields.specs.Field.{IsOctets}
use Rattle.sl_tcframe.specs.TcDelimited.{tc_frames_of}
use Rattle.sl_tcframe.specs.TcFrame.{is_cut}
use Rattle.sl_tcframe.specs.TcFraming.{IsRest, IsStuck, TcFraming}
use Rattle.sl_tcframe.proofs.DelimitedLemmas.{frames_of-frame}
use Rattle.sl_engine.specs.Link.Managed.{Parameters, tc_format}

-- octets that are one frame by its frame length field
abbrev pub is_tc_frame : Parameters → List ℕ → Type 0
is_tc_frame p frame = is_cut (tc_format p) frame ≡ true

-- the frames of a recording, by the managed parameters, as framers, kinds and `engine_frames` have it; clauses of
-- calls, texts and counts cite `tc_frames_of`, which takes no more of them than it needs
abbrev pub tc_frames : Parameters → List ℕ → List (List ℕ)
tc_frames p recording = tc_frames_of (tc_format p) recording

-- These octets came after the last frame: those that the framer has taken, and, where they state a length below the
-- least of a frame, whatever came after them.
pub record TcWaits (f : TcFraming) (p : Parameters) (rest : List ℕ) : Type 0 where
  pub format : f.format ≡ tc_format p
  pub octets : IsOctets rest
  pub taken : IsRest f.format f.rest
  pub more : List ℕ
  pub rest_is : rest ≡ f.rest ++ more
  pub later : (more ≡ []) ⊎ IsStuck f

-- ---- Two proofs, which the `Framer` of TC frames hands to its callers: they are members of its `impl`. Of its own
-- crate an `impl` cites only what stands in `specs`.

-- a frame at the front is the first one
pub tc_front_is_first : (p : Parameters) (frame more : List ℕ) → is_tc_frame p frame
    → tc_frames p (frame ++ more) ≡ frame ∷ tc_frames p more
tc_front_is_first p frame more h = frames_of-frame (tc_format p) frame more h

-- an empty recording has no frames
pub tc_nothing_has_none : (p : Parameters) → tc_frames p [] ≡ []
tc_nothing_has_none p = refl
