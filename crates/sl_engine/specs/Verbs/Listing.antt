-- A listing that is written frame by frame: the lines of each frame by the frames before it, and those after the last.
use Rattle.std.specs.Prelude.{◌≡◌, ℕ, List, [], ◌∷◌, ◌++◌, Option, Result, IfOk, IfErr, OnOk}
use Rattle.sl_io.specs.declared.counted.Counted.{Counted}
use Rattle.sl_io.specs.declared.fault.LinkFault.{LinkFault}
use Rattle.sl_io.specs.declared.fault.LinkFault.TheVariants.{Memory}
use Rattle.sl_engine.specs.Io.Streams.{Stops, Translates, TranslatesWithTotals}
use Rattle.sl_engine.specs.Link.Totals.{Counts}
use Rattle.sl_engine.specs.Framing.{MayRefuseMemoryAtSome}
use Rattle.sl_engine.specs.Tally.{recording_counts, remainder_after}

-- frames, as octets
abbrev pub Frames : Type 0
Frames = List (List ℕ)

-- ---- listings

-- A listing: the lines of a frame that comes after others, none or more, as octets; those after all frames, with the
-- number of octets of the remainder; and what is counted then.
pub record Listing : Type 0 where
  pub lines : Frames → List ℕ → List ℕ
  pub last : Frames → ℕ → List ℕ
  pub counts : Frames → ℕ → Counts

-- What `lines` gives for each of the frames, put together in their order; they come after `before`. It gives octets, or
-- a list of lines.
abbrev pub lines_from : {X : Type 0} → (Frames → List ℕ → List X) → Frames → Frames → List X
lines_from lines before [] = []
lines_from lines before (frame ∷ frames) = lines before frame ++ lines_from lines (before ++ frame ∷ []) frames

-- the text of a recording: the lines of its frames, and those after the last one
abbrev pub listing_text : (List ℕ → Frames) → Listing → List ℕ → List ℕ
listing_text frames_of l recording = lines_from l.lines [] (frames_of recording)
    ++ l.last (frames_of recording) (remainder_after (frames_of recording) recording)

-- ---- the engines of listings. Contracts of private functions alone cite this section.

-- How a listing ends: all is read, and its listing written and counted; or a fault came, which has its cause.
pub record EndsListing {R W : Type 0} (remaining : R → Option (List ℕ)) (contents : W → Option (List ℕ))
    (reader reader' : Counted R) (writer writer' : Counted W) (frames_of : List ℕ → Frames) (l : Listing)
    (limit past : ℕ) (may_refuse_memory : Frames → Type 0) (result : Result Counts LinkFault) : Type 0 where
  pub listing : OnOk result
      (Translates remaining contents reader reader' writer writer' (listing_text frames_of l) limit)
  pub totals : IfOk result (TranslatesWithTotals remaining contents reader reader' writer writer'
      (listing_text frames_of l) (recording_counts l.counts frames_of) limit)
  pub fault : IfErr result
      (Stops remaining contents reader reader' writer writer' (listing_text frames_of l) limit past)
  pub memory : IfErr result
      (λ fault. fault ≡ Memory → MayRefuseMemoryAtSome remaining reader reader' frames_of may_refuse_memory)
