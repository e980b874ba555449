-- A listing: frame by frame, and of a whole recording, and how it stops.
use Rattle.std.proofs.Common.{◌≡◌, ℕ, List, [], ◌∷◌, ◌++◌, Option, sym, ◌∙◌, ap, append_assoc, append-nil, ◌-◌, ◌≤◌, length, Result, Ok, Err, inl, inr}
use Rattle.std.specs.List.{concat}
use Rattle.sl_engine.specs.declared.io.output.Output.{Output}
use Rattle.sl_io.specs.declared.fault.LinkFault.{LinkFault}
use Rattle.sl_engine.specs.Io.Output.{Adds, KeepsWriter}
use Rattle.sl_engine.specs.Verbs.Listing.{Frames, lines_from, EndsListing, Listing, listing_text}
use Rattle.sl_io.specs.declared.counted.Counted.{Counted}
use Rattle.sl_engine.specs.Link.Counted.{faults_of}
use Rattle.sl_engine.specs.Io.Streams.{Reads, StopsWriting, Translates, WritesPrefix}
use Rattle.sl_engine.specs.Framing.{PassesOver, StopsPassing, MayRefuseMemoryAtSome}
use Rattle.sl_engine.specs.Link.Totals.{Counts}
use Rattle.sl_engine.specs.Tally.{remainder_after}
use Rattle.sl_io.proofs.StreamLemmas.{reader_caused, writer_caused}
use Rattle.sl_engine.proofs.lemmas.Io.Streams.{adds_both, stops_then, adds_none, stops_first, stops_last}

-- ---- frame by frame

module _ {X : Type 0} (line : Frames → List ℕ → List X) where
  pub lines_from-append : (before xs ys : Frames) → lines_from line before (xs ++ ys) ≡ lines_from line before xs ++ lines_from line (before ++ xs) ys
  lines_from-append before [] ys = ap (λ b. lines_from line b ys) (sym (append-nil before))
  lines_from-append before (x ∷ xs) ys = rw (lines_from-append (before ++ x ∷ []) xs ys, append_assoc before (x ∷ []) xs, append_assoc (line before x))

  pub lines_from-last : (xs : Frames) (x : List ℕ) → lines_from line [] (xs ++ x ∷ []) ≡ lines_from line [] xs ++ line xs x
  lines_from-last xs x = lines_from-append [] xs (x ∷ []) ∙ ap (λ l. lines_from line [] xs ++ l) (append-nil (line xs x))

module _ {W : Type 0} {contents : W → Option (List ℕ)} {start old : Output W} (line : Frames → List ℕ → List ℕ) (frames : Frames) (frame : List ℕ) (a : Adds contents start (lines_from line [] frames) old) where
  pub frame_added : {new : Output W} → Adds contents old (line frames frame) new → Adds contents start (lines_from line [] (frames ++ frame ∷ [])) new
  frame_added b = rw (lines_from-last line frames frame) (adds_both a b)

  pub frame_stopped : {new : Counted W} {at_memory : Type 0} {fault : LinkFault} → StopsWriting contents old.writer.now new (old.lines ++ line frames frame) at_memory fault
      → StopsWriting contents start.writer.now new (start.lines ++ lines_from line [] (frames ++ frame ∷ [])) at_memory fault
  frame_stopped s = rw (lines_from-last line frames frame) (stops_then (line frames frame) a s)

-- ---- of a whole recording

module _ {R W : Type 0} (remaining : R → Option (List ℕ)) (contents : W → Option (List ℕ)) (l : Listing) (frames_of : List ℕ → Frames) (reader reader' : Counted R) (limit past : ℕ) (may_refuse_memory : Frames → Type 0) where
  -- the text after the first frames
  later_text : (octets : List ℕ) (first later : Frames) → frames_of octets ≡ first ++ later
      → lines_from l.lines [] first ++ (lines_from l.lines first later ++ l.last (frames_of octets) (remainder_after (frames_of octets) octets)) ≡ listing_text frames_of l octets
  later_text octets first later e = rw (← append_assoc (lines_from l.lines [] first), ← lines_from-append l.lines [] first later, ← e)

  module _ (start new : Output W) (empty : start.lines ≡ []) where
    -- the output keeps the writer that was lent, and the listing ends in this way
    abbrev pub Ends : Result Counts LinkFault → Type 0
    Ends result =
        KeepsWriter start new
        × EndsListing remaining contents reader reader' start.writer.now new.writer.now frames_of l limit past may_refuse_memory result

    -- a fault at a text with which the listing of these octets begins
    stops_at : (at_memory : Type 0) (text more octets : List ℕ) (fault : LinkFault) → Reads remaining reader reader' octets → faults_of reader' ≡ faults_of reader → length octets ≤ limit
        → text ++ more ≡ listing_text frames_of l octets → KeepsWriter start new → StopsWriting contents start.writer.now new.writer.now (start.lines ++ text) at_memory fault
        → (at_memory → MayRefuseMemoryAtSome remaining reader reader' frames_of may_refuse_memory) → Ends (Err fault)
    stops_at at_memory text more octets fault read kept within e lent s allowed =
        let written = rw (empty, e) at (stops_first start.lines text more s).front in
        let cause = writer_caused reader reader' start.writer.now new.writer.now limit past octets fault kept within s.cause in
        (lent, record { listing = tt; totals = tt; fault = record { octets = octets; read = read; written = written; cause = cause }; memory = λ is_memory. allowed (s.memory is_memory) })

    -- a fault before all was read
    pub stops_frames : (taken : Frames → Type 0) (stopped : Frames → LinkFault → Type 0) (fault : LinkFault)
        → ((frames : Frames) → taken frames → Adds contents start (lines_from l.lines [] frames) new)
        → ((frames : Frames) → stopped frames fault → KeepsWriter start new
        × StopsWriting contents start.writer.now new.writer.now (start.lines ++ lines_from l.lines [] frames) (may_refuse_memory frames) fault)
        → StopsPassing remaining reader reader' frames_of taken stopped limit past fault → Ends (Err fault)
    stops_frames taken stopped fault added stops s =
        let more = lines_from l.lines s.first s.later ++ l.last (frames_of s.octets) (remainder_after (frames_of s.octets) s.octets) in
        let text = later_text s.octets s.first s.later s.in_order in
        elim s.cause [
          | inl at ↦
              let a = added s.first at.0 in
              let t = a.adds in
              let front : t.written ++ (new.lines ++ more) ≡ listing_text frames_of l s.octets = rw (← append_assoc t.written new.lines more, ← t.parts, empty) text in
              let written : WritesPrefix contents start.writer.now new.writer.now (listing_text frames_of l s.octets) = record { written = t.written; missing = new.lines ++ more; front = front; writes = t.writes } in
              let cause = reader_caused reader reader' start.writer.now new.writer.now limit past s.octets fault t.no_fault at.2 in
              (a.lent, record { listing = tt; totals = tt; fault = record { octets = s.octets; read = s.read; written = written; cause = cause }; memory = λ is_memory. absurd (at.1 is_memory) })
          | inr at ↦
              let w = stops s.first at.0 in
              stops_at (may_refuse_memory s.first) (lines_from l.lines [] s.first) more s.octets fault s.read at.1 at.2 text w.0 w.1
              (λ at_memory. record { octets = s.octets; read = s.read; first = s.first; later = s.later; in_order = s.in_order; at_last = at_memory })
        ]

    module _ (n : ℕ) (taken : Frames → Type 0) (s : PassesOver remaining reader reader' frames_of taken limit n) (mid : Output W) (listed : Adds contents start (lines_from l.lines [] (frames_of s.octets)) mid) where
      abbrev last_lines : List ℕ
      last_lines = l.last (frames_of s.octets) (n - length (concat (frames_of s.octets)))

      whole_text : lines_from l.lines [] (frames_of s.octets) ++ last_lines ≡ listing_text frames_of l s.octets
      whole_text = ap (λ k. lines_from l.lines [] (frames_of s.octets) ++ l.last (frames_of s.octets) (k - length (concat (frames_of s.octets)))) s.size

      -- a fault of the last lines
      pub stops_finish : (fault : LinkFault) → KeepsWriter mid new → StopsWriting contents mid.writer.now new.writer.now (mid.lines ++ last_lines) ⊥ fault → Ends (Err fault)
      stops_finish fault lent f = stops_at ⊥ _ [] s.octets fault s.read s.no_fault s.within (append-nil _ ∙ whole_text) (lent ∙ listed.lent) (stops_then last_lines listed f) (λ never. absurd never)

      module _ (end : Output W) (added : Adds contents mid last_lines end) where
        -- a fault of writing what waits
        pub stops_flush : (fault : LinkFault) → KeepsWriter end new → StopsWriting contents end.writer.now new.writer.now end.lines ⊥ fault → Ends (Err fault)
        stops_flush fault lent f = stops_at ⊥ _ [] s.octets fault s.read s.no_fault s.within (append-nil _ ∙ whole_text) (lent ∙ added.lent ∙ listed.lent) (stops_last (adds_both listed added) f) (λ never. absurd never)

        -- all is written and counted
        pub lists_all : (totals : Counts) → Adds contents end [] new → new.lines ≡ [] → totals ≡ l.counts (frames_of s.octets) (n - length (concat (frames_of s.octets))) → Ends (Ok totals)
        lists_all totals flushed none counts =
            let all = adds_none (adds_both listed added) flushed in
            let t = all.adds in
            let text : t.written ≡ listing_text frames_of l s.octets = rw (← whole_text) (simp (empty, none, append-nil) at (sym t.parts)) in
            let translated : Translates remaining contents reader reader' start.writer.now new.writer.now (listing_text frames_of l) limit = record {
              octets = s.octets;
              within = s.within;
              read = s.read;
              to_end = s.to_end;
              written = rw (← text) t.writes;
              reader_kept = s.no_fault;
              writer_kept = t.no_fault;
            } in
            (all.lent, record { listing = translated; totals = record { translated = translated; totals_are = rw (← s.size) counts }; fault = tt; memory = tt })
