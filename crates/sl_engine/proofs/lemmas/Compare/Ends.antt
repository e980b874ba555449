-- What two recordings that were read to their ends deliver, on each channel.
use Rattle.std.proofs.Common.{◌≡◌, ◌↔◌, ℕ, ◌-◌, ◌≤◌, ◌<◌, ◌⊎◌, Bool, true, false, List, [], ◌∷◌, ◌++◌, length, refl, sym, ◌∙◌, ap, arith, append_assoc, append-nil, inl, inr}
use Rattle.std.proofs.Math.ListN.{get_or-eq_default}
use Rattle.std.proofs.lemmas.Bool.{cases_lt}
use Rattle.std.proofs.lemmas.List.{ext_get_or}
use Rattle.std.proofs.lemmas.List.FromFn.{get_or-map-range_with_len, length-range_with_len}
use Rattle.sl_packet.specs.Packets.{without_idle}
use Rattle.sl_pair.specs.Pairing.{HaveSame}
use Rattle.std.specs.List.{concat}
use Rattle.std.proofs.Common.{Option, length-append}
use Rattle.std.proofs.lemmas.List.{length-map}
use Rattle.sl_io.specs.declared.counted.Counted.{Counted}
use Rattle.sl_engine.specs.Framing.{HasCutAll, HasPassed}
use Rattle.sl_engine.specs.Io.Streams.{IsRead, ReadsAll}
use Rattle.sl_engine.specs.Link.Managed.{Parameters}
use Rattle.sl_engine.specs.Compare.{ReadsBeginning, by_channel}
use Rattle.sl_engine.specs.Compare.Turns.{left_to_read, packets_on}
use Rattle.sl_engine.specs.Compare.Summarised.{HasSummed, recording_summary}
use Rattle.sl_engine.specs.Compare.Words.{word_counts}
use Rattle.sl_engine.specs.Kind.Delivery.{AddsByChannel, Kind, delivered_packets}
use Rattle.sl_engine.specs.Link.Totals.{Counts}
use Rattle.sl_engine.specs.Tally.{no_counts}
use Rattle.sl_engine.specs.declared.compare.signs.Signs.{Signs}
use Rattle.sl_engine.specs.declared.compare.summary.Summary.{Summary}
use Rattle.sl_engine.specs.declared.compare.words.WordCounts.{WordCounts}
use Rattle.sl_engine.proofs.lemmas.Framing.Reading.{passing_none}
use Rattle.sl_engine.proofs.lemmas.Kind.Delivery.{none_delivered}

-- a turn reads on, or comes to the end
pub nearer_end : (limit octets octets' : ℕ) (is_read is_read' : Bool) → is_read ≡ false → octets ≤ limit → (is_read' ≡ true) ⊎ (octets < octets')
    → left_to_read limit octets' is_read' < left_to_read limit octets is_read
nearer_end limit octets octets' is_read true is within near = rw is (omega (arith, within))
nearer_end limit octets octets' is_read false is within (inl end) = absurd (let bad : false ≡ true = end in cc)
nearer_end limit octets octets' is_read false is within (inr more) = rw is (omega (arith, within, more))

module _ (k : Kind) (laws : AddsByChannel k) where
  -- past the last channel there are no packets
  none_past : (channel : ℕ) → k.channel_limit ≤ channel → (before later : List (List ℕ)) → k.packets before channel ≡ [] → k.packets (before ++ later) channel ≡ []
  none_past channel past before [] none = ap (λ frames. k.packets frames channel) (append-nil before) ∙ none
  none_past channel past before (frame ∷ later) none =
      let next = laws.other before frame channel (λ e. absurd (omega (arith, past, laws.inside frame, e))) ∙ none in
      ap (λ frames. k.packets frames channel) (sym (append_assoc before (frame ∷ []) later)) ∙ none_past channel past (before ++ frame ∷ []) later next

  -- the packets of each channel, as they are listed
  pub on_channels : (frames : List (List ℕ)) (channel : ℕ) → packets_on k frames channel ≡ by_channel (delivered_packets k frames) channel
  on_channels frames channel = elim (cases_lt channel k.channel_limit) [
    | inl below ↦ rw laws.all (sym (get_or-map-range_with_len (packets_on k frames) 0 k.channel_limit channel channel [] below (omega arith)))
    | inr past ↦ ap without_idle (none_past channel past [] frames (laws.none channel))
        ∙ sym (get_or-eq_default (delivered_packets k frames) [] (rw laws.all (simp (length-map, length-range_with_len) (omega (arith, past)))))
  ]

-- the numbers of a recording, by its frames
pub summary_whole : (summary_of : List (List ℕ) → ℕ → Summary) (frames_of : List ℕ → List (List ℕ)) {frames : List (List ℕ)} {n : ℕ} {octets : List ℕ} → frames_of octets ≡ frames → n ≡ length octets
    → summary_of frames (n - length (concat frames)) ≡ recording_summary summary_of frames_of octets
summary_whole summary_of frames_of is size = rw (is, size) refl

-- nothing was read yet,
pub none_summed : (k : Kind) {anomalies_at : List (List ℕ) → List ℕ → List (List ℕ)} {had : List (List ℕ) → Type 0} {signs_of : List (List ℕ) → Signs} {counts : Counts} {words : WordCounts} {signs : Signs}
    → AddsByChannel k → had [] → counts ≡ no_counts → words ≡ word_counts [] → signs ≡ signs_of [] → HasSummed k anomalies_at had signs_of counts words signs []
none_summed k laws processed counted worded signed = record { delivered = rw counted (none_delivered k laws processed); words = worded; signs = signed }

pub none_read : {R F : Type 0} {remaining : R → Option (List ℕ)} {is_frame : Parameters → List ℕ → Type 0} {waits : F → Parameters → List ℕ → Type 0} {frames_of : Parameters → List ℕ → List (List ℕ)} {counted : List (List ℕ) → Type 0}
    {p : Parameters} {framer : F} {reader : Counted R} {limit n : ℕ} → waits framer p [] → frames_of p [] ≡ [] → counted [] → n ≡ 0
    → HasPassed remaining reader reader limit n (HasCutAll is_frame waits frames_of counted p framer) []
none_read waiting none done is =
    rw is (passing_none (record { cut = record { frames = []; rest = []; waiting = waiting; parts = refl; whole = tt; done = done }; all = none }))

-- and no packet came
pub none_on : (k : Kind) → AddsByChannel k → k.frames_of [] ≡ [] → (channel : ℕ) → [] ≡ packets_on k (k.frames_of []) channel
none_on k laws none channel = sym (ap (λ frames. packets_on k frames channel) none ∙ ap without_idle (laws.none channel))

-- as many lists
pub same_lengths : (k k' : Kind) → k.channels ≡ k'.channels → (frames others : List (List ℕ)) → length (delivered_packets k frames) ≡ length (delivered_packets k' others)
same_lengths k k' same frames others = simp (length-map, same)

module _ {R F : Type 0} {remaining : R → Option (List ℕ)} {is_frame : Parameters → List ℕ → Type 0} {waits : F → Parameters → List ℕ → Type 0} {frames_of : Parameters → List ℕ → List (List ℕ)} {counted : List (List ℕ) → Type 0}
    {p : Parameters} {framer : F} {begun reader : Counted R} {limit n : ℕ} {octets : List ℕ} (s : HasPassed remaining begun reader limit n (HasCutAll is_frame waits frames_of counted p framer) octets) where
  -- what was read so far is its beginning,
  pub beginning : ReadsBeginning remaining begun reader limit
  beginning = record { octets = octets; within = omega (arith, s.size, s.allowed); read = s.read; no_fault = s.no_fault }

  -- and at its end all of it
  pub read_whole : IsRead remaining reader → ReadsAll remaining begun reader limit octets
  read_whole end = record { within = omega (arith, s.size, s.allowed); read = s.read; to_end = end; no_fault = s.no_fault }

  -- the frames have no more octets than were read
  pub inside_octets : length (concat s.all.cut.frames) ≤ n
  inside_octets = omega (arith, s.size, ap length s.all.cut.parts, length-append (concat s.all.cut.frames) (s.all.cut.rest ++ []))

-- lists of as many channels are the same exactly where each channel's are
pub same_lists : {P : Type 0} (lists others : List (List (List ℕ))) → length lists ≡ length others → (P ↔ HaveSame (by_channel lists) (by_channel others)) → P ↔ (lists ≡ others)
same_lists lists others long reported = (
  λ p. ext_get_or [] lists others long (λ channel inside. reported.0 p channel),
  λ same. reported.1 (λ channel. ap (λ l. by_channel l channel) same),
)
