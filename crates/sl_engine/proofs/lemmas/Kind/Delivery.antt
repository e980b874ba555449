-- Frames of a kind that are counted and processed one after another, whichever kind it is: what they deliver, and how much.
use Rattle.std.proofs.Common.{◌≡◌, ◌↔◌, get_or, ℕ, ◌+◌, Bool, List, [], ◌∷◌, ◌++◌, length, ap, arith, refl, length-append, ◌<◌, ◌≤◌, not, map, take, inl, inr, sym, ◌∙◌, append_assoc, append-nil, add-zero, Result}
use Rattle.std.specs.List.{concat, filter, filter_map, slice_index_or}
use Rattle.std.specs.Result.{result_ok}
use Rattle.std.proofs.lemmas.Bool.Decides.{eqb_tells, leb_tells}
use Rattle.std.proofs.lemmas.Bool.{cases_lt}
use Rattle.std.proofs.lemmas.List.{ext_get_or, get_or-take, length-set, set-get_or, set-set, get_or-set_same, get_or-set_other}
use Rattle.std.proofs.lemmas.List.Elements.{filter-append, filter_map-append}
use Rattle.std.proofs.lemmas.Simd.{pick_l-range_with_len}
use Rattle.sl_fields.proofs.ListLemmas.{concat-push}
use Rattle.sl_packet.specs.Delivered.{AddsPacket, PacketLists, empty_lists}
use Rattle.sl_packet.specs.Packet.{is_idle_packet}
use Rattle.sl_packet.specs.Packets.{only_idle, without_idle}
use Rattle.sl_packet.specs.Sink.{TakesAll}
use Rattle.sl_packet.proofs.DeliveredLemmas.{length-empty_lists, list_at-empty_lists}
use Rattle.sl_packet.proofs.WithoutIdleLemmas.{without_idle-append}
use Rattle.sl_engine.specs.declared.tally.FrameReport.{FrameReport}
use Rattle.sl_engine.specs.Link.Totals.{Counts}
use Rattle.sl_engine.specs.Tally.{counts_more, counts_so_far, counts_with_anomalies, skipped_in, no_counts}
use Rattle.sl_engine.specs.Kind.Delivery.{AddsByChannel, AreStored, Brings, Delivers, HasDelivered, IsFrameReport, IsWithin, Kind, count_of, number_of_idle, delivered_packets, number_of_packets, with_frame, with_packets}
use Rattle.sl_engine.proofs.lemmas.Kind.Channels.{items_change, map_range, no_items, none_of}

-- ---- frames that are counted one after another

skipped-append : (is_skipped : List ℕ → Bool) (xs ys : List (List ℕ)) → skipped_in is_skipped (xs ++ ys) ≡ skipped_in is_skipped xs + skipped_in is_skipped ys
skipped-append is_skipped [] ys = omega arith
skipped-append is_skipped (x ∷ xs) ys = omega (arith, skipped-append is_skipped xs ys)

-- one frame more, and what it brings
pub so_far_more : (is_skipped : List ℕ → Bool) (frames : List (List ℕ)) (frame : List ℕ) (report : FrameReport) {t : Counts} {packets packets' idle idle' anomalies : ℕ}
    → t ≡ counts_so_far is_skipped frames packets idle anomalies → report.is_skipped ≡ is_skipped frame
    → packets + report.packets ≡ packets' → idle + report.idle ≡ idle'
    → counts_more t (length frame) report ≡ counts_so_far is_skipped (frames ++ frame ∷ []) packets' idle' anomalies
so_far_more is_skipped frames frame report are skips p i = simp (are, skips, concat-push, length-append, skipped-append, add-zero, p, i)

pub octets_more : (frames : List (List ℕ)) (frame : List ℕ) → length (concat (frames ++ frame ∷ [])) ≡ length (concat frames) + length frame
octets_more frames frame = rw concat-push (length-append (concat frames) frame)

-- ---- frames that are read

pub views_next : {View Skip : Type 0} (read : List ℕ → Result View Skip) (frames : List (List ℕ)) (frame : List ℕ)
    → filter_map (λ f. result_ok (read f)) (frames ++ frame ∷ []) ≡ with_frame (filter_map (λ f. result_ok (read f)) frames) (read frame)
views_next read frames frame = grind (arith, filter_map-append, append-nil)

-- ---- what is counted

pub octets_counted : {k : Kind} {had : List (List ℕ) → Type 0} {frames : List (List ℕ)} {anomalies : ℕ} {t : Counts} → HasDelivered k had frames anomalies t → t.octets ≡ length (concat frames)
octets_counted d = ap (λ (c : Counts). c.octets) d.counts

module _ (k : Kind) (laws : AddsByChannel k) where
  -- the packets of a channel that pass a test
  abbrev passing : (List ℕ → Bool) → List (List ℕ) → ℕ → List (List ℕ)
  passing test frames channel = filter test (k.packets frames channel)

  count_more : (test : List ℕ → Bool) (frames : List (List ℕ)) (frame : List ℕ)
      → count_of (map (passing test (frames ++ frame ∷ [])) k.channels) ≡ count_of (map (passing test frames) k.channels) + length (filter test (k.packets_ended_by frames frame))
  count_more test frames frame =
      let at = k.channel frame in
      let change = items_change k.channel_limit k.channels laws.all (passing test frames) (passing test (frames ++ frame ∷ [])) at (laws.inside frame)
      (λ i other. ap (λ l. length (filter test l)) (laws.other frames frame i (λ e. other (sym e)))) in
      omega (arith, change, simp (filter-append, length-append) at (ap (λ l. length (filter test l)) (laws.own frames frame)))

  pub packets_more : (frames : List (List ℕ)) (frame : List ℕ) → number_of_packets k (frames ++ frame ∷ []) ≡ number_of_packets k frames + length (without_idle (k.packets_ended_by frames frame))
  packets_more = count_more (λ packet. not (is_idle_packet packet))

  pub idle_more : (frames : List (List ℕ)) (frame : List ℕ) → number_of_idle k (frames ++ frame ∷ []) ≡ number_of_idle k frames + length (only_idle (k.packets_ended_by frames frame))
  idle_more = count_more is_idle_packet

  pub no_packets : number_of_packets k [] ≡ 0
  no_packets = no_items (λ channel. without_idle (k.packets [] channel)) k.channels (λ channel. ap without_idle (laws.none channel))

  pub no_idle : number_of_idle k [] ≡ 0
  no_idle = no_items (λ channel. only_idle (k.packets [] channel)) k.channels (λ channel. ap only_idle (laws.none channel))

  -- none yet
  pub none_within : IsWithin k []
  none_within = record { adds = laws; within = omega (arith, no_packets, no_idle) }

  pub none_delivered : {had : List (List ℕ) → Type 0} → had [] → HasDelivered k had [] 0 no_counts
  none_delivered had = record { processed = had; counts = rw (no_packets, no_idle) refl; few = omega arith }

  -- ---- one frame more

  module _ {had : List (List ℕ) → Type 0} {before : List (List ℕ)} {frame : List ℕ} {anomalies : ℕ} {t : Counts} {report : FrameReport}
      (d : HasDelivered k had before anomalies t) (r : IsFrameReport k before frame report) where
    counts_next : counts_more t (length frame) report
        ≡ counts_so_far k.is_skipped (before ++ frame ∷ []) (number_of_packets k (before ++ frame ∷ [])) (number_of_idle k (before ++ frame ∷ [])) anomalies
    counts_next = so_far_more k.is_skipped before frame report d.counts r.skipped (omega (arith, r.packets, packets_more before frame)) (omega (arith, r.idle, idle_more before frame))

    pub delivered_more : {had' : List (List ℕ) → Type 0} → had' (before ++ frame ∷ []) → 0 < length frame
        → HasDelivered k had' (before ++ frame ∷ []) anomalies (counts_more t (length frame) report)
    delivered_more next some = record {
      processed = next;
      counts = counts_next;
      few = omega (arith, some, d.few, length-append before (frame ∷ []), octets_more before frame);
    }

    -- the same with its anomalies, which are fewer than its octets
    module _ {more : ℕ} (few : more < length frame) where
      pub checked_more : {had' : List (List ℕ) → Type 0} {anomalies' : ℕ} → had' (before ++ frame ∷ []) → anomalies + more ≡ anomalies'
          → HasDelivered k had' (before ++ frame ∷ []) anomalies' (counts_with_anomalies (counts_more t (length frame) report) more)
      checked_more next are = record {
        processed = next;
        counts = ap (λ (c : Counts). counts_with_anomalies c more) counts_next ∙ ap (counts_so_far k.is_skipped (before ++ frame ∷ []) _ _) are;
        few = omega (arith, are, few, d.few, length-append before (frame ∷ []), octets_more before frame);
      }

      pub anomalies_fit : t.anomalies + more ≤ t.octets + length frame
      anomalies_fit = rw d.counts (omega (arith, few, d.few))

    -- what is counted after it fits
    pub fits_more : IsWithin k (before ++ frame ∷ []) → t.packets + report.packets + (t.idle + report.idle) ≤ t.octets + length frame
    fits_more w = rw d.counts (omega (arith, w.within, r.packets, r.idle, packets_more before frame, idle_more before frame, octets_more before frame))

-- what a frame brings, by the packets that end in it,
pub brings_as : {k : Kind} {before : List (List ℕ)} {frame : List ℕ} {report : FrameReport} {ended : List (List ℕ)} {skips : Bool} → k.packets_ended_by before frame ≡ ended → k.is_skipped frame ≡ skips → 5 ≤ length frame
    → report.is_skipped ≡ skips → report.packets ≡ length (without_idle ended) → report.idle ≡ length (only_idle ended) → Brings k before frame report
brings_as ends skipping some skipped packets idle = grind arith

-- and by their channel too, where they are delivered
pub delivers_as : {S : Type 0} {taking : S → ℕ → List ℕ → S → Type 0} {k : Kind} {before : List (List ℕ)} {frame : List ℕ} {old new : S} {report : FrameReport}
    {channel : ℕ} {ended : List (List ℕ)} {skips : Bool} → k.channel frame ≡ channel → k.packets_ended_by before frame ≡ ended → k.is_skipped frame ≡ skips → 5 ≤ length frame
    → TakesAll taking old channel (without_idle ended) new → report.is_skipped ≡ skips → report.packets ≡ length (without_idle ended) → report.idle ≡ length (only_idle ended)
    → Delivers taking k before frame old report new
delivers_as at ends skipping some accepted skipped packets idle = grind arith

-- ---- packets that are stored

-- packets that were accepted in turn were added in turn
takes_all : (packets : List (List ℕ)) (old new : PacketLists) (channel : ℕ) → channel < length old.lists
    → TakesAll AddsPacket old channel packets new → new.lists ≡ with_packets old.lists channel packets
takes_all [] old new channel inside same = rw same (simp (append-nil, set-get_or) refl)
takes_all (packet ∷ packets) old new channel inside t =
    takes_all packets t.0 new channel (omega (arith, inside, ap length t.1, length-set {A = List (List ℕ)})) t.2 ∙ simp (t.1, get_or-set_same, set-set, append_assoc)

module _ (k : Kind) (laws : AddsByChannel k) where
  pub none_stored : (lists : List (List (List ℕ))) → lists ≡ empty_lists → AreStored k [] lists
  none_stored lists none = grind (arith, length-empty_lists, list_at-empty_lists, laws.none)

  -- one frame more
  pub stored_more : (frames : List (List ℕ)) (frame : List ℕ) (old new : PacketLists) → AreStored k frames old.lists
      → TakesAll AddsPacket old (k.channel frame) (without_idle (k.packets_ended_by frames frame)) new → AreStored k (frames ++ frame ∷ []) new.lists
  stored_more frames frame old new stored taken = grind (arith, eqb_tells, get_or-set_other, get_or-set_same, length-set, takes_all, without_idle-append, stored.each, stored.none_past, stored.size, laws.few, laws.inside, laws.other)

  module _ (frames : List (List ℕ)) (lists : List (List (List ℕ))) (stored : AreStored k frames lists) where
    -- the lists of the channels are those of the frames,
    pub all_stored : take k.channel_limit lists ≡ delivered_packets k frames
    all_stored = rw (laws.all, ← pick_l-range_with_len [] lists 0 k.channel_limit (omega (arith, stored.size, laws.few)))
        (map_range _ (λ channel. without_idle (k.packets frames channel)) 0 k.channel_limit (λ channel below. stored.each channel (omega (arith, below))))

    -- and where some channel's is not empty, they deliver a packet
    pub some_stored : (((channel : ℕ) → channel < k.channel_limit → slice_index_or lists channel [] ≡ []) → ⊥) → 0 < number_of_packets k frames
    some_stored some = elim (leb_tells 1 (number_of_packets k frames)) [
      | inl (is, more) ↦ more
      | inr (is, few) ↦
          absurd (some (λ channel below. stored.each channel below ∙ none_of k.channel_limit k.channels laws.all (λ c. without_idle (k.packets frames c)) (omega (arith, few)) channel below))
    ]

-- what is stored is the same exactly where the packets are: past the last channel there are none
pub same_stored : (k : Kind) → AddsByChannel k → (frames others : List (List ℕ)) (lists stored : List (List (List ℕ))) → AreStored k frames lists → AreStored k others stored
    → {P : Type 0} → (P ↔ (lists ≡ stored)) → P ↔ (delivered_packets k frames ≡ delivered_packets k others)
same_stored k laws frames others lists stored one other reported =
    let mine = all_stored k laws frames lists one in
    let its = all_stored k laws others stored other in (
      λ p. rw (← mine, ← its) (ap (take k.channel_limit) (reported.0 p)),
      λ same. reported.1 (ext_get_or [] lists stored (one.size ∙ sym other.size) (λ channel inside.
          elim (cases_lt channel k.channel_limit) [
            | inl below ↦ sym (get_or-take k.channel_limit lists channel [] below) ∙ ap (λ l. get_or l channel []) (mine ∙ same ∙ sym its) ∙ get_or-take k.channel_limit stored channel [] below
            | inr past ↦ one.none_past channel past ∙ sym (other.none_past channel past)
          ])),
    )
