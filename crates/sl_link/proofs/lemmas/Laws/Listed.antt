-- The packets of a listing: on each channel those that a recording delivers there.
use Rattle.std.proofs.Common.{◌≡◌, ℕ, ◌≤◌, ◌==◌, true, false, List, [], ◌∷◌, ◌++◌, map, inl, inr, refl, sym, ◌∙◌, ap, arith, append_assoc, append-nil}
use Rattle.std.specs.List.{concat, slice_index_or}
use Rattle.std.proofs.lemmas.Bool.Decides.{eqb_tells, leb_tells, nat_tests}
use Rattle.std.proofs.lemmas.List.{map-append, get_or_past}
use Rattle.std.proofs.lemmas.List.Elements.{filter-append}
use Rattle.std.proofs.lemmas.List.Folds.{concat-append}
use Rattle.std.proofs.lemmas.List.FromFn.{get_or-map-range_with_len, length-map-range_with_len}
use Rattle.sl_packet.specs.Packets.{without_idle}
use Rattle.sl_packet.proofs.WithoutIdleLemmas.{without_idle-append}
use Rattle.sl_tcflow.specs.AcceptedUnit as accepted
use Rattle.sl_engine.specs.declared.verbs.packets.printer.ChannelName.{ChannelName}
use Rattle.sl_engine.specs.Kind.Delivery.{AddsByChannel, Kind, delivered_packets, packets_by_channel}
use Rattle.sl_link.specs.Laws.Listed.{ListedPacket, ListsPackets, line_of, packets_listed_on, TmPacketsAreListed, TcPacketsAreListed}
use Rattle.sl_engine.specs.Verbs.Packets.Printed.{ArePrinted, channel_name, lines_on}
use Rattle.sl_engine.specs.Verbs.Listing.{lines_from, listing_text}
use Rattle.sl_engine.specs.declared.verbs.packets.printer.ChannelName.TheVariants.{VirtualChannel, Map}
use Rattle.sl_engine.specs.Kind.Tc as tc_deliver
use Rattle.sl_engine.specs.Kind.Tm as tm_deliver
use Rattle.sl_engine.specs.Kind.Tc.{tc_kind}
use Rattle.sl_engine.specs.Kind.Tm.{tm_kind}
use Rattle.sl_engine.specs.Verbs.Packets.Tc.{packets_tc_lines}
use Rattle.sl_engine.specs.Verbs.Packets.Tm.{packets_tm_lines}
use Rattle.sl_engine.specs.Verbs.Packets.Line.{packets_listing}
use Rattle.sl_engine.proofs.lemmas.Kind.Tc.{tc_adds_by_channel}
use Rattle.sl_engine.proofs.lemmas.Kind.Tm.{tm_adds_by_channel}
use Rattle.sl_engine.proofs.lemmas.Verbs.Packets.Printed.{tm_printed, tc_printed}

-- ---- channel by channel

-- packets, all on one channel
abbrev listed_at : ℕ → List (List ℕ) → List ListedPacket
listed_at channel packets = map (λ packet. record { channel = channel; packet = packet }) packets

listed_same : (channel other : ℕ) (packets : List (List ℕ)) → (channel == other) ≡ true → packets_listed_on (listed_at channel packets) other ≡ packets
listed_same channel other [] is = refl
listed_same channel other (packet ∷ packets) is = rw is (ap (λ l. packet ∷ l) (listed_same channel other packets is))

listed_other : (channel other : ℕ) (packets : List (List ℕ)) → (channel == other) ≡ false → packets_listed_on (listed_at channel packets) other ≡ []
listed_other channel other [] is = refl
listed_other channel other (packet ∷ packets) is = rw is (listed_other channel other packets is)

listed-append : (channel : ℕ) (xs ys : List ListedPacket) → packets_listed_on (xs ++ ys) channel ≡ packets_listed_on xs channel ++ packets_listed_on ys channel
listed-append channel xs ys = simp (filter-append, map-append)

-- their lines
lines_at : (names : ChannelName) (channel : ℕ) (packets : List (List ℕ)) → lines_on names channel packets ≡ concat (map (line_of (channel_name names)) (listed_at channel packets))
lines_at names channel [] = refl
lines_at names channel (packet ∷ packets) = ap (λ l. line_of (channel_name names) (record { channel = channel; packet = packet }) ++ l) (lines_at names channel packets)

module _ (k : Kind) where
  -- the packets that end in frames which come after others
  abbrev listed_in : List (List ℕ) → List ℕ → List ListedPacket
  listed_in before frame = listed_at (k.channel frame) (without_idle (k.packets_ended_by before frame))

  abbrev listed_from : List (List ℕ) → List (List ℕ) → List ListedPacket
  listed_from before [] = []
  listed_from before (frame ∷ frames) = listed_in before frame ++ listed_from (before ++ frame ∷ []) frames

  module _ (names : ChannelName) (lines : List (List ℕ) → List ℕ → List ℕ) (printed : ArePrinted k names lines) where
    lines_are : (before frames : List (List ℕ)) → lines_from lines before frames ≡ concat (map (line_of (channel_name names)) (listed_from before frames))
    lines_are before [] = refl
    lines_are before (frame ∷ frames) =
        rw (printed before frame, lines_at names (k.channel frame) (without_idle (k.packets_ended_by before frame)), lines_are (before ++ frame ∷ []) frames, map-append, concat-append) refl

  module _ (laws : AddsByChannel k) where
    abbrev on : List (List ℕ) → ℕ → List (List ℕ)
    on frames channel = without_idle (k.packets frames channel)

    one_frame : (before : List (List ℕ)) (frame : List ℕ) (channel : ℕ)
        → on before channel ++ packets_listed_on (listed_in before frame) channel ≡ on (before ++ frame ∷ []) channel
    one_frame before frame channel = grind (arith, append-nil, eqb_tells, listed_other, listed_same, without_idle-append, laws.other, laws.own)

    -- on each channel they are the packets that the frames deliver
    listed_on : (before frames : List (List ℕ)) (channel : ℕ)
        → on before channel ++ packets_listed_on (listed_from before frames) channel ≡ on (before ++ frames) channel
    listed_on before [] channel = rw (append-nil before) (append-nil (on before channel))
    listed_on before (frame ∷ frames) channel =
        rw (listed-append channel (listed_in before frame) (listed_from (before ++ frame ∷ []) frames), ← append_assoc (on before channel), one_frame before frame channel)
        (listed_on (before ++ frame ∷ []) frames channel ∙ ap (λ l. on l channel) (append_assoc before (frame ∷ []) frames))

    -- and there are none past the last channel
    listed_none : (before frames : List (List ℕ)) (channel : ℕ) → k.channel_limit ≤ channel → packets_listed_on (listed_from before frames) channel ≡ []
    listed_none before [] channel past = refl
    listed_none before (frame ∷ frames) channel past =
        let other : (k.channel frame == channel) ≡ false = grind (arith, nat_tests, laws.inside frame) in
        rw (listed-append channel (listed_in before frame) (listed_from (before ++ frame ∷ []) frames), listed_other (k.channel frame) channel _ other) (listed_none (before ++ frame ∷ []) frames channel past)

    each_listed : (frames : List (List ℕ)) (channel : ℕ) → packets_listed_on (listed_from [] frames) channel ≡ slice_index_or (delivered_packets k frames) channel []
    each_listed frames channel = rw laws.all (elim (leb_tells k.channel_limit channel) [
      | inl (is, past) ↦ listed_none [] frames channel past ∙ sym (get_or_past _ channel [] (omega (arith, past, length-map-range_with_len (on frames) 0 k.channel_limit)))
      | inr (is, apart) ↦ rw (get_or-map-range_with_len (on frames) 0 k.channel_limit channel channel [] (omega (arith, apart)) (omega arith), ← listed_on [] frames channel, laws.none channel) refl
    ])

    -- So, of a whole recording, each list has its channel's packets.
    pub packets_are_listed : (names : ChannelName) (lines : List (List ℕ) → List ℕ → List ℕ) → ArePrinted k names lines → (recording : List ℕ)
        → ListsPackets (channel_name names) (packets_by_channel k recording) (listing_text k.frames_of (packets_listing k lines) recording)
    packets_are_listed names lines printed recording =
        let frames = k.frames_of recording in
        record { listed = listed_from [] frames; lines = append-nil (lines_from lines [] frames) ∙ lines_are names lines printed [] frames; each = each_listed frames }

-- ---- TM

pub tm_packets_are_listed : TmPacketsAreListed
tm_packets_are_listed p recording = packets_are_listed (tm_kind p) (tm_adds_by_channel p) VirtualChannel (packets_tm_lines p) (tm_printed p) recording

-- ---- TC

pub tc_packets_are_listed : TcPacketsAreListed
tc_packets_are_listed p recording = packets_are_listed (tc_kind p) (tc_adds_by_channel p) Map (packets_tc_lines p) (tc_printed p) recording
