-- What is printed of a packet, and what a sink that prints packets has written and added.
use Rattle.std.proofs.Common.{arith, ◌≡◌, ℕ, List, [], ◌++◌, Option, refl, sym, ◌∙◌, append_assoc, append-nil, ◌∷◌}
use Rattle.std.proofs.lemmas.List.{map-append}
use Rattle.std.proofs.lemmas.List.Folds.{concat-append}
use Rattle.sl_packet.specs.declared.flow_fault.FlowFault.{FlowFault}
use Rattle.sl_packet.specs.declared.flow_fault.FlowFault.TheVariants as flow
use Rattle.sl_packet.specs.declared.sink.SinkFault.{SinkFault}
use Rattle.sl_packet.specs.declared.sink.SinkFault.TheVariants.{Device}
use Rattle.sl_packet.specs.Sink.{TakesAll}
use Rattle.sl_packet.specs.Stopping.{IsStopped}
use Rattle.hex.specs.Hex.{encode_lower}
use Rattle.sl_engine.specs.declared.io.output.Output.{Output}
use Rattle.sl_io.specs.declared.fault.LinkFault.{LinkFault}
use Rattle.sl_engine.specs.Io.Output.{Adds, KeepsWriter}
use Rattle.sl_engine.specs.Io.Streams.{StopsWriting}
use Rattle.sl_io.specs.declared.counted.Counted.{Counted}
use Rattle.sl_io.specs.declared.fault.LinkFault.TheVariants.{Write}
use Rattle.sl_engine.specs.declared.verbs.packets.printer.ChannelName.{ChannelName}
use Rattle.sl_engine.specs.declared.verbs.packets.printer.Printer.{Printer}
use Rattle.sl_engine.specs.Link.Fault.{flow_fault}
use Rattle.sl_engine.specs.Verbs.Packets.Printed.{channel_name, lines_on}
use Rattle.sl_engine.specs.Verbs.Packets.Line.{packet_line}
use Rattle.sl_engine.proofs.lemmas.Io.Streams.{adds_both, adds_lines, stops_first, stops_last, stops_at_memory, stops_then, memory_weaker}
use Rattle.sl_engine.proofs.lemmas.Io.Hexadecimal.{encode_append, encode_nil}

-- ---- octets in hexadecimal, part by part

-- some of the octets were added, and these are left
pub record IsPushing {W : Type 0} (contents : W → Option (List ℕ)) (start now : Output W) (octets left : List ℕ) : Type 0 where
  pub done : List ℕ
  pub parts : octets ≡ done ++ left
  pub adds : Adds contents start (encode_lower done) now

module _ {W : Type 0} {contents : W → Option (List ℕ)} where
  pub pushing_none : (start : Output W) (octets : List ℕ) → IsPushing contents start start octets octets
  pushing_none start octets = record { done = []; parts = refl; adds = rw encode_nil (adds_lines contents start start [] refl (sym (append-nil start.lines))) }

  module _ {start old : Output W} {octets left : List ℕ} (s : IsPushing contents start old octets left) where
    pub pushing_next : {new : Output W} (part after : List ℕ) → left ≡ part ++ after → Adds contents old (encode_lower part) new → IsPushing contents start new octets after
    pushing_next part after parts adds = record {
      done = s.done ++ part;
      parts = rw (append_assoc s.done part after, ← parts) s.parts;
      adds = rw (encode_append s.done part) (adds_both s.adds adds);
    }

    pub pushing_stops : {new : Counted W} {fault : LinkFault} → StopsWriting contents old.writer.now new old.lines ⊥ fault
        → StopsWriting contents start.writer.now new (start.lines ++ encode_lower octets) ⊥ fault
    pushing_stops stops = rw (s.parts, encode_append s.done left) (stops_first start.lines (encode_lower s.done) (encode_lower left) (stops_last s.adds stops))

-- ---- the sink

lines_append : (names : ChannelName) (channel : ℕ) (xs ys : List (List ℕ)) → lines_on names channel (xs ++ ys) ≡ lines_on names channel xs ++ lines_on names channel ys
lines_append names channel xs ys = simp (map-append, concat-append)

module _ {W : Type 0} (contents : W → Option (List ℕ)) where
  -- a packet was printed, to the same output
  abbrev pub Prints : Printer W → ℕ → List ℕ → Printer W → Type 0
  Prints old channel packet new =
      (new.names ≡ old.names) × (new.out.ghost_name ≡ old.out.ghost_name) × Adds contents old.out.now (packet_line (channel_name old.names channel) packet) new.out.now

  abbrev pub FailsToPrint : Printer W → ℕ → List ℕ → SinkFault → Printer W → Type 0
  FailsToPrint old channel packet fault new =
      (fault ≡ Device) × (new.out.ghost_name ≡ old.out.ghost_name) × KeepsWriter old.out.now new.out.now
      × StopsWriting contents old.out.now.writer.now new.out.now.writer.now (old.out.now.lines ++ packet_line (channel_name old.names channel) packet) ⊥ Write

  -- packets that were printed in turn
  printed : (packets : List (List ℕ)) (old new : Printer W) (channel : ℕ) → TakesAll Prints old channel packets new
      → (new.names ≡ old.names) × (new.out.ghost_name ≡ old.out.ghost_name) × Adds contents old.out.now (lines_on old.names channel packets) new.out.now
  printed [] old new channel same = rw same (refl, refl, adds_lines contents old.out.now old.out.now [] refl (sym (append-nil old.out.now.lines)))
  printed (packet ∷ packets) old new channel t =
      let later = printed packets t.0 new channel t.2 in
      (later.0 ∙ t.1.0, later.1 ∙ t.1.1, adds_both t.1.2 (rw t.1.0 at later.2))

  module _ (packets : List (List ℕ)) (old new : Printer W) (channel : ℕ) where
    -- where the lent output ends as this, and the packets' lines are this text
    pub all_printed : (out : Output W) (text : List ℕ) → (old.out.ghost_name ≡ new.out.ghost_name → out ≡ new.out.now) → text ≡ lines_on old.names channel packets
        → TakesAll Prints old channel packets new → Adds contents old.out.now text out
    all_printed out text ends text_is t = grind (arith, printed)

    -- where memory was refused or the writer failed, the output is the same one, with the same writer,
    pub lent_printing : (failures : Printer W → ℕ) (fault : FlowFault) → IsStopped Prints FailsToPrint failures old channel packets fault new
        → (new.out.ghost_name ≡ old.out.ghost_name) × KeepsWriter old.out.now new.out.now
    lent_printing failures fault stopped = grind (arith, printed)

    -- and where the writer ends as this, it has a beginning of the text
    pub stops_printing : (writer : Counted W) (text : List ℕ) → (old.out.ghost_name ≡ new.out.ghost_name → writer ≡ new.out.now.writer.now) → text ≡ lines_on old.names channel packets
        → (failures : Printer W → ℕ) (at_memory : Type 0) (fault : FlowFault) → IsStopped Prints FailsToPrint failures old channel packets fault new → (fault ≡ flow.Memory → at_memory)
        → StopsWriting contents old.out.now.writer.now writer (old.out.now.lines ++ text) at_memory (flow_fault fault)
    stops_printing writer text ends text_is failures at_memory flow.Memory stopped allowed =
        let s = stopped.0 in
        let p = printed s.accepted old new channel s.takes in
        rw (ends (sym p.1), text_is, s.in_order, lines_append old.names channel s.accepted s.later) (stops_then _ p.2 (stops_at_memory contents _ _ (allowed refl)))
    stops_printing writer text ends text_is failures at_memory (flow.Sink fault) stopped allowed =
        let s = stopped.0 in
        let p = printed s.accepted old s.before channel s.takes in
        rw (s.fails.0, ends (sym (s.fails.1 ∙ p.1)), text_is, s.in_order, lines_append old.names channel s.accepted (s.refused ∷ s.later))
        (memory_weaker (λ never. absurd never) (stops_then _ p.2 (stops_first s.before.out.now.lines (packet_line (channel_name old.names channel) s.refused) (lines_on old.names channel s.later) (rw p.0 at s.fails.3))))
    stops_printing writer text ends text_is failures at_memory flow.Failed stopped allowed = absurd stopped
