-- The lines of packets that only one of two recordings delivers.
use Rattle.std.proofs.Common.{◌≡◌, ℕ, zero, suc, ◌+◌, ◌-◌, ◌<◌, ◌≤◌, true, false, List, [], ◌∷◌, ◌++◌, length, take, drop, get_or, refl, sym, ◌∙◌, ap, arith, append_assoc}
use Rattle.std.proofs.Common.{append-nil, Option}
use Rattle.std.specs.Prelude.{flat_map}
use Rattle.std.specs.List.{range_with_len}
use Rattle.std.proofs.lemmas.List.{drop_more}
use Rattle.sl_packet.specs.Packet.{apid_of}
use Rattle.sl_io.specs.declared.counted.Counted.{Counted}
use Rattle.sl_io.specs.declared.fault.LinkFault.{LinkFault}
use Rattle.sl_engine.specs.declared.io.output.Output.{Output}
use Rattle.sl_engine.specs.Io.Output.{Adds}
use Rattle.sl_engine.specs.Io.Streams.{StopsWriting, WritesText}
use Rattle.sl_engine.proofs.lemmas.Io.Streams.{adds_both, adds_lines, stops_first, stops_then}
use Rattle.sl_pair.specs.Placed.{Placed}
use Rattle.sl_pair.specs.Runs.{count_of, first_run}
use Rattle.sl_pair.proofs.OrderLemmas.{runs_split}
use Rattle.sl_pair.specs.declared.channel.Station.{Station}
use Rattle.sl_engine.specs.Verbs.Packets.Line.{packet_line}
use Rattle.sl_engine.specs.Compare.Text.{left_text, mark, run_line, run_text}

-- within a list the default stands nowhere
any_default : (xs : List Placed) (i : ℕ) (d e : Placed) → i < length xs → get_or xs i d ≡ get_or xs i e
any_default [] i d e inside = absurd (omega (arith, inside))
any_default (x ∷ xs) zero d e inside = refl
any_default (x ∷ xs) (suc i) d e inside = any_default xs i d e (omega (arith, inside))

-- the line of a run, by its first packet and its last one
pub line_of_run : (station : Station) (name : List ℕ) (run : List Placed) (first last : Placed) → 0 < length run → first ≡ get_or run 0 first → last ≡ get_or run (length run - 1) last
    → run_line station name run ≡ mark station ++ (name ++ run_text (apid_of first.packet) (count_of first.packet) (count_of last.packet) (length run))
line_of_run station name [] first last some is_first is_last = absurd (omega (arith, some))
line_of_run station name (one ∷ later) first last some is_first is_last =
    let at : length (one ∷ later) - 1 ≡ length later = omega arith in
    let ends : get_or (one ∷ later) (length later) one ≡ last = any_default (one ∷ later) (length later) one last (omega arith) ∙ sym (rw at at is_last) in
    rw (is_first, ends) refl

pub add_line : (lines mark name text : List ℕ) → ((lines ++ mark) ++ name) ++ text ≡ lines ++ (mark ++ (name ++ text))
add_line lines mark name text = append_assoc (lines ++ mark) name text ∙ append_assoc lines mark (name ++ text)

-- ---- run by run

-- the lines of the first run come before those of what is behind it
pub runs_text_split : (station : Station) (name : List ℕ) (left : List Placed) → 0 < length left
    → left_text false station name left ≡ run_line station name (take (first_run left) left) ++ left_text false station name (drop (first_run left) left)
runs_text_split station name left some = ap (flat_map (run_line station name)) (runs_split left some)

-- and the line of a packet before those of the packets behind it
pub packets_text_split : (station : Station) (name : List ℕ) (left : List Placed) (at : ℕ) (one : Placed) → at < length left → one ≡ get_or left at one
    → left_text true station name (drop at left) ≡ (mark station ++ packet_line name one.packet) ++ left_text true station name (drop (at + 1) left)
packets_text_split station name left at one inside is =
    ap (left_text true station name) (drop_more left at one inside ∙ ap (λ (x : Placed). x ∷ drop (at + 1) left) (sym is))

-- ---- one after another

-- some of the text was added, and that of what is left is to come
pub record IsWriting {W : Type 0} (contents : W → Option (List ℕ)) (text : List Placed → List ℕ) (start now : Output W) (left later : List Placed) : Type 0 where
  pub done : List ℕ
  pub parts : text left ≡ done ++ text later
  pub adds : Adds contents start done now

module _ {W : Type 0} {contents : W → Option (List ℕ)} (text : List Placed → List ℕ) where
  pub writing_none : (start : Output W) (left : List Placed) → IsWriting contents text start start left left
  writing_none start left = record { done = []; parts = refl; adds = adds_lines contents start start [] refl (sym (append-nil start.lines)) }

  module _ {start old : Output W} {left later : List Placed} (s : IsWriting contents text start old left later) where
    pub writing_next : {new : Output W} (line : List ℕ) (behind : List Placed) → text later ≡ line ++ text behind → Adds contents old line new → IsWriting contents text start new left behind
    writing_next line behind split adds =
        record {
          done = s.done ++ line;
          parts = rw (append_assoc s.done line (text behind)) (s.parts ∙ ap (λ l. s.done ++ l) split);
          adds = adds_both s.adds adds;
        }

    -- a fault within the next line leaves a prefix of it
    pub writing_stops : {new : Counted W} {fault : LinkFault} (line : List ℕ) (behind : List Placed) → text later ≡ line ++ text behind → StopsWriting contents old.writer.now new (old.lines ++ line) ⊥ fault
        → StopsWriting contents start.writer.now new (start.lines ++ text left) ⊥ fault
    writing_stops line behind split stops =
        rw (s.parts, split, ← append_assoc s.done line (text behind)) (stops_first start.lines (s.done ++ line) (text behind) (stops_then line s.adds stops))

-- ---- channel by channel

-- the texts of the channels before this one were added
pub record IsListing {W : Type 0} (contents : W → Option (List ℕ)) (text : ℕ → List ℕ) (channels : ℕ) (start out : Output W) (channel : ℕ) : Type 0 where
  pub done : List ℕ
  pub all : flat_map text (range_with_len 0 channels) ≡ done ++ flat_map text (range_with_len channel (channels - channel))
  pub added : Adds contents start done out

module _ {W : Type 0} {contents : W → Option (List ℕ)} {text : ℕ → List ℕ} {channels : ℕ} {start : Output W} where
  pub listing_none : IsListing contents text channels start start 0
  listing_none =
      let whole : channels ≡ channels - 0 = omega arith in
      record { done = []; all = ap (λ n. flat_map text (range_with_len 0 n)) whole; added = adds_lines contents start start [] refl (sym (append-nil start.lines)) }

  module _ {old : Output W} {channel : ℕ} (h : IsListing contents text channels start old channel) (within : channel < channels) where
    later : List ℕ
    later = flat_map text (range_with_len (channel + 1) (channels - (channel + 1)))

    split : flat_map text (range_with_len 0 channels) ≡ (h.done ++ text channel) ++ later
    unfolding later
    split =
        let left : channels - channel ≡ suc (channels - (channel + 1)) = omega (arith, within) in
        rw left at h.all ∙ sym (append_assoc h.done (text channel) later)

    pub listing_next : {new : Output W} → Adds contents old (text channel) new → IsListing contents text channels start new (channel + 1)
    unfolding later
    listing_next adds = record { done = h.done ++ text channel; all = split; added = adds_both h.added adds }

    -- a fault within the text of a channel leaves a prefix of it
    pub listing_stops : {new : Counted W} {at_memory : Type 0} {fault : LinkFault} → StopsWriting contents old.writer.now new (old.lines ++ text channel) at_memory fault
        → StopsWriting contents start.writer.now new (start.lines ++ flat_map text (range_with_len 0 channels)) at_memory fault
    listing_stops stops = rw split (stops_first start.lines (h.done ++ text channel) later (stops_then (text channel) h.added stops))

  pub listing_done : {out : Output W} {channel : ℕ} → IsListing contents text channels start out channel → channels ≤ channel → Adds contents start (flat_map text (range_with_len 0 channels)) out
  listing_done {channel = channel} h past =
      let none : channels - channel ≡ 0 = omega (arith, past) in
      rw (rw none at h.all, append-nil) h.added

-- where no line waited and none waits, the text was written
pub wrote_all : {W : Type 0} {contents : W → Option (List ℕ)} {start out : Output W} {text : List ℕ} → start.lines ≡ [] → out.lines ≡ [] → Adds contents start text out → WritesText contents start.writer.now out.writer.now text
wrote_all none empty a =
    let t = a.adds in
    let is = simp (none, empty, append-nil) at (sym t.parts) in
    record { writes = rw (← is) t.writes; no_fault = t.no_fault }
