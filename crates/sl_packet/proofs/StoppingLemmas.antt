-- Packets are handed over to a sink, list after list.
use Rattle.std.proofs.Common.{◌≡◌, ℕ, ◌+◌, List, [], ◌∷◌, ◌++◌, length, Result, Ok, Err, OnErr, sym, ◌∙◌, ap, ap₂, append_assoc, length-append, subst}
use Rattle.sl_packet.specs.Packets.{only_idle, without_idle}
use Rattle.sl_packet.specs.Sink.{TakesAll, one_more}
use Rattle.sl_packet.specs.declared.flow_fault.FlowFault.{FlowFault}
use Rattle.sl_packet.specs.declared.flow_fault.FlowFault.TheVariants.{Memory, Sink, Failed}
use Rattle.sl_packet.specs.declared.sink.SinkFault.{SinkFault}
use Rattle.sl_packet.specs.Stopping.{CountsFault, HandsOver, IsStopped}
use Rattle.sl_packet.proofs.WithoutIdleLemmas.{only_idle-append, without_idle-append}

-- a proposition that holds anyway also holds at an error
pub on_err : {A E : Type 0} (r : Result A E) (P : Type 0) → P → OnErr r P
on_err (Ok a) P p = tt
on_err (Err e) P p = p

module _ {S : Type 0} (taking : S → ℕ → List ℕ → S → Type 0) where
  -- two lists that are taken one after another are taken as one list
  takes_both : (xs ys : List (List ℕ)) (old mid new : S) (channel : ℕ) → TakesAll taking old channel xs mid → TakesAll taking mid channel ys new → TakesAll taking old channel (xs ++ ys) new
  takes_both [] ys old mid new channel first second = subst (λ s. TakesAll taking s channel ys new) first second
  takes_both (x ∷ xs) ys old mid new channel first second = (first.0, first.1, takes_both xs ys first.0 mid new channel first.2 second)

  module _ (failing : S → ℕ → List ℕ → SinkFault → S → Type 0) (failures : S → ℕ) where
    -- the handing over of two lists stops in the first list
    stops_before : (xs ys : List (List ℕ)) (old new : S) (channel : ℕ) (flow : FlowFault) → IsStopped taking failing failures old channel xs flow new → IsStopped taking failing failures old channel (xs ++ ys) flow new
    stops_before xs ys old new channel Memory s = (
      record {
        accepted = s.0.accepted;
        later = s.0.later ++ ys;
        in_order = ap (λ l. l ++ ys) s.0.in_order ∙ append_assoc s.0.accepted s.0.later ys;
        takes = s.0.takes;
      },
      s.1,
    )
    stops_before xs ys old new channel (Sink fault) s = (
      record {
        accepted = s.0.accepted;
        refused = s.0.refused;
        later = s.0.later ++ ys;
        in_order = ap (λ l. l ++ ys) s.0.in_order ∙ append_assoc s.0.accepted (s.0.refused ∷ s.0.later) ys;
        before = s.0.before;
        takes = s.0.takes;
        fails = s.0.fails;
      },
      s.1,
    )
    stops_before xs ys old new channel Failed s = absurd s

    -- the handing over of two lists stops in the second list, after all of the first
    stops_after : (xs ys : List (List ℕ)) (old mid new : S) (channel : ℕ) (flow : FlowFault) → TakesAll taking old channel xs mid → failures mid ≡ failures old
        → IsStopped taking failing failures mid channel ys flow new → IsStopped taking failing failures old channel (xs ++ ys) flow new
    stops_after xs ys old mid new channel Memory first kept s = (
      record {
        accepted = xs ++ s.0.accepted;
        later = s.0.later;
        in_order = ap (λ l. xs ++ l) s.0.in_order ∙ sym (append_assoc xs s.0.accepted s.0.later);
        takes = takes_both xs s.0.accepted old mid new channel first s.0.takes;
      },
      s.1 ∙ kept,
    )
    stops_after xs ys old mid new channel (Sink fault) first kept s = (
      record {
        accepted = xs ++ s.0.accepted;
        refused = s.0.refused;
        later = s.0.later;
        in_order = ap (λ l. xs ++ l) s.0.in_order ∙ sym (append_assoc xs s.0.accepted (s.0.refused ∷ s.0.later));
        before = s.0.before;
        takes = takes_both xs s.0.accepted old mid s.0.before channel first s.0.takes;
        fails = s.0.fails;
      },
      s.1 ∙ ap one_more kept,
    )
    stops_after xs ys old mid new channel Failed first kept s = absurd s

    -- the sink counts the fault at which the handing over stops
    pub counts_stopped : (old : S) (channel : ℕ) (packets : List (List ℕ)) (flow : FlowFault) (new : S) → IsStopped taking failing failures old channel packets flow new
        → CountsFault failures old flow new
    counts_stopped old channel packets Memory new s = s.1
    counts_stopped old channel packets (Sink fault) new s = s.1
    counts_stopped old channel packets Failed new s = absurd s

-- ---- steps that hand over the packets that end with them

module _ {S X : Type 0} {taking : S → ℕ → List ℕ → S → Type 0} {failing : S → ℕ → List ℕ → SinkFault → S → Type 0} {failures : S → ℕ} {counts : X → ℕ × ℕ} where
  -- the record for an equal channel and equal packets
  pub hands_same : {old new : S} {channel channel' : ℕ} {xs xs' : List (List ℕ)} {result : Result X FlowFault} → channel ≡ channel' → xs ≡ xs'
      → HandsOver taking failing failures counts old channel xs result new → HandsOver taking failing failures counts old channel' xs' result new
  hands_same {old} {new} {channel} {channel'} {xs} {xs'} {result} same same' h =
      subst (λ n. HandsOver taking failing failures counts old n xs' result new) same
      (subst (λ l. HandsOver taking failing failures counts old channel l result new) same' h)

  -- two steps one after another are a step of the packets of both
  pub hands_both : {old mid new : S} {channel : ℕ} {xs ys : List (List ℕ)} {first second both : X}
      → (counts both).0 ≡ (counts first).0 + (counts second).0 → (counts both).1 ≡ (counts first).1 + (counts second).1
      → HandsOver taking failing failures counts old channel xs (Ok first) mid → HandsOver taking failing failures counts mid channel ys (Ok second) new
      → HandsOver taking failing failures counts old channel (xs ++ ys) (Ok both) new
  hands_both {old} {mid} {new} {channel} {xs} {ys} packets idle f s =
      record {
        accepted = subst (λ l. TakesAll taking old channel l new) (sym (without_idle-append xs ys))
            (takes_both taking (without_idle xs) (without_idle ys) old mid new channel f.accepted s.accepted);
        kept = s.kept ∙ f.kept;
        packets = packets ∙ ap₂ (λ m n. m + n) f.packets s.packets ∙ sym (ap length (without_idle-append xs ys) ∙ length-append (without_idle xs) (without_idle ys));
        idle = idle ∙ ap₂ (λ m n. m + n) f.idle s.idle ∙ sym (ap length (only_idle-append xs ys) ∙ length-append (only_idle xs) (only_idle ys));
        stopped = tt;
      }

  -- two steps stop where the first one does
  pub hands_first : {old new : S} {channel : ℕ} {xs : List (List ℕ)} (ys : List (List ℕ)) {flow : FlowFault}
      → HandsOver taking failing failures counts old channel xs (Err flow) new → HandsOver taking failing failures counts old channel (xs ++ ys) (Err flow) new
  hands_first {old} {new} {channel} {xs} ys {flow} f =
      record {
        accepted = tt;
        kept = tt;
        packets = tt;
        idle = tt;
        stopped = subst (λ l. IsStopped taking failing failures old channel l flow new) (sym (without_idle-append xs ys))
            (stops_before taking failing failures (without_idle xs) (without_idle ys) old new channel flow f.stopped);
      }

  -- two steps stop where the second one does, after all packets of the first
  pub hands_second : {old mid new : S} {channel : ℕ} {xs ys : List (List ℕ)} {first : X} {flow : FlowFault}
      → HandsOver taking failing failures counts old channel xs (Ok first) mid → HandsOver taking failing failures counts mid channel ys (Err flow) new
      → HandsOver taking failing failures counts old channel (xs ++ ys) (Err flow) new
  hands_second {old} {mid} {new} {channel} {xs} {ys} {first} {flow} f s =
      record {
        accepted = tt;
        kept = tt;
        packets = tt;
        idle = tt;
        stopped = subst (λ l. IsStopped taking failing failures old channel l flow new) (sym (without_idle-append xs ys))
            (stops_after taking failing failures (without_idle xs) (without_idle ys) old mid new channel flow f.accepted f.kept s.stopped);
      }
