-- What a sink does with packets, one by one and list by list.
use Rattle.std.specs.Prelude.{◌≡◌, ℕ, ◌+◌, ◌-◌, ◌^◌, min, List, [], ◌∷◌, ◌++◌}
use Rattle.sl_packet.specs.declared.sink.SinkFault.{SinkFault}

-- one more, but no more than 2^64 - 1, the greatest number that a count can be
abbrev pub one_more : ℕ → ℕ
one_more count = min (count + 1) (2 ^ 64 - 1)

module _ {S : Type 0} (taking : S → ℕ → List ℕ → S → Type 0) where
  -- the sink accepted the packets on a channel, one after another
  abbrev pub TakesAll : S → ℕ → List (List ℕ) → S → Type 0
  TakesAll old channel [] new = new ≡ old
  TakesAll old channel (packet ∷ packets) new =
      (mid : S) × taking old channel packet mid × TakesAll mid channel packets new

  -- the sink accepted the first packets of the list and refused the next one with this fault
  pub record StopsTaking (failing : S → ℕ → List ℕ → SinkFault → S → Type 0) (old : S) (channel : ℕ)
      (packets : List (List ℕ)) (fault : SinkFault) (new : S) : Type 0 where
    pub accepted : List (List ℕ)
    pub refused : List ℕ
    pub later : List (List ℕ)
    pub in_order : packets ≡ accepted ++ refused ∷ later
    pub before : S
    pub takes : TakesAll old channel accepted before
    pub fails : failing before channel refused fault new
