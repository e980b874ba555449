-- Two recordings of one channel that are read in turns: which packets are left without a counterpart so far, and which
-- are paired.
use Rattle.std.specs.Prelude.{◌≡◌, ◌↔◌, ℕ, Bool, cond, List, [], ◌∷◌, ◌++◌, bytes_eq}
use Rattle.std.specs.List.{Contains, list_any}
use Rattle.sl_pair.specs.OnlyIn.{Packets}
use Rattle.sl_pair.specs.Placed.{AreCounterparts, Placed, left_in, placed_after}

-- a packet that comes, from the first recording or from the second
pub data Coming : Type 0 where
  FromFirst : List ℕ → Coming
  FromSecond : List ℕ → Coming

-- The packets that came from each recording, those of each that have no counterpart yet, and the numbers of those that
-- were paired: the number in the first recording, and that in the second.
pub record Reading : Type 0 where
  pub first : Packets
  pub second : Packets
  pub first_left : List Placed
  pub second_left : List Placed
  pub pairs : List (ℕ × ℕ)

-- nothing came yet
abbrev pub nothing_read : Reading
nothing_read = record { first = []; second = []; first_left = []; second_left = []; pairs = [] }

-- whether a packet is among those that are left
abbrev pub is_left : List ℕ → List Placed → Bool
is_left packet left = list_any (λ (one : Placed). bytes_eq packet one.packet) left

-- those that are left, without the first copy of a packet
abbrev pub strike_out : List ℕ → List Placed → List Placed
strike_out packet [] = []
strike_out packet (one ∷ later) = cond (bytes_eq packet one.packet) later (one ∷ strike_out packet later)

-- the number of the first copy of a packet among those that are left, and 0 where there is none
abbrev pub number_left : List ℕ → List Placed → ℕ
number_left packet [] = 0
number_left packet (one ∷ later) = cond (bytes_eq packet one.packet) one.number (number_left packet later)

-- A packet that comes strikes out the first equal one that the other recording has left, and is paired with it. Where
-- there is none, it is left itself.
abbrev pub after_one : Reading → Coming → Reading
after_one r (FromFirst packet) =
    cond (is_left packet r.second_left)
    (record {
      first = r.first ++ packet ∷ [];
      second = r.second;
      first_left = r.first_left;
      second_left = strike_out packet r.second_left;
      pairs = r.pairs ++ ((placed_after r.first packet).number, number_left packet r.second_left) ∷ [];
    })
    (record r { first = r.first ++ packet ∷ []; first_left = r.first_left ++ placed_after r.first packet ∷ [] })
after_one r (FromSecond packet) =
    cond (is_left packet r.first_left)
    (record {
      first = r.first;
      second = r.second ++ packet ∷ [];
      first_left = strike_out packet r.first_left;
      second_left = r.second_left;
      pairs = r.pairs ++ (number_left packet r.first_left, (placed_after r.second packet).number) ∷ [];
    })
    (record r { second = r.second ++ packet ∷ []; second_left = r.second_left ++ placed_after r.second packet ∷ [] })

-- the packets that come, one after another
abbrev pub after : Reading → List Coming → Reading
after r [] = r
after r (coming ∷ later) = after (after_one r coming) later

-- the packets that came from each recording
abbrev pub firsts : List Coming → Packets
firsts [] = []
firsts (FromFirst packet ∷ later) = packet ∷ firsts later
firsts (FromSecond packet ∷ later) = firsts later

abbrev pub seconds : List Coming → Packets
seconds [] = []
seconds (FromFirst packet ∷ later) = seconds later
seconds (FromSecond packet ∷ later) = packet ∷ seconds later

-- ---- laws

-- What stands after packets came in turns: of each recording exactly those packets are left that only it has, and
-- exactly the counterparts were paired.
pub record IsRead (comings : List Coming) (r : Reading) : Type 0 where
  pub first_left : r.first_left ≡ left_in (firsts comings) (seconds comings)
  pub second_left : r.second_left ≡ left_in (seconds comings) (firsts comings)
  pub paired : (number other_number : ℕ)
      → Contains r.pairs (number, other_number) ↔ AreCounterparts (firsts comings) (seconds comings) number other_number

-- However the packets of two recordings come in turns.
abbrev pub TurnsDontMatter : Type 0
TurnsDontMatter = (comings : List Coming) → IsRead comings (after nothing_read comings)
