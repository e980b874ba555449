-- Worked examples. The packets are short texts: no definition here asks for whole packets.
use Rattle.std.proofs.Common.{◌≡◌, ◌+◌, List, ℕ, [], ◌∷◌, refl}
use Rattle.sl_pair.specs.OnlyIn.{in_both, only_in, only_places}
use Rattle.std.specs.List.{filter}
use Rattle.sl_pair.specs.Placed.{Placed, has_apid, left_in, placed}
use Rattle.sl_pair.specs.Runs.{by_apid, count_of, first_run, runs_of}
use Rattle.sl_pair.specs.Turns.{FromFirst, FromSecond, after, nothing_read}

-- packets of APID 1, of APID 1 with another content, and of APID 2
abbrev a : List ℕ
a = 0 ∷ 1 ∷ 7 ∷ []

abbrev b : List ℕ
b = 0 ∷ 1 ∷ 8 ∷ []

abbrev c : List ℕ
c = 0 ∷ 2 ∷ 7 ∷ []

-- packets of six octets with an APID, a sequence count and their number among those of the APID
abbrev placed_packet : ℕ → ℕ → ℕ → ℕ → Placed
placed_packet apid high low number =
    record { packet = 0 ∷ apid ∷ high ∷ low ∷ 0 ∷ 0 ∷ []; number = number + apid; apid_number = number }

record Facts : Type 0 where
  -- the first recording has one copy of `a` more, and it is the last one
  surplus : only_in (a ∷ b ∷ a ∷ c ∷ a ∷ []) (c ∷ a ∷ b ∷ a ∷ []) ≡ a ∷ []
  surplus_place : only_places (a ∷ b ∷ a ∷ c ∷ a ∷ []) (c ∷ a ∷ b ∷ a ∷ []) ≡ 4 ∷ []
  no_surplus : only_in (c ∷ a ∷ b ∷ a ∷ []) (a ∷ b ∷ a ∷ c ∷ a ∷ []) ≡ []
  both : in_both (a ∷ b ∷ a ∷ c ∷ a ∷ []) (c ∷ a ∷ b ∷ a ∷ []) ≡ a ∷ b ∷ a ∷ c ∷ []
  -- turned round, neither has a packet of its own
  reordered : only_in (a ∷ b ∷ c ∷ []) (c ∷ b ∷ a ∷ []) ≡ []
  -- nothing in common
  nothing : only_places (a ∷ a ∷ []) (b ∷ c ∷ []) ≡ 0 ∷ 1 ∷ []
  -- numbers in the channel and among the packets of the APID
  numbers : left_in (c ∷ a ∷ b ∷ a ∷ []) (b ∷ [])
      ≡ record { packet = c; number = 0; apid_number = 0 } ∷ record { packet = a; number = 1; apid_number = 0 }
      ∷ record { packet = a; number = 3; apid_number = 2 } ∷ []
  own_numbers : filter (has_apid 1) (placed (c ∷ a ∷ c ∷ b ∷ []))
      ≡ record { packet = a; number = 1; apid_number = 0 } ∷ record { packet = b; number = 3; apid_number = 1 } ∷ []
  -- in turns: the second `a` of the first recording is left, since the first one was paired
  turns : after nothing_read (FromFirst a ∷ FromFirst a ∷ FromSecond b ∷ FromSecond a ∷ FromFirst b ∷ [])
      ≡ record {
        first = a ∷ a ∷ b ∷ [];
        second = b ∷ a ∷ [];
        first_left = record { packet = a; number = 1; apid_number = 1 } ∷ [];
        second_left = [];
        pairs = (0, 1) ∷ (2, 0) ∷ [];
      }
  -- the sequence count, without the flags before it
  count : count_of (0 ∷ 1 ∷ 0xC1 ∷ 2 ∷ 0 ∷ 0 ∷ []) ≡ 258
  -- by APID; those of one APID as they stood
  order : by_apid (placed_packet 9 0 0 0 ∷ placed_packet 1 0 5 0 ∷ placed_packet 9 0 1 1 ∷ placed_packet 1 0 3 1 ∷ [])
      ≡ placed_packet 1 0 5 0 ∷ placed_packet 1 0 3 1 ∷ placed_packet 9 0 0 0 ∷ placed_packet 9 0 1 1 ∷ []
  -- a run goes on after 16383 with 0, and ends at a gap in the counts,
  round : runs_of (placed_packet 1 0xFF 0xFF 0 ∷ placed_packet 1 0xC0 0 1 ∷ placed_packet 1 0xC0 2 2 ∷ [])
      ≡ (placed_packet 1 0xFF 0xFF 0 ∷ placed_packet 1 0xC0 0 1 ∷ []) ∷ (placed_packet 1 0xC0 2 2 ∷ []) ∷ []
  -- at another APID, and where a packet stands between that both recordings have
  apart : runs_of (placed_packet 1 0 0 0 ∷ placed_packet 2 0 1 1 ∷ placed_packet 2 0 2 3 ∷ [])
      ≡ (placed_packet 1 0 0 0 ∷ []) ∷ (placed_packet 2 0 1 1 ∷ []) ∷ (placed_packet 2 0 2 3 ∷ []) ∷ []
  first : first_run (placed_packet 1 0 0 0 ∷ placed_packet 1 0 1 1 ∷ placed_packet 1 0 3 2 ∷ []) ≡ 2

facts : Facts
facts =
    record {
      surplus = refl;
      surplus_place = refl;
      no_surplus = refl;
      both = refl;
      reordered = refl;
      nothing = refl;
      numbers = refl;
      own_numbers = refl;
      turns = refl;
      count = refl;
      order = refl;
      round = refl;
      apart = refl;
      first = refl;
    }
