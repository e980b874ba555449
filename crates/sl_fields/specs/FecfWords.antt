-- The word of an octet: the remainder, without preset, that it leaves by itself in a message.
use Rattle.std.specs.Prelude.{◌≡◌, ℕ, List, [], ◌∷◌, map}
use Rattle.std.specs.List.{range_with_len}
use Rattle.sl_fields.specs.Field.{number_of}
use Rattle.sl_fields.specs.FecfFolds.{part_of}

-- the word of an octet, where `later` more octets come after it
abbrev pub word_of : ℕ → ℕ → ℕ
word_of later octet = part_of later (octet ∷ [])

-- The table has the words of the octets 0 to 255, in this order, where they end a message. Each
-- word is two octets, the most significant first.
abbrev pub AreWords : List (List ℕ) → Type 0
AreWords table = map number_of table ≡ map (word_of 0) (range_with_len 0 256)
