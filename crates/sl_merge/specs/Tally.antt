-- What came so far of a stretch between frames of both recordings. Contracts of private functions alone cite this.
use Rattle.std.specs.Prelude.{ℕ, ◌+◌, ◌==◌, nat_le, Bool, true, ◌&&◌, ◌||◌, Option, None, Some}
use Rattle.sl_merge.specs.declared.channel.Tally.{Tally}
use Rattle.sl_merge.specs.declared.fate.Fate.{Fate}
use Rattle.sl_merge.specs.declared.fate.Fate.TheVariants.{Both, First, FirstLeftOut, Second, SecondLeftOut}
use Rattle.sl_merge.specs.Merge.{follows_last}

-- frames may be left out of a stretch after a frame of both, where one with this count ends it
abbrev pub ends_fairly : ℕ → Option ℕ → ℕ → ℕ → ℕ → Bool
ends_fairly most None left_out others count = left_out == 0
ends_fairly most (Some last) left_out others count =
    nat_le left_out others || (nat_le left_out most && follows_last (Some last) count)

-- a frame with this fate and count may come next
abbrev pub admits : ℕ → Tally → Fate → ℕ → Bool
admits most tally Both count = ends_fairly most tally.after tally.left_out tally.others count
admits most tally First count = true
admits most tally FirstLeftOut count = true
admits most tally Second count = true
admits most tally SecondLeftOut count = true

abbrev pub tally_after : Fate → ℕ → Tally → Tally
tally_after Both count tally = record { after = Some count; left_out = 0; others = 0 }
tally_after First count tally = tally
tally_after SecondLeftOut count tally = tally
tally_after FirstLeftOut count tally = record tally { left_out = tally.left_out + 1 }
tally_after Second count tally = record tally { others = tally.others + 1 }
