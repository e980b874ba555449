-- What tells whether a frame would stand twice: which octets stand as a frame of the second recording alone, and how often
-- each payload comes. Contracts of private functions alone cite this.
use Rattle.std.specs.Prelude.{◌≡◌, ℕ, ◌+◌, min, Bool, cond, ◌&&◌, ◌||◌, not, List, [], unwrap_or, bytes_eq}
use Rattle.std.specs.HashMap.{HashMap, get_by}
use Rattle.std.specs.HashSet.{HashSet, contains}
use Rattle.sl_tmframe.specs.TmFrame.{TmFormat}
use Rattle.sl_merge.specs.declared.twice.Times.{Times}
use Rattle.sl_merge.specs.Fates.{Fated, exchanged, of_first, stands, turned}
use Rattle.sl_merge.specs.Merge.{comes_twice, is_in_second, payload, stands_twice, times_kept}

-- these are the frames of the second recording alone that stand
abbrev pub HasSeconds : {S : Type 0} → HashSet (List ℕ) S → List Fated → Type 0
HasSeconds seconds items = (frame : List ℕ) → contains bytes_eq seconds frame ≡ is_in_second frame items

-- numbers up to 255 of each recording, and how often a payload comes in frames after these numbers
abbrev pub no_times : Times
no_times = record { first = 0; second = 0 }

abbrev pub times_more : TmFormat → List ℕ → Times → List Fated → Times
times_more format octets times items =
    record {
      first = min (times.first + times_kept format octets items) 255;
      second = min (times.second + times_kept format octets (exchanged items)) 255;
    }

-- the numbers after a frame with this payload
abbrev pub times_after : Times → Fated → Times
times_after times item =
    record {
      first = min (times.first + cond (stands item.fate && of_first item.fate) 1 0) 255;
      second = min (times.second + cond (stands (turned item.fate) && of_first (turned item.fate)) 1 0) 255;
    }

-- this is how often each payload comes
abbrev pub HasTimes : {S : Type 0} → TmFormat → HashMap (List ℕ) Times S → List Fated → Type 0
HasTimes format times items =
    (octets : List ℕ)
    → times_more format octets (unwrap_or (get_by (bytes_eq octets) times) no_times) []
    ≡ times_more format octets no_times items

-- whether a frame doesn't stand twice, or may
abbrev pub is_excused : TmFormat → List Fated → Fated → Bool
is_excused format items item = not (stands_twice items item) || comes_twice format (payload format item.frame) items
