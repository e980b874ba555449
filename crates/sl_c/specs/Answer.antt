-- How a call ended, as C sees it.
use Rattle.std.specs.Prelude.{◌≡◌, ℕ}
use Rattle.sl_c.specs.declared.answer.Answer.{Answer}
use Rattle.sl_c.specs.declared.answer.Answer.TheVariants.{Done, Spacecraft, TmLength, TcLength, Window, Limit, TooLong, Memory, Room, Field, Counter, Event, VirtualChannel}

-- the number that C sees
abbrev pub answer_number : Answer → ℕ
answer_number Done = 0
answer_number Spacecraft = 1
answer_number TmLength = 2
answer_number TcLength = 3
answer_number Window = 4
answer_number Limit = 5
answer_number TooLong = 6
answer_number Memory = 7
answer_number Room = 8
answer_number Field = 9
answer_number Counter = 10
answer_number Event = 11
answer_number VirtualChannel = 12

-- the number that a call answers stands for this answer
abbrev pub Says : ℕ → Answer → Type 0
Says n answer = n ≡ answer_number answer
