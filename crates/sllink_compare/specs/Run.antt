-- What a run over two recordings reads and writes, and the status with which it ends.
use Rattle.std.specs.Prelude.{◌≡◌, ◌⊎◌, ◌↔◌, ⊤, ℕ, Bool, List, [], ◌++◌, codes, Option, None, Some}
use Rattle.sl_io.specs.declared.counted.Counted.{Counted}
use Rattle.sl_io.specs.declared.fault.LinkFault.{LinkFault}
use Rattle.sl_io.specs.declared.fault.LinkFault.TheVariants.{Read, TooLong, Memory, Write}
use Rattle.sl_io.specs.Streams.{ReadsAll, StopsReading, StopsWriting, WritesText}
use Rattle.sl_engine.specs.Compare.{ReadsBeginning, by_channel}
use Rattle.sl_engine.specs.Compare.Summarised.{tc_summary, tm_summary}
use Rattle.sl_engine.specs.Compare.Text.{difference_text}
use Rattle.sl_engine.specs.Engine.{MayRefuseEngineMemory, engine_frames}
use Rattle.sl_engine.specs.Framing.{MayRefuseMemoryAtSome, chunk_size}
use Rattle.sl_engine.specs.Kind.Tc.{tc_packets}
use Rattle.sl_engine.specs.Kind.Tm.{tm_packets}
use Rattle.sl_engine.specs.Link.Managed.{Parameters}
use Rattle.sl_engine.specs.Verbs.Packets.Tc.{tc_channel_name}
use Rattle.sl_engine.specs.Verbs.Packets.Tm.{tm_channel_name}
use Rattle.sl_engine.specs.declared.compare.summary.Summary.{Summary}
use Rattle.sl_engine.specs.declared.engine.RecordingKind.{RecordingKind}
use Rattle.sl_engine.specs.declared.engine.RecordingKind.TheVariants.{Tm, Tc}
use Rattle.sl_engine.specs.declared.engine.VerbName.TheVariants.{Normalise}
use Rattle.sl_pair.specs.Pairing.{ByChannel, NothingIsLeft}
use Rattle.sl_pair.specs.declared.pairing.Answer.{Answer}
use Rattle.sl_pair.specs.declared.pairing.Answer.TheVariants.{Same, Reordered, Different}
use Rattle.sllink_compare.specs.Asking.{question_text}
use Rattle.sllink_compare.specs.Questions.{question_of}
use Rattle.sllink_compare.specs.Totals.{totals_text}
use Rattle.sllink_compare.specs.declared.questions.Question.{Question}
use Rattle.sllink_compare.specs.declared.questions.Seen.{Seen}
use Rattle.sllink_compare.specs.declared.run.Comparison.{Comparison}
use Rattle.sllink_compare.specs.declared.totals.Names.{Names}

-- ---- a recording of a kind

-- the packets of each channel of a recording
abbrev pub packets_of : RecordingKind → Parameters → List ℕ → List (List (List ℕ))
packets_of Tm = tm_packets
packets_of Tc = tc_packets

-- the numbers of a recording
abbrev pub summary_of : RecordingKind → Parameters → List ℕ → Summary
summary_of Tm = tm_summary
summary_of Tc = tc_summary

-- whether its frames have an error control field
abbrev pub has_field : RecordingKind → Parameters → Bool
has_field Tm p = p.tm_fecf
has_field Tc p = p.tc_fecf

-- what only one of two recordings has
abbrev pub differences : RecordingKind → Bool → ByChannel → ByChannel → List ℕ
differences Tm each firsts seconds = difference_text each tm_channel_name firsts seconds 8
differences Tc each firsts seconds = difference_text each tc_channel_name firsts seconds 4096

-- ---- what is written

-- what stands before the packets that only one recording has
abbrev pub difference_head : Names → List ℕ
difference_head names =
    codes "different packets: < only in " ++ names.first.now ++ codes ", > only in " ++ names.second.now ++ codes "\n"

-- the answer
abbrev pub answer_text : Comparison → Names → Answer → ByChannel → ByChannel → List ℕ
answer_text asked names Same firsts seconds = codes "same packets\n"
answer_text asked names Reordered firsts seconds = codes "same packets in another order\n"
answer_text asked names Different firsts seconds =
    difference_head names ++ differences asked.kind asked.each firsts seconds

-- the question that is open, if one is, by the numbers of both recordings
abbrev pub open_question : Comparison → Answer → Summary → Summary → Option Question
open_question asked answer first second =
    question_of answer asked.allowed
    (record { summary = first; has_field = has_field asked.kind asked.first })
    (record { summary = second; has_field = has_field asked.kind asked.second })

-- no answer is given to an open question
abbrev pub unless_open : Option Question → List ℕ → List ℕ
unless_open (Some question) text = []
unless_open None text = text

-- all that is written: the totals of both recordings, and the answer unless a question is open
abbrev pub output_text : Comparison → Names → Answer → Summary → Summary → ByChannel → ByChannel → List ℕ
output_text asked names answer first second firsts seconds =
    totals_text names first second
    ++ unless_open (open_question asked answer first second) (answer_text asked names answer firsts seconds)

-- the exit status: 2 where a question is open, else 0 where both have the same packets in the same order, and else 1
abbrev pub status_of : Option Question → Answer → ℕ
status_of (Some question) answer = 2
status_of None Same = 0
status_of None Reordered = 1
status_of None Different = 1

-- ---- what the error output gets

-- the line of a fault
abbrev pub fault_text : LinkFault → List ℕ
fault_text Read = codes "sllink-compare: read\n"
fault_text TooLong = codes "sllink-compare: too long\n"
fault_text Memory = codes "sllink-compare: memory\n"
fault_text Write = codes "sllink-compare: write\n"

module _ {E : Type 0} (heard : E → Option (List ℕ)) where
  -- a line was written, or a fault of the error output cut it short
  abbrev pub Says : Counted E → Counted E → List ℕ → Type 0
  Says errors errors' line =
      WritesText heard errors errors' line ⊎ ((fault : LinkFault) × StopsWriting heard errors errors' line ⊥ fault)

  -- the line of the question that is open was written, and without one nothing
  abbrev pub Asks : Counted E → Counted E → Comparison → Names → Summary → Summary → Option Question → Type 0
  Asks errors errors' asked names first second None = errors' ≡ errors
  Asks errors errors' asked names first second (Some question) =
      Says errors errors' (question_text question asked names first second)

-- ---- a run

-- Two recordings and an answer: that both have the same packets exactly where they deliver the same lists, and that
-- they differ exactly where one of them has a packet without a counterpart.
pub record Answers (packets packets' : List ℕ → List (List (List ℕ))) (first second : List ℕ) (answer : Answer)
    : Type 0 where
  pub same : (answer ≡ Same) ↔ (packets first ≡ packets' second)
  pub different : (answer ≡ Different)
      ↔ (NothingIsLeft (by_channel (packets first)) (by_channel (packets' second)) → ⊥)

module _ {A B : Type 0} (remaining : A → Option (List ℕ)) (others : B → Option (List ℕ)) where
  -- both recordings were read to their ends, and compare so
  pub record HasCompared (one one' : Counted A) (other other' : Counted B) (asked : Comparison) : Type 0 where
    pub first : List ℕ
    pub second : List ℕ
    pub answer : Answer
    pub first_read : ReadsAll remaining one one' asked.first.max_octets first
    pub second_read : ReadsAll others other other' asked.second.max_octets second
    pub answers : Answers (packets_of asked.kind asked.first) (packets_of asked.kind asked.second) first second answer

  -- a fault came of a recording, whose cause it is, and the beginning of the other one was read
  abbrev pub StopsComparing : Counted A → Counted A → Counted B → Counted B → Comparison → LinkFault → Type 0
  StopsComparing one one' other other' asked fault =
      (StopsReading remaining one one' asked.first.max_octets chunk_size fault
      × ReadsBeginning others other other' asked.second.max_octets)
      ⊎ (ReadsBeginning remaining one one' asked.first.max_octets
      × StopsReading others other other' asked.second.max_octets chunk_size fault)

  -- Memory may be refused only where a recording delivers a packet, or has a packet or a series incomplete before or
  -- after a frame, as to a `normalise` of that recording.
  abbrev pub MayLackMemory : Counted A → Counted A → Counted B → Counted B → Comparison → LinkFault → Type 0
  MayLackMemory one one' other other' asked fault =
      fault ≡ Memory
      → MayRefuseMemoryAtSome remaining one one' (engine_frames asked.kind asked.first)
      (MayRefuseEngineMemory Normalise asked.kind asked.first)
      ⊎ MayRefuseMemoryAtSome others other other' (engine_frames asked.kind asked.second)
      (MayRefuseEngineMemory Normalise asked.kind asked.second)

-- what is written of two recordings that compare so
abbrev pub output_of : Comparison → Names → List ℕ → List ℕ → Answer → List ℕ
output_of asked names first second answer =
    output_text asked names answer (summary_of asked.kind asked.first first)
    (summary_of asked.kind asked.second second) (by_channel (packets_of asked.kind asked.first first))
    (by_channel (packets_of asked.kind asked.second second))

-- the question that is open about them, if one is
abbrev pub asked_of_both : Comparison → List ℕ → List ℕ → Answer → Option Question
asked_of_both asked first second answer =
    open_question asked answer (summary_of asked.kind asked.first first) (summary_of asked.kind asked.second second)

module _ {A B W E : Type 0} (remaining : A → Option (List ℕ)) (others : B → Option (List ℕ))
    (contents : W → Option (List ℕ)) (heard : E → Option (List ℕ)) where
  -- Both recordings were read to their ends, all was written, and the question that is open was asked. This is the
  -- status.
  pub record HasEnded (one one' : Counted A) (other other' : Counted B) (writer writer' : Counted W)
      (errors errors' : Counted E) (asked : Comparison) (names : Names) (status : ℕ) : Type 0 where
    pub compared : HasCompared remaining others one one' other other' asked
    pub written : WritesText contents writer writer'
        (output_of asked names compared.first compared.second compared.answer)
    pub status_is : status
        ≡ status_of (asked_of_both asked compared.first compared.second compared.answer) compared.answer
    pub said : Asks heard errors errors' asked names (summary_of asked.kind asked.first compared.first)
        (summary_of asked.kind asked.second compared.second)
        (asked_of_both asked compared.first compared.second compared.answer)

  -- Some fault came, and its line was written: while the recordings were read, and then nothing was written, or
  -- afterwards, and then a prefix of the text was written.
  pub record HasStopped (one one' : Counted A) (other other' : Counted B) (writer writer' : Counted W)
      (errors errors' : Counted E) (asked : Comparison) (names : Names) : Type 0 where
    pub fault : LinkFault
    pub said : Says heard errors errors' (fault_text fault)
    pub stopped : (StopsComparing remaining others one one' other other' asked fault
        × MayLackMemory remaining others one one' other other' asked fault × (writer' ≡ writer))
        ⊎ ((compared : HasCompared remaining others one one' other other' asked)
        × StopsWriting contents writer writer'
        (output_of asked names compared.first compared.second compared.answer) ⊤ fault)
