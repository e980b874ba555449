-- worked examples of the questions
mod QuestionFacts
-- words that are asked about
mod AskingLemmas
-- the place of a word of the command line
mod CommandLineLemmas
-- places that pass a test
mod QuestionLemmas
-- texts in a row
mod TotalsLemmas
-- texts that are written one after another
mod WritingLemmas
-- a run, from what was compared and written
mod RunLemmas
