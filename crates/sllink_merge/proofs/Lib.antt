-- recordings that are merged one after another
pub mod MergeLemmas
-- a recording that is read whole
pub mod ReadingLemmas
