-- Which packets only one of two recordings has.
pub mod Signs
pub mod Summarised
pub mod Text
pub mod Turns
pub mod Words
use Rattle.std.specs.Prelude.{◌≡◌, ◌≤◌, ◌↔◌, ℕ, List, [], length, Option}
use Rattle.std.specs.List.{slice_index_or}
use Rattle.sl_io.specs.declared.counted.Counted.{Counted}
use Rattle.std.specs.declared.hash.BuildHasher as builder
use Rattle.std.specs.declared.hash.Hasher as hasher
use Rattle.sl_engine.specs.Io.Streams.{Reads, ReadsAll}
use Rattle.sl_engine.specs.Link.Counted.{faults_of}
use Rattle.sl_engine.specs.declared.compare.Compared.{Compared}
use Rattle.sl_engine.specs.declared.compare.summary.Summary.{Summary}
use Rattle.sl_pair.specs.Pairing.{ByChannel, NothingIsLeft, StandsAfter}
use Rattle.sl_pair.specs.declared.pairing.Answer.TheVariants.{Same, Different}

-- the packets of each channel, of lists of packets, one for each channel from 0 on
abbrev pub by_channel : List (List (List ℕ)) → ByChannel
by_channel lists channel = slice_index_or lists channel []

-- the beginning of a recording was read, no more octets than the limit
pub record ReadsBeginning {R : Type 0} (remaining : R → Option (List ℕ)) (old new : Counted R) (limit : ℕ) : Type 0 where
  pub octets : List ℕ
  pub within : length octets ≤ limit
  pub read : Reads remaining old new octets
  pub no_fault : faults_of new ≡ faults_of old

module _ {A B : Type 0} (remaining : A → Option (List ℕ)) (others : B → Option (List ℕ)) where
  -- Both recordings were read to their ends, and these are their numbers. The answer is that both have the same packets exactly where they deliver
  -- the same lists, and that they differ exactly where one of them has a packet without a counterpart. What is left
  -- are the packets that only one of them has.
  pub record Compares {S T : Type 0} {b : builder.Ghosts S T} {h : hasher.Ghosts T} (one one' : Counted A)
      (other other' : Counted B) (packets packets' : List ℕ → List (List (List ℕ))) (summary summary' : List ℕ → Summary)
      (limit limit' : ℕ) (compared : Compared S T b h) : Type 0 where
    pub first : List ℕ
    pub second : List ℕ
    pub first_read : ReadsAll remaining one one' limit first
    pub second_read : ReadsAll others other other' limit' second
    pub first_summary : compared.first ≡ summary first
    pub second_summary : compared.second ≡ summary' second
    pub left : StandsAfter compared.left (by_channel (packets first)) (by_channel (packets' second))
    pub same : (compared.answer ≡ Same) ↔ (packets first ≡ packets' second)
    pub different : (compared.answer ≡ Different)
        ↔ (NothingIsLeft (by_channel (packets first)) (by_channel (packets' second)) → ⊥)
