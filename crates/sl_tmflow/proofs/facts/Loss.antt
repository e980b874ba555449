-- The deliveries that small channels keep when frames are lost, and the effect of too many lost frames, computed from
-- the definitions.
use Rattle.std.proofs.Common.{◌≡◌, ℕ, zero, suc, ◌+◌, ◌%◌, ◌<◌, true, false, List, [], ◌∷◌, ◌++◌, length, take, drop, map, refl, ◌∙◌, arith, eq-eqb}
use Rattle.sl_tmframe.specs.TmFrame.{TmFormat, TmView, Opaque}
use Rattle.sl_tmflow.specs.VirtualChannel.{AreConsecutive, follows}
use Rattle.sl_tmflow.specs.Delivery.{deliveries_of, packets_delivered}
use Rattle.sl_tmflow.specs.Loss.{AreKept, HasNoGap, HasNumber, HaveNumbers, IsRecordingOfKept, IsSameDelivery, keeps_run, recorded_channel}
use Rattle.sl_tmflow.specs.Recording.{tm_lists}
use Rattle.sl_tmflow.proofs.lemmas.Delivery.Listed.{delivery_with}
use Rattle.sl_tmflow.proofs.facts.Incomplete.{begun, first, frame, idle, long, packet, remainder, second}

-- ---- one frame is lost

-- two packets that go on in the next frame, and counts that begin at 0 again
abbrev pub channel : List TmView
channel = first 254 ∷ second 255 ∷ first 0 ∷ second 1 ∷ []

-- the channel without the frame of number 1
abbrev pub numbers : List ℕ
numbers = 0 ∷ 2 ∷ 3 ∷ []

abbrev pub kept : List TmView
kept = first 254 ∷ first 0 ∷ second 1 ∷ []

-- the element with this number, between those before it and those after it
pub stands : {X : Type 0} (list : List X) (number : ℕ) (x : X) → list ≡ take number list ++ x ∷ drop (number + 1) list → number ≡ length (take number list)
    → HasNumber list number x
stands list number x in_order counted =
    record { before = take number list; after = drop (number + 1) list; in_order = in_order; counted = counted }

pub are_kept : AreKept channel numbers kept
are_kept = record {
  no_gap = (refl, (refl, (refl, tt)));
  few_lost = (omega arith, omega arith, (omega arith, omega arith, tt));
  frames = (stands channel 0 (first 254) refl refl, (stands channel 2 (first 0) refl refl, (stands channel 3 (second 1) refl refl, tt)));
}

-- the packet that goes on from the second kept frame to the third
pub is_same : IsSameDelivery numbers (delivery_with 1 23 2 (begun ++ remainder)) (delivery_with 2 23 3 (begun ++ remainder))
is_same = record { frame = stands numbers 1 2 refl refl; ending = stands numbers 2 3 refl refl; none_lost = refl; start = refl; packet = refl }

pub record OneIsLost : Type 0 where
  pub whole : packets_delivered (deliveries_of channel) ≡ long ∷ (begun ++ remainder) ∷ packet ∷ idle ∷ long ∷ (begun ++ remainder) ∷ packet ∷ idle ∷ []
  -- the deliveries that lost a frame
  pub lost : map (keeps_run numbers) (deliveries_of channel) ≡ true ∷ false ∷ false ∷ false ∷ true ∷ true ∷ true ∷ true ∷ []
  -- the deliveries that lost a frame are missing, and no others
  pub left :
      deliveries_of kept
      ≡ delivery_with 0 0 0 long ∷ delivery_with 1 0 1 long ∷ delivery_with 1 23 2 (begun ++ remainder) ∷ delivery_with 2 7 2 packet ∷ delivery_with 2 17 2 idle ∷ []

pub one_is_lost : OneIsLost
one_is_lost = assumption

-- ---- as many lost frames as may be, and one more

-- `n` opaque frames, with counts from this one on
abbrev pub opaques : ℕ → ℕ → List TmView
opaques count zero = []
opaques count (suc n) = frame (count % 256) Opaque ∷ opaques (count + 1) n

-- a frame where a packet begins, `lost` opaque frames, and a frame that would end the packet
abbrev pub last_after : ℕ → TmView
last_after lost = second ((lost + 1) % 256)

abbrev pub through : ℕ → List TmView
through lost = first 0 ∷ (opaques 1 lost ++ last_after lost ∷ [])

-- the channel without the opaque frames
abbrev pub ends_of : ℕ → List TmView
ends_of lost = first 0 ∷ last_after lost ∷ []

pub opaques_long : (count n : ℕ) → length (opaques count n) ≡ n
opaques_long count zero = refl
opaques_long count (suc n) = omega (arith, opaques_long (count + 1) n)

-- opaque frames have no gap where the frames after them have none
pub goes_through : (view : TmView) (count n : ℕ) (later : List TmView) → view.vc_count ≡ count % 256
    → ((last : TmView) → last.vc_count ≡ (count + n) % 256 → AreConsecutive last later) → AreConsecutive view (opaques (count + 1) n ++ later)
goes_through view count zero later here goes_on =
    let none : count % 256 ≡ (count + 0) % 256 = omega arith in
    goes_on view (here ∙ none)
goes_through view count (suc n) later here goes_on =
    let next : (count + 1) % 256 ≡ (view.vc_count + 1) % 256 = omega arith in
    let as_many : (count + 1 + n) % 256 ≡ (count + suc n) % 256 = omega arith in (
      eq-eqb ((count + 1) % 256) ((view.vc_count + 1) % 256) next,
      goes_through (frame ((count + 1) % 256) Opaque) (count + 1) n later refl (λ last at. goes_on last (at ∙ as_many)),
    )

-- the channel has no gap, for any number of opaque frames
pub no_gap_through : (lost : ℕ) → HasNoGap (through lost)
no_gap_through lost =
    goes_through (first 0) 0 lost (last_after lost ∷ []) refl
    (λ last at. let next : (lost + 1) % 256 ≡ (last.vc_count + 1) % 256 = omega (arith, at) in
    (eq-eqb ((lost + 1) % 256) ((last.vc_count + 1) % 256) next, tt))

-- the two kept frames have their numbers
pub ends_have_numbers : (lost : ℕ) → HaveNumbers (through lost) (0 ∷ (lost + 1) ∷ []) (ends_of lost)
ends_have_numbers lost = (
  record { before = []; after = opaques 1 lost ++ last_after lost ∷ []; in_order = refl; counted = refl },
  (
    record { before = first 0 ∷ opaques 1 lost; after = []; in_order = refl; counted = omega (arith, opaques_long 1 lost) },
    tt,
  ),
)

-- up to 255 opaque frames may be lost
pub ends_are_kept : (lost : ℕ) → lost < 256 → AreKept (through lost) (0 ∷ (lost + 1) ∷ []) (ends_of lost)
ends_are_kept lost few = record { no_gap = no_gap_through lost; few_lost = (omega arith, omega arith, tt); frames = ends_have_numbers lost }

-- the count of the last frame shows that 255 frames are lost, and not that 256 are
pub record AreTold : Type 0 where
  pub none : follows 0 (last_after 0).vc_count ≡ true
  pub one : follows 0 (last_after 1).vc_count ≡ false
  pub lost_254 : follows 0 (last_after 254).vc_count ≡ false
  pub lost_255 : follows 0 (last_after 255).vc_count ≡ false
  pub lost_256 : follows 0 (last_after 256).vc_count ≡ true

pub are_told : AreTold
are_told = assumption

-- the packets that the frames deliver
pub record AreFar : Type 0 where
  -- with 255 lost frames, the kept frames deliver what all frames deliver
  pub whole_255 : packets_delivered (deliveries_of (through 255)) ≡ long ∷ packet ∷ idle ∷ []
  pub left_255 : packets_delivered (deliveries_of (ends_of 255)) ≡ long ∷ packet ∷ idle ∷ []
  -- with 256 lost frames, the kept frames deliver a packet that all frames don't
  pub whole_256 : packets_delivered (deliveries_of (through 256)) ≡ long ∷ packet ∷ idle ∷ []
  pub left_256 : packets_delivered (deliveries_of (ends_of 256)) ≡ long ∷ (begun ++ remainder) ∷ packet ∷ idle ∷ []

pub are_far : AreFar
are_far = assumption

-- ---- recordings

abbrev pub format : TmFormat
format = record { len = 32; fecf = false }

-- the octets of the frames with this count, of spacecraft 1
abbrev pub first_octets : ℕ → List ℕ
first_octets count = 0x00 ∷ 0x10 ∷ count ∷ count ∷ 0x18 ∷ 0x00 ∷ (long ++ begun)

abbrev pub second_octets : ℕ → List ℕ
second_octets count = 0x00 ∷ 0x10 ∷ count ∷ count ∷ 0x18 ∷ 0x07 ∷ (remainder ++ packet ++ idle)

-- the octets of a frame on virtual channel 7
abbrev pub other_octets : ℕ → List ℕ
other_octets count = 0x00 ∷ 0x1E ∷ count ∷ count ∷ 0x18 ∷ 0x00 ∷ (long ++ begun)

-- frames on virtual channel 0 without a gap, and on virtual channel 7 with a gap
abbrev pub recording : List ℕ
recording = first_octets 254 ++ (other_octets 3 ++ (second_octets 255 ++ (first_octets 0 ++ (other_octets 5 ++ second_octets 1))))

-- the same recording with another version in the third frame, which is then skipped
abbrev pub damaged : List ℕ
damaged =
    first_octets 254 ++ (other_octets 3 ++ (0x40 ∷ drop 1 (second_octets 255) ++ (first_octets 0 ++ (other_octets 5 ++ second_octets 1))))

pub record AreRecorded : Type 0 where
  pub whole : recorded_channel format 1 0 recording ≡ channel
  pub left : recorded_channel format 1 0 damaged ≡ kept
  pub gap : HasNoGap (recorded_channel format 1 7 recording) → ⊥
  pub whole_lists :
      tm_lists format 1 recording
      ≡ (long ∷ (begun ++ remainder) ∷ packet ∷ long ∷ (begun ++ remainder) ∷ packet ∷ []) ∷ [] ∷ [] ∷ [] ∷ [] ∷ [] ∷ [] ∷ (long ∷ long ∷ []) ∷ []
  pub left_lists :
      tm_lists format 1 damaged
      ≡ (long ∷ long ∷ (begun ++ remainder) ∷ packet ∷ []) ∷ [] ∷ [] ∷ [] ∷ [] ∷ [] ∷ [] ∷ (long ∷ long ∷ []) ∷ []

pub are_recorded : AreRecorded
are_recorded = record { whole = refl; left = refl; gap = λ none. let never = none.0 in cc; whole_lists = refl; left_lists = refl }

-- the gap on virtual channel 7 doesn't matter on virtual channel 0
pub is_recording_of_kept : IsRecordingOfKept format 1 0 numbers recording damaged
is_recording_of_kept = record { channel = omega arith; kept = are_kept }
