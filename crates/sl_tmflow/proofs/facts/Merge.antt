-- What small recordings of two stations deliver, and the merged one, computed from the definitions.
use Rattle.std.proofs.Common.{◌≡◌, ℕ, List, [], ◌∷◌, ◌++◌, None, inl, inr, refl, ap, arith}
use Rattle.std.specs.Prelude.{◌⊎◌}
use Rattle.sl_tmframe.specs.TmFrame.{TmView}
use Rattle.sl_tmflow.specs.Among.{IsAmong}
use Rattle.sl_tmflow.specs.Delivery.{deliveries_of, packets_delivered}
use Rattle.sl_tmflow.specs.Loss.{recorded_packets}
use Rattle.sl_tmflow.specs.Merge.{AreWithin, HasChannel, IsBestOfBoth, numbers_after}
use Rattle.sl_tmflow.proofs.facts.Incomplete.{begun, first, idle, long, packet, remainder, second}
use Rattle.sl_tmflow.proofs.facts.Loss.{channel, first_octets, format, second_octets, stands}

-- ---- every other frame at each of two stations

-- the frames of numbers 0 and 2, those of numbers 1 and 3, and all four
abbrev pub one_station : List ℕ
one_station = first_octets 254 ++ first_octets 0

abbrev pub other_station : List ℕ
other_station = second_octets 255 ++ second_octets 1

abbrev pub both_stations : List ℕ
both_stations = first_octets 254 ++ (second_octets 255 ++ (first_octets 0 ++ second_octets 1))

pub record AreBetterMerged : Type 0 where
  pub one : recorded_packets format 1 0 one_station ≡ long ∷ long ∷ []
  pub other : recorded_packets format 1 0 other_station ≡ packet ∷ packet ∷ []
  -- two packets that begin in a frame of one station and end in one of the other
  pub both : recorded_packets format 1 0 both_stations ≡ long ∷ (begun ++ remainder) ∷ packet ∷ long ∷ (begun ++ remainder) ∷ packet ∷ []
  pub numbers : numbers_after 0 (first 254) (second 255 ∷ first 0 ∷ second 1 ∷ []) ≡ 1 ∷ 2 ∷ 3 ∷ []
  pub kept_numbers : numbers_after 0 (first 254) (first 0 ∷ []) ≡ 2 ∷ []
  -- the same count again is 256 frames later
  pub far : numbers_after 5 (first 254) (first 254 ∷ []) ≡ 261 ∷ []

pub are_better_merged : AreBetterMerged
are_better_merged = assumption

pub is_within : HasChannel format 1 0 one_station both_stations
is_within = record { channel = omega arith; within = inl (refl, inr (refl, inl (refl, tt))) }

all_of_one : (number : ℕ) → IsAmong number (0 ∷ 2 ∷ []) → IsAmong number (0 ∷ 1 ∷ 2 ∷ 3 ∷ [])
all_of_one number (inl here) = inl here
all_of_one number (inr (inl here)) = inr (inr (inl here))
all_of_one number (inr (inr none)) = absurd none

all_of_other : (number : ℕ) → IsAmong number (1 ∷ 3 ∷ []) → IsAmong number (0 ∷ 1 ∷ 2 ∷ 3 ∷ [])
all_of_other number (inl here) = inr (inl here)
all_of_other number (inr (inl here)) = inr (inr (inr (inl here)))
all_of_other number (inr (inr none)) = absurd none

of_either : (number : ℕ) → IsAmong number (0 ∷ 1 ∷ 2 ∷ 3 ∷ []) → IsAmong number (0 ∷ 2 ∷ []) ⊎ IsAmong number (1 ∷ 3 ∷ [])
of_either number (inl here) = inl (inl here)
of_either number (inr (inl here)) = inr (inl here)
of_either number (inr (inr (inl here))) = inl (inr (inl here))
of_either number (inr (inr (inr (inl here)))) = inr (inr (inl here))
of_either number (inr (inr (inr (inr none)))) = absurd none

pub is_best : IsBestOfBoth format 1 0 (0 ∷ 2 ∷ []) (1 ∷ 3 ∷ []) (0 ∷ 1 ∷ 2 ∷ 3 ∷ []) both_stations one_station other_station both_stations
is_best = record {
  one_has = (stands channel 0 (first 254) refl refl, (stands channel 2 (first 0) refl refl, tt));
  other_has = (stands channel 1 (second 255) refl refl, (stands channel 3 (second 1) refl refl, tt));
  merged_has = record {
    channel = omega arith;
    kept = record {
      no_gap = (refl, (refl, (refl, tt)));
      few_lost = (omega arith, omega arith, (omega arith, omega arith, (omega arith, omega arith, tt)));
      frames = (
        stands channel 0 (first 254) refl refl,
        (stands channel 1 (second 255) refl refl, (stands channel 2 (first 0) refl refl, (stands channel 3 (second 1) refl refl, tt))),
      );
    };
  };
  both = record { of_one = all_of_one; of_other = all_of_other; only = of_either };
}

-- ---- a frame between two whose counts follow

abbrev pub run : List TmView
run = first 0 ∷ second 1 ∷ []

abbrev pub broken : List TmView
broken = first 0 ∷ first 9 ∷ second 1 ∷ []

not_within : AreWithin None run broken → ⊥
not_within (inl (_, inl (other, _))) = omega (arith, ap (λ v. v.vc_count) other)
not_within (inl (_, inr (lost, _))) = cc
not_within (inr (_, inl (other, _))) = omega (arith, ap (λ v. v.vc_count) other)
not_within (inr (_, inr (_, inl (other, _)))) = omega (arith, ap (λ v. v.vc_count) other)
not_within (inr (_, inr (_, inr (_, none)))) = none

-- All frames of the run are there, in their order, and the packet that goes on from one to the other isn't delivered.
pub record RunsMatter : Type 0 where
  pub run_delivers : packets_delivered (deliveries_of run) ≡ long ∷ (begun ++ remainder) ∷ packet ∷ idle ∷ []
  pub broken_delivers : packets_delivered (deliveries_of broken) ≡ long ∷ long ∷ packet ∷ idle ∷ []
  pub within : AreWithin None run broken → ⊥

pub runs_matter : RunsMatter
runs_matter = record { run_delivers = refl; broken_delivers = refl; within = not_within }
