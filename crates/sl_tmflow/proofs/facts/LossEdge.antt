-- The laws on lost frames at their edges, and where one of their premises is missing, computed from the definitions.
use Rattle.std.proofs.Common.{◌≡◌, ℕ, ◌+◌, ◌%◌, true, false, List, [], ◌∷◌, ◌++◌, map, inl, inr, refl, sym, subst, arith, eq-eqb, append_assoc, append-nil, length-append}
use Rattle.sl_tmframe.specs.TmFrame.{TmView, Idle, Opaque}
use Rattle.sl_tmflow.specs.Among.{IsAmong}
use Rattle.sl_tmflow.specs.VirtualChannel.{AreConsecutive, reassembly}
use Rattle.sl_tmflow.specs.Delivery.{deliveries_of, packets_delivered}
use Rattle.sl_tmflow.specs.Loss.{AreKept, FewAreLost, HasNoGap, HaveNumbers, keeps_run}
use Rattle.sl_tmflow.proofs.lemmas.Delivery.Listed.{delivery_with}
use Rattle.sl_tmflow.proofs.facts.Incomplete.{begun, first, frame, idle, long, packet, remainder, second}
use Rattle.sl_tmflow.proofs.facts.Loss.{channel, goes_through, opaques, opaques_long, stands}

-- ---- a channel with gaps

-- Without the frame with count 9, the counts of the others are consecutive.
abbrev pub with_gaps : List TmView
with_gaps = first 0 ∷ second 9 ∷ second 1 ∷ []

abbrev pub joined : List TmView
joined = first 0 ∷ second 1 ∷ []

-- the packets of the channel
abbrev pub gap_packets : List (List ℕ)
gap_packets = long ∷ packet ∷ idle ∷ packet ∷ idle ∷ []

-- the packet of the other two frames isn't one of them
pub not_among : IsAmong (begun ++ remainder) gap_packets → ⊥
not_among (inl same) = cc
not_among (inr (inl same)) = cc
not_among (inr (inr (inl same))) = cc
not_among (inr (inr (inr (inl same)))) = cc
not_among (inr (inr (inr (inr (inl same))))) = cc
not_among (inr (inr (inr (inr (inr none))))) = none

-- The two kept frames deliver a packet that isn't one of the channel's (`not_among`), although only one frame is lost.
pub record GapsMatter : Type 0 where
  pub gap : HasNoGap with_gaps → ⊥
  pub few : FewAreLost (0 ∷ 2 ∷ [])
  pub frames : HaveNumbers with_gaps (0 ∷ 2 ∷ []) joined
  pub whole : packets_delivered (deliveries_of with_gaps) ≡ gap_packets
  pub left : packets_delivered (deliveries_of joined) ≡ long ∷ (begun ++ remainder) ∷ packet ∷ idle ∷ []

pub gaps_matter : GapsMatter
gaps_matter = record {
  gap = λ none. let never = none.0 in cc;
  few = (omega arith, omega arith, tt);
  frames = (stands with_gaps 0 (first 0) refl refl, (stands with_gaps 2 (second 1) refl refl, tt));
  whole = refl;
  left = refl;
}

-- ---- idle frames

-- a packet goes on past an idle frame
abbrev pub with_idle : List TmView
with_idle = first 254 ∷ second 255 ∷ first 0 ∷ frame 1 Idle ∷ second 2 ∷ []

-- the channel without the idle frame, and without the second frame
abbrev pub without_idle_frame : List TmView
without_idle_frame = first 254 ∷ second 255 ∷ first 0 ∷ second 2 ∷ []

abbrev pub without_second : List TmView
without_second = first 254 ∷ first 0 ∷ frame 1 Idle ∷ second 2 ∷ []

pub idle_frame_is_lost : AreKept with_idle (0 ∷ 1 ∷ 2 ∷ 4 ∷ []) without_idle_frame
idle_frame_is_lost = record {
  no_gap = (refl, (refl, (refl, (refl, tt))));
  few_lost = (omega arith, omega arith, (omega arith, omega arith, (omega arith, omega arith, tt)));
  frames = (
    stands with_idle 0 (first 254) refl refl,
    (stands with_idle 1 (second 255) refl refl, (stands with_idle 2 (first 0) refl refl, (stands with_idle 4 (second 2) refl refl, tt))),
  );
}

pub second_is_lost : AreKept with_idle (0 ∷ 2 ∷ 3 ∷ 4 ∷ []) without_second
second_is_lost = record {
  no_gap = (refl, (refl, (refl, (refl, tt))));
  few_lost = (omega arith, omega arith, (omega arith, omega arith, (omega arith, omega arith, tt)));
  frames = (
    stands with_idle 0 (first 254) refl refl,
    (stands with_idle 2 (first 0) refl refl, (stands with_idle 3 (frame 1 Idle) refl refl, (stands with_idle 4 (second 2) refl refl, tt))),
  );
}

pub record IdleFramesCount : Type 0 where
  pub whole : packets_delivered (deliveries_of with_idle) ≡ long ∷ (begun ++ remainder) ∷ packet ∷ idle ∷ long ∷ (begun ++ remainder) ∷ packet ∷ idle ∷ []
  -- the lost idle frame costs the packet that goes past it
  pub lost : map (keeps_run (0 ∷ 1 ∷ 2 ∷ 4 ∷ [])) (deliveries_of with_idle) ≡ true ∷ true ∷ true ∷ true ∷ true ∷ false ∷ true ∷ true ∷ []
  pub left : packets_delivered (deliveries_of without_idle_frame) ≡ long ∷ (begun ++ remainder) ∷ packet ∷ idle ∷ long ∷ packet ∷ idle ∷ []
  -- all octets of packets were kept
  pub octets : reassembly [] without_idle_frame ≡ reassembly [] with_idle
  -- the packet is left where the idle frame was kept with the packet's other frames
  pub kept : map (keeps_run (0 ∷ 2 ∷ 3 ∷ 4 ∷ [])) (deliveries_of with_idle) ≡ true ∷ false ∷ false ∷ false ∷ true ∷ true ∷ true ∷ true ∷ []
  pub packets :
      deliveries_of without_second
      ≡ delivery_with 0 0 0 long ∷ delivery_with 1 0 1 long ∷ delivery_with 1 23 3 (begun ++ remainder) ∷ delivery_with 3 7 3 packet ∷ delivery_with 3 17 3 idle ∷ []

pub idle_frames_count : IdleFramesCount
idle_frames_count = assumption

-- ---- frames lost before the first one that was kept, and after the last one

-- the channel without its first and its last frame
abbrev pub inner : List TmView
inner = second 255 ∷ first 0 ∷ []

pub inner_are_kept : AreKept channel (1 ∷ 2 ∷ []) inner
inner_are_kept = record {
  no_gap = (refl, (refl, (refl, tt)));
  few_lost = (omega arith, omega arith, tt);
  frames = (stands channel 1 (second 255) refl refl, (stands channel 2 (first 0) refl refl, tt));
}

-- Frames that deliver no packet, in any number: `lost` + 1 of them are lost before the two kept frames, and `lost`
-- after them.
abbrev pub amid : ℕ → List TmView
amid lost = frame 0 Opaque ∷ (opaques 1 lost ++ first ((lost + 1) % 256) ∷ second ((lost + 2) % 256) ∷ opaques (lost + 2 + 1) lost)

abbrev pub two : ℕ → List TmView
two lost = first ((lost + 1) % 256) ∷ second ((lost + 2) % 256) ∷ []

pub two_are_kept : (lost : ℕ) → AreKept (amid lost) ((lost + 1) ∷ (lost + 2) ∷ []) (two lost)
two_are_kept lost =
    let begins : TmView = first ((lost + 1) % 256) in
    let ends : TmView = second ((lost + 2) % 256) in
    let after : List TmView = opaques (lost + 2 + 1) lost in
    record {
      no_gap = goes_through (frame 0 Opaque) 0 lost (begins ∷ ends ∷ after) refl
          (λ last at.
          let next : (lost + 1) % 256 ≡ (last.vc_count + 1) % 256 = omega (arith, at) in
          let one_more : (lost + 2) % 256 ≡ ((lost + 1) % 256 + 1) % 256 = omega arith in (
            eq-eqb ((lost + 1) % 256) ((last.vc_count + 1) % 256) next,
            (
              eq-eqb ((lost + 2) % 256) (((lost + 1) % 256 + 1) % 256) one_more,
              subst (AreConsecutive ends) (append-nil after) (goes_through ends (lost + 2) lost [] refl (λ last at. tt)),
            ),
          ));
      few_lost = (omega arith, omega arith, tt);
      frames = (
        record { before = frame 0 Opaque ∷ opaques 1 lost; after = ends ∷ after; in_order = refl; counted = omega (arith, opaques_long 1 lost) },
        (
          record {
            before = frame 0 Opaque ∷ (opaques 1 lost ++ begins ∷ []);
            after = after;
            in_order = sym (append_assoc (frame 0 Opaque ∷ opaques 1 lost) (begins ∷ []) (ends ∷ after));
            counted = omega (arith, opaques_long 1 lost, length-append (opaques 1 lost) (begins ∷ []));
          },
          tt,
        ),
      );
    }

pub record EndsAreLost : Type 0 where
  -- a packet that starts in the lost first frame and one that ends in the lost last frame are lost, and no others of
  -- these two frames
  pub lost : map (keeps_run (1 ∷ 2 ∷ [])) (deliveries_of channel) ≡ false ∷ false ∷ true ∷ true ∷ true ∷ false ∷ false ∷ false ∷ []
  pub left : packets_delivered (deliveries_of inner) ≡ packet ∷ idle ∷ long ∷ []
  -- more than 256 frames are lost at either end, and no packet is
  pub whole_300 : packets_delivered (deliveries_of (amid 300)) ≡ long ∷ (begun ++ remainder) ∷ packet ∷ idle ∷ []
  pub left_300 : packets_delivered (deliveries_of (two 300)) ≡ long ∷ (begun ++ remainder) ∷ packet ∷ idle ∷ []

pub ends_are_lost : EndsAreLost
ends_are_lost = assumption
