-- Packet starts whose packet is incomplete after the later frames.
use Rattle.std.proofs.Common.{◌≡◌, ◌≢◌, ℕ, ◌+◌, true, List, [], ◌∷◌, ◌++◌, map, refl, sym, ◌∙◌, ap, append-nil, append_assoc}
use Rattle.std.specs.List.{AllByRecursion, concat}
use Rattle.std.proofs.lemmas.List.{map-append}
use Rattle.std.proofs.lemmas.List.Folds.{concat-append}
use Rattle.sl_packet.specs.Front.{Front, OtherVersion, Incomplete, WholePacket, front_of}
use Rattle.sl_tmframe.specs.TmFrame.{TmView, Opaque}
use Rattle.sl_tmflow.specs.VirtualChannel.{is_consecutive, AreConsecutive, packet_data, reassembly}
use Rattle.sl_tmflow.specs.Delivery.{Outcome, StillIncomplete, Continuation, Ends, Continues, Breaks, continuation_of, outcome_of_continuation, outcome_after, outcome_of_front, outcome_of}
use Rattle.sl_tmflow.specs.Incomplete.{HasNoStart}
use Rattle.sl_fields.proofs.ListLemmas.{each-append}
use Rattle.sl_tmflow.proofs.lemmas.Delivery.Step.{GoesOnPast, step_continues, continues_step, incomplete_before}

-- ---- the relation

-- the last frame of a run, or the frame before it where the run is empty
abbrev pub last_of : TmView → List TmView → TmView
last_of view [] = view
last_of view (next ∷ later) = last_of next later

-- A packet that starts in a frame is incomplete at the end of a run of later frames: its first octets have come, but
-- not all. `octets` are those of its frame from its start on.
pub record IsIncompleteAfter (view : TmView) (octets : List ℕ) (run : List TmView) (last : TmView) (so_far : List ℕ) : Type 0 where
  -- the frame that came last
  pub ended_by : last ≡ last_of view run
  -- the octets so far are those from the packet's start on
  pub came : so_far ≡ reassembly octets run
  -- no frame is missing
  pub consecutive : AreConsecutive view run
  -- no frame is opaque
  pub none_opaque : AllByRecursion (λ next. next.field ≢ Opaque) run
  -- no frame of packets points to a packet after this one
  pub no_start : AllByRecursion HasNoStart run
  -- the octets so far begin a packet that isn't there whole
  pub incomplete : front_of so_far ≡ Incomplete

-- ---- reassembled octets

pub reassembly-append : (octets : List ℕ) (xs ys : List TmView) → reassembly octets (xs ++ ys) ≡ reassembly (reassembly octets xs) ys
reassembly-append octets xs ys =
    ap (λ l. octets ++ concat l) (map-append packet_data xs ys)
    ∙ ap (λ l. octets ++ l) (concat-append (map packet_data xs) (map packet_data ys))
    ∙ sym (append_assoc octets (concat (map packet_data xs)) (concat (map packet_data ys)))

pub reassembly-cons : (octets : List ℕ) (next : TmView) (later : List TmView) → reassembly octets (next ∷ later) ≡ reassembly (octets ++ packet_data next) later
reassembly-cons octets next later = sym (append_assoc octets (packet_data next) (concat (map packet_data later)))

pub reassembly-push : (octets : List ℕ) (run : List TmView) (next : TmView) → reassembly octets (run ++ next ∷ []) ≡ reassembly octets run ++ packet_data next
reassembly-push octets run next =
    reassembly-append octets run (next ∷ []) ∙ ap (λ l. reassembly octets run ++ l) (append-nil (packet_data next))

-- ---- one more frame

pub last_of-push : (view : TmView) (run : List TmView) (next : TmView) → last_of view (run ++ next ∷ []) ≡ next
last_of-push view [] next = refl
last_of-push view (v ∷ run) next = last_of-push v run next

pub consecutive-push : (view : TmView) (run : List TmView) (next : TmView) → AreConsecutive view run → is_consecutive (last_of view run) next ≡ true → AreConsecutive view (run ++ next ∷ [])
consecutive-push view [] next before test = (test, tt)
consecutive-push view (v ∷ run) next before test = (before.0, consecutive-push v run next before.1 test)

pub is_incomplete_at_start : (view : TmView) (octets : List ℕ) → front_of octets ≡ Incomplete → IsIncompleteAfter view octets [] view octets
is_incomplete_at_start view octets incomplete =
    record { ended_by = refl; came = sym (append-nil octets); consecutive = tt; none_opaque = tt; no_start = tt; incomplete = incomplete }

-- the next frame is consecutive to the last one of a run with one more frame
pub consecutive_to_last : (view : TmView) (octets : List ℕ) (run : List TmView) (last : TmView) (so_far : List ℕ) (next : TmView)
    → IsIncompleteAfter view octets run last so_far → is_consecutive last next ≡ true → AreConsecutive view (run ++ next ∷ [])
consecutive_to_last view octets run last so_far next held test =
    consecutive-push view run next held.consecutive (ap (λ v. is_consecutive v next) (sym held.ended_by) ∙ test)

pub is_incomplete_one_more : (view : TmView) (octets : List ℕ) (run : List TmView) (last : TmView) (so_far : List ℕ) (next : TmView)
    → IsIncompleteAfter view octets run last so_far → is_consecutive last next ≡ true → GoesOnPast so_far next.field
    → IsIncompleteAfter view octets (run ++ next ∷ []) next (so_far ++ packet_data next)
is_incomplete_one_more view octets run last so_far next held test past =
    record {
      ended_by = sym (last_of-push view run next);
      came = ap (λ l. l ++ packet_data next) held.came ∙ sym (reassembly-push octets run next);
      consecutive = consecutive_to_last view octets run last so_far next held test;
      none_opaque = each-append (λ v. v.field ≢ Opaque) run (next ∷ []) held.none_opaque (past.is_read, tt);
      no_start = each-append HasNoStart run (next ∷ []) held.no_start (past.no_start, tt);
      incomplete = past.incomplete;
    }

-- ---- the outcome of an incomplete packet

incomplete_step : (s : Continuation) (passed : ℕ) (rest : Outcome) (so_far : List ℕ) → outcome_of_continuation s passed rest ≡ StillIncomplete so_far → (s ≡ Continues) × (rest ≡ StillIncomplete so_far)
incomplete_step (Ends packet) passed rest so_far still = absurd (cc)
incomplete_step Continues passed rest so_far still = (refl, still)
incomplete_step Breaks passed rest so_far still = absurd (cc)

-- where the outcome is that the packet is still incomplete, the packet is incomplete after all later frames
pub outcome_to_incomplete : (passed : ℕ) (first : TmView) (start : List ℕ) (run : List TmView) (view : TmView) (octets : List ℕ) (later : List TmView) (so_far : List ℕ)
    → IsIncompleteAfter first start run view octets → outcome_after passed view octets later ≡ StillIncomplete so_far
    → IsIncompleteAfter first start (run ++ later) (last_of view later) so_far
outcome_to_incomplete passed first start run view octets [] so_far held still =
    let same : octets ≡ so_far = cc in
    rw (append-nil run) (rw (← same) held)
outcome_to_incomplete passed first start run view octets (next ∷ later) so_far held still =
    let (goes_on, rest) = incomplete_step (continuation_of view octets next) (passed + 1) (outcome_after (passed + 1) next (octets ++ packet_data next) later) so_far still in
    let (consecutive, past) = step_continues view octets next held.incomplete goes_on in
    let now = is_incomplete_one_more first start run view octets next held consecutive past in
    rw (← append_assoc run (next ∷ []) later)
    (outcome_to_incomplete (passed + 1) first start (run ++ next ∷ []) next (octets ++ packet_data next) later so_far now rest)

-- where the packet is incomplete after all later frames, the outcome is that it is still incomplete
pub incomplete_to_outcome : (passed : ℕ) (view : TmView) (octets : List ℕ) (later : List TmView) (last : TmView) (so_far : List ℕ)
    → IsIncompleteAfter view octets later last so_far → outcome_after passed view octets later ≡ StillIncomplete so_far
incomplete_to_outcome passed view octets [] last so_far held = ap StillIncomplete (sym (append-nil octets) ∙ sym held.came)
incomplete_to_outcome passed view octets (next ∷ later) last so_far held =
    let came : so_far ≡ reassembly (octets ++ packet_data next) later = held.came ∙ reassembly-cons octets next later in
    let past : GoesOnPast octets next.field = record {
      is_read = held.none_opaque.0;
      no_start = held.no_start.0;
      incomplete = incomplete_before (octets ++ packet_data next) (concat (map packet_data later)) (ap front_of (sym came) ∙ held.incomplete);
    } in
    let rest : IsIncompleteAfter next (octets ++ packet_data next) later last so_far = record {
      ended_by = held.ended_by;
      came = came;
      consecutive = held.consecutive.1;
      none_opaque = held.none_opaque.1;
      no_start = held.no_start.1;
      incomplete = held.incomplete;
    } in
    ap (λ s. outcome_of_continuation s (passed + 1) (outcome_after (passed + 1) next (octets ++ packet_data next) later)) (continues_step view octets next held.consecutive.0 past)
    ∙ incomplete_to_outcome (passed + 1) next (octets ++ packet_data next) later last so_far rest

front_incomplete : (f : Front) (view : TmView) (octets : List ℕ) (later : List TmView) (so_far : List ℕ) → outcome_of_front f view octets later ≡ StillIncomplete so_far
    → (f ≡ Incomplete) × (outcome_after 0 view octets later ≡ StillIncomplete so_far)
front_incomplete OtherVersion view octets later so_far still = absurd (cc)
front_incomplete Incomplete view octets later so_far still = (refl, still)
front_incomplete (WholePacket len) view octets later so_far still = absurd (cc)

-- the outcome of a packet start is that its packet is incomplete, exactly where it is incomplete after all later
-- frames
pub outcome_incomplete : (view : TmView) (octets : List ℕ) (later : List TmView) (so_far : List ℕ) → outcome_of view octets later ≡ StillIncomplete so_far
    → IsIncompleteAfter view octets later (last_of view later) so_far
outcome_incomplete view octets later so_far still =
    let (incomplete, held) = front_incomplete (front_of octets) view octets later so_far still in
    outcome_to_incomplete 0 view octets [] view octets later so_far (is_incomplete_at_start view octets incomplete) held

pub incomplete_outcome : (view : TmView) (octets : List ℕ) (later : List TmView) (last : TmView) (so_far : List ℕ) → IsIncompleteAfter view octets later last so_far
    → outcome_of view octets later ≡ StillIncomplete so_far
incomplete_outcome view octets later last so_far held =
    let incomplete : front_of octets ≡ Incomplete = incomplete_before octets (concat (map packet_data later)) (ap front_of (sym held.came) ∙ held.incomplete) in
    ap (λ f. outcome_of_front f view octets later) incomplete ∙ incomplete_to_outcome 0 view octets later last so_far held
