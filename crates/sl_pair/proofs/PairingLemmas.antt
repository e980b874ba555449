-- The channels of a store, with one packet more.
use Rattle.std.proofs.Common.{◌≡◌, ◌⊎◌, ℕ, zero, suc, ◌<◌, ◌≤◌, ◌&&◌, ◌↔◌, Bool, true, false, cond, Some, List, [], ◌∷◌, ◌++◌, length, get_or, set, inl, inr, refl, sym, ◌∙◌, ap, subst, arith, IsTrue}
use Rattle.std.specs.List.{slice_get}
use Rattle.std.specs.declared.hash.BuildHasher as builder
use Rattle.std.specs.declared.hash.Hasher as hasher
use Rattle.std.proofs.Common.{eq-eqb, ne_eqb}
use Rattle.std.proofs.lemmas.Bool.{false≢true}
use Rattle.std.proofs.lemmas.Option.{slice_get_past, slice_get_read}
use Rattle.sl_pair.specs.OnlyIn.{Packets, only_in}
use Rattle.sl_pair.specs.Pairing.{AreChannels, ByChannel, HaveSame, IsChannel, IsChannelAt, NothingIsLeft, in_order, with_packet}
use Rattle.sl_pair.specs.Placed.{AreInPlace}
use Rattle.sl_pair.specs.Side.{IsSide}
use Rattle.sl_pair.specs.declared.channel.Channel.{Channel}
use Rattle.sl_pair.specs.declared.channel.Station.{Station}
use Rattle.sl_pair.specs.declared.channel.Station.TheVariants.{First, Second}
use Rattle.sl_pair.specs.declared.side.Side.{Side}
use Rattle.sl_pair.proofs.InPlaceLemmas.{in_place-sym}
use Rattle.sl_pair.proofs.ReorderedLemmas.{same_means_in_place}

-- ---- one channel

both_true : (a b : Bool) → IsTrue (a && b) ↔ (IsTrue a × IsTrue b)
both_true true b = ((λ it. (refl, it)), (λ both. both.1))
both_true false b = ((λ it. let none : ⊥ = cc in absurd none), (λ both. both.0))

module _ {S T : Type 0} {b : builder.Ghosts S T} {h : hasher.Ghosts T} (old : Channel S T b h) (firsts seconds : Packets) (packet : List ℕ) (is : IsChannel old firsts seconds) (first second : Side S T b h) (matched : Bool) where
  -- the first recording's packet came
  pub first_came : IsSide first (firsts ++ packet ∷ []) seconds × IsSide second seconds (firsts ++ packet ∷ [])
      × (AreInPlace (firsts ++ packet ∷ []) seconds ↔ (AreInPlace firsts seconds × IsTrue matched))
      → IsChannel (record { first = first; second = second; in_place = old.in_place && matched }) (firsts ++ packet ∷ []) seconds
  first_came came =
      let both = both_true old.in_place matched in
      record {
        first = came.0;
        second = came.1;
        in_place = (
          (λ it. came.2.1 (is.in_place.0 (both.0 it).0, (both.0 it).1)),
          (λ all. both.1 (is.in_place.1 (came.2.0 all).0, (came.2.0 all).1)),
        );
      }

  -- the second recording's packet came
  pub second_came : IsSide second (seconds ++ packet ∷ []) firsts × IsSide first firsts (seconds ++ packet ∷ [])
      × (AreInPlace (seconds ++ packet ∷ []) firsts ↔ (AreInPlace seconds firsts × IsTrue matched))
      → IsChannel (record { first = first; second = second; in_place = old.in_place && matched }) firsts (seconds ++ packet ∷ [])
  second_came came =
      let both = both_true old.in_place matched in
      record {
        first = came.1;
        second = came.0;
        in_place = (
          (λ it. in_place-sym (seconds ++ packet ∷ []) firsts (came.2.1 (in_place-sym firsts seconds (is.in_place.0 (both.0 it).0), (both.0 it).1))),
          (λ all.
              (let also = came.2.0 (in_place-sym firsts (seconds ++ packet ∷ []) all) in
              both.1 (is.in_place.1 (in_place-sym seconds firsts also.0), also.1))),
        );
      }

-- ---- all channels

module _ {S T : Type 0} {b : builder.Ghosts S T} {h : hasher.Ghosts T} where
  -- a channel more, on which no packet came
  pub channel_added : (channels : List (Channel S T b h)) (new : Channel S T b h) → IsChannel new [] []
      → (channel : ℕ) (firsts seconds : Packets) → IsChannelAt (slice_get channels channel) firsts seconds
      → IsChannelAt (slice_get (channels ++ new ∷ []) channel) firsts seconds
  channel_added [] new none zero firsts seconds empty =
      subst (λ l. IsChannel new l seconds) (sym empty.0) (subst (λ l. IsChannel new [] l) (sym empty.1) none)
  channel_added [] new none (suc channel) firsts seconds empty = empty
  channel_added (c ∷ channels) new none zero firsts seconds is = is
  channel_added (c ∷ channels) new none (suc channel) firsts seconds is = channel_added channels new none channel firsts seconds is

  -- what stands at each place, where one element is another one now
  set_at : (channels : List (Channel S T b h)) (i : ℕ) (old new : Channel S T b h) → slice_get channels i ≡ Some old → (c : ℕ)
      → ((c ≡ i) × (slice_get (set channels i new) c ≡ Some new)) ⊎ ((c ≡ i → ⊥) × (slice_get (set channels i new) c ≡ slice_get channels c))
  set_at [] i old new at c = let none : ⊥ = cc in absurd none
  set_at (x ∷ channels) zero old new at zero = inl (refl, refl)
  set_at (x ∷ channels) zero old new at (suc c) = inr ((λ same. omega arith), refl)
  set_at (x ∷ channels) (suc i) old new at zero = inr ((λ same. omega arith), refl)
  set_at (x ∷ channels) (suc i) old new at (suc c) = elim (set_at channels i old new at c) [
    | inl here ↦ inl (ap suc here.0, here.1)
    | inr other ↦ inr ((λ same. other.0 (omega arith)), other.1)
  ]

  module _ (channels : List (Channel S T b h)) (i : ℕ) (old new : Channel S T b h) (packet : List ℕ) (at : slice_get channels i ≡ Some old) (own others : ByChannel) where
    -- a packet more of the first recording on one channel
    first_paired : ((firsts seconds : Packets) → IsChannel old firsts seconds → IsChannel new (firsts ++ packet ∷ []) seconds)
        → AreChannels channels own others → AreChannels (set channels i new) (with_packet own i packet) others
    first_paired paired are c = elim (set_at channels i old new at c) [
      | inl here ↦
          let had : IsChannelAt (Some old) (own c) (others c) =
          subst (λ o. IsChannelAt o (own c) (others c)) (ap (slice_get channels) here.0 ∙ at) (are c) in
          subst (λ o. IsChannelAt o (with_packet own i packet c) (others c)) (sym here.1)
          (subst (λ b. IsChannel new (cond b (own c ++ packet ∷ []) (own c)) (others c)) (sym (eq-eqb c i here.0)) (paired (own c) (others c) had))
      | inr other ↦
          subst (λ o. IsChannelAt o (with_packet own i packet c) (others c)) (sym other.1)
          (subst (λ b. IsChannelAt (slice_get channels c) (cond b (own c ++ packet ∷ []) (own c)) (others c)) (sym (ne_eqb c i other.0)) (are c))
    ]

    -- and one of the second recording
    second_paired : ((firsts seconds : Packets) → IsChannel old firsts seconds → IsChannel new firsts (seconds ++ packet ∷ []))
        → AreChannels channels others own → AreChannels (set channels i new) others (with_packet own i packet)
    second_paired paired are c = elim (set_at channels i old new at c) [
      | inl here ↦
          let had : IsChannelAt (Some old) (others c) (own c) =
          subst (λ o. IsChannelAt o (others c) (own c)) (ap (slice_get channels) here.0 ∙ at) (are c) in
          subst (λ o. IsChannelAt o (others c) (with_packet own i packet c)) (sym here.1)
          (subst (λ b. IsChannel new (others c) (cond b (own c ++ packet ∷ []) (own c))) (sym (eq-eqb c i here.0)) (paired (others c) (own c) had))
      | inr other ↦
          subst (λ o. IsChannelAt o (others c) (with_packet own i packet c)) (sym other.1)
          (subst (λ b. IsChannelAt (slice_get channels c) (others c) (cond b (own c ++ packet ∷ []) (own c))) (sym (ne_eqb c i other.0)) (are c))
    ]

  -- a packet more of a station's recording on one channel
  pub one_paired : (station : Station) (channels : List (Channel S T b h)) (i : ℕ) (old new : Channel S T b h) (packet : List ℕ) → slice_get channels i ≡ Some old
      → ((own others : Packets) → in_order station (IsChannel old) own others → in_order station (IsChannel new) (own ++ packet ∷ []) others)
      → (own others : ByChannel) → in_order station (AreChannels channels) own others
      → in_order station (AreChannels (set channels i new)) (with_packet own i packet) others
  one_paired First channels i old new packet at paired own others are = first_paired channels i old new packet at own others paired are
  one_paired Second channels i old new packet at paired own others are =
      second_paired channels i old new packet at own others (λ firsts seconds is. paired seconds firsts is) are

  -- where the first recording's packets came before, or the second's
  pub kept_in_order : (station : Station) (old new : List (Channel S T b h)) → ((firsts seconds : ByChannel) → AreChannels old firsts seconds → AreChannels new firsts seconds)
      → (own others : ByChannel) → in_order station (AreChannels old) own others → in_order station (AreChannels new) own others
  kept_in_order First old new kept own others are = kept own others are
  kept_in_order Second old new kept own others are = kept others own are

  -- on one of the channels
  pub at_in_order : (station : Station) (channels : List (Channel S T b h)) (own others : ByChannel) → in_order station (AreChannels channels) own others
      → (channel : ℕ) → in_order station (IsChannelAt (slice_get channels channel)) (own channel) (others channel)
  at_in_order First channels own others are channel = are channel
  at_in_order Second channels own others are channel = are channel

  -- past the last channel no packet came
  pub past_channels : (channels : List (Channel S T b h)) (channel : ℕ) (firsts seconds : Packets) → length channels ≤ channel
      → IsChannelAt (slice_get channels channel) firsts seconds → (firsts ≡ []) × (seconds ≡ [])
  past_channels channels channel firsts seconds past is =
      subst (λ o. IsChannelAt o firsts seconds) (slice_get_past channels channel past) is

-- where no packet came, none of the station came
pub none_in_order : (station : Station) (own others : Packets) → in_order station (λ firsts seconds. (firsts ≡ []) × (seconds ≡ [])) own others → own ≡ []
none_in_order First own others none = none.0
none_in_order Second own others none = none.1

-- without packets none is left, and all are in place
pub none_left : (firsts seconds : Packets) → (firsts ≡ []) × (seconds ≡ []) → (only_in firsts seconds ≡ []) × (only_in seconds firsts ≡ [])
none_left firsts seconds none =
    (ap (λ l. only_in l seconds) none.0, ap (λ l. only_in l firsts) none.1)

pub none_moved : (firsts seconds : Packets) → (firsts ≡ []) × (seconds ≡ []) → AreInPlace firsts seconds
none_moved firsts seconds none = λ n m pair. absurd (omega (arith, pair.inside, ap length none.0))

module _ {S T : Type 0} {b : builder.Ghosts S T} {h : hasher.Ghosts T} where
  -- the channel at a place
  pub channel_here : (channels : List (Channel S T b h)) (i : ℕ) (channel : Channel S T b h) (firsts seconds : ByChannel) → i < length channels
      → channel ≡ get_or channels i channel → AreChannels channels firsts seconds → IsChannel channel (firsts i) (seconds i)
  channel_here channels i channel firsts seconds inside is are =
      subst (λ o. IsChannelAt o (firsts i) (seconds i)) (slice_get_read channels (length channels) i channel refl inside is) (are i)

-- ---- the answer

module _ (firsts seconds : ByChannel) where
  -- what is the same has counterparts,
  pub same_is_matched : HaveSame firsts seconds → NothingIsLeft firsts seconds
  same_is_matched same c = let all = (same_means_in_place (firsts c) (seconds c)).1 (same c) in (all.0, all.1)

  -- in their places,
  pub same_is_in_place : HaveSame firsts seconds → (c : ℕ) → AreInPlace (firsts c) (seconds c)
  same_is_in_place same c = ((same_means_in_place (firsts c) (seconds c)).1 (same c)).2

  -- and only that
  pub matched_in_place : NothingIsLeft firsts seconds → ((c : ℕ) → AreInPlace (firsts c) (seconds c)) → HaveSame firsts seconds
  matched_in_place none all c = (same_means_in_place (firsts c) (seconds c)).0 ((none c).0, (none c).1, all c)

-- where a test fails, what it tells doesn't hold
pub not_told : {P : Type 0} (test : Bool) → test ≡ false → (IsTrue test ↔ P) → P → ⊥
not_told test fails tells p = false≢true (sym fails ∙ tells.1 p)
