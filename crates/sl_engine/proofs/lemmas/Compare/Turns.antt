-- Two recordings that are read in turns.
use Rattle.std.proofs.Common.{◌≡◌, ℕ, ◌==◌, cond, List, [], ◌∷◌, ◌++◌, length, take, refl, sym, ◌∙◌, ap, arith, append_assoc, append-nil, length-append}
use Rattle.std.proofs.Math.Seq.{take-append_seam}
use Rattle.std.proofs.lemmas.List.{take-append-le}
use Rattle.std.proofs.lemmas.Bool.Decides.{eqb_tells}
use Rattle.std.specs.declared.hash.BuildHasher as builder
use Rattle.std.specs.declared.hash.Hasher as hasher
use Rattle.sl_packet.specs.Packets.{without_idle}
use Rattle.sl_packet.specs.Sink.{TakesAll}
use Rattle.sl_packet.proofs.WithoutIdleLemmas.{without_idle-append}
use Rattle.sl_pair.specs.OnlyIn.{Packets}
use Rattle.sl_pair.specs.Pairing.{ByChannel, StandsAfter, TakesPacket, in_order, turn_of, with_packet}
use Rattle.sl_pair.specs.declared.channel.Station.{Station}
use Rattle.sl_pair.specs.declared.channel.Station.TheVariants.{First, Second}
use Rattle.sl_pair.specs.declared.pairing.Pairing.{Pairing}
use Rattle.sl_engine.specs.Compare.Turns.{GoesOn, packets_on}
use Rattle.sl_engine.specs.Kind.Delivery.{AddsByChannel, HasDelivered, Kind}
use Rattle.sl_engine.specs.Link.Totals.{Counts}

-- the packets, with some more at the end of a channel's list
abbrev with_more : ByChannel → ℕ → Packets → ByChannel
with_more own channel packets = λ c. cond (c == channel) (own c ++ packets) (own c)

more_none : (own : ByChannel) (channel c : ℕ) → own c ≡ with_more own channel [] c
more_none own channel c = grind (arith, append-nil)

more_next : (own : ByChannel) (channel : ℕ) (packet : List ℕ) (packets : Packets) (c : ℕ)
    → with_more (with_packet own channel packet) channel packets c ≡ with_more own channel (packet ∷ packets) c
more_next own channel packet packets c = grind (arith, append_assoc)

-- a frame adds the packets that end in it
frame_more : {k : Kind} → AddsByChannel k → (before : List (List ℕ)) (frame : List ℕ) (c : ℕ)
    → with_more (packets_on k before) (k.channel frame) (without_idle (k.packets_ended_by before frame)) c ≡ packets_on k (before ++ frame ∷ []) c
frame_more laws before frame c = grind (arith, eqb_tells, laws.own, laws.other, without_idle-append)

-- the frames of a recording of which more is read begin with those that it had
pub first_frames : {X : Type 0} (n : ℕ) (frames more all : List X) → n ≡ length frames → all ≡ frames ++ more → take n all ≡ frames
first_frames n frames more all is are = rw (are, is) (take-append_seam frames more)

module _ {S T : Type 0} {b : builder.Ghosts S T} {h : hasher.Ghosts T} where
  -- lists that are equal on each channel
  pub alike : (station : Station) (p : Pairing S T b h) (own own' others : ByChannel) → ((c : ℕ) → own c ≡ own' c)
      → in_order station (StandsAfter p) own others → in_order station (StandsAfter p) own' others
  alike First p own own' others same s = λ c. rw (← same c) (s c)
  alike Second p own own' others same s = λ c. rw (← same c) (s c)

  -- after another store too
  turned : (station : Station) (p p' : Pairing S T b h) (own others : ByChannel) → ((firsts seconds : ByChannel) → StandsAfter p firsts seconds → StandsAfter p' firsts seconds)
      → in_order station (StandsAfter p) own others → in_order station (StandsAfter p') own others
  turned First p p' own others kept s = kept own others s
  turned Second p p' own others kept s = kept others own s

  -- what packets that were taken one after another do
  pub takes_all : (packets : Packets) (old new : Pairing S T b h) (channel : ℕ) → TakesAll TakesPacket old channel packets new
      → (turn_of new ≡ turn_of old) × ((own others : ByChannel) → in_order (turn_of old) (StandsAfter old) own others
      → in_order (turn_of old) (StandsAfter new) (with_more own channel packets) others)
  takes_all [] old new channel same =
      (ap turn_of same, λ own others s. rw same (alike (turn_of old) old own _ others (more_none own channel) s))
  takes_all (packet ∷ packets) old new channel t =
      let later = takes_all packets t.0 new channel t.2 in (
        later.0 ∙ t.1.turn,
        λ own others s.
            let mid = t.1.taken own others s in
            alike (turn_of old) new _ _ others (more_next own channel packet packets)
            (rw t.1.turn at (later.1 (with_packet own channel packet) others (rw (sym t.1.turn) at mid))),
      )

  module _ {k : Kind} {n : ℕ} {old : Pairing S T b h} where
    -- before a turn
    pub turn_begins : {counted : List (List ℕ) → Type 0} {frames : List (List ℕ)} → counted frames → n ≡ length frames
        → GoesOn k counted n old old frames
    turn_begins {frames = frames} d is = record {
      delivered = d;
      some = omega (arith, is);
      turn = refl;
      paired = λ others s. rw (first_frames n frames [] frames is (sym (append-nil frames))) at s;
    }

    -- one frame more
    pub turn_goes_on : {counted counted' : List (List ℕ) → Type 0} {mid new : Pairing S T b h} (before : List (List ℕ)) (frame : List ℕ) → AddsByChannel k
        → GoesOn k counted n old mid before → counted' (before ++ frame ∷ []) → TakesAll TakesPacket mid (k.channel frame) (without_idle (k.packets_ended_by before frame)) new
        → GoesOn k counted' n old new (before ++ frame ∷ [])
    turn_goes_on {mid = mid} {new = new} before frame laws g d t =
        let took = takes_all (without_idle (k.packets_ended_by before frame)) mid new (k.channel frame) t in
        let same : (c : ℕ) → with_more (packets_on k before) (k.channel frame) (without_idle (k.packets_ended_by before frame)) c ≡ packets_on k (before ++ frame ∷ []) c
        = λ c. frame_more laws before frame c in
        record {
          delivered = d;
          some = omega (arith, g.some, length-append before (frame ∷ []));
          turn = took.0 ∙ g.turn;
          paired = λ others s.
              let then = g.paired others (rw (take-append-le n before (frame ∷ []) g.some) at s) in
              alike (turn_of old) new _ _ others same (rw g.turn at (took.1 (packets_on k before) others (rw (sym g.turn) at then)));
        }

-- how many frames were counted
pub frames_counted : {k : Kind} {had : List (List ℕ) → Type 0} {frames : List (List ℕ)} {anomalies : ℕ} {counts : Counts} → HasDelivered k had frames anomalies counts → counts.frames ≡ length frames
frames_counted d = ap (λ (c : Counts). c.frames) d.counts

-- the frames of a turn: `own` were there before it, and `own'` are all after it
pub turn_ends : {S T : Type 0} {b : builder.Ghosts S T} {h : hasher.Ghosts T} {k : Kind} {n : ℕ} {counted : List (List ℕ) → Type 0} (old : Pairing S T b h) {mid new : Pairing S T b h} {frames : List (List ℕ)} (station : Station) (own own' : List (List ℕ)) → GoesOn k counted n mid new frames
    → turn_of mid ≡ station → ((firsts seconds : ByChannel) → StandsAfter old firsts seconds → StandsAfter mid firsts seconds) → take n frames ≡ own → frames ≡ own'
    → (others : ByChannel) → in_order station (StandsAfter old) (packets_on k own) others → in_order station (StandsAfter new) (packets_on k own') others
turn_ends {k} old {mid = mid} station own own' g turn kept first all others s =
    rw (turn, all) at (g.paired others (rw (← turn, ← first) at (turned station old mid (packets_on k own) others kept s)))
