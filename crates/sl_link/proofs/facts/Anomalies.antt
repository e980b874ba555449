-- Worked anomalies: their lines and their order, and which are anomalies of worked recordings, computed from the
-- definitions. Frames have 32 octets (TM), or 16 at most (TC), and the spacecraft is 1.
use Rattle.std.proofs.Common.{◌≡◌, ℕ, List, [], ◌∷◌, ◌++◌, codes, inl, inr, refl, true, None, Some, arith}
use Rattle.std.specs.Fmt.{digits}
use Rattle.sl_cop.specs.declared.verdict.Verdict.TheVariants.{Early}
use Rattle.sl_cop.specs.Farm.{farm_start}
use Rattle.sl_tcframe.specs.TcFrame.{Ad}
use Rattle.sl_tmframe.specs.TmFrame.{TmView, view_of}
use Rattle.sl_engine.specs.Link.Managed.{tm_format}
use Rattle.sl_link.specs.Laws.Anomaly.{Anomaly, Finding, ComesBefore, line_of}
use Rattle.sl_link.specs.Laws.Anomaly.{Discarded, Dropped, Foreign, Gap, Opaque, Open, Rest, Skip, Stray, Tail, TooLong}
use Rattle.sl_link.specs.Laws.Anomaly.{Command, Fecf}
use Rattle.sl_link.specs.Laws.Anomaly.Tc.{IsTcAnomaly}
use Rattle.sl_link.specs.Laws.Anomaly.Tm.{IsTmAnomaly}
use Rattle.sl_engine.proofs.facts.Listings.{ad}
use Rattle.sl_engine.proofs.facts.NormalForms.{begun, ended, framed}
use Rattle.sl_engine.proofs.facts.Rows.{hex, tm, tc}

abbrev at : ℕ → Finding → Anomaly
at offset finding = record { offset = offset; finding = finding }

-- ---- lines

pub record HaveLines : Type 0 where
  pub skip : line_of (at 32 (Skip Fecf)) ≡ codes "32 skip fecf\n"
  pub no_command : line_of (at 43 (Skip Command)) ≡ codes "43 skip command\n"
  pub gap : line_of (at 32 (Gap 0 1 2)) ≡ codes "32 gap vc 0 expected 1 found 2\n"
  pub early : line_of (at 0 (Discarded Early 0 4)) ≡ codes "0 early vc 0 ad 4\n"
  pub stray : line_of (at 0 (Stray 0 1)) ≡ codes "0 stray vc 0 map 1\n"
  pub packet_dropped : line_of (at 32 (Dropped 0 None 3)) ≡ codes "32 dropped vc 0 octets 3\n"
  pub series_dropped : line_of (at 39 (Dropped 0 (Some 2) 4)) ≡ codes "39 dropped vc 0 map 2 octets 4\n"
  pub opaque : line_of (at 32 (Opaque 0)) ≡ codes "32 opaque vc 0\n"
  pub foreign : line_of (at 0 (Foreign 0)) ≡ codes "0 foreign vc 0\n"
  pub long : line_of (at 9 (TooLong 63 5)) ≡ codes "9 long vc 63 map 5\n"
  pub tail : line_of (at 0 (Tail 0 0 1)) ≡ codes "0 tail vc 0 map 0 octets 1\n"
  pub remainder : line_of (at 96 (Rest 4)) ≡ codes "96 rest 4\n"
  pub packet_open : line_of (at 66 (Open 1 None 3)) ≡ codes "66 open vc 1 octets 3\n"
  pub series_open : line_of (at 6 (Open 0 (Some 0) 0)) ≡ codes "6 open vc 0 map 0 octets 0\n"

pub lines : HaveLines
unfolding digits
lines = record {
  skip = refl;
  no_command = refl;
  gap = refl;
  early = refl;
  stray = refl;
  packet_dropped = refl;
  series_dropped = refl;
  opaque = refl;
  foreign = refl;
  long = refl;
  tail = refl;
  remainder = refl;
  packet_open = refl;
  series_open = refl;
}

-- ---- order

pub record HaveOrder : Type 0 where
  pub by_offset : ComesBefore (at 16 (Tail 0 0 1)) (at 23 (Discarded Early 0 4))
  pub in_a_tm_frame : ComesBefore (at 32 (Gap 0 1 2)) (at 32 (Dropped 0 None 3))
  pub in_a_tc_frame : ComesBefore (at 6 (Dropped 0 (Some 0) 0)) (at 6 (Tail 0 0 1))
  pub by_channel : ComesBefore (at 66 (Open 0 None 3)) (at 66 (Open 1 None 3))
  pub by_vc_then_map : ComesBefore (at 22 (Open 0 (Some 3) 0)) (at 22 (Open 5 (Some 1) 0))
  pub by_map : ComesBefore (at 22 (Open 5 (Some 1) 0)) (at 22 (Open 5 (Some 2) 1))

pub order : HaveOrder
order = record {
  by_offset = inl (omega arith);
  in_a_tm_frame = inr (refl, omega arith);
  in_a_tc_frame = inr (refl, omega arith);
  by_channel = inr (refl, omega arith);
  by_vc_then_map = inr (refl, omega arith);
  by_map = inr (refl, omega arith);
}

-- ---- recordings

abbrev after_gap : List ℕ
after_gap = framed 2 2 "1807" ended

abbrev seen : List ℕ → TmView
seen frame = view_of (tm_format tm) frame

abbrev early : List ℕ
early = ad 0 4 (hex "c0 00")

pub record HaveAnomalies : Type 0 where
  pub gap : IsTmAnomaly tm (begun ++ after_gap) (at 32 (Gap 0 1 2))
  pub remainder : IsTmAnomaly tm (begun ++ hex "0010") (at 32 (Rest 2))
  pub early : IsTcAnomaly tc early (at 0 (Discarded Early 0 4))

pub anomalies : HaveAnomalies
anomalies = record {
  gap = record {
    frames = begun ∷ after_gap ∷ [];
    remainder = [];
    delimited = record { end_to_end = refl; whole = (refl, (refl, tt)); short = omega arith };
    is = inl (record {
      before = begun ∷ [];
      frame = after_gap;
      later = [];
      in_order = refl;
      at = refl;
      found = (seen after_gap, refl, record { earlier = []; last = seen begun; in_order = refl; broken = refl; value = refl }, refl, refl);
    });
  };
  remainder = record {
    frames = begun ∷ [];
    remainder = hex "0010";
    delimited = record { end_to_end = refl; whole = (refl, tt); short = omega arith };
    is = inr (inl (record { some = omega arith; at = refl; found = refl }));
  };
  early = record {
    frames = early ∷ [];
    remainder = [];
    delimited = record { end_to_end = refl; each = (refl, tt); no_more = refl };
    is = inl (record {
      before = [];
      frame = early;
      later = [];
      in_order = refl;
      at = refl;
      found = record {
        view = record { vc = 0; content = Ad 4 (hex "c0 00") };
        is_read = refl;
        unit = hex "c0 00";
        carries = refl;
        after = record (farm_start 0) { retransmit = true };
        step = (refl, (omega arith, omega arith), refl);
        discards = λ same. cc;
        vc_is = refl;
      };
    });
  };
}
