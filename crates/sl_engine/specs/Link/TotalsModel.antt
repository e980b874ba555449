-- `Totals` are their counts. None of these is above the octets.
use Rattle.sl_engine.specs.Link.Totals.{Counts, AreWithinOctets}
use Rattle.sl_engine.specs.declared.link.totals.Totals.TheInside.{Inside}

abbrev pub totals_counts : Inside → Counts
totals_counts t =
    record {
      octets = t.octets;
      frames = t.frames;
      skipped = t.skipped;
      rest = t.rest;
      packets = t.packets;
      idle = t.idle;
      anomalies = t.anomalies;
    }

abbrev pub AreTotals : Inside → Type 0
AreTotals t = AreWithinOctets (totals_counts t)

abbrev pub inside_of : Counts → Inside
inside_of c =
    record {
      octets = c.octets;
      frames = c.frames;
      skipped = c.skipped;
      rest = c.rest;
      packets = c.packets;
      idle = c.idle;
      anomalies = c.anomalies;
    }
