-- A `TmFound` and a `TcFound` stand for what is found of a frame, field by field. No other crate can name these types:
-- so the definitions that the engines' contracts rest on name the models, the records `TmFinding` and `TcFinding`.
use Rattle.sl_engine.specs.Kind.Tc.{TcFinding}
use Rattle.sl_engine.specs.Kind.Tm.{TmFinding}
use Rattle.sl_engine.specs.declared.kind.tc.TcFound.TheInside as tc
use Rattle.sl_engine.specs.declared.kind.tm.TmFound.TheInside as tm

abbrev pub tm_finding : tm.Inside → TmFinding
tm_finding f =
    record {
      vc = f.vc;
      vc_count = f.vc_count;
      gap = f.gap;
      dropped = f.dropped;
      opaque = f.opaque;
      foreign = f.foreign;
    }

abbrev pub tm_inside : TmFinding → tm.Inside
tm_inside f =
    record {
      vc = f.vc;
      vc_count = f.vc_count;
      gap = f.gap;
      dropped = f.dropped;
      opaque = f.opaque;
      foreign = f.foreign;
    }

abbrev pub tc_finding : tc.Inside → TcFinding
tc_finding f =
    record {
      vc = f.vc;
      map = f.map;
      ns = f.ns;
      verdict = f.verdict;
      stray = f.stray;
      dropped = f.dropped;
      long = f.long;
      tail = f.tail;
    }

abbrev pub tc_inside : TcFinding → tc.Inside
tc_inside f =
    record {
      vc = f.vc;
      map = f.map;
      ns = f.ns;
      verdict = f.verdict;
      stray = f.stray;
      dropped = f.dropped;
      long = f.long;
      tail = f.tail;
    }
