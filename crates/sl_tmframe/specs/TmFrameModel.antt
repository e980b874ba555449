-- A `TmFrame` stands for the view that a reader has of the frame. The virtual channel and the data
-- field of this view are in range.
use Rattle.sl_tmframe.specs.TmFrame.{TmView, IsInRange}
use Rattle.sl_tmframe.specs.TmField.{as_content}
use Rattle.sl_tmframe.specs.declared.tm_frame.TmFrame.TheInside.{Inside}

-- the view, by the fields of a `TmFrame`; `view_of` is the view by a frame's octets
abbrev pub frame_view_of : Inside → TmView
frame_view_of f =
    record {
      vc = f.header.vc;
      mc_count = f.header.mc;
      vc_count = f.header.vcc;
      control = f.control;
      field = as_content f.field;
    }

-- the view is in range
abbrev pub IsTmFrame : Inside → Type 0
IsTmFrame f = IsInRange (frame_view_of f)
