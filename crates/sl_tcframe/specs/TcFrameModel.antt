-- A `TcFrame` stands for what was read of the frame: a virtual channel and a content in range
-- (`IsInRange`).
use Rattle.sl_tcframe.specs.TcFrame.{TcView, IsInRange}
use Rattle.sl_tcframe.specs.TcContent.{content}
use Rattle.sl_tcframe.specs.declared.tc_frame.TcFrame.TheInside.{Inside}

abbrev pub frame_view_of : Inside → TcView
frame_view_of f = record { vc = f.vc; content = content f.content }

abbrev pub IsTcFrame : Inside → Type 0
IsTcFrame f = IsInRange (frame_view_of f)
