-- What a `TcContent` of the code stands for: the same content, with a unit's octets, wherever these
-- lie in memory.
use Rattle.sl_tcframe.specs.TcFrame.{Content}
use Rattle.sl_tcframe.specs.TcFrame as spec
use Rattle.sl_tcframe.specs.declared.tc_frame.TcContent.{TcContent}
use Rattle.sl_tcframe.specs.declared.tc_frame.TcContent.TheVariants.{Ad, Bd, Unlock, SetVr}

abbrev pub content : TcContent → Content
content (Ad ns unit) = spec.Ad ns unit.now
content (Bd unit) = spec.Bd unit.now
content Unlock = spec.Unlock
content (SetVr vr) = spec.SetVr vr
