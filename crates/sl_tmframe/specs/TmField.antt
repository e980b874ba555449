-- What a `TmField` stands for, wherever its octets lie in memory: the content of a data field.
use Rattle.sl_tmframe.specs.TmFrame.{DataField}
use Rattle.sl_tmframe.specs.TmFrame as spec
use Rattle.sl_tmframe.specs.declared.tm_frame.TmField.{TmField}
use Rattle.sl_tmframe.specs.declared.tm_frame.TmField.TheVariants.{Packets, Idle, Opaque}

abbrev pub as_content : TmField → DataField
as_content (Packets first octets) = spec.Packets first octets.now
as_content Idle = spec.Idle
as_content Opaque = spec.Opaque
