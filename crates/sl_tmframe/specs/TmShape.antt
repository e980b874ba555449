-- The managed formats that TM transfer frames may have. Code has a format as a `TmShape`, specs as
-- the `TmFormat` of TmFrame.antt: these are two names for one thing. `field_room_of`, which is the
-- room of a `TmShape`, is in PacketFrame.antt.
use Rattle.std.specs.Prelude.{if◌then◌else◌, Result, Ok, Err}
use Rattle.sl_fields.specs.Bounds.{is_outside}
use Rattle.sl_fields.specs.declared.shape_fault.ShapeFault.{ShapeFault}
use Rattle.sl_fields.specs.declared.shape_fault.ShapeFault.TheVariants.{TmLength}
use Rattle.sl_tmframe.specs.TmFrame.{TmFormat}

-- The format, or a fault where the length of its frames is outside 32 to 2048 octets. Both bounds
-- are this project's choice.
abbrev pub tm_shape : TmFormat → Result TmFormat ShapeFault
tm_shape format = if is_outside 32 2048 format.len then Err TmLength else Ok format
