-- The managed formats that TC transfer frames may have.
use Rattle.std.specs.Prelude.{if◌then◌else◌, Result, Ok, Err}
use Rattle.sl_fields.specs.Bounds.{is_outside}
use Rattle.sl_fields.specs.declared.shape_fault.ShapeFault.{ShapeFault}
use Rattle.sl_fields.specs.declared.shape_fault.ShapeFault.TheVariants.{TcLength}
use Rattle.sl_tcframe.specs.TcFrame.{TcFormat}

-- The format, which is refused where its greatest length isn't 16 to 1024 octets. The bound of 1024
-- is that of CCSDS 232.0-B. The bound of 16 is this project's choice.
abbrev pub tc_shape : TcFormat → Result TcFormat ShapeFault
tc_shape format = if is_outside 16 1024 format.max then Err TcLength else Ok format
