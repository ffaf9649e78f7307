-- What a device holds.
use Rattle.std.specs.Prelude.{Option}
use Rattle.std.specs.declared.io.ErrorKind.{ErrorKind}
use Rattle.gix_date.specs.declared.device.Device.{Device}

-- the writer or reader of a device
abbrev pub inner_of : {T : Type 0} → Device T → T
inner_of device = device.inner

-- the fault of a device, if any, which each later call repeats
abbrev pub fault_of : {T : Type 0} → Device T → Option ErrorKind
fault_of device = device.fault
