-- A fault of a format, as messages have it.
use Rattle.wire_format.specs.declared.fault.Fault.{Fault}
use Rattle.wire_format.specs.declared.fault.Fault.TheVariants as faults
use Rattle.wire_message.specs.declared.message_fault.WireFault.{WireFault}
use Rattle.wire_message.specs.declared.message_fault.WireFault.TheVariants as wire

abbrev pub wire_fault : Fault → WireFault
wire_fault faults.BadCode = wire.BadCode
wire_fault faults.BadValue = wire.BadValue
wire_fault faults.TooLong = wire.TooLong
