use Rattle.std.proofs.Common.{sym}
use Rattle.wire_message.specs.Message.{next_device, option_list}
use Rattle.wire_codec.specs.Arrays.{devices_end, devices_format}
use Rattle.wire_message.proofs.Messages.{next_device_laws}
use Rattle.wire_codec.proofs.ElementsReadOnce.{begun_on, begun_fails, devices_told, devices_fail}
use Rattle.wire_codec.proofs.begun.end_devices.Goals as goal

pub returns-in-Err-clause-kept : goal.returns-in-Err-clause-kept
returns-in-Err-clause-kept c =
    begun_on devices_format next_device next_device_laws.reads (devices_end c.args.devices.status c.args.devices.count) c.args.bytes.now c.args.devices.elements c.read_on.new.elements c.requires.short c.requires.begun c.in-Err.ensures.on

pub returns-in-Err-clause-read : goal.returns-in-Err-clause-read
returns-in-Err-clause-read c =
    begun_fails devices_format next_device (devices_end c.args.devices.status c.args.devices.count) c.read_on.new.elements.front.items c.read_on.new.elements.left c.read_on.new.elements.used c.args.bytes.now c.in-Err.e
    (begun_on devices_format next_device next_device_laws.reads (devices_end c.args.devices.status c.args.devices.count) c.args.bytes.now c.args.devices.elements c.read_on.new.elements c.requires.short c.requires.begun c.in-Err.ensures.on)
    c.in-Err.ensures.err.1 c.in-Err.ensures.err.0

pub returns-in_ok-devices-in-Ok-array_end-clause-read : goal.returns-in_ok-devices-in-Ok-array_end-clause-read
returns-in_ok-devices-in-Ok-array_end-clause-read c =
    rw c.in_ok-devices-in-Ok-array_end.ensures.ok
    (devices_told c.args.bytes.now c.in-Ok-array_end.rest.now c.args.devices.status c.args.devices.count c.read_on.new.elements.left c.read_on.new.elements.used c.read_on.new.elements.front.items (option_list c.in-Ok-array_end.last)
    (begun_on devices_format next_device next_device_laws.reads (devices_end c.args.devices.status c.args.devices.count) c.args.bytes.now c.args.devices.elements c.read_on.new.elements c.requires.short c.requires.begun c.in-Ok.ensures.on)
    c.in-Ok.ensures.ok (rw (sym c.rest_of_array.ensures) c.in-Ok-array_end.ensures))

pub returns-in-Err-array_end-clause-kept : goal.returns-in-Err-array_end-clause-kept
returns-in-Err-array_end-clause-kept c =
    begun_on devices_format next_device next_device_laws.reads (devices_end c.args.devices.status c.args.devices.count) c.args.bytes.now c.args.devices.elements c.read_on.new.elements c.requires.short c.requires.begun c.in-Ok.ensures.on

pub returns-in-Err-array_end-clause-read : goal.returns-in-Err-array_end-clause-read
returns-in-Err-array_end-clause-read c =
    devices_fail c.args.bytes.now c.args.devices.status c.args.devices.count c.read_on.new.elements.left c.read_on.new.elements.used c.read_on.new.elements.front.items c.in-Err-array_end.e
    (begun_on devices_format next_device next_device_laws.reads (devices_end c.args.devices.status c.args.devices.count) c.args.bytes.now c.args.devices.elements c.read_on.new.elements c.requires.short c.requires.begun c.in-Ok.ensures.on)
    c.in-Ok.ensures.ok (rw (sym c.rest_of_array.ensures) c.in-Err-array_end.ensures)
