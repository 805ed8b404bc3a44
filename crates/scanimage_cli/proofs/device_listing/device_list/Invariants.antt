use Rattle.std.proofs.Common.{◌≡◌, ◌++◌, drop}
use Rattle.scanimage_cli.specs.DeviceList.{device_lines}
use Rattle.scanimage_cli.proofs.device_listing.device_list.Given as goal

abbrev pub invariant-loop-info : goal.invariant-loop-info
invariant-loop-info l = l.lines.items ++ device_lines l.prefix (drop l.info-index l.devices) ≡ device_lines l.prefix l.devices
