-- A virtual scanner behind a pointer.
use Rattle.device_api.specs.State.{DeviceState}

-- as contracts see it
abbrev pub Scanner : Type 0
Scanner = DeviceState

-- the state of the scanner
abbrev pub scanner_state : Scanner → DeviceState
scanner_state scanner = scanner
