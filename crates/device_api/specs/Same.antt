-- What never changes of a scanner.
use Rattle.std.specs.Prelude.{◌≡◌}
use Rattle.scan_frames.specs.declared.setup.Setup.{Setup}
use Rattle.device_api.specs.State.{DeviceState}

-- the kind of scanner and the byte order are the same
pub record IsSameKind (s t : Setup) : Type 0 where
  pub kind : t.scene.kind ≡ s.scene.kind
  pub order : t.order ≡ s.order

-- it is the same scanner
pub record IsSameDevice (s t : DeviceState) : Type 0 where
  pub info : t.info ≡ s.info
  pub setup : IsSameKind s.setup t.setup
