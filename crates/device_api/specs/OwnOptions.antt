-- What the options of a scanner say that its kind does not have: their defaults.
use Rattle.std.specs.Prelude.{◌≡◌, None, [], ◌∷◌}
use Rattle.page_picture.specs.declared.scene.DeviceKind.{DeviceKind}
use Rattle.page_picture.specs.declared.scene.DeviceKind.TheVariants.{Flatbed, Hand, ThreePass, Feeder}
use Rattle.scan_frames.specs.declared.setup.PassOrder.TheVariants.{Rgb}
use Rattle.scan_frames.specs.declared.setup.Setup.{Setup}
use Rattle.device_api.specs.Values.{identity, mm}

-- neither lost pixels, nor a limit of a read, nor a status that is told in place of bytes
pub record HasNoOwnOptions (s : Setup) : Type 0 where
  pub loss : s.loss ≡ 0
  pub limit : s.limit ≡ 65536
  pub told : s.told ≡ None

-- no window and no tables
pub record SeesAll (s : Setup) : Type 0 where
  pub gamma : s.scene.gamma ≡ identity
  pub channels : s.scene.channel_gamma ≡ identity ∷ identity ∷ identity ∷ []
  pub tl_x : s.scene.tl_x ≡ mm 0
  pub tl_y : s.scene.tl_y ≡ mm 0
  pub br_x : s.scene.br_x ≡ mm 80
  pub br_y : s.scene.br_y ≡ mm 100

abbrev pub HasOwnAlone : DeviceKind → Setup → Type 0
HasOwnAlone Flatbed s = s.passes ≡ Rgb
HasOwnAlone Hand s = (s.passes ≡ Rgb) × HasNoOwnOptions s × SeesAll s
HasOwnAlone ThreePass s = HasNoOwnOptions s
HasOwnAlone Feeder s = s.passes ≡ Rgb

-- **only its own (`IsOwn`)**: what a kind of scanner has no option for keeps its default.
abbrev pub IsOwn : Setup → Type 0
IsOwn s = HasOwnAlone s.scene.kind s
