-- The frames of a scan on their way from a scanner to the output.
use Rattle.std.specs.Prelude.{ℕ, ◌≡◌, ◌≢◌, Option, List, true, IsSomeAnd}
use Rattle.std.specs.Io.KnownBytes.{Appends}
use Rattle.netpbm.specs.Pnm.{IsWhole}
use Rattle.page_picture.specs.Meaning.{meaning_of}
use Rattle.sane_fixed.specs.declared.status.Status.TheVariants.{Good, Eof}
use Rattle.device_api.specs.State.{DeviceState, page_of, steady_of}
use Rattle.scan_laws.specs.Stays.{IsSameScan}
use Rattle.scan_job.specs.declared.stop.Stop.{Stop}
use Rattle.frame_join.specs.PictureText.{IsPictureFile}

-- what ends a job has a status that is no success
pub record IsRefusal (stop : Stop) : Type 0 where
  pub not_good : stop.status ≢ Good
  pub not_eof : stop.status ≢ Eof

-- of a device only its phase and its count of failures changed, and a feeder that is at rest let go of its first page
abbrev pub KeepsDevice : DeviceState → DeviceState → Type 0
KeepsDevice old new = IsSameScan old new

-- the output took the whole file of a picture, which is the scene's meaning on the page where its source is steady
pub record IsScanned (s : DeviceState) (first contents : Option (List ℕ)) : Type 0 where
  pub text : List ℕ
  pub taken : Appends first contents text
  pub whole : IsWhole text
  pub picture : (steady_of s) ≡ true → IsSomeAnd (meaning_of (page_of s) s.setup.scene) (IsPictureFile text)
