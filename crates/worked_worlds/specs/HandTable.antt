-- What a show of a hand scanner tells, option by option.
use Rattle.std.specs.Prelude.{ℕ, ◌≡◌, pos, true, Option, Some, List, [], ◌∷◌, codes}
use Rattle.sane_fixed.specs.declared.byte_order.ByteOrder.TheVariants.{Little}
use Rattle.option_desc.specs.declared.descriptor.Descriptor.{Descriptor}
use Rattle.option_desc.specs.declared.value.Value.{Value}
use Rattle.option_desc.specs.declared.value.Value.TheVariants.{Flag, Int, Text}
use Rattle.page_picture.specs.Page.{PageView}
use Rattle.page_picture.specs.declared.scene.DeviceKind.TheVariants.{Hand}
use Rattle.scan_frames.specs.declared.setup.Setup.{Setup}
use Rattle.device_api.specs.State.{DeviceState}
use Rattle.device_api.specs.Values.{defaults}
use Rattle.virtual_scanner.specs.New.{new_scanner}
use Rattle.scan_job.specs.declared.job.Job.{Job}
use Rattle.scan_job.specs.declared.job.Task.TheVariants as tasks
use Rattle.worked_worlds.specs.declared.hand_shows.ShownOption.{ShownOption}
use Rattle.worked_worlds.specs.Worked.{memory_source}

-- **a table (`hand_table`, `hand_with`, `hand_settings`, `IsHandShow`)**: what a hand scanner shows whose resolution
-- was set to 160: five options, gray, 8 bits, 150 dots per inch, the nearest that it has, and that it is one. Then a
-- hand scanner with a page in memory, that setting, and a job that shows the options behind it.
abbrev pub hand_table : List ShownOption
hand_table =
    record { name = []; value = Some (Int (pos 5)) }
    ∷ record { name = codes "mode"; value = Some (Text (codes "Gray")) }
    ∷ record { name = codes "depth"; value = Some (Int (pos 8)) }
    ∷ record { name = codes "resolution"; value = Some (Int (pos 150)) }
    ∷ record { name = codes "hand-scanner"; value = Some (Flag true) } ∷ []

abbrev pub hand_with : List ℕ → PageView → DeviceState
hand_with name page = new_scanner Hand name (memory_source page) Little

abbrev pub hand_settings : List (List ℕ × List ℕ)
hand_settings = (codes "resolution", codes "160") ∷ []

-- the options that it puts in force
abbrev pub hand_setup : Setup
hand_setup = record (defaults Hand Little) { scene = record (defaults Hand Little).scene { resolution = 150 } }

pub record IsHandShow (job : Job) : Type 0 where
  pub user_is : job.user ≡ []
  pub password_is : job.password ≡ []
  pub named : job.device ≡ codes "hand:0"
  pub settings_are : job.settings.items ≡ hand_settings
  pub does : job.task ≡ tasks.Show

-- an option that a show tells, by its name
abbrev pub shown_by_name : Descriptor × Option Value → ShownOption
shown_by_name option = record { name = option.0.name; value = option.1 }
