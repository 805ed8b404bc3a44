-- That the calls of the scan of `make demo` took its file.
use Rattle.std.proofs.Common.{◌≡◌, ◌∙◌, ℕ, List, [], ◌∷◌, ◌++◌, true, refl, sym, ap, subst, None}
use Rattle.sane_fixed.specs.declared.byte_order.ByteOrder.TheVariants.{Big}
use Rattle.page_picture.specs.Source.{SourceState}
use Rattle.page_picture.specs.declared.scene.DeviceKind.TheVariants.{Flatbed}
use Rattle.scan_frames.specs.declared.setup.Setup.{Setup}
use Rattle.device_api.specs.InForce.{Placement, in_force}
use Rattle.device_api.specs.State.{DeviceState, after_reset, with_setup}
use Rattle.device_api.specs.Values.{defaults}
use Rattle.dispatch.specs.ConfigLines.{TellsConfig}
use Rattle.dispatch.specs.Table.{fresh_table, unplug_answer}
use Rattle.scan_job.specs.declared.job.Task.{Task}
use Rattle.scan_job.specs.declared.job.Task.TheVariants.{Scan}
use Rattle.local_job.specs.LocalPages.{IsFileOfFirstPage}
use Rattle.local_job.specs.LocalRun.{settings_put}
use Rattle.config_pages.specs.Devices.{calls_of_lines}
use Rattle.config_pages.specs.InputTexts.{IsConfigRead, with_calls}
use Rattle.config_pages.specs.InputTexts.InputName.{StandardText}
use Rattle.config_pages.specs.Pages.{GivesSpelled}
use Rattle.scanimage_cli.specs.Inputs.{AreLinesOf, IsPasswordIn}
use Rattle.scanimage_cli.specs.Programs.{asked_here}
use Rattle.scanimage_cli.specs.Written.{IsFileAt, IsFileHere}
use Rattle.scanimage_cli.specs.declared.planning.JobPlan.{JobPlan}
use Rattle.worked_programs.specs.DemoDot.{DotIsWritten, demo_config, demo_file}
use Rattle.worked_programs.proofs.Basics.{ok_is, some_is}
use Rattle.worked_programs.proofs.DemoDot.{HasOneFlatbed, demo_digits, demo_grays, demo_shade, one_flatbed}
use Rattle.worked_programs.proofs.DotPrinted.{demo_plans, first_named, the_flatbed, there_is}
use Rattle.worked_programs.proofs.Flatbeds.{dot_forced, dot_on_flatbed, dot_options, dot_placed, dot_text}
use Rattle.worked_programs.proofs.Steps.{text_is}

module _ (source : SourceState) (gives : GivesSpelled demo_digits 26 source) (plan : JobPlan) (password text : List ℕ) (task : plan.task ≡ Scan)
    (settings : plan.settings.items ≡ dot_options) (file : IsFileHere (fresh_table (the_flatbed source ∷ [])) (asked_here None plan password) text) where
  device_is : file.here.device ≡ the_flatbed source
  device_is =
      ok_is _ _ (sym file.here.found ∙ ap (λ (n : List ℕ). unplug_answer (fresh_table (the_flatbed source ∷ [])) n)
      (first_named source file.here.job.device file.here.named) ∙ there_is source)

  forced_is : ◌≡◌ {A = Setup × List Placement} (file.here.setup, file.here.placed) (dot_on_flatbed, dot_placed)
  unfolding defaults
  forced_is =
      let job = file.here.job in
      let at : in_force file.here.device.setup.scene.kind file.here.device.setup.order (settings_put job.task job.settings.items) ≡ in_force Flatbed Big dot_options =
      ap (λ (s : DeviceState). in_force s.setup.scene.kind s.setup.order (settings_put job.task job.settings.items)) device_is
      ∙ ap (λ (t : Task). in_force Flatbed Big (settings_put t job.settings.items)) (file.here.asked_for.task ∙ task)
      ∙ ap (λ (xs : List (List ℕ × List ℕ)). in_force Flatbed Big xs) (ap (λ s. s.items) file.here.asked_for.settings_are ∙ settings) in
      some_is _ _ (sym file.put.put ∙ at ∙ dot_forced)

  first_page_file : IsFileOfFirstPage (with_setup (after_reset (the_flatbed source)) dot_on_flatbed) text
  first_page_file =
      subst (λ (s : DeviceState). IsFileOfFirstPage s text)
      (ap (λ (s : DeviceState). with_setup (after_reset s) file.here.setup) device_is
      ∙ ap (λ (f : Setup × List Placement). with_setup (after_reset (the_flatbed source)) f.0) forced_is) file.file

  text_of_file : text ≡ demo_file
  text_of_file =
      let steady : source.steady ≡ true = ap (λ (s : SourceState). s.steady) gives.begun in
      dot_text source.page 10 200 10 text (demo_grays source gives) demo_shade (first_page_file.picture steady)

pub dot_written : DotIsWritten
dot_written read_was read_now was now given w =
    let p = demo_plans w.plan w.is_plan in
    let c : IsConfigRead StandardText read_was w.configured w.lines = subst (λ o. AreLinesOf o read_was w.configured w.lines) p.config_is w.config in
    let password : (w.password ≡ []) × (read_now ≡ with_calls (calls_of_lines w.lines) w.configured) =
    subst (λ o. IsPasswordIn o (with_calls (calls_of_lines w.lines) w.configured) read_now w.password) p.password_file w.read in
    let same : c.text ≡ demo_config = text_is demo_config read_was read_now w.configured w.lines refl given c password.1 in
    let one : HasOneFlatbed w.devices = one_flatbed w.lines w.configured.texts w.devices (subst (λ (t : List ℕ). TellsConfig t w.lines) same c.tells) w.of_lines in
    let out = w.written.to_output p.task_is p.destination_is in
    let there : IsFileHere (fresh_table w.devices) (asked_here None w.plan.job w.password) out.0.0 =
    subst (λ l. IsFileAt l (fresh_table w.devices) w.plan.job w.password out.0.0) p.here out.0.1 in
    let file : IsFileHere (fresh_table (the_flatbed one.source ∷ [])) (asked_here None w.plan.job w.password) out.0.0 =
    subst (λ (ds : List DeviceState). IsFileHere (fresh_table ds) (asked_here None w.plan.job w.password) out.0.0) one.are there in
    let text = text_of_file one.source one.gives w.plan.job w.password out.0.0 p.task_is p.settings_are file in
    (out.0.2 ∙ ap (λ (t : List ℕ). was.out ++ t) text, out.1, out.2)
