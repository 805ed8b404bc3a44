-- A batch of two pages of a feeder.
use Rattle.std.proofs.Common.{◌≡◌, ◌≢◌, ◌∙◌, ℕ, List, [], ◌∷◌, ◌++◌, true, false, refl, sym, ap, subst, ◌<◌, ◌*◌, ◌/◌, length, arith, inl, inr, ◌⊎◌, Option, Some, None}
use Rattle.std.specs.Prelude.{IsSomeAnd, Ok, codes, pos, slice_index}
use Rattle.std.specs.Fmt.{digits}
use Rattle.std.specs.List.{AllZip}
use Rattle.std.specs.Io.KnownBytes.{Appends}
use Rattle.hex.specs.Hex.{decode_of, decode_pairs}
use Rattle.sane_fixed.specs.DecimalReading.{fixed_of, fraction_in, whole_at}
use Rattle.sane_fixed.specs.declared.byte_order.ByteOrder.TheVariants.{Big}
use Rattle.sane_fixed.specs.declared.device_info.DeviceInfo.{DeviceInfo}
use Rattle.constraint.specs.NearestComputed.{nearest_in_range}
use Rattle.text_lines.specs.Lines.{lines_of}
use Rattle.netpbm.specs.FileText.{concat_up_to}
use Rattle.frame_join.specs.PictureText.{IsPictureFile, picture_text}
use Rattle.page_picture.specs.Meaning.{meaning_of, picture_of, sample_of}
use Rattle.page_picture.specs.Page.{PageView, page_sample_at}
use Rattle.page_picture.specs.Source.{SourceState}
use Rattle.page_picture.specs.declared.scene.DeviceKind.TheVariants.{Feeder}
use Rattle.option_desc.specs.Put.{resolve}
use Rattle.option_desc.specs.Reads.{integer_of, read_value}
use Rattle.option_desc.specs.declared.value.Value.TheVariants.{Fixed, Int}
use Rattle.scan_frames.specs.declared.setup.Setup.{Setup}
use Rattle.device_api.specs.InForce.{Placement, in_force, placement}
use Rattle.device_api.specs.Options.{descriptor_of, option_at}
use Rattle.device_api.specs.State.{DeviceState, after_reset, held_from, state_at_rest, with_setup}
use Rattle.device_api.specs.Values.{defaults, identity, mm, setup_after, with_value}
use Rattle.virtual_scanner.specs.New.{new_device}
use Rattle.dispatch.specs.ConfigLines.{TellsConfig, device_name, fields_of}
use Rattle.dispatch.specs.Table.{fresh_table, held_at, listed_infos, unplug_answer}
use Rattle.dispatch.specs.declared.config_line.ConfigLine.{ConfigLine}
use Rattle.scan_job.specs.FileOutputs.{TakesBack}
use Rattle.scan_job.specs.Shelves.{ReturnedOutput, Stock}
use Rattle.scan_job.specs.declared.job.Task.{Task}
use Rattle.scan_job.specs.declared.job.Task.TheVariants.{List as ListTask, Batch}
use Rattle.local_job.specs.LocalBatch.{pages_of_task}
use Rattle.local_job.specs.LocalPages.{ArePageFiles, after_pages, outputs_from, with_shelf}
use Rattle.local_job.specs.LocalRun.{settings_put}
use Rattle.config_pages.specs.Devices.{AreDevicesOf, IsDeviceOfKind, IsFeederOfLine}
use Rattle.config_pages.specs.InputTexts.{InputTexts}
use Rattle.config_pages.specs.Pages.{GivesSpelled, IsPageOfText}
use Rattle.scanimage_cli.specs.Doing.{DoesBatch}
use Rattle.scanimage_cli.specs.Printing.{TakesOrFails, printed_table}
use Rattle.scanimage_cli.specs.Programs.DoesPlanned.{ToOutput, ToPath, ToFolder}
use Rattle.scanimage_cli.specs.Programs.{DoesPlanned, HasDoneHere, IsDeviceNamed, IsDoneHere, ProgramOutputs, asked_here, job_part}
use Rattle.scanimage_cli.specs.ScanimageOptions.{value_after}
use Rattle.scanimage_cli.specs.WordCut.{cut_step, item_with, long_part, option_named, part_of_word, split_of, window_settings}
use Rattle.scanimage_cli.specs.declared.planning.Destination.{Destination}
use Rattle.scanimage_cli.specs.declared.planning.Destination.TheVariants.{Folder}
use Rattle.scanimage_cli.specs.declared.planning.JobPlan.{JobPlan}
use Rattle.scanimage_cli.proofs.Destinations.{IsOut, IsPath}
use Rattle.worked_programs.specs.DemoDot.{demo_file}
use Rattle.worked_programs.specs.KeptPages.{TwoAreKept, batch_words, kept_file, tray_config}
use Rattle.worked_programs.specs.SecondDot.{second_file}
use Rattle.worked_programs.proofs.Basics.{not_empty, ok_is, one_zip, some_is}
use Rattle.worked_programs.proofs.ConfigTexts.{IsGoodLine, line_bytes, one_line, telling_lines}
use Rattle.worked_programs.proofs.DoneScans.{AreExact, failed_none, none_rounded, took_none}
use Rattle.worked_programs.proofs.Flatbeds.{dot_options, shade}
use Rattle.worked_programs.proofs.Pages.{IsGrayPage}
use Rattle.worked_programs.proofs.Plans.{AskHere, PlansOnly, none_named, options_in, plans_only}
use Rattle.worked_programs.proofs.SmallPages.{two_dots, two_grays}
use Rattle.worked_programs.proofs.Steps.{done_of}

-- ---- the words

batch_program : List (List ℕ)
batch_program = codes "--config=-" ∷ codes "--batch" ∷ codes "--batch-count=2" ∷ []

batch_split : split_of batch_words ≡ Some (batch_program, dot_options)
unfolding split_of cut_step item_with part_of_word option_named long_part window_settings batch_program
batch_split = refl

batch_asks : AskHere batch_program (Some 2) dot_options None dot_options (Batch 2) Folder
unfolding value_after batch_program
batch_asks = record {
  port = refl;
  counted = refl;
  config = refl;
  password_file = refl;
  user = refl;
  device = refl;
  of_none = none_named (options_in batch_program (Some 2)) refl refl;
  kept = refl;
  task_is = refl;
  destination_is = refl;
}

batch_plans : PlansOnly batch_words None dot_options (Batch 2) Folder
batch_plans = plans_only batch_words batch_program (Some 2) dot_options None dot_options (Batch 2) Folder batch_split batch_asks

-- ---- the config

abbrev tray_line : List ℕ
tray_line = codes "feeder 0 26 hex:50350a3220310a3235350a0ac8 hex:50350a3220310a3235350ac80a hex:50350a3220310a3235350a0ac8"

abbrev dark : List ℕ
dark = codes "50350a3220310a3235350a0ac8"

abbrev light : List ℕ
light = codes "50350a3220310a3235350ac80a"

abbrev tray_pages : List (List ℕ)
tray_pages = codes "hex:50350a3220310a3235350a0ac8" ∷ codes "hex:50350a3220310a3235350ac80a" ∷ codes "hex:50350a3220310a3235350a0ac8" ∷ []

tray_telling : telling_lines tray_config ≡ (1, tray_line) ∷ []
unfolding lines_of
tray_telling = refl

tray_good : IsGoodLine tray_line Feeder 0 26 tray_pages
unfolding fields_of digits
tray_good = record {
  size = omega arith;
  bytes = line_bytes tray_line refl;
  fields = refl;
  few = omega arith;
  some_dots = omega arith;
  coarse = omega arith;
  count = record { some = omega arith; most = omega arith };
}

dark_decoded : decode_of dark ≡ Ok (two_dots 10 200)
unfolding decode_pairs
dark_decoded = refl

light_decoded : decode_of light ≡ Ok (two_dots 200 10)
unfolding decode_pairs
light_decoded = refl

three_zip : {A B : Type 0} (R : A → B → Type 0) (x v u : A) (ys : List B) → AllZip R (x ∷ v ∷ u ∷ []) ys
    → (a b c : B) × (ys ≡ a ∷ b ∷ c ∷ []) × R x a × R v b × R u c
three_zip R x v u [] z = absurd z
three_zip R x v u (a ∷ []) z = absurd z.1
three_zip R x v u (a ∷ b ∷ []) z = absurd z.1.1
three_zip R x v u (a ∷ b ∷ c ∷ []) z = (a, b, c, refl, z.0, z.1.0, z.1.1.0)
three_zip R x v u (a ∷ b ∷ c ∷ d ∷ ys) z = absurd z.1.1.1

abbrev tray_of : List SourceState → DeviceState
tray_of sources = new_device Feeder (codes "feeder:0") sources Big

record HasTray (devices : List DeviceState) : Type 0 where
  pub one : SourceState
  pub other : SourceState
  pub last : SourceState
  pub gives : GivesSpelled dark 26 one
  pub other_gives : GivesSpelled light 26 other
  pub are : devices ≡ tray_of (one ∷ other ∷ last ∷ []) ∷ []

tray_made : (lines : List ConfigLine) (texts : InputTexts) (devices : List DeviceState) → TellsConfig tray_config lines
    → AreDevicesOf texts Big lines devices → HasTray devices
unfolding digits
tray_made lines texts devices tells made =
    let told = one_line tray_config tray_line lines Feeder 0 26 tray_pages tray_telling tray_good tells in
    let made_of = one_zip (λ (line : ConfigLine) (device : DeviceState). IsDeviceOfKind texts line.kind line Big device) told.0 devices
    (subst (λ (ls : List ConfigLine). AreDevicesOf texts Big ls devices) told.1 made) in
    let of : IsFeederOfLine texts told.0 Big made_of.0 = subst (λ k. IsDeviceOfKind texts k told.0 Big made_of.0) told.2.kind_is made_of.2 in
    let pages : AllZip (λ (text : List ℕ) (source : SourceState). IsPageOfText texts text 26 source) tray_pages of.sources =
    subst (λ (n : ℕ). AllZip (λ (text : List ℕ) (source : SourceState). IsPageOfText texts text n source) tray_pages of.sources) told.2.dpi_is
    (subst (λ (ps : List (List ℕ)). AllZip (λ (text : List ℕ)
    (source : SourceState). IsPageOfText texts text told.0.dpi source) ps of.sources) told.2.pages_are of.pages) in
    let three = three_zip (λ (text : List ℕ) (source : SourceState). IsPageOfText texts text 26 source) _ _ _ of.sources pages in
    record {
      one = three.0;
      other = three.1;
      last = three.2;
      gives = three.4.spelled dark refl;
      other_gives = three.5.spelled light refl;
      are = made_of.1 ∙ ap (λ (d : DeviceState). d ∷ []) (of.is_new
          ∙ ap (λ k. new_device Feeder (device_name k told.0.index) of.sources Big) told.2.kind_is
          ∙ ap (λ (n : ℕ). new_device Feeder (device_name Feeder n) of.sources Big) told.2.index_is
          ∙ ap (λ (ss : List SourceState). tray_of ss) three.3);
    }

-- ---- the settings and the dots of a feeder

abbrev fed_resolution : Setup
fed_resolution = record (defaults Feeder Big) { scene = record (defaults Feeder Big).scene { resolution = 26 } }

abbrev fed_side : Setup
fed_side = record (defaults Feeder Big) { scene = record (defaults Feeder Big).scene { resolution = 26; br_x = mm 1 } }

abbrev dot_on_feeder : Setup
dot_on_feeder = record (defaults Feeder Big) { scene = record (defaults Feeder Big).scene { resolution = 26; br_x = mm 1; br_y = mm 1 } }

abbrev fed_placed : List Placement
fed_placed =
    record { setup = fed_resolution; asked = Int (pos 26); given = Int (pos 26) } ∷ record { setup = fed_side; asked = Fixed (mm 1); given = Fixed (mm 1) }
    ∷ record { setup = dot_on_feeder; asked = Fixed (mm 1); given = Fixed (mm 1) } ∷ []

fed_forced : in_force Feeder Big dot_options ≡ Some (dot_on_feeder, fed_placed)
unfolding placement defaults setup_after with_value descriptor_of option_at resolve read_value integer_of fixed_of whole_at fraction_in nearest_in_range
fed_forced = refl

fed_exact : AreExact fed_placed
fed_exact = (refl, (refl, (refl, tt)))

abbrev fed_page : List ℕ → PageView
fed_page samples = record { width = 2; height = 1; dpi = 26; samples = samples }

fed_samples : (samples : List ℕ) → sample_of (fed_page samples) dot_on_feeder.scene 0 0 0 ≡ shade (slice_index samples 0) (slice_index samples 1)
    (slice_index samples 2)
unfolding sample_of defaults
fed_samples samples = refl

fed_meant : (page : PageView) → meaning_of page dot_on_feeder.scene ≡ Some (picture_of page dot_on_feeder.scene (1, 1))
unfolding defaults
fed_meant page = refl

fed_file_text : (page : PageView) → picture_text (picture_of page dot_on_feeder.scene
    (1, 1)) ≡ codes "P5\n# SANE data follows\n1 1\n255\n" ++ sample_of page dot_on_feeder.scene 0 0 0 ∷ []
unfolding defaults concat_up_to digits
fed_file_text page = refl

module _ (page : PageView) (first second gray : ℕ) (is : IsGrayPage page 2 1 26 255 (first ∷ second ∷ []))
    (tone : shade (first * 65535 / 255) (first * 65535 / 255) (first * 65535 / 255) ≡ gray) where
  page_is : page ≡ fed_page page.samples
  page_is = λ i. record { width = is.width i; height = is.height i; dpi = is.dots i; samples = page.samples }

  place_is : (k : ℕ) → k < 3 → page_sample_at (fed_page page.samples) 0 0 k ≡ first * 65535 / 255
  place_is k few = sym (ap (λ (p : PageView). page_sample_at p 0 0 k) page_is) ∙ is.grays 0 0 k (omega arith) (omega arith) few

  fed_seen : sample_of page dot_on_feeder.scene 0 0 0 ≡ gray
  fed_seen =
      ap (λ (p : PageView). sample_of p dot_on_feeder.scene 0 0 0) page_is ∙ fed_samples page.samples
      ∙ ap (λ (a : ℕ). shade a (slice_index page.samples 1) (slice_index page.samples 2)) (place_is 0 (omega arith))
      ∙ ap (λ (a : ℕ). shade (first * 65535 / 255) a (slice_index page.samples 2)) (place_is 1 (omega arith))
      ∙ ap (λ (a : ℕ). shade (first * 65535 / 255) (first * 65535 / 255) a) (place_is 2 (omega arith)) ∙ tone

  fed_text : (text : List ℕ) → IsSomeAnd (meaning_of page dot_on_feeder.scene) (IsPictureFile text)
      → text ≡ codes "P5\n# SANE data follows\n1 1\n255\n" ++ gray ∷ []
  fed_text text meant =
      let file : IsPictureFile text (picture_of page dot_on_feeder.scene (1, 1)) = subst (λ o. IsSomeAnd o (IsPictureFile text)) (fed_meant page) meant in
      file.own ∙ fed_file_text page ∙ ap (λ (v : ℕ). codes "P5\n# SANE data follows\n1 1\n255\n" ++ v ∷ []) fed_seen

dark_shade : shade (10 * 65535 / 255) (10 * 65535 / 255) (10 * 65535 / 255) ≡ 10
unfolding identity
dark_shade = refl

light_shade : shade (200 * 65535 / 255) (200 * 65535 / 255) (200 * 65535 / 255) ≡ 200
unfolding identity
light_shade = refl

-- ---- the two files

abbrev in_tray : SourceState → SourceState → SourceState → DeviceState
in_tray one other last = with_setup (after_reset (tray_of (one ∷ other ∷ last ∷ []))) dot_on_feeder

left_in_tray : (one other last : SourceState) → (state_at_rest (in_tray one other last) false).pages ≡ held_from other ∷ held_from last ∷ []
unfolding defaults
left_in_tray one other last = refl

module _ (one other last : SourceState) (gives : GivesSpelled dark 26 one) (other_gives : GivesSpelled light 26 other) where
  first_steady : one.steady ≡ true
  first_steady = ap (λ (s : SourceState). s.steady) gives.begun

  other_steady : other.steady ≡ true
  other_steady = ap (λ (s : SourceState). s.steady) other_gives.begun

  both_files : (first second : List ℕ) → ArePageFiles (in_tray one other last) (first ∷ second ∷ []) → (first ≡ demo_file) × (second ≡ second_file)
  unfolding defaults
  both_files first second files = (
    fed_text one.page 10 200 10 (two_grays dark 10 200 one dark_decoded gives) dark_shade first (files.0.picture first_steady),
    fed_text other.page 200 10 200 (two_grays light 200 10 other light_decoded other_gives) light_shade second (files.1.0.picture other_steady),
  )

  two_files : (files : List (List ℕ)) (pages : List Rattle.device_api.specs.State.HeldPage) → ArePageFiles (in_tray one other last) files
      → (length files ≡ 2) ⊎ ((0 < length files) × (length files < 2) × (pages ≡ []))
      → (length files ≡ 1 → pages ≡ held_from other ∷ held_from last ∷ []) → files ≡ demo_file ∷ second_file ∷ []
  two_files [] pages are (inl two) left = absurd (omega (arith, two))
  two_files [] pages are (inr few) left = absurd (omega (arith, few.0))
  two_files (a ∷ []) pages are (inl two) left = absurd (omega (arith, two))
  two_files (a ∷ []) pages are (inr few) left = absurd (not_empty _ _ (sym few.2 ∙ left refl))
  two_files (a ∷ b ∷ []) pages are all left = let both = both_files a b are in ap (λ (f : List ℕ). f ∷ b ∷ []) both.0
      ∙ ap (λ (f : List ℕ). demo_file ∷ f ∷ []) both.1
  two_files (a ∷ b ∷ c ∷ more) pages are (inl two) left = absurd (omega (arith, two))
  two_files (a ∷ b ∷ c ∷ more) pages are (inr few) left = absurd (omega (arith, few.1))

first_in_tray : (sources : List SourceState) (device : List ℕ) → IsDeviceNamed None (listed_infos (fresh_table (tray_of sources ∷ []))) device
    → device ≡ codes "feeder:0"
first_in_tray sources device named = named.2 ∙ ap (λ (i : DeviceInfo). i.name) (some_is _ _ (sym named.1))

tray_there : (sources : List SourceState) → unplug_answer (fresh_table (tray_of sources ∷ [])) (codes "feeder:0") ≡ Ok (tray_of sources)
unfolding unplug_answer held_at defaults
tray_there sources = refl

taken_by : (n : ℕ) (outputs : List ReturnedOutput) (a b : Option Stock) → a ≡ Some (record { taken = []; number = n }) → TakesBack a outputs b
    → (stock : Stock) × (b ≡ Some stock) × (stock.taken ≡ outputs)
taken_by n outputs a b first p = on b (subst (λ o. TakesBack o outputs b) first p)
  where
    on : (b : Option Stock) → TakesBack (Some (record { taken = []; number = n })) outputs b → (stock : Stock) × (b ≡ Some stock) × (stock.taken ≡ outputs)
    on None p = absurd p
    on (Some stock) p = (stock, refl, p)

module _ (one other last : SourceState) (gives : GivesSpelled dark 26 one) (other_gives : GivesSpelled light 26 other) (plan : JobPlan)
    (was now : ProgramOutputs) (task : plan.task ≡ Batch 2) (settings : plan.settings.items ≡ dot_options)
    (h : HasDoneHere (fresh_table (tray_of (one ∷ other ∷ last ∷ []) ∷ [])) (asked_here None plan []) was now) where
  old_is : h.old ≡ tray_of (one ∷ other ∷ last ∷ [])
  old_is = ok_is _ _ (sym h.found ∙ ap (λ (n : List ℕ). unplug_answer (fresh_table (tray_of (one ∷ other ∷ last ∷ []) ∷ [])) n)
      (first_in_tray (one ∷ other ∷ last ∷ []) h.job.device h.named) ∙ tray_there (one ∷ other ∷ last ∷ []))

  task_is : h.job.task ≡ Batch 2
  task_is = h.asked_for.task ∙ task

  items_are : h.job.settings.items ≡ dot_options
  items_are = ap (λ s. s.items) h.asked_for.settings_are ∙ settings

  forced_is : (setup : Setup) (placed : List Placement) → in_force h.old.setup.scene.kind h.old.setup.order
      (settings_put h.job.task h.job.settings.items) ≡ Some (setup, placed) → ◌≡◌ {A = Setup × List Placement} (setup, placed) (dot_on_feeder, fed_placed)
  unfolding defaults
  forced_is setup placed put =
      let at : in_force h.old.setup.scene.kind h.old.setup.order (settings_put h.job.task h.job.settings.items) ≡ in_force Feeder Big dot_options =
      ap (λ (s : DeviceState). in_force s.setup.scene.kind s.setup.order (settings_put h.job.task h.job.settings.items)) old_is
      ∙ ap (λ (t : Task). in_force Feeder Big (settings_put t h.job.settings.items)) task_is
      ∙ ap (λ (xs : List (List ℕ × List ℕ)). in_force Feeder Big xs) items_are in
      some_is _ _ (sym put ∙ at ∙ fed_forced)

  module _ (before behind : Option Stock) (does : DoesBatch h.job (with_shelf h.old before) (with_shelf h.new behind) h.printed) where
    forced : ◌≡◌ {A = Setup × List Placement} (does.done.setup, does.done.placed) (dot_on_feeder, fed_placed)
    forced = forced_is does.done.setup does.done.placed does.done.put.put

    from_is : with_setup (after_reset h.old) does.done.setup ≡ in_tray one other last
    from_is = ap (λ (s : DeviceState). with_setup (after_reset s) does.done.setup) old_is
        ∙ ap (λ (f : Setup × List Placement). with_setup (after_reset (tray_of (one ∷ other ∷ last ∷ []))) f.0) forced

    left_one : length does.done.scanned.files ≡ 1 → h.new.pages ≡ held_from other ∷ held_from last ∷ []
    left_one few =
        ap (λ (d : DeviceState). d.pages) (does.done.scanned.left ∙ ap (λ (n : ℕ). after_pages n (with_setup (after_reset h.old) does.done.setup)) few
        ∙ ap (λ (d : DeviceState). after_pages 1 d) from_is) ∙ left_in_tray one other last

    files_are : does.done.scanned.files ≡ demo_file ∷ second_file ∷ []
    files_are =
        let s = does.done.scanned in
        let all = subst (λ (t : Task). (length s.files ≡ pages_of_task t) ⊎
        ((0 < length s.files) × (length s.files < pages_of_task t) × (h.new.pages ≡ []))) task_is s.all in
        two_files one other last gives other_gives s.files h.new.pages (subst (λ (d : DeviceState). ArePageFiles d s.files) from_is s.pages) all left_one

    no_lines : h.printed.rounded.items ≡ []
    no_lines = does.prints.rounded ∙ none_rounded _ _ does.done.placed does.reports.settings does.done.told
        (subst AreExact (sym (ap (λ (f : Setup × List Placement). f.1) forced)) fed_exact)

    no_table : h.printed.table.items ≡ []
    no_table = does.prints.table ∙ ap (λ (t : Task). printed_table t [] h.job.device does.reports) task_is

  keeps_on : (destination : Destination) (n : ℕ) → destination ≡ Folder → was.files.stock ≡ Some (record { taken = []; number = n }) → was.out ≡ Some []
      → was.err ≡ Some []
      → DoesPlanned destination h.job (h.old, h.new) (job_part was) (record { out = h.behind; files = now.files }) h.printed
      → ((stock : Stock) × (now.files.stock ≡ Some stock) × (stock.taken ≡ kept_file 1 demo_file ∷ kept_file 2 second_file ∷ [])) ×
      (now.files.named ≡ was.files.named) × (now.out ≡ Some []) × (now.err ≡ Some [])
  keeps_on destination n at none out err (ToOutput there does same) = absurd (subst IsOut (sym there ∙ at) tt)
  keeps_on destination n at none out err (ToPath path there begun named does same stock) = absurd (subst IsPath (sym there ∙ at) tt)
  keeps_on destination n at none out err (ToFolder there does same named) =
      let back = taken_by n (outputs_from 1 does.done.scanned.files) was.files.stock now.files.stock none does.done.scanned.outputs in (
        (back.0, back.1, back.2 ∙ ap (λ (files : List (List ℕ)). outputs_from 1 files) (files_are was.files.stock now.files.stock does)),
        named,
        took_none [] h.behind now.out (same ∙ out) (subst (λ (t : List ℕ). Appends h.behind now.out t)
            (no_table was.files.stock now.files.stock does) h.printed_out),
        failed_none [] was.err now.err now.failed err (subst (λ (t : List ℕ). TakesOrFails was.err now.err t now.failed)
            (no_lines was.files.stock now.files.stock does) h.rounded),
      )

batch_no_list : (task : Task) → task ≡ Batch 2 → task ≢ ListTask
batch_no_list task is list = let clash : Batch 2 ≡ ListTask = sym is ∙ list in cc

pub two_kept : TwoAreKept
two_kept was now number begun none given h =
    let d = done_of batch_words tray_config None dot_options (Batch 2) Folder was now batch_plans refl given h in
    let tray : HasTray d.devices = tray_made d.lines d.texts d.devices d.tells d.of_lines in
    let does : IsDoneHere (fresh_table (tray_of (tray.one ∷ tray.other ∷ tray.last ∷ []) ∷ [])) (asked_here None d.plan.job []) was.outputs now.outputs =
    subst (λ (ds : List DeviceState). IsDoneHere (fresh_table ds) (asked_here None d.plan.job []) was.outputs now.outputs) tray.are d.does in
    let h = does.job (batch_no_list d.plan.job.task d.plans.task_is) in
    let all =
    keeps_on tray.one tray.other tray.last tray.gives tray.other_gives d.plan.job was.outputs now.outputs d.plans.task_is
    d.plans.settings_are h d.plan.job.destination number d.plans.destination_is none begun.out begun.err h.does in
    record { stock = all.0.0; told = all.0.1; two = all.0.2; named = all.1; out = all.2; err = all.3; ports = d.ports }
