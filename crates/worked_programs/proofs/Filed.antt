-- A dot in the file that is named.
use Rattle.std.proofs.Common.{◌≡◌, ◌≢◌, ◌∙◌, ℕ, List, [], ◌∷◌, ◌++◌, true, refl, sym, ap, subst, drop, arith, inl, inr, Option, Some, None}
use Rattle.std.specs.Prelude.{codes, take}
use Rattle.std.specs.Io.KnownBytes.{Appends}
use Rattle.netpbm.specs.Pnm.{IsWhole}
use Rattle.page_picture.specs.Source.{SourceState}
use Rattle.page_picture.specs.declared.scene.DeviceKind.TheVariants.{Flatbed}
use Rattle.device_api.specs.State.{DeviceState}
use Rattle.dispatch.specs.Table.{fresh_table}
use Rattle.recorded.specs.Names.{named_behind}
use Rattle.scan_job.specs.declared.job.Task.TheVariants.{Scan}
use Rattle.scanimage_cli.specs.Causes.{EndsHere}
use Rattle.scanimage_cli.specs.JobOutputs.{JobOutputs, LeavesNone}
use Rattle.scanimage_cli.specs.Programs.{IsDoneHere, asked_here, job_part}
use Rattle.scanimage_cli.specs.ScanimageOptions.{value_after}
use Rattle.scanimage_cli.specs.Whole.{LeavesNoneOf, ProgramState}
use Rattle.scanimage_cli.specs.WordCut.{cut_step, item_with, long_part, option_named, part_of_word, split_of, window_settings}
use Rattle.scanimage_cli.specs.declared.planning.Destination.{Destination}
use Rattle.scanimage_cli.specs.declared.planning.Destination.TheVariants.{Path}
use Rattle.worked_programs.specs.Begun.{no_first_line}
use Rattle.worked_programs.specs.DemoDot.{demo_config, demo_file}
use Rattle.worked_programs.specs.FiledDot.{DotIsFiled, DotIsUnfiled, file_words, named_dot}
use Rattle.worked_programs.proofs.Basics.{not_empty, some_is}
use Rattle.worked_programs.proofs.ConfigTexts.{one_line}
use Rattle.worked_programs.proofs.DemoDot.{HasOneFlatbed, demo_digits, demo_good, demo_good_page, demo_grays, demo_line, demo_lines, demo_page, demo_shade, demo_telling, one_flatbed}
use Rattle.worked_programs.proofs.DotMissed.{gray_whole, some_device}
use Rattle.worked_programs.proofs.DotPrinted.{first_named, no_list, the_flatbed, there_is}
use Rattle.worked_programs.proofs.DoneScans.{filed_scan, named_after, took_on}
use Rattle.worked_programs.proofs.EndedScans.{MemoryOrOutput, dot_short, ended_scan}
use Rattle.worked_programs.proofs.Flatbeds.{dot_options, dot_text}
use Rattle.worked_programs.proofs.Jobs.{asks_for, one_on_path}
use Rattle.worked_programs.proofs.LostPages.{one_lacks_memory}
use Rattle.worked_programs.proofs.Plans.{AskHere, PlansOnly, none_named, options_in, plans_only}
use Rattle.worked_programs.proofs.SmallPages.{two_dots}
use Rattle.worked_programs.proofs.Steps.{done_of}
use Rattle.worked_programs.proofs.Wants.{Ways, ends_in_want, one_refused}

abbrev dot_path : List ℕ
dot_path = codes "dot.pnm"

file_program : List (List ℕ)
file_program = codes "--config=-" ∷ codes "--output-file=dot.pnm" ∷ []

file_split : split_of file_words ≡ Some (file_program, dot_options)
unfolding split_of cut_step item_with part_of_word option_named long_part window_settings file_program
file_split = refl

file_asks : AskHere file_program None dot_options None dot_options Scan (Path dot_path)
unfolding value_after file_program
file_asks = record {
  port = refl;
  counted = refl;
  config = refl;
  password_file = refl;
  user = refl;
  device = refl;
  of_none = none_named (options_in file_program None) refl refl;
  kept = refl;
  task_is = refl;
  destination_is = refl;
}

file_plans : PlansOnly file_words None dot_options Scan (Path dot_path)
file_plans = plans_only file_words file_program None dot_options None dot_options Scan (Path dot_path) file_split file_asks

named_is : named_behind [] dot_path ++ demo_file ≡ named_dot
named_is = refl

pub dot_filed : DotIsFiled
dot_filed was now begun none given h =
    let d = done_of file_words demo_config None dot_options Scan (Path dot_path) was now file_plans refl given h in
    let one : HasOneFlatbed d.devices = one_flatbed d.lines d.texts d.devices d.tells d.of_lines in
    let does : IsDoneHere (fresh_table (the_flatbed one.source ∷ [])) (asked_here None d.plan.job []) was.outputs now.outputs =
    subst (λ (ds : List DeviceState). IsDoneHere (fresh_table ds) (asked_here None d.plan.job []) was.outputs now.outputs) one.are d.does in
    let h = does.job (no_list d.plan.job.task d.plans.task_is) in
    let steady : one.source.steady ≡ true = ap (λ (s : SourceState). s.steady) one.gives.begun in
    let p = filed_scan (fresh_table (the_flatbed one.source ∷ [])) (asked_here None d.plan.job []) was.outputs now.outputs (codes "flatbed:0") one.source h
    (first_named one.source h.job.device h.named) (there_is one.source) d.plans.task_is d.plans.settings_are steady
    dot_path d.plans.destination_is none begun.out begun.err in
    record {
      named = p.named ∙ ap (λ (t : List ℕ). Some (named_behind [] dot_path ++ t))
          (dot_text one.source.page 10 200 10 p.text (demo_grays one.source one.gives) demo_shade p.meant) ∙ ap Some named_is;
      stock = p.stock;
      out = p.out;
      err = p.err;
      ports = d.ports;
    }

-- ---- where it is missed

file_ways : Ways file_words demo_config None dot_options Scan (Path dot_path) (no_first_line ∷ []) MemoryOrOutput
file_ways = record {
  plans = file_plans;
  by_line = one_refused demo_config demo_line Flatbed 0 26 (demo_page ∷ []) demo_lines demo_good;
  by_page = λ told tells before behind why none.
      let one = one_line demo_config demo_line told Flatbed 0 26 (demo_page ∷ []) demo_telling demo_good tells in
      one_lacks_memory Flatbed refl one.0 1 0 26 demo_page demo_digits (two_dots 10 200) one.2 refl demo_good_page told before behind why one.1 none;
  by_task = λ plan p told tells texts devices made was now ending ends.
      let one : HasOneFlatbed devices = one_flatbed told texts devices tells made in
      let here : EndsHere (fresh_table (the_flatbed one.source ∷ [])) (asked_here None plan.job []) was now ending = subst
      (λ (ds : List DeviceState). EndsHere (fresh_table ds) (asked_here None plan.job []) was now ending) one.are ends in
      let sure : one.source.infallible ≡ true = ap (λ (s : SourceState). s.infallible) one.gives.begun in
      ended_scan (asked_here None plan.job []) (codes "flatbed:0") one.source
      (asks_for plan None dot_options Scan (Path dot_path) (codes "flatbed:0") p (omega arith) dot_short) sure
      (fresh_table (the_flatbed one.source ∷ [])) was now ending (first_named one.source) (there_is one.source) (some_device one.source)
      (one_on_path plan.job.destination dot_path p.destination_is) here;
}

-- the name's own marks stand in front
behind_name : (text : List ℕ) → drop 10 (named_behind [] dot_path ++ text) ≡ text
behind_name text = refl

behind_dot : (more : List ℕ) → drop 10 (named_dot ++ more) ≡ demo_file ++ more
behind_dot more = refl

front_is : (more : List ℕ) → take 32 (demo_file ++ more) ≡ demo_file
front_is more = refl

not_filed : (was now : ProgramState) → was.outputs.files.named ≡ Some [] → LeavesNoneOf file_words was.outputs now.outputs → (more : List ℕ)
    → now.outputs.files.named ≢ Some (named_dot ++ more)
not_filed was now none (inl same) more holds =
    let out : now.outputs.files.named ≡ Some [] = ap (λ (o : JobOutputs). o.files.named) same ∙ none in
    not_empty _ _ (some_is _ _ (sym out ∙ holds))
not_filed was now none (inr (plan, is_plan, leaves)) more holds =
    let p = file_plans plan is_plan in
    let left = subst (λ (d : Destination). LeavesNone d (job_part was.outputs) (job_part now.outputs)) p.destination_is (leaves.scan p.task_is) in
    elim left.0 [
      | inl same ↦ not_empty _ _ (some_is _ _ (sym (same ∙ none) ∙ holds))
      | inr (begun, named, short) ↦
          let begun_is : begun ≡ Some (named_behind [] dot_path) = named_after [] dot_path was.outputs.files.named begun none named in
          let empty : Appends begun begun [] = subst (λ (o : Option (List ℕ)). Appends o o []) (sym begun_is) refl in
          let s = short begun empty in
          let taken = took_on (named_behind [] dot_path) s.text begun now.outputs.files.named begun_is s.taken in
          let same : s.text ≡ demo_file ++ more = ap (drop 10) (some_is _ _ (sym taken ∙ holds)) in
          s.none 32 (subst IsWhole (sym (ap (take 32) same ∙ front_is more)) (gray_whole 10 (omega arith)))
    ]

pub dot_unfiled : DotIsUnfiled
dot_unfiled was now status errors begun none read ended = (
  ends_in_want file_words demo_config None dot_options Scan (Path dot_path)
      (no_first_line ∷ []) file_ways was now status errors begun read ended,
  not_filed was now none ended.no_file,
)
