-- That the scan of `make demo`, where it is not done, ends in one of three ways, and that its file is not there.
use Rattle.std.proofs.Common.{◌≡◌, ◌≢◌, ◌∙◌, ℕ, List, [], ◌∷◌, ◌++◌, Bool, true, refl, sym, ap, subst, ◌<◌, arith, inl, inr, Option, Some, None}
use Rattle.std.specs.Prelude.{codes, take}
use Rattle.std.specs.Fmt.{digits}
use Rattle.std.specs.Io.KnownBytes.{Appends}
use Rattle.netpbm.specs.FileText.{concat_up_to, file_text}
use Rattle.netpbm.specs.Picture.{Picture}
use Rattle.netpbm.specs.Pnm.{Denotes, IsWhole}
use Rattle.netpbm.specs.declared.format.Header.{Header}
use Rattle.netpbm.specs.declared.format.PnmFormat.TheVariants.{Pgm}
use Rattle.netpbm.proofs.WritingLaws.{denotes_file}
use Rattle.page_picture.specs.Source.{SourceState}
use Rattle.page_picture.specs.declared.scene.DeviceKind.TheVariants.{Flatbed}
use Rattle.device_api.specs.State.{DeviceState}
use Rattle.dispatch.specs.Table.{Table, fresh_table, listed_infos}
use Rattle.scan_job.specs.FileOutputs.{StopsShort}
use Rattle.scan_job.specs.declared.job.Task.TheVariants.{Scan}
use Rattle.scanimage_cli.specs.Causes.{EndsHere, HasNoDevice}
use Rattle.scanimage_cli.specs.HowEnded.{HasEndedAs}
use Rattle.scanimage_cli.specs.JobOutputs.{JobOutputs, LeavesNone}
use Rattle.scanimage_cli.specs.Programs.{asked_here, job_part}
use Rattle.scanimage_cli.specs.Whole.{LeavesNoneOf, ProgramState}
use Rattle.scanimage_cli.specs.declared.planning.Destination.{Destination}
use Rattle.scanimage_cli.specs.declared.planning.Destination.TheVariants.{StandardOutput}
use Rattle.worked_programs.specs.Begun.{HasTakenNothing, no_first_line}
use Rattle.worked_programs.specs.DemoDot.{DotIsMissed, demo_config, demo_file, demo_words}
use Rattle.worked_programs.proofs.Basics.{not_empty, some_is}
use Rattle.worked_programs.proofs.ConfigTexts.{one_line}
use Rattle.worked_programs.proofs.DemoDot.{HasOneFlatbed, demo_digits, demo_good, demo_good_page, demo_line, demo_lines, demo_page, demo_telling, one_flatbed}
use Rattle.worked_programs.proofs.DotPrinted.{demo_plans, first_named, the_flatbed, there_is}
use Rattle.worked_programs.proofs.DoneScans.{took_on}
use Rattle.worked_programs.proofs.EndedScans.{MemoryOrOutput, dot_short, ended_scan}
use Rattle.worked_programs.proofs.Flatbeds.{dot_options}
use Rattle.worked_programs.proofs.Jobs.{asks_for, one_on_output}
use Rattle.worked_programs.proofs.LostPages.{one_lacks_memory}
use Rattle.worked_programs.proofs.Plans.{PlansOnly}
use Rattle.worked_programs.proofs.SmallPages.{two_dots}
use Rattle.worked_programs.proofs.Wants.{Ways, ends_in_want, one_refused}

-- ---- the file is a whole one

-- a picture of one gray dot
abbrev pub one_gray : ℕ → Picture
one_gray gray = record { width = 1; height = 1; channels = 1; greatest = 255; at = λ x y k. gray }

abbrev pub one_gray_header : Header
one_gray_header = record { format = Pgm; width = 1; height = 1; maxval = 255 }

gray_text : (gray : ℕ) → file_text one_gray_header (one_gray gray).at ≡ codes "P5\n# SANE data follows\n1 1\n255\n" ++ gray ∷ []
unfolding concat_up_to digits
gray_text gray = refl

pub gray_whole : (gray : ℕ) → gray < 256 → IsWhole (codes "P5\n# SANE data follows\n1 1\n255\n" ++ gray ∷ [])
gray_whole gray low = (
  one_gray gray,
  subst (λ (t : List ℕ). Denotes t (one_gray gray)) (gray_text gray) (denotes_file one_gray_header (one_gray gray) (record {
    width = refl;
    height = refl;
    channels = refl;
    greatest = refl;
    width_some = omega arith;
    width_most = omega arith;
    height_some = omega arith;
    height_most = omega arith;
    maxval_some = omega arith;
    maxval_most = omega arith;
    bits = λ is. absurd (let clash : Pgm ≡ Rattle.netpbm.specs.declared.format.PnmFormat.TheVariants.Pbm = is in cc);
    in_range = λ x y k place. omega (arith, low);
  })),
)

front_of : (gray : ℕ) (more : List ℕ) → take 32
    ((codes "P5\n# SANE data follows\n1 1\n255\n" ++ gray ∷ []) ++ more) ≡ codes "P5\n# SANE data follows\n1 1\n255\n" ++ gray ∷ []
front_of gray more = refl

-- an output that stopped short does not hold it
pub not_held : (gray : ℕ) (out : Option (List ℕ)) → gray < 256 → StopsShort (Some []) out → (more : List ℕ)
    → out ≢ Some ((codes "P5\n# SANE data follows\n1 1\n255\n" ++ gray ∷ []) ++ more)
not_held gray out low short more holds =
    let same : short.text ≡ (codes "P5\n# SANE data follows\n1 1\n255\n" ++ gray ∷ []) ++ more = some_is _ _
    (sym (took_on [] short.text (Some []) out refl short.taken) ∙ holds) in
    short.none 32 (subst IsWhole (sym (ap (λ (t : List ℕ). take 32 t) same ∙ front_of gray more)) (gray_whole gray low))

-- a scan to standard output that left no file did not print it
pub none_printed : (words : List (List ℕ)) (named : Option (List ℕ)) (settings : List (List ℕ × List ℕ)) (gray : ℕ) → gray < 256
    → PlansOnly words named settings Scan StandardOutput → (was now : ProgramState) → HasTakenNothing was
    → LeavesNoneOf words was.outputs now.outputs → (more : List ℕ)
    → now.outputs.out ≢ Some ((codes "P5\n# SANE data follows\n1 1\n255\n" ++ gray ∷ []) ++ more)
none_printed words named settings gray low plans was now begun (inl same) more holds =
    let out : now.outputs.out ≡ Some [] = ap (λ (o : JobOutputs). o.out) same ∙ begun.out in
    not_empty _ _ (some_is _ _ (sym out ∙ holds))
none_printed words named settings gray low plans was now begun (inr (plan, is_plan, leaves)) more holds =
    let p = plans plan is_plan in
    let none = subst (λ (d : Destination). LeavesNone d (job_part was.outputs) (job_part now.outputs)) p.destination_is (leaves.scan p.task_is) in
    not_held gray now.outputs.out low (none.0 (Some []) (subst (λ (o : Option (List ℕ)). Appends (Some []) o []) (sym begun.out) refl)) more holds

-- ---- the ways

pub some_device : (source : SourceState) → HasNoDevice (fresh_table (the_flatbed source ∷ [])) None → ⊥
some_device source (inl none) = not_empty _ _ (sym none.1)
some_device source (inr (name, named, none)) = none (the_flatbed source)
    (ap (λ (n : List ℕ). Rattle.dispatch.specs.Table.unplug_answer (fresh_table (the_flatbed source ∷ [])) n) (first_named source name named)
    ∙ there_is source)

demo_ways : Ways demo_words demo_config None dot_options Scan StandardOutput (no_first_line ∷ []) MemoryOrOutput
demo_ways = record {
  plans = demo_plans;
  by_line = one_refused demo_config demo_line Flatbed 0 26 (demo_page ∷ []) demo_lines demo_good;
  by_page = λ told tells before behind why none.
      let one = one_line demo_config demo_line told Flatbed 0 26 (demo_page ∷ []) demo_telling demo_good tells in
      one_lacks_memory Flatbed refl one.0 1 0 26 demo_page demo_digits (two_dots 10 200) one.2 refl demo_good_page told before behind why one.1 none;
  by_task = λ plan p told tells texts devices made was now ending ends.
      let one : HasOneFlatbed devices = one_flatbed told texts devices tells made in
      let here : EndsHere (fresh_table (the_flatbed one.source ∷ [])) (asked_here None plan.job []) was now ending = subst
      (λ (ds : List DeviceState). EndsHere (fresh_table ds) (asked_here None plan.job []) was now ending) one.are ends in
      let sure : one.source.infallible ≡ true = ap (λ (s : SourceState). s.infallible) one.gives.begun in
      ended_scan (asked_here None plan.job []) (codes "flatbed:0") one.source
      (asks_for plan None dot_options Scan StandardOutput (codes "flatbed:0") p (omega arith) dot_short) sure (fresh_table (the_flatbed one.source ∷ [])) was now ending (first_named one.source) (there_is one.source)
      (some_device one.source) (one_on_output plan.job.destination p.destination_is) here;
}

pub dot_missed : DotIsMissed
dot_missed was now status errors begun read ended = record {
  want = ends_in_want demo_words demo_config None dot_options Scan StandardOutput (no_first_line ∷ []) demo_ways was now status errors begun read ended;
  no_file = none_printed demo_words None dot_options 10 (omega arith) demo_plans was now begun ended.no_file;
}

-- ---- of a run

pub scan_missed : (words : List (List ℕ)) (was now : ProgramState) (status : ℕ) (errors : Bool) → words ≡ demo_words
    → was.outputs.out ≡ Some [] → was.outputs.err ≡ Some [] → HasEndedAs words status was now errors
    → (more : List ℕ) → now.outputs.out ≢ Some (demo_file ++ more)
scan_missed words was now status errors own out err ended =
    none_printed words None dot_options 10 (omega arith)
    (subst (λ (ws : List (List ℕ)). PlansOnly ws None dot_options Scan StandardOutput) (sym own) demo_plans) was now
    (record { out = out; err = err }) ended.no_file
