-- How a program that lacked something tells it.
use Rattle.std.proofs.Common.{◌≡◌, ◌∙◌, ℕ, List, [], ◌∷◌, Bool, true, false, refl, sym, ap, subst, arith, inl, inr, ◌⊎◌, Option, Some}
use Rattle.std.specs.Prelude.{Contains}
use Rattle.std.specs.Fmt.{digits}
use Rattle.sane_fixed.specs.declared.byte_order.ByteOrder.TheVariants.{Big}
use Rattle.text_lines.specs.Lines.{lines_of}
use Rattle.page_picture.specs.declared.scene.DeviceKind.{DeviceKind}
use Rattle.device_api.specs.State.{DeviceState}
use Rattle.dispatch.specs.ConfigLines.{TellsConfig, is_telling}
use Rattle.dispatch.specs.ConfigReasons.{config_reason_text}
use Rattle.dispatch.specs.Table.{fresh_table}
use Rattle.dispatch.specs.declared.config_fault.ConfigReason.{ConfigReason}
use Rattle.dispatch.specs.declared.config_fault.ConfigReason.TheVariants as reasons
use Rattle.dispatch.specs.declared.config_line.ConfigLine.{ConfigLine}
use Rattle.scan_job.specs.declared.job.Task.{Task}
use Rattle.config_pages.specs.Devices.{AreDevicesOf, HasNoScanners}
use Rattle.config_pages.specs.InputTexts.{InputTexts, SeenInputs}
use Rattle.config_pages.specs.declared.config_scanners.ScannerFault.{ScannerFault}
use Rattle.config_pages.specs.declared.devices.DeviceFault.{DeviceFault}
use Rattle.config_pages.specs.declared.devices.DeviceFault.TheVariants as faults
use Rattle.scanimage_cli.specs.Causes.{EndsHere}
use Rattle.scanimage_cli.specs.Ending.{IsOfOutput, config_line_text, ended_by_device, ending_line, exit_status}
use Rattle.scanimage_cli.specs.HowEnded.{HasEndedAs, before_telling}
use Rattle.scanimage_cli.specs.Inputs.{IsLineRefusal}
use Rattle.scanimage_cli.specs.Printing.{TakesOrFails}
use Rattle.scanimage_cli.specs.Programs.{ProgramOutputs, asked_here}
use Rattle.scanimage_cli.specs.Whole.{ProgramState}
use Rattle.scanimage_cli.specs.declared.ending.Ending.{Ending}
use Rattle.scanimage_cli.specs.declared.ending.Ending.TheVariants.{BadCommandLine, CannotRead, Config, Page, Ended}
use Rattle.scanimage_cli.specs.declared.planning.Destination.{Destination}
use Rattle.scanimage_cli.specs.declared.planning.Input.TheVariants.{StandardInput}
use Rattle.scanimage_cli.specs.declared.planning.Plan.{Plan}
use Rattle.worked_programs.specs.Begun.{EndsInWant, HasReadOnly, HasTakenNothing, HoldsLine, TellsWant, no_first_line, no_second_line}
use Rattle.worked_programs.specs.Begun.TellsWant.{OfMemory, OfLine, OfOutput}
use Rattle.worked_programs.proofs.ConfigTexts.{IsGoodLine, fault_of_one}
use Rattle.worked_programs.proofs.DoneScans.{took_on}
use Rattle.worked_programs.proofs.EndedScans.{MemoryOrOutput}
use Rattle.worked_programs.proofs.Plans.{PlansHere, PlansOnly}
use Rattle.worked_programs.proofs.Steps.{ComesTo, comes_to}
use Rattle.worked_programs.proofs.Steps.ComesTo.{ByMemory, ByLine, ByPage, ByTask}
use Rattle.worked_programs.proofs.TwoLines.{fault_of_two, second_memory}

-- out of memory, an output that failed, or one of these lines
abbrev pub OfTheseLines : List (List ℕ) → Ending → Type 0
OfTheseLines lines ending = (exit_status ending ≡ 65) × Contains lines (ending_line ending)

abbrev pub IsWant : List (List ℕ) → Ending → Type 0
IsWant lines ending = MemoryOrOutput ending ⊎ OfTheseLines lines ending

want_told : (lines : List (List ℕ)) (status : ℕ) (failed : Bool) (ending : Ending) → status ≡ exit_status ending → (IsOfOutput ending → failed ≡ true)
    → IsWant lines ending → TellsWant lines status (ending_line ending) failed
want_told lines status failed ending is noted (inl (inl memory)) = OfMemory (is ∙ ap exit_status memory) (ap ending_line memory)
want_told lines status failed ending is noted (inl (inr output)) = OfOutput (is ∙ ap exit_status output) (ap ending_line output)
    (noted (subst IsOfOutput (sym output) refl))
want_told lines status failed ending is noted (inr line) = OfLine (is ∙ line.0) line.1

-- ---- the line of an ending

pub tells : (was now : ProgramState) (line : List ℕ) (errors : Bool) → HasTakenNothing was → TakesOrFails was.outputs.err now.outputs.err line errors
    → HoldsLine line now errors
tells was now line errors begun (inl all) well = took_on [] line was.outputs.err now.outputs.err begun.err all
tells was now line errors begun (inr failed) well = absurd (let clash : true ≡ false = sym failed.3 ∙ well in cc)

pub told_want : (words : List (List ℕ)) (lines : List (List ℕ)) (was now : ProgramState) (status : ℕ) (errors : Bool) → HasTakenNothing was
    → (ended : HasEndedAs words status was now errors) → IsWant lines ended.ending → EndsInWant lines status now errors
told_want words lines was now status errors begun ended want = record {
  line = ending_line ended.ending;
  why = want_told lines status now.outputs.failed ended.ending ended.status_is ended.of_output want;
  told = tells was now (ending_line ended.ending) errors begun ended.told;
}

-- ---- a refused line

abbrev RefusedBy : (ℕ → ConfigReason → Type 0) → List (List ℕ) → Type 0
RefusedBy Refuses lines = (number : ℕ) (reason : ConfigReason) → Refuses number reason → Contains lines (config_line_text number (config_reason_text reason))

of_fault : (text : List ℕ) (lines : List (List ℕ)) → RefusedBy (Rattle.dispatch.specs.ConfigLines.HasConfigFault text) lines → (ending : Ending)
    → IsLineRefusal text ending → OfTheseLines lines ending
of_fault text lines by BadCommandLine refusal = absurd refusal
of_fault text lines by (CannotRead path) refusal = absurd refusal
of_fault text lines by (Config fault) refusal = (refl, by fault.line fault.reason refusal)
of_fault text lines by (Page line why) refusal = absurd refusal
of_fault text lines by (Ended s why) refusal = absurd refusal

pub lacks_first : (number : ℕ) (reason : ConfigReason) → (number ≡ 1) × (reason ≡ reasons.NoMem)
    → config_line_text number (config_reason_text reason) ≡ no_first_line
unfolding digits
lacks_first number reason both = ap (λ (n : ℕ). config_line_text n (config_reason_text reason)) both.0
    ∙ ap (λ (r : ConfigReason). config_line_text 1 (config_reason_text r)) both.1

lacks_second : (number : ℕ) (reason : ConfigReason) → (number ≡ 2) × (reason ≡ reasons.NoMem)
    → config_line_text number (config_reason_text reason) ≡ no_second_line
unfolding digits
lacks_second number reason both = ap (λ (n : ℕ). config_line_text n (config_reason_text reason)) both.0
    ∙ ap (λ (r : ConfigReason). config_line_text 2 (config_reason_text r)) both.1

pub one_refused : (text line : List ℕ) (kind : DeviceKind) (index dpi : ℕ) (pages : List (List ℕ)) → lines_of text ≡ line ∷ []
    → IsGoodLine line kind index dpi pages → (ending : Ending) → IsLineRefusal text ending → OfTheseLines (no_first_line ∷ []) ending
one_refused text line kind index dpi pages are good = of_fault text (no_first_line ∷ [])
    (λ number reason fault. (0, omega arith, sym (lacks_first number reason (fault_of_one text line kind index dpi pages are good number reason fault))))

pub two_refused : (text first second : List ℕ) (kind kind2 : DeviceKind) (index dpi index2 dpi2 : ℕ) (pages pages2 : List (List ℕ))
    → lines_of text ≡ first ∷ second ∷ [] → is_telling first ≡ true → (kind ≡ kind2 → index ≡ index2 → ⊥)
    → IsGoodLine first kind index dpi pages → IsGoodLine second kind2 index2 dpi2 pages2 → (ending : Ending) → IsLineRefusal text ending
    → OfTheseLines (no_first_line ∷ no_second_line ∷ []) ending
two_refused text first second kind kind2 index dpi index2 dpi2 pages pages2 are telling other good good2 =
    of_fault text (no_first_line ∷ no_second_line ∷ []) (λ number reason fault.
    elim (fault_of_two text first second kind index dpi pages are telling good number reason fault) [
      | inl both ↦ (0, omega arith, sym (lacks_first number reason both))
      | inr of ↦ (1, omega arith, sym (lacks_second number reason (second_memory second kind kind2 index index2 dpi2 pages2 other good2 number reason of)))
    ])

-- ---- all the ways of a plan here

-- how its task ends is one of these
pub record Ways (words : List (List ℕ)) (text : List ℕ) (named : Option (List ℕ)) (settings : List (List ℕ × List ℕ)) (task : Task)
    (destination : Destination) (lines : List (List ℕ)) (Ends : Ending → Type 0) : Type 0 where
  pub plans : PlansOnly words named settings task destination
  pub by_line : (ending : Ending) → IsLineRefusal text ending → OfTheseLines lines ending
  pub by_page : (told : List ConfigLine) → TellsConfig text told → (before behind : SeenInputs) (why : ScannerFault) → HasNoScanners told before behind why
      → why.fault ≡ faults.NoMem
  pub by_task : (plan : Plan) → PlansHere plan (Some StandardInput) named settings task destination → (told : List ConfigLine) → TellsConfig text told
      → (texts : InputTexts) (devices : List DeviceState) → AreDevicesOf texts Big told devices
      → (was now : ProgramOutputs) (ending : Ending) → EndsHere (fresh_table devices) (asked_here named plan.job []) was now ending → Ends ending

module _ (words : List (List ℕ)) (text : List ℕ) (named : Option (List ℕ)) (settings : List (List ℕ × List ℕ)) (task : Task) (destination : Destination)
    (lines : List (List ℕ)) where
  pub by_ways : (Ends : Ending → Type 0) → Ways words text named settings task destination lines Ends → (was now : ProgramState) (ending : Ending)
      → ComesTo text named settings task destination was now ending → Ends ending ⊎ IsWant lines ending
  by_ways Ends ways was now ending (ByMemory told tells memory) = inr (inl (inl memory))
  by_ways Ends ways was now ending (ByLine refusal) = inr (inr (ways.by_line ending refusal))
  by_ways Ends ways was now ending (ByPage told tells before behind why none is) = inr
      (inl (inl (is ∙ ap (λ (f : DeviceFault). ended_by_device why.line f) (ways.by_page told tells before behind why none))))
  by_ways Ends ways was now ending (ByTask plan p told tells texts devices made ends) = inl
      (ways.by_task plan p told tells texts devices made was.outputs now.outputs ending ends)

  pub ends_by : (Ends : Ending → Type 0) → Ways words text named settings task destination lines Ends
      → (was now : ProgramState) (status : ℕ) (errors : Bool) → HasReadOnly text was.inputs now.inputs → (ended : HasEndedAs words status was now errors)
      → Ends ended.ending ⊎ IsWant lines ended.ending
  ends_by Ends ways was now status errors read ended = by_ways Ends ways was (before_telling was now) ended.ending
      (comes_to words text named settings task destination was (before_telling was now) ended.ending ways.plans read ended.cause)

  pub ends_in_want : Ways words text named settings task destination lines MemoryOrOutput → (was now : ProgramState) (status : ℕ) (errors : Bool)
      → HasTakenNothing was → HasReadOnly text was.inputs now.inputs → HasEndedAs words status was now errors
      → EndsInWant lines status now errors
  ends_in_want ways was now status errors begun read ended = elim (ends_by MemoryOrOutput ways was now status errors read ended) [
    | inl ends ↦ told_want words lines was now status errors begun ended (inl ends)
    | inr want ↦ told_want words lines was now status errors begun ended want
  ]
