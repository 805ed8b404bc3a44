-- What the program reads, dials and writes, each with a record of the calls on it.
use Rattle.std.specs.Prelude.{Some}
use Rattle.config_pages.specs.InputTexts.{SeenInputs}
use Rattle.config_pages.specs.RecordedCalls.{inputs_recorded}
use Rattle.config_pages.specs.declared.recorded_inputs.RecordedInputs.{RecordedInputs}
use Rattle.recorded.specs.Taken.{returned_to, stock_told, taken_text}
use Rattle.recorded.specs.declared.recorded.Recorded.{Recorded}
use Rattle.recorded.specs.declared.recorded_shelf.RecordedShelf.{RecordedShelf}
use Rattle.scanimage_cli.specs.Programs.{OutsideSeen, ProgramOutputs, seen_outputs, seen_outside}
use Rattle.scanimage_cli.specs.Written.{TakenOutputs}
use Rattle.scanimage_cli.specs.declared.outputs.Outputs.{Outputs}
use Rattle.scanimage_cli.specs.declared.outside.Outside.{Outside}
use Rattle.scanimage_cli.specs.declared.recorded_hosts.RecordedHosts.{RecordedHosts}

-- **recorded inputs and hosts (`recorded_outside`)**: they tell each call on them
abbrev pub recorded_outside : {I H : Type 0} → (I → SeenInputs) → Outside (RecordedInputs I) (RecordedHosts H)
    → OutsideSeen
recorded_outside seen outside = seen_outside (inputs_recorded seen) (λ hosts. Some hosts.notes.ports) outside

-- **recorded outputs (`recorded_outputs`, `taken_outputs`)**: each tells all that its calls took
abbrev pub recorded_outputs : {O E N S : Type 0} → Outputs (Recorded O) (Recorded E) (Recorded N) (RecordedShelf S)
    → ProgramOutputs
recorded_outputs all = seen_outputs (λ out. Some (taken_text out)) (λ err. Some (taken_text err))
    (λ named. Some (taken_text named)) (λ shelf. Some (stock_told shelf)) all

abbrev pub taken_outputs : {O E N S : Type 0} → Outputs (Recorded O) (Recorded E) (Recorded N) (RecordedShelf S)
    → TakenOutputs
taken_outputs all = record {
  out = taken_text all.out;
  named = taken_text all.files.named;
  returned = returned_to all.files.shelf;
}
