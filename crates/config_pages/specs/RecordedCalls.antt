-- What is seen of recorded inputs.
use Rattle.config_pages.specs.InputTexts.{SeenInputs, recorded_seen}
use Rattle.config_pages.specs.declared.recorded_inputs.RecordedInputs.{RecordedInputs}

-- **recorded inputs (`inputs_recorded`)**: what the inputs tell by themselves, and all calls on them since the record
-- began
abbrev pub inputs_recorded : {I : Type 0} → (I → SeenInputs) → RecordedInputs I → SeenInputs
inputs_recorded seen inputs = recorded_seen inputs.notes.calls (seen inputs.inputs)
