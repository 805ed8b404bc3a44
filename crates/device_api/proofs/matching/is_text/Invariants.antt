use Rattle.std.proofs.Common.{◌≡◌, take, false}
use Rattle.std.specs.List.{list_any}
use Rattle.std.specs.Str.{bytes_eq}
use Rattle.device_api.specs.Options.{choice_text}
use Rattle.device_api.proofs.matching.is_text.Given as goal

abbrev pub invariant-loop-choice : goal.invariant-loop-choice
invariant-loop-choice l = list_any (λ choice. bytes_eq (choice_text choice) l.text) (take l.choice-index l.choices) ≡ false
