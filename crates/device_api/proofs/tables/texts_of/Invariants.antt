use Rattle.std.proofs.Common.{◌≡◌, take, map}
use Rattle.device_api.specs.Options.{choice_text}
use Rattle.device_api.proofs.tables.texts_of.Given as goal

abbrev pub invariant-loop-choice : goal.invariant-loop-choice
invariant-loop-choice l = l.texts.items ≡ map choice_text (take l.choice-index l.choices)
