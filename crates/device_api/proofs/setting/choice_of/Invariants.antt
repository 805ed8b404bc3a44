use Rattle.std.proofs.Common.{◌≡◌, drop}
use Rattle.device_api.specs.Values.{choice_of}
use Rattle.device_api.proofs.setting.choice_of.Given as goal

abbrev pub invariant-loop-choice : goal.invariant-loop-choice
invariant-loop-choice l = choice_of (drop l.choice-index l.choices) l.text ≡ choice_of l.choices l.text
