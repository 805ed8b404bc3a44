use Rattle.std.proofs.Common.{◌≡◌, ◌≤◌, take, length, filter}
use Rattle.constraint.specs.NearestComputed.{begins_with}
use Rattle.device_api.specs.Options.{choice_text}
use Rattle.device_api.proofs.matching.beginnings.Given as goal

abbrev pub invariant-loop-choice : goal.invariant-loop-choice
invariant-loop-choice l = record {
  count : l.count ≡ length (filter (λ choice. begins_with (choice_text choice) l.text) (take l.choice-index l.choices));
  few : l.count ≤ l.choice-index;
}
