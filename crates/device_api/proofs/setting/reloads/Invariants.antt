use Rattle.std.proofs.Common.{◌≡◌, take, false}
use Rattle.std.specs.List.{list_any}
use Rattle.device_api.specs.Options.{is_active}
use Rattle.device_api.specs.Values.{differ}
use Rattle.device_api.proofs.setting.reloads.Given as goal

abbrev pub invariant-loop-option : goal.invariant-loop-option
invariant-loop-option l = list_any (λ o. differ (is_active l.old o) (is_active l.new o)) (take l.option-index l.option-items) ≡ false
