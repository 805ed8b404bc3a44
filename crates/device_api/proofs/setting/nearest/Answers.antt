use Rattle.std.proofs.Common.{◌∙◌, sym}
use Rattle.device_api.proofs.TakesLaws.{taken}
use Rattle.device_api.proofs.setting.nearest.Goals as goal

pub returns-then-not-takes-clause-value : goal.returns-then-not-takes-clause-value
returns-then-not-takes-clause-value c =
    taken c.args.setup.now c.args.option c.args.value.now ∙ sym c.takes.ensures ∙ c.if-not-takes.true

pub returns-in_default-clause-value : goal.returns-in_default-clause-value
returns-in_default-clause-value c =
    taken c.args.setup.now c.args.option c.args.value.now ∙ sym c.takes.ensures ∙ c.if-not-takes.false
