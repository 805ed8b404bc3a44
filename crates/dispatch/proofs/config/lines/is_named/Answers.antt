use Rattle.std.proofs.Common.{arith, refl, rules, subst, sym}
use Rattle.std.proofs.lemmas.Bool.{false≢true}
use Rattle.dispatch.specs.ConfigLines.{IsCalled}
use Rattle.dispatch.specs.declared.config_line.ConfigLine.{ConfigLine}
use Rattle.dispatch.proofs.config.lines.is_named.Goals as goal

pub returns-then-is_called : goal.returns-then-is_called
returns-then-is_called c =
    let called : IsCalled c.args.kind c.args.index c.device-item.result = c.is_called.ensures.0 c.if-is_called.true in
    (λ _. (c.loop-device.device-index, c.device-item.result, search rules, search rules, called), λ _. refl)

pub returns : goal.returns
returns c = (
  λ never. absurd (false≢true never),
  λ any. absurd (c.loop-device.invariant any.0 any.1 (omega arith) (omega (arith, any.2)) (subst (λ (device : ConfigLine). IsCalled c.args.kind c.args.index device) (sym any.3) any.4)),
)
