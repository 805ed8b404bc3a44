use Rattle.std.proofs.Common.{◌∙◌, sym, subst}
use Rattle.device_api.specs.ScannerLimits.{IsAllowed}
use Rattle.device_api.proofs.AdmittedLaws.{admitted}
use Rattle.device_api.proofs.AllowedLaws.{value_allowed}
use Rattle.device_api.proofs.InfoLaws.{set_gives, after_is}
use Rattle.device_api.proofs.setting.set_option.Goals as goal

pub put_value-requires : goal.put_value-requires
put_value-requires c = admitted c.args.setup.now c.in-Some.option c.args.value.now c.in_ok-given.given c.in_ok-given.ensures.value

pub returns-clause-answer : goal.returns-clause-answer
returns-clause-answer c = λ _. set_gives c.args.setup.now c.put_value.new.setup c.args.n c.in-Some.option c.args.value.now c.in_ok-given.given
    c.in_ok-given.differs c.reloads.result c.bears_on_params.result c.info-info.result (sym c.option_with.ensures ∙ c.in-Some.is) c.in_ok-given.ensures.value
    c.in_ok-given.ensures.differs c.put_value.ensures c.reloads.ensures c.bears_on_params.ensures c.info-info.ensures

pub returns-clause-ok : goal.returns-clause-ok
returns-clause-ok c = after_is c.args.setup.now c.put_value.new.setup c.args.n c.in-Some.option c.in_ok-given.given (sym c.option_with.ensures ∙ c.in-Some.is) c.put_value.ensures

pub returns-clause-allowed : goal.returns-clause-allowed
returns-clause-allowed c = λ a. subst IsAllowed (sym c.put_value.ensures)
    (value_allowed c.args.setup.now c.in-Some.option c.in_ok-given.given a
    (admitted c.args.setup.now c.in-Some.option c.args.value.now c.in_ok-given.given c.in_ok-given.ensures.value))
