use Rattle.saned_requests.proofs.RequestKinds.{if_ok_at, on_err_at, if_err_at}
use Rattle.saned_requests.proofs.answering.request.answer_free.Goals as goal

pub returns-in-Open-clause-err : goal.returns-in-Open-clause-err
returns-in-Open-clause-err g c = rw c.in-Open.is c.open.ensures.err

pub returns-in-Close-clause-ok : goal.returns-in-Close-clause-ok
returns-in-Close-clause-ok g c = rw c.in-Close.is (c.close.ensures c.args.challenger.now)

pub returns-in-GetOptionDescriptors-clause-ok : goal.returns-in-GetOptionDescriptors-clause-ok
returns-in-GetOptionDescriptors-clause-ok g c = rw c.in-GetOptionDescriptors.is (if_ok_at _ c.options.result c.args.registry.now c.args.challenger.now c.options.ensures)

pub returns-in-ControlOption-clause-ok : goal.returns-in-ControlOption-clause-ok
returns-in-ControlOption-clause-ok g c = rw c.in-ControlOption.is (if_ok_at _ c.control.result c.args.registry.now c.args.challenger.now c.control.ensures.ok)

pub returns-in-ControlOption-clause-err : goal.returns-in-ControlOption-clause-err
returns-in-ControlOption-clause-err g c = rw c.in-ControlOption.is (on_err_at _ c.control.result c.args.registry.now c.args.challenger.now c.control.ensures.err)

pub returns-in-GetParameters-clause-ok : goal.returns-in-GetParameters-clause-ok
returns-in-GetParameters-clause-ok g c = rw c.in-GetParameters.is (c.params.ensures c.args.registry.now c.args.challenger.now)

pub returns-in-Start-clause-ok : goal.returns-in-Start-clause-ok
returns-in-Start-clause-ok g c = rw c.in-Start.is (if_ok_at _ c.start.result c.args.registry.now c.args.challenger.now c.start.ensures.ok)

pub returns-in-Start-clause-err : goal.returns-in-Start-clause-err
returns-in-Start-clause-err g c = rw c.in-Start.is (if_err_at _ c.start.result c.args.registry.now c.args.challenger.now c.start.ensures.err)

pub returns-in-Cancel-clause-ok : goal.returns-in-Cancel-clause-ok
returns-in-Cancel-clause-ok g c = rw c.in-Cancel.is (c.cancel.ensures c.args.registry.now c.args.challenger.now)
