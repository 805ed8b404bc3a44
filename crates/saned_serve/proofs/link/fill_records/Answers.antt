use Rattle.std.proofs.Common.{◌≡◌, true, false, refl}
use Rattle.saned_core.specs.DaemonStates.{core}
use Rattle.saned_serve.specs.Journal.{most_record}
use Rattle.saned_serve.proofs.Daemon.{record_some}
use Rattle.saned_serve.proofs.DataActionSteps.{goes_records, goes_loaded}
use Rattle.saned_serve.proofs.link.fill_records.Goals as goal

pub returns-then-is_empty : goal.returns-then-is_empty
returns-then-is_empty g c = λ n.
    goes_records g.C.Socket.history (core g.D.Device.state c.args.daemon.now) n c.args.link.now (core g.D.Device.state c.take_record-step.new.daemon) c.take_record-step.new.self c.is_end-link.result c.take_record-step.result c.args.link.now.image
    refl c.requires (c.if-is_empty.ensures.0 refl) c.is_end-link.ensures (record_some (core g.D.Device.state c.args.daemon.now) (core g.D.Device.state c.take_record-step.new.daemon) c.args.link.now.id.number most_record c.take_record-step.result c.take_record-step.new.self c.take_record-step.ensures) c.take_record-step.ensures

pub returns-else-is_empty : goal.returns-else-is_empty
returns-else-is_empty g c = λ n. goes_loaded g.C.Socket.history (core g.D.Device.state c.args.daemon.now) n c.args.link.now (λ none. let wrong : false ≡ true = c.if-is_empty.ensures.1 none in cc)
