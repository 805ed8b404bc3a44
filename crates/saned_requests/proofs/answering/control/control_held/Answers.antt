use Rattle.std.proofs.Common.{arith}
use Rattle.saned_requests.proofs.Controls.{controls, controls_nothing}
use Rattle.saned_requests.proofs.answering.control.control_held.Goals as goal

pub returns-then-word-held : goal.returns-then-word-held
returns-then-word-held g c = controls c.args.strings g.D.Device.state c.args.held.now c.args.word c.index-held-word.result c.control_lease.new.lease c.args.option c.args.action c.args.kind c.args.value _ (omega arith) c.index-held-word.is (rw (← c.index-held-word.is) at c.control_lease.ensures)

pub returns-else-word-held : goal.returns-else-word-held
returns-else-word-held g c = controls_nothing c.args.strings g.D.Device.state c.args.held.now c.args.word c.args.option c.args.action c.args.kind c.args.value _ (omega arith) c.refused.ensures
