use Rattle.saned_serve.proofs.Summing.{sums, was_left}
use Rattle.saned_serve.proofs.laws.connections_tell_their_sessions.Goals as goal

pub returns-clause-fed : goal.returns-clause-fed
returns-clause-fed c = λ journal id is_journal. (sums journal id is_journal).fed

pub returns-clause-all_fed : goal.returns-clause-all_fed
returns-clause-all_fed c = λ journal id is_journal. (sums journal id is_journal).all

pub returns-clause-said : goal.returns-clause-said
returns-clause-said c = λ journal id is_journal. (sums journal id is_journal).said

pub returns-clause-shown : goal.returns-clause-shown
returns-clause-shown c = λ journal id is_journal. (sums journal id is_journal).shown

pub returns-clause-left : goal.returns-clause-left
returns-clause-left c = λ journal id port is_journal held off. was_left journal id port is_journal held off
