use Rattle.net_client.proofs.Ending.{goes, ends, fails}
use Rattle.net_client.proofs.client.Client.feed_data.Goals as goal

pub returns-in-More-clause-receives : goal.returns-in-More-clause-receives
returns-in-More-clause-receives c = rw (← c.self.view_is) (λ receiving past serves. goes _ past c.args.piece.now c.read_on.new.reader c.read_on.new.join receiving serves c.in-More.ensures.open c.in-More.ensures.read)

pub returns-in-Fault-clause-receives : goal.returns-in-Fault-clause-receives
returns-in-Fault-clause-receives c = rw (← c.self.view_is, c.fail.ensures) (λ receiving past serves. fails _ past c.args.piece.now c.in-Fault.fault c.read_on.new.reader c.read_on.new.join receiving serves c.in-Fault.ensures.read)

pub returns-in-End-clause-receives : goal.returns-in-End-clause-receives
returns-in-End-clause-receives c = rw (← c.self.view_is) (λ receiving past serves.
    ends _ c.end_frame.new.self past c.args.piece.now c.in-End.status c.read_on.new.join receiving serves c.in-End.ensures.read (rw c.new-self-inside.ensures.head at c.end_frame.ensures))
