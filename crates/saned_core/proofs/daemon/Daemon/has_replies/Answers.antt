use Rattle.saned_core.proofs.daemon.Daemon.has_replies.Goals as goal

pub returns : goal.returns
returns g c = rw (← c.self.view_is) c.replies_wait.ensures
