use Rattle.std.proofs.Common.{rules}
use Rattle.saned_core.specs.DaemonStates.{core}
use Rattle.saned_serve.proofs.ActionSteps.{goes_hears, goes_silent, goes_cut}
use Rattle.saned_serve.proofs.link.hear.Goals as goal

pub returns-in-Moved : goal.returns-in-Moved
returns-in-Moved g c =
    goes_hears g.L.Conn.Socket.history (core g.D.Device.state c.args.daemon.now) (g.L.Listeners.trace c.args.net.now) c.args.link.now c.attend.new.link (core g.D.Device.state c.attend.new.daemon) (g.L.Listeners.trace c.attend.new.net) c.read.new.self c.in-Moved.n c.read.new.buf
    (search rules) c.in-Moved.ensures.within c.requires c.in-Moved.ensures.told c.attend.ensures.link c.attend.ensures.attends

pub returns-in-Nothing : goal.returns-in-Nothing
returns-in-Nothing g c = goes_silent g.L.Conn.Socket.history (core g.D.Device.state c.args.daemon.now) (g.L.Listeners.trace c.args.net.now) c.args.link.now c.read.new.self c.read.new.buf (search rules) c.requires c.in-Nothing.ensures.told

pub returns-in-Lost : goal.returns-in-Lost
returns-in-Lost g c = goes_cut g.L.Conn.Socket.history (core g.D.Device.state c.args.daemon.now) (g.L.Listeners.trace c.args.net.now) c.args.link.now c.read.new.self c.read.new.buf (search rules) c.requires c.in-Lost.ensures.told
