use Rattle.dispatch.specs.Table.{after_unplug}
use Rattle.saned_core.proofs.DaemonLimits.{limits_new, limits_opened, limits_fed, limits_turned, limits_connected, limits_lost, limits_taken, limits_ended, limits_loaded, limits_unplugged}
use Rattle.saned_core.proofs.laws.the_limits_are_kept.Goals as goal

pub returns-clause-new : goal.returns-clause-new
returns-clause-new c = limits_new

pub returns-clause-open_session : goal.returns-clause-open_session
returns-clause-open_session c = limits_opened

pub returns-clause-feed : goal.returns-clause-feed
returns-clause-feed c = limits_fed

pub returns-clause-data_turn : goal.returns-clause-data_turn
returns-clause-data_turn c = limits_turned

pub returns-clause-data_connected : goal.returns-clause-data_connected
returns-clause-data_connected c = limits_connected

pub returns-clause-data_lost : goal.returns-clause-data_lost
returns-clause-data_lost c = limits_lost

pub returns-clause-take_reply : goal.returns-clause-take_reply
returns-clause-take_reply c = limits_taken

pub returns-clause-end_session : goal.returns-clause-end_session
returns-clause-end_session c = limits_ended

pub returns-clause-load : goal.returns-clause-load
returns-clause-load c = limits_loaded

pub returns-clause-unplug : goal.returns-clause-unplug
returns-clause-unplug c = (λ d name h. limits_unplugged d (after_unplug d.registry name) h)
