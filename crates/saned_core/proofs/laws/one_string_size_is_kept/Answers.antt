use Rattle.dispatch.specs.Table.{after_unplug}
use Rattle.saned_core.proofs.StringSizes.{sizes_new, sizes_opened, sizes_fed, sizes_turned, sizes_connected, sizes_lost, sizes_taken, sizes_ended, sizes_loaded, sizes_unplugged}
use Rattle.saned_core.proofs.laws.one_string_size_is_kept.Goals as goal

pub returns-clause-new : goal.returns-clause-new
returns-clause-new c = sizes_new

pub returns-clause-open_session : goal.returns-clause-open_session
returns-clause-open_session c = sizes_opened

pub returns-clause-feed : goal.returns-clause-feed
returns-clause-feed c = sizes_fed

pub returns-clause-data_turn : goal.returns-clause-data_turn
returns-clause-data_turn c = sizes_turned

pub returns-clause-data_connected : goal.returns-clause-data_connected
returns-clause-data_connected c = sizes_connected

pub returns-clause-data_lost : goal.returns-clause-data_lost
returns-clause-data_lost c = sizes_lost

pub returns-clause-take_reply : goal.returns-clause-take_reply
returns-clause-take_reply c = sizes_taken

pub returns-clause-end_session : goal.returns-clause-end_session
returns-clause-end_session c = sizes_ended

pub returns-clause-load : goal.returns-clause-load
returns-clause-load c = sizes_loaded

pub returns-clause-unplug : goal.returns-clause-unplug
returns-clause-unplug c = (λ d name h. sizes_unplugged d (after_unplug d.registry name) h)
