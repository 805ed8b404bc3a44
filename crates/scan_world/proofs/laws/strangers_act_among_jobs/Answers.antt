use Rattle.scan_world.proofs.Shared.{acts_leave, busy_is_by_jobs, events_are_no_acts, holders_apart, led_alone, none_shares, strangers_may_come}
use Rattle.scan_world.proofs.laws.strangers_act_among_jobs.Goals as goal

pub returns : goal.returns
returns c = let below = c.what_stands_below.ensures in record { come = strangers_may_come below; apart = holders_apart below; leave = acts_leave below; events = events_are_no_acts; led = led_alone; alone = none_shares below; busy = busy_is_by_jobs below }
