use Rattle.std.proofs.Common.{arith}
use Rattle.wire_codec.proofs.ElementsReadOnce.{devices_front, devices_start}
use Rattle.wire_codec.proofs.begun.begin_devices.Goals as goal

pub used_bytes-used-requires : goal.used_bytes-used-requires
used_bytes-used-requires c = devices_front c.args.bytes.now c.in_ok-status.behind_status.now c.in_ok-count.rest.now c.in_ok-status.status c.in_ok-count.count (λ i. omega (arith, c.type_inv.bytes i)) c.in_ok-status.ensures c.in_ok-count.ensures

pub returns-clause-ok : goal.returns-clause-ok
returns-clause-ok c =
    rw (c.new.ensures.items, c.saturating_sub.ensures)
    (devices_start c.args.bytes.now c.in_ok-status.behind_status.now c.in_ok-count.rest.now c.in_ok-status.status c.in_ok-count.count c.used_bytes-used.result (λ i. omega (arith, c.type_inv.bytes i)) c.requires c.in_ok-status.ensures c.in_ok-count.ensures
    c.used_bytes-used.ensures.within c.used_bytes-used.ensures.rest)
