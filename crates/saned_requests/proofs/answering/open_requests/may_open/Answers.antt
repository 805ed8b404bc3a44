use Rattle.std.proofs.Common.{◌≡◌, rules}
use Rattle.saned_requests.proofs.Opening.{may_open_is}
use Rattle.saned_requests.proofs.answering.open_requests.may_open.Goals as goal

pub returns-then-eq : goal.returns-then-eq
returns-then-eq c =
    let same : c.args.resource.now ≡ c.args.awaited.now.resource = search (rules, c.eq.ensures, c.if-eq.true, c.as_bytes.ensures.bytes, c.as_bytes-2.ensures.bytes) in
    may_open_is c.args.users.now c.args.awaited.now c.args.resource.now c.args.user.now c.args.password.now c.backend_of.result.now c.check.result same (rw c.as_bytes-then-eq-2.ensures.bytes at c.backend_of.ensures) (rw (c.as_bytes-then-eq.ensures.bytes, c.as_bytes-then-eq-3.ensures.bytes, c.as_bytes-then-eq-4.ensures.bytes) at c.check.ensures)
