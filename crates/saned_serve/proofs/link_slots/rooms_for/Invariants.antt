use Rattle.std.proofs.Common.{◌≡◌, vec_len}
use Rattle.saned_serve.proofs.link_slots.rooms_for.Given as goal

abbrev pub invariant-loop : goal.invariant-loop
invariant-loop l = vec_len l.all ≡ l.counter
