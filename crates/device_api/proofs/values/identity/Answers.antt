use Rattle.std.proofs.Common.{arith}
use Rattle.device_api.proofs.ValueLaws.{is_identity}
use Rattle.device_api.proofs.values.identity.Goals as goal

pub returns : goal.returns
returns c = is_identity _ c.loop-i.invariant.size (λ i h. c.loop-i.invariant.each i (omega arith))
