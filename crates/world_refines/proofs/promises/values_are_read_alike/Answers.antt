use Rattle.world_refines.proofs.requests.SentValues.{given_alike, told_alike}
use Rattle.world_refines.proofs.promises.values_are_read_alike.Goals as goal

pub returns : goal.returns
returns c strings size value = (λ asked. given_alike strings size asked value, λ kind. told_alike strings size kind value)
