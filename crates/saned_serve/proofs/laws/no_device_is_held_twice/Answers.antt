use Rattle.saned_serve.proofs.NoTwoHolders.{new_apart, runs_apart, within_apart}
use Rattle.saned_serve.proofs.laws.no_device_is_held_twice.Goals as goal

pub returns-clause-new : goal.returns-clause-new
returns-clause-new c = λ d sound none. new_apart d sound none

pub returns-clause-behind : goal.returns-clause-behind
returns-clause-behind c = λ d e journal runs was. runs_apart journal d e runs was

pub returns-clause-within : goal.returns-clause-within
returns-clause-within c = λ d e since past runs was. within_apart since past d e runs was
