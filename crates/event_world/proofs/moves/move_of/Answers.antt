use Rattle.std.proofs.Common.{[], ◌∷◌}
use Rattle.event_world.specs.declared.event.JobEvent.TheVariants.{ToDaemon, ToClient, DataConnect, DataToClient, DataTurn}
use Rattle.event_world.proofs.moves.move_of.Goals as goal

pub returns-clause-runs : goal.returns-clause-runs
returns-clause-runs g c = λ runs.
    c.earlier.ensures (ToDaemon 4096 ∷ ToClient 4096 ∷ DataConnect ∷ DataToClient 4096 ∷ DataTurn ∷ [])
    (c.earlier-next-5.ensures (ToClient 4096 ∷ DataConnect ∷ DataToClient 4096 ∷ DataTurn ∷ [])
    (c.earlier-next-4.ensures (DataConnect ∷ DataToClient 4096 ∷ DataTurn ∷ [])
    (c.earlier-next-3.ensures (DataToClient 4096 ∷ DataTurn ∷ []) (c.earlier-next-2.ensures (DataTurn ∷ []) (c.earlier-next.ensures [] c.last_move-next.ensures)))))
