-- Rounds are next moves, one after another; none of them lays a page in or takes a device out.
use Rattle.std.specs.Prelude.{option_map, slice_get}
use Rattle.std.specs.List.{AllByRecursion}
use Rattle.std.proofs.Common.{◌≡◌, ℕ, ◌+◌, List, [], ◌∷◌, ◌++◌, Option, Some, None, sym, subst}
use Rattle.page_sources.specs.SourceView.{source_state}
use Rattle.saned_core.specs.DaemonStates.{Core}
use Rattle.event_world.specs.declared.endpoint.Endpoint.{Endpoint}
use Rattle.event_world.specs.declared.event.Event.{Event}
use Rattle.event_world.specs.declared.event.Event.TheVariants.{Load, Unplug}
use Rattle.event_world.specs.declared.event.JobEvent.{JobEvent}
use Rattle.event_world.specs.declared.event.JobEvent.TheVariants as moves
use Rattle.event_world.specs.JobEvents.{job_event_of}
use Rattle.event_world.specs.Rounds.{Rounds, TakesMoves, all_made, moves_made}
use Rattle.event_world.specs.Worlds.{WorldCore}
use Rattle.world_refines.specs.MainTheorem.{AreTrueLoads, IsTrueLoad}
use Rattle.scan_world.specs.Calls.{AreNextMoves, MovesNext}

then_moves : (es fs : List Event) (w u v : WorldCore) → AreNextMoves es w u → AreNextMoves fs u v → AreNextMoves (es ++ fs) w v
then_moves [] fs w u v a b = subst (λ (x : WorldCore). AreNextMoves fs x v) a b
then_moves (e ∷ es) fs w u v (x, leads, next, rest) b = (x, leads, next, then_moves es fs x u v rest b)

turn_moves : (i : ℕ) (turns : List (Option Event)) (w v : WorldCore) → TakesMoves source_state i turns w v → AreNextMoves (moves_made turns) w v
turn_moves i [] w v h = h
turn_moves i (None ∷ turns) w v (u, one, rest) = subst (λ (x : WorldCore). AreNextMoves (moves_made turns) x v) one.1 (turn_moves (i + 1) turns u v rest)
turn_moves i (Some e ∷ turns) w v (u, one, rest) = (u, one.1, (i, subst (λ (o : Option Endpoint). MovesNext w.daemon i o (Some e)) (sym one.0.at) one.0.next), turn_moves (i + 1) turns u v rest)

pub rounds_moves : (rounds : List (List (Option Event))) (w v : WorldCore) → Rounds source_state rounds w v → AreNextMoves (all_made rounds) w v
rounds_moves [] w v h = h
rounds_moves (turns ∷ rounds) w v (u, is, rest) = then_moves (moves_made turns) (all_made rounds) w u v (turn_moves 0 turns w u is.1) (rounds_moves rounds u v rest)

-- ---- what they are not

-- no page is laid in, and no device taken out
abbrev pub LoadsNothing : Event → Type 0
LoadsNothing (Load name source) = ⊥
LoadsNothing (Unplug name) = ⊥
LoadsNothing event = Unit {0}

own_quiet : (i : ℕ) (x : JobEvent) → LoadsNothing (job_event_of i x)
own_quiet i moves.Connect = tt
own_quiet i (moves.ToDaemon n) = tt
own_quiet i (moves.ToClient n) = tt
own_quiet i moves.DataConnect = tt
own_quiet i moves.DataTurn = tt
own_quiet i (moves.DataToClient n) = tt
own_quiet i moves.LoseControl = tt
own_quiet i moves.LoseImage = tt
own_quiet i moves.Cancel = tt

by_own : (i : ℕ) (e : Event) (o : Option JobEvent) → Some e ≡ option_map (job_event_of i) o → LoadsNothing e
by_own i e None is = absurd (let clash : Some e ≡ None = is in cc)
by_own i e (Some x) is = let same : job_event_of i x ≡ e = (let both : Some e ≡ Some (job_event_of i x) = is in cc) in subst LoadsNothing same (own_quiet i x)

next_quiet : (d : Core) (i : ℕ) (o : Option Endpoint) (e : Event) → MovesNext d i o (Some e) → LoadsNothing e
next_quiet d i None e next = absurd (let clash : Some e ≡ None = next in cc)
next_quiet d i (Some p) e next = by_own i e next.job_event next.event_is

pub quiet_moves : (es : List Event) (w v : WorldCore) → AreNextMoves es w v → AllByRecursion LoadsNothing es
quiet_moves [] w v h = tt
quiet_moves (e ∷ es) w v (u, leads, next, rest) = (next_quiet w.daemon next.0 (slice_get w.endpoints next.0) e next.1, quiet_moves es u v rest)

quiet_load : (e : Event) → LoadsNothing e → IsTrueLoad source_state e
quiet_load (Load name source) none = absurd none
quiet_load e none = tt

pub quiet_loads : (es : List Event) → AllByRecursion LoadsNothing es → AreTrueLoads source_state es
quiet_loads [] none = tt
quiet_loads (e ∷ es) none = (quiet_load e none.0, quiet_loads es none.1)
