-- A stranger comes to a new world.
use Rattle.std.specs.Prelude.{◌==◌, ◌||◌}
use Rattle.std.proofs.Common.{◌≡◌, ◌∙◌, ℕ, List, [], ◌∷◌, Bool, false, Option, Some, None, refl, sym, ap, subst, slice_get}
use Rattle.page_picture.specs.Source.{SourceState}
use Rattle.page_sources.specs.declared.kinds.Source.{Source}
use Rattle.device_api.specs.State.{DeviceState}
use Rattle.saned_core.specs.declared.session_slot.SessionSlot.{SessionSlot}
use Rattle.saned_core.specs.declared.session_slot.SessionId.{SessionId}
use Rattle.saned_core.specs.DaemonStates.{Core, after_open_session, all_slots_taken, is_closed, new_session_slot, with_session_slot}
use Rattle.scan_job.specs.declared.job.Job.{Job}
use Rattle.event_world.specs.declared.endpoint.Endpoint.{Endpoint}
use Rattle.event_world.specs.Worlds.{AreNew, WorldCore}
use Rattle.world_refines.specs.NewWorlds.{IsNewDaemon}
use Rattle.world_refines.specs.WorldRefinement.{HasNoStrangers, IsNobodys}
use Rattle.world_refines.proofs.job_events.Beginnings.{new_at, unlinked}
use Rattle.strangers.specs.Together.{ThereAreStrangers}

abbrev Slots : Type 0
Slots = List (Option (SessionSlot DeviceState))

-- nothing is taken
has_room : (devices : List DeviceState) (d : Core) → IsNewDaemon devices d → is_closed d ≡ false
has_room devices d new =
    ap (λ (n : ℕ). (n == 18446744073709551615) || all_slots_taken d.slots) new.opened
    ∙ ap (λ (slots : Slots). (0 == 18446744073709551615) || all_slots_taken slots) new.slots

first_taken : (new : SessionSlot DeviceState) → slice_get (with_session_slot (None ∷ None ∷ None ∷ None ∷ None ∷ None ∷ None ∷ None ∷ []) new) 0 ≡ Some (Some new)
unfolding with_session_slot
first_taken new = refl

no_links : (jobs : List Job) (w : WorldCore) → AreNew jobs w.endpoints → (j : ℕ) (endpoint : Endpoint) (id : SessionId) → slice_get w.endpoints j ≡ Some endpoint → endpoint.link ≡ Some id → ⊥
no_links jobs w new j endpoint id at link = unlinked jobs j endpoint id (new_at jobs w.endpoints j endpoint new at) link

pub there_are : ThereAreStrangers
there_are source port jobs devices w new daemon =
    let d = w.daemon in
    let e = after_open_session d port in
    let slot = new_session_slot d.strings d.opened port in
    let nobodys : IsNobodys w 0 = λ j endpoint id at link. absurd (no_links jobs w new j endpoint id at link) in
    record {
      world_then = record w { daemon = e };
      runs = (record w { daemon = e }, record { nobodys = nobodys; acts = record { room = has_room devices d daemon; numbered = sym daemon.opened; after = refl }; rest = refl }, refl);
      stranger = λ alone.
          let l = alone 0 slot (ap (λ (slots : Slots). slice_get (with_session_slot slots slot) 0) daemon.slots ∙ first_taken slot) in
          no_links jobs w new l.place l.endpoint l.id l.at l.link;
    }
