-- A page that is laid in, and a device that is taken out.
use Rattle.std.specs.Prelude.{Ok, Err}
use Rattle.std.proofs.Common.{◌≡◌, ◌∙◌, ℕ, List, Option, Some, None, refl, ap, subst}
use Rattle.page_sources.specs.SourceView.{source_state}
use Rattle.sane_fixed.specs.declared.status.Status.{Status}
use Rattle.device_api.specs.State.{DeviceState}
use Rattle.dispatch.specs.Table.{Table, after_unplug, find_name, held_at, unplug_answer, unplug_at, unplug_of, unplugged_at, unplugged_of}
use Rattle.event_world.specs.declared.event.Event.{Event}
use Rattle.event_world.specs.declared.event.Event.TheVariants.{Load, Unplug}
use Rattle.event_world.specs.Worlds.{Leads, WorldCore}
use Rattle.scan_world.specs.Calls.{LoadLays, UnplugTakes}
use Rattle.scan_world.proofs.Taken.{refused_same}

pub load_lays : (e : Event) (w v : WorldCore) → Leads source_state e w v → LoadLays e w v
load_lays e w v led name source is =
    let leads : Leads source_state (Load name source) w v = subst (λ (x : Event). Leads source_state x w v) is led in
    (λ refused. refused_same name source w v refused leads, λ taken. leads)

of_held : (t : Table) (k : ℕ) (o : Option DeviceState) (status : Status) → unplug_of o ≡ Err status → unplugged_of t k o ≡ t
of_held t k None status is = refl
of_held t k (Some s) status is = absurd (let clash : Ok s ≡ Err status = is in cc)

of_name : (t : Table) (o : Option ℕ) (status : Status) → unplug_at t o ≡ Err status → unplugged_at t o ≡ t
of_name t None status is = refl
of_name t (Some k) status is = of_held t k (held_at t k) status is

stays_in : (t : Table) (name : List ℕ) (status : Status) → unplug_answer t name ≡ Err status → after_unplug t name ≡ t
unfolding unplug_answer after_unplug
stays_in t name status is = of_name t (find_name name t) status is

pub unplug_takes : (e : Event) (w v : WorldCore) → Leads source_state e w v → UnplugTakes e w v
unplug_takes e w v led name is =
    let leads : Leads source_state (Unplug name) w v = subst (λ (x : Event). Leads source_state x w v) is led in (
      λ status refused. leads ∙ ap (λ (t : Table). record w { daemon = record w.daemon { registry = t } }) (stays_in w.daemon.registry name status refused),
      λ device taken. leads,
    )
