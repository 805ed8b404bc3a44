use Rattle.std.proofs.Common.{◌≡◌, ◌∙◌, inl, refl, sym, ap, List, Bool, ℕ, Some}
use Rattle.saned_core.specs.DaemonStates.{Core, core}
use Rattle.event_world.specs.declared.endpoint.Image.{Image}
use Rattle.event_world.specs.declared.endpoint.Endpoint.{Endpoint}
use Rattle.event_world.specs.Endpoints.{after_move}
use Rattle.event_world.specs.JobEvents.{SendsRecord, with_data_record, with_image}
use Rattle.event_world.proofs.job_events.send.Goals as goal

sent : (k : ℕ) (bytes : List ℕ) (l : Bool) (d : Core) (p s q : Endpoint) (image : Image) → s ≡ after_move p → s.image ≡ Some image → q ≡ with_image (with_data_record bytes l image) s → SendsRecord k bytes l d p d q
sent k bytes l d p s q image e at is = inl (image, sym (ap (λ (x : Endpoint). x.image) e) ∙ at, refl, is ∙ ap (with_image (with_data_record bytes l image)) e)

pub returns-in-Ok : goal.returns-in-Ok
returns-in-Ok g c =
    let ok = c.in-Ok.ensures.ok in
    sent c.args.id.number c.args.bytes.now c.args.is_last (core g.D.Device.state c.args.daemon.now) c.args.endpoint.now c.spend.new.self c.load.new.endpoint ok.0 c.spend.ensures ok.1 ok.2
