use Rattle.std.proofs.Common.{◌≡◌, ◌∙◌, ℕ, List, Option, Some, None, IsSome, true, false, refl, ap, subst}
use Rattle.event_world.specs.declared.endpoint.Image.{Image}
use Rattle.event_world.specs.declared.endpoint.Endpoint.{Endpoint}
use Rattle.event_world.specs.Endpoints.{after_move}
use Rattle.event_world.specs.JobEvents.{TakesDataPiece, bytes_not_delivered, delivered_bytes, with_image}
use Rattle.event_world.proofs.job_events.data_to_client.Goals as goal

the_image : (o : Option Image) → IsSome o → (image : Image) × (o ≡ Some image)
the_image None e = absurd (let clash : false ≡ true = e in cc)
the_image (Some image) e = (image, refl)

pub returns : goal.returns
returns c =
    let g = the_image c.args.endpoint.now.image c.requires in
    let took : c.take_image-count.new.endpoint ≡ with_image (record g.0 { bytes = bytes_not_delivered c.args.n g.0.bytes }) c.args.endpoint.now = c.take_image-count.ensures.post g.0 g.1 in
    let was : c.spend.new.self ≡ with_image (record g.0 { bytes = bytes_not_delivered c.args.n g.0.bytes }) (after_move c.args.endpoint.now) = c.spend.ensures ∙ ap after_move took in (
      g.0,
      g.1,
      (
        c.see.new.endpoint,
        subst (λ (p : Endpoint). TakesDataPiece (delivered_bytes c.args.n g.0.bytes) p c.see.new.endpoint) was (subst (λ (l : List ℕ). TakesDataPiece l c.spend.new.self c.see.new.endpoint) (c.take_image-count.ensures.bytes g.0 g.1) c.see.ensures),
        c.close_image.ensures,
      ),
    )
