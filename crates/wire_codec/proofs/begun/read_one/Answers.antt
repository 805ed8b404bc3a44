use Rattle.std.proofs.Common.{refl, sym}
use Rattle.wire_codec.proofs.ElementsReadOnce.{reads_same, reads_kept, reads_one}
use Rattle.wire_codec.proofs.begun.read_one.Goals as goal

pub returns-in_err-value-clause-on : goal.returns-in_err-value-clause-on
returns-in_err-value-clause-on g c = reads_same g.E.Element.format c.args.bytes.now c.args.elements.now c.requires.within

pub returns-in_err-push-clause-on : goal.returns-in_err-push-clause-on
returns-in_err-push-clause-on g c = reads_kept g.E.Element.format c.args.bytes.now c.args.elements.now _ c.requires.within refl refl c.in_err-push.ensures.items

pub returns-clause-on : goal.returns-clause-on
returns-clause-on g c =
    reads_one g.E.Element.format c.args.bytes.now c.in_ok-value.rest.now c.in_ok-value.value c.used_bytes-count.result c.args.elements.now _ c.requires.within c.requires.left
    (rw (sym c.rest_of_array-part.ensures) c.in_ok-value.ensures.taken) (rw (sym c.rest_of_array-part.ensures) c.used_bytes-count.ensures.within) (rw (sym c.rest_of_array-part.ensures) c.used_bytes-count.ensures.rest) refl refl c.in_ok-push.ensures.items
