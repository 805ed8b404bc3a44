use Rattle.wire_message.specs.declared.message.Procedure.TheVariants.{GetOptionDescriptors}
use Rattle.wire_message.specs.Message.{reply, next_descriptor}
use Rattle.wire_codec.specs.Arrays.{options_end}
use Rattle.wire_message.proofs.Messages.{next_descriptor_laws}
use Rattle.wire_codec.proofs.ElementsReadOnce.{begun_on, begun_fails, begun_end}
use Rattle.wire_codec.proofs.begun.end_options.Goals as goal

pub returns-in-Err-clause-kept : goal.returns-in-Err-clause-kept
returns-in-Err-clause-kept c = begun_on (reply GetOptionDescriptors) next_descriptor next_descriptor_laws.reads options_end c.args.bytes.now c.args.elements c.read_on.new.elements c.requires.short c.requires.begun c.in-Err.ensures.on

pub returns-in-Err-clause-read : goal.returns-in-Err-clause-read
returns-in-Err-clause-read c =
    begun_fails (reply GetOptionDescriptors) next_descriptor options_end c.read_on.new.elements.front.items c.read_on.new.elements.left c.read_on.new.elements.used c.args.bytes.now c.in-Err.e
    (begun_on (reply GetOptionDescriptors) next_descriptor next_descriptor_laws.reads options_end c.args.bytes.now c.args.elements c.read_on.new.elements c.requires.short c.requires.begun c.in-Err.ensures.on)
    c.in-Err.ensures.err.1 c.in-Err.ensures.err.0

pub returns-in-Ok-clause-read : goal.returns-in-Ok-clause-read
returns-in-Ok-clause-read c =
    rw (c.from_vec-descriptors.ensures, c.rest_of_array-rest.ensures)
    (begun_end (reply GetOptionDescriptors) next_descriptor options_end c.read_on.new.elements.front.items c.read_on.new.elements.left c.read_on.new.elements.used c.args.bytes.now
    (begun_on (reply GetOptionDescriptors) next_descriptor next_descriptor_laws.reads options_end c.args.bytes.now c.args.elements c.read_on.new.elements c.requires.short c.requires.begun c.in-Ok.ensures.on)
    c.in-Ok.ensures.ok)
