use Rattle.option_desc.specs.Reads.{ReadsAsValue, read_value}
use Rattle.option_desc.proofs.ReadLaws.{Reads-read, read-none}
use Rattle.option_desc.proofs.RefusesLaws.{refused, answered}
use Rattle.option_desc.proofs.reading.read_text.Goals as goal

pub returns-clause-value : goal.returns-clause-value
unfolding read_value
returns-clause-value c = c.read_as.ensures.answer

pub returns-clause-ok : goal.returns-clause-ok
returns-clause-ok c = answered c.read_as.result (λ value. value) (read_value c.args.desc.now c.args.text.now) (ReadsAsValue c.args.desc.now c.args.text.now) (returns-clause-value c) (Reads-read c.args.desc.now c.args.text.now)

pub returns-clause-inval : goal.returns-clause-inval
returns-clause-inval c = refused c.read_as.result (λ value. value) (read_value c.args.desc.now c.args.text.now) (ReadsAsValue c.args.desc.now c.args.text.now) (returns-clause-value c) (Reads-read c.args.desc.now c.args.text.now) (read-none c.args.desc.now c.args.text.now)

pub returns-clause-memory : goal.returns-clause-memory
unfolding read_value
returns-clause-memory c = c.read_as.ensures.memory
