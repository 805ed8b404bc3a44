use Rattle.std.proofs.Common.{refl}
use Rattle.option_desc.specs.declared.descriptor.Constraint.TheVariants.{Free, Strings}
use Rattle.option_desc.proofs.PutLaws.{unbound}
use Rattle.option_desc.proofs.putting.nearest_words.Goals as goal

pub returns-in-Free-clause-value : goal.returns-in-Free-clause-value
returns-in-Free-clause-value c = unbound c.args.constraint.now c.args.words.now Free c.in-Free.is (λ word. refl)

pub returns-in-Strings-clause-value : goal.returns-in-Strings-clause-value
returns-in-Strings-clause-value c = unbound c.args.constraint.now c.args.words.now (Strings c.in-Strings.field-0) c.in-Strings.is (λ word. refl)
