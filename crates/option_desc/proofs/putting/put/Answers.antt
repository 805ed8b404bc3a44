use Rattle.std.proofs.Common.{◌≡◌, ◌∙◌, MatchResult, subst, sym, true}
use Rattle.std.specs.Prelude.{Some, Option}
use Rattle.option_desc.specs.declared.value.Value.{Value}
use Rattle.option_desc.specs.Refuses.{Refuses}
use Rattle.option_desc.specs.Fits.{fits_of}
use Rattle.option_desc.specs.Put.{Puts, resolve}
use Rattle.option_desc.proofs.PutLaws.{Puts-resolve, resolve-none, resolve-fits, resolve-misfit}
use Rattle.option_desc.proofs.RefusesLaws.{refused, answered, none_is}
use Rattle.option_desc.proofs.putting.put.Goals as goal

pub returns-then-not-fits-clause-value : goal.returns-then-not-fits-clause-value
returns-then-not-fits-clause-value c =
    none_is (resolve c.args.desc.now c.args.value.now) (resolve-misfit c.args.desc.now c.args.value.now (sym c.fits.ensures.value ∙ c.if-not-fits.true))

pub returns-clause-value : goal.returns-clause-value
returns-clause-value c =
    let fits : fits_of c.args.desc.now c.args.value.now ≡ true = sym c.fits.ensures.value ∙ c.if-not-fits.false in
    subst (λ (o : Option Value). MatchResult c.put_value.result (λ given. o ≡ Some given.0) (λ status. Refuses status o)) (sym (resolve-fits c.args.desc.now c.args.value.now fits)) c.put_value.ensures.value

pub returns-clause-ok : goal.returns-clause-ok
returns-clause-ok c =
    answered c.put_value.result (λ given. given.0) (resolve c.args.desc.now c.args.value.now) (Puts c.args.desc.now c.args.value.now) (returns-clause-value c)
    (λ given. Puts-resolve c.args.desc.now c.args.value.now given c.keeps.ensures)

pub returns-clause-inval : goal.returns-clause-inval
returns-clause-inval c =
    refused c.put_value.result (λ given. given.0) (resolve c.args.desc.now c.args.value.now) (Puts c.args.desc.now c.args.value.now) (returns-clause-value c)
    (λ given. Puts-resolve c.args.desc.now c.args.value.now given c.keeps.ensures)
    (resolve-none c.args.desc.now c.args.value.now c.keeps.ensures)
