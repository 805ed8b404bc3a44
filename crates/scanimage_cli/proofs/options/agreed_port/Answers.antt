use Rattle.std.proofs.Common.{◌≡◌, ◌∙◌, sym}
use Rattle.std.proofs.lemmas.Result.{err_from_is_err_and}
use Rattle.scanimage_cli.specs.declared.options.OptionsFault.TheVariants.{Bad, NoMem}
use Rattle.scanimage_cli.proofs.options.agreed_port.Goals as goal

pub returns-in_err-digits-in-Some-Some-clause-err : goal.returns-in_err-digits-in-Some-Some-clause-err
returns-in_err-digits-in-Some-Some-clause-err c =
    let p = err_from_is_err_and c.from_residual.result c.from_residual.ensures.1 in
    rw p.1 (λ bad. absurd (let clash : NoMem ≡ Bad = sym p.2 ∙ bad in cc))
