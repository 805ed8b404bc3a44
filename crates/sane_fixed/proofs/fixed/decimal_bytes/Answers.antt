use Rattle.std.proofs.Common.{ap, ◌∙◌, rules}
use Rattle.std.specs.Prelude.{FitsSigned, unsigned_abs}
use Rattle.std.specs.Int.{w32}
use Rattle.std.proofs.lemmas.Int.{to_z-of_z}
use Rattle.sane_fixed.proofs.ExactDecimalLaws.{exact_decimal-joined}
use Rattle.sane_fixed.proofs.fixed.decimal_bytes.Goals as goal

pub returns-clause-value : goal.returns-clause-value
returns-clause-value c =
    let fits : FitsSigned w32 c.args.number.0 = search rules in
    exact_decimal-joined c.args.number.0 c.sign_before-sign.result.now c.into_bytes-bytes.result.items c.push_fraction.new.text.items c.unsigned_abs-magnitude.result
    (c.unsigned_abs-magnitude.ensures.value ∙ ap unsigned_abs (to_z-of_z w32 c.args.number.0 fits)) c.sign_before-sign.ensures
    (ap (λ v. v.items) c.into_bytes-bytes.ensures.value ∙ c.in_ok-format.ensures.ok) c.in_ok-push_fraction.ensures
