use Rattle.std.proofs.Common.{◌≡◌, sym, subst, rules, ◌∙◌}
use Rattle.std.specs.Prelude.{FitsSigned, Some}
use Rattle.std.specs.Int.{w32}
use Rattle.sane_fixed.specs.Text.{IsText}
use Rattle.sane_fixed.specs.ExactDecimal.{IsExactDecimal, exact_decimal}
use Rattle.sane_fixed.specs.DecimalReading.{fixed_of}
use Rattle.sane_fixed.proofs.ExactDecimalLaws.{IsExactDecimal-exact_decimal, IsText-exact_decimal, fixed_of-exact}
use Rattle.sane_fixed.proofs.fixed.Fixed.to_text.Goals as goal

pub of-requires : goal.of-requires
of-requires c = subst IsText (sym c.in_ok-bytes.ensures.value) (IsText-exact_decimal c.args.self.0 c.in_ok-bytes.ensures.fits)

pub returns-clause-exact : goal.returns-clause-exact
returns-clause-exact c =
    subst (λ t. IsExactDecimal t c.args.self.0) (sym (c.of.ensures ∙ c.in_ok-bytes.ensures.value)) (IsExactDecimal-exact_decimal c.args.self.0 c.in_ok-bytes.ensures.fits)

pub returns-clause-reads : goal.returns-clause-reads
returns-clause-reads c =
    let fits : FitsSigned w32 c.args.self.0 = search rules in
    subst (λ t. fixed_of t ≡ Some c.args.self.0) (sym (c.of.ensures ∙ c.in_ok-bytes.ensures.value)) (fixed_of-exact (exact_decimal c.args.self.0) c.args.self.0 fits (IsExactDecimal-exact_decimal c.args.self.0 c.in_ok-bytes.ensures.fits))
