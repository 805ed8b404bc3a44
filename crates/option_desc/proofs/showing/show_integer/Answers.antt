use Rattle.std.proofs.Common.{◌∙◌, sym, ap, subst, refl, rules, FitsSigned, w32}
use Rattle.std.specs.Fmt.{signed_decimal}
use Rattle.std.proofs.lemmas.Int.{to_z-of_z}
use Rattle.sane_fixed.specs.Text.{IsText}
use Rattle.option_desc.proofs.ShownLaws.{IsText-signed_decimal}
use Rattle.option_desc.proofs.showing.show_integer.Goals as goal

pub unreachable-requires : goal.unreachable-requires
unreachable-requires c =
    let fits : FitsSigned w32 c.args.word = search rules in
    let items = ap (λ v. v.items) c.into_bytes.ensures.value ∙ c.in_ok-digits.ensures.ok ∙ ap signed_decimal (to_z-of_z w32 c.args.word fits) in
    c.in-Err.ensures.nul.0 refl (subst IsText (sym items) (IsText-signed_decimal c.args.word fits))
