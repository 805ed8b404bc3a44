use Rattle.std.proofs.Common.{◌∙◌, sym, refl}
use Rattle.device_api.specs.Options.{choice_text}
use Rattle.device_api.proofs.MatchLaws.{matched}
use Rattle.device_api.proofs.matching.is_matched.Goals as goal

pub returns-then-is_text : goal.returns-then-is_text
returns-then-is_text c =
    let all = matched choice_text c.args.choices.now c.args.text.now in
    c.if-is_text.true ∙ sym (all ∙ rw (sym c.is_text.ensures, c.if-is_text.true) refl)

pub returns-else-is_text : goal.returns-else-is_text
returns-else-is_text c =
    let all = matched choice_text c.args.choices.now c.args.text.now in
    sym (all ∙ rw (sym c.is_text.ensures, c.if-is_text.false, sym c.beginnings.ensures) refl)
