use Rattle.std.proofs.Common.{◌≡◌, length, take, arith}
use Rattle.std.proofs.lemmas.Grind.{common_steps}
use Rattle.constraint.proofs.EntryLaws.{begins_with-front}
use Rattle.device_api.specs.Options.{choice_text}
use Rattle.device_api.proofs.matching.begins_with.Goals as goal

pub returns-in-Some : goal.returns-in-Some
returns-in-Some c =
    let front : c.in-Some.front.now ≡ take (length c.args.text.now) (choice_text c.args.choice) = grind (arith, common_steps, c.in-Some.ensures.lookup.0.2) in
    begins_with-front (choice_text c.args.choice) c.args.text.now c.in-Some.front.now c.eq_ignore_ascii_case.result front c.eq_ignore_ascii_case.ensures.test
