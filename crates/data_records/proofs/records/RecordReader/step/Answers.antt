use Rattle.std.proofs.Common.{◌≡◌, [], ◌∷◌, ◌∙◌, take, sym, arith}
use Rattle.std.proofs.lemmas.Grind.{common_steps}
use Rattle.data_records.specs.declared.records.RecordPhase.TheVariants as phases
use Rattle.data_records.specs.Records.{IsRecordPhase}
use Rattle.data_records.proofs.Steps.{head_step, body_step}
use Rattle.data_records.proofs.records.RecordReader.step.Goals as goal

pub returns-in-Head3-clause-goes_on : goal.returns-in-Head3-clause-goes_on
returns-in-Head3-clause-goes_on c =
    let is : c.args.self.now ≡ phases.Head3 c.in-Head3.a c.in-Head3.b c.in-Head3.c = sym c.self.view_is ∙ c.in-Head3.is in
    let place : IsRecordPhase (phases.Head3 c.in-Head3.a c.in-Head3.b c.in-Head3.c) = rw c.in-Head3.is at c.self.invariant in
    let front : take 1 c.args.piece.now ≡ c.in-Some.field-0.now ∷ [] = grind (arith, common_steps) in
    head_step _ _ c.in-Head3.a c.in-Head3.b c.in-Head3.c c.in-Some.field-0.now c.from_be_bytes.result c.args.piece.now is c.behind_head-self-inside.ensures c.from_be_bytes.ensures front place.0 place.1 place.2 (λ i. omega (arith, c.type_inv.piece i))

pub returns-in-Body-clause-goes_on : goal.returns-in-Body-clause-goes_on
returns-in-Body-clause-goes_on c =
    let is : c.args.self.now ≡ phases.Body c.in-Body.left = sym c.self.view_is ∙ c.in-Body.is in
    (omega arith, omega arith, body_step _ _ c.in-Body.left c.min-count.result c.args.piece.now is c.behind_body-self-inside.ensures c.min-count.ensures)
