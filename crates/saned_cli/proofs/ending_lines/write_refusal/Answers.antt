use Rattle.std.proofs.Common.{◌≡◌, ◌++◌, List, ℕ, ap, ◌∙◌}
use Rattle.std.specs.Prelude.{codes, decimal}
use Rattle.saned_cli.proofs.LineLaws.{front_alone, then_told, told_as}
use Rattle.saned_cli.proofs.ending_lines.write_refusal.Goals as goal

pub returns-then-not-put : goal.returns-then-not-put
returns-then-not-put g c = front_alone _ _ _ _ _ (c.put.ensures.front c.if-not-put.true) (c.put.ensures.failed c.if-not-put.true)

pub returns-then-not-put-2 : goal.returns-then-not-put-2
returns-then-not-put-2 g c =
    let digits : c.as_bytes-digits.result.now ≡ decimal c.args.line = c.as_bytes-digits.ensures.value ∙ c.format.ensures.text in
    let rest : List ℕ = codes ": " ++ (c.args.reason.now ++ codes "\n") in
    told_as (c.args.start.now ++ (c.as_bytes-digits.result.now ++ rest)) (c.args.start.now ++ (decimal c.args.line ++ rest)) _ _ _ (ap (λ (d : List ℕ). c.args.start.now ++ (d ++ rest)) digits)
    (then_told _ _ _ _ _ _ (c.put.ensures.whole c.if-not-put.false) (front_alone _ _ _ _ _ (c.put-2.ensures.front c.if-not-put-2.true) (c.put-2.ensures.failed c.if-not-put-2.true)))

pub returns : goal.returns
returns g c =
    let digits : c.as_bytes-digits.result.now ≡ decimal c.args.line = c.as_bytes-digits.ensures.value ∙ c.format.ensures.text in
    let reason : c.as_bytes.result.now ≡ c.args.reason.now = c.as_bytes.ensures.value in
    told_as (c.args.start.now ++ (c.as_bytes-digits.result.now ++ (codes ": " ++ (c.as_bytes.result.now ++ codes "\n")))) (c.args.start.now ++ (decimal c.args.line ++ (codes ": " ++ (c.args.reason.now ++ codes "\n")))) _ _ _
    (ap (λ (d : List ℕ). c.args.start.now ++ (d ++ (codes ": " ++ (c.as_bytes.result.now ++ codes "\n")))) digits ∙ ap (λ (r : List ℕ). c.args.start.now ++ (decimal c.args.line ++ (codes ": " ++ (r ++ codes "\n")))) reason)
    (then_told _ _ _ _ _ _ (c.put.ensures.whole c.if-not-put.false) (then_told _ _ _ _ _ _ (c.put-2.ensures.whole c.if-not-put-2.false) c.write_line.ensures))
