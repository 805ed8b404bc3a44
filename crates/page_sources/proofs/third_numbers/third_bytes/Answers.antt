use Rattle.std.proofs.Common.{◌≡◌, ℕ, ◌+◌, ◌++◌, ◌∙◌, ap, arith}
use Rattle.std.specs.Prelude.{slice_index}
use Rattle.page_sources.proofs.ThirdLemmas.{of_two, thirds}
use Rattle.page_sources.proofs.third_numbers.third_bytes.Goals as goal

pub returns-clause-each : goal.returns-clause-each
returns-clause-each c =
    let at = c.args.at in
    let f : ℕ → ℕ = λ j. slice_index c.args.bytes.now (at + j) in
    thirds (c.sixteen.result ++ c.sixteen-2.result) c.sixteen-3.result f
    (of_two c.sixteen.result c.sixteen-2.result f c.sixteen.ensures.size c.sixteen.ensures.each (λ i less. let place : at + 16 + i ≡ at + (16 + i) = omega arith in c.sixteen-2.ensures.each i less ∙ ap (slice_index c.args.bytes.now) place))
    (λ i less. let place : at + 32 + i ≡ at + (32 + i) = omega arith in c.sixteen-3.ensures.each i less ∙ ap (slice_index c.args.bytes.now) place)
