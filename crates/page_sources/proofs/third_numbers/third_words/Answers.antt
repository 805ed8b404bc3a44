use Rattle.std.proofs.Common.{◌≡◌, ℕ, ◌+◌, ◌*◌, ◌++◌, ◌∙◌, ap, arith}
use Rattle.std.specs.Prelude.{slice_index}
use Rattle.page_sources.proofs.ThirdLemmas.{of_two, third_firsts, third_seconds}
use Rattle.page_sources.proofs.third_numbers.third_words.Goals as goal

pub returns-clause-first : goal.returns-clause-first
returns-clause-first c =
    let at = c.args.at in
    let f : ℕ → ℕ = λ j. slice_index c.args.bytes.now (at + j) in
    third_firsts (c.sixteen.result ++ c.sixteen-2.result) c.sixteen-3.result f
    (of_two c.sixteen.result c.sixteen-2.result f c.sixteen.ensures.size c.sixteen.ensures.each (λ i less. let place : at + 16 + i ≡ at + (16 + i) = omega arith in c.sixteen-2.ensures.each i less ∙ ap (slice_index c.args.bytes.now) place))
    (λ i less. let place : at + 32 + i ≡ at + (32 + i) = omega arith in c.sixteen-3.ensures.each i less ∙ ap (slice_index c.args.bytes.now) place)

pub returns-clause-second : goal.returns-clause-second
returns-clause-second c = λ i few.
    let at = c.args.at in
    let f : ℕ → ℕ = λ j. slice_index c.args.bytes.now (at + j) in
    let place : at + (6 * i + 1) ≡ at + 6 * i + 1 = omega arith in
    third_seconds (c.sixteen.result ++ c.sixteen-2.result) c.sixteen-3.result f
    (of_two c.sixteen.result c.sixteen-2.result f c.sixteen.ensures.size c.sixteen.ensures.each (λ i less. let place : at + 16 + i ≡ at + (16 + i) = omega arith in c.sixteen-2.ensures.each i less ∙ ap (slice_index c.args.bytes.now) place))
    (λ i less. let place : at + 32 + i ≡ at + (32 + i) = omega arith in c.sixteen-3.ensures.each i less ∙ ap (slice_index c.args.bytes.now) place) i few
    ∙ ap (slice_index c.args.bytes.now) place
