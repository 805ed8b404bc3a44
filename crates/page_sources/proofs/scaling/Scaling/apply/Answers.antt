use Rattle.std.proofs.Common.{ℕ, ◌<◌, sym, subst}
use Rattle.page_sources.proofs.ScalingLemmas.{scaled_is, scaled_fits}
use Rattle.page_sources.proofs.scaling.Scaling.apply.Goals as goal

pub overflow_cast-result : goal.overflow_cast-result
overflow_cast-result c =
    let own = c.self.inside in
    let facts = c.self.invariant in
    let number = c.args.number in
    let same = scaled_is c.from.result number own.factor own.maxval c.args.self.now c.from.ensures facts.2 c.self.view_is facts.0 facts.1 c.requires in
    record { fits = subst (λ (n : ℕ). n < 65536) (sym same) (scaled_fits number c.args.self.now c.requires) }

pub returns : goal.returns
returns c =
    let own = c.self.inside in
    let facts = c.self.invariant in
    scaled_is c.from.result c.args.number own.factor own.maxval c.args.self.now c.from.ensures facts.2 c.self.view_is facts.0 facts.1 c.requires
