use Rattle.std.proofs.Common.{ℕ, ◌<◌, arith, sym, subst}
use Rattle.page_sources.proofs.ScalingLemmas.{byte_scaled_is, scaled_fits}
use Rattle.page_sources.proofs.scaling.ByteScaling.apply.Goals as goal

pub overflow_mul-result : goal.overflow_mul-result
overflow_mul-result c =
    let own = c.self.inside in
    let facts = c.self.invariant in
    let number = c.args.number in
    let fits = scaled_fits number c.args.self.now c.requires in
    let same = byte_scaled_is c.from.result c.from-2.result c.from-3.result number own.upper own.lower own.maxval c.args.self.now c.from.ensures c.from-2.ensures c.from-3.ensures c.self.view_is facts.0 facts.1 c.requires facts.2 in
    record { fits = omega (arith, same, fits) }

pub overflow_add-result : goal.overflow_add-result
overflow_add-result c =
    let own = c.self.inside in
    let facts = c.self.invariant in
    let number = c.args.number in
    let same = byte_scaled_is c.from.result c.from-2.result c.from-3.result number own.upper own.lower own.maxval c.args.self.now c.from.ensures c.from-2.ensures c.from-3.ensures c.self.view_is facts.0 facts.1 c.requires facts.2 in
    record { fits = subst (λ (n : ℕ). n < 65536) (sym same) (scaled_fits number c.args.self.now c.requires) }

pub returns : goal.returns
returns c =
    let own = c.self.inside in
    let facts = c.self.invariant in
    byte_scaled_is c.from.result c.from-2.result c.from-3.result c.args.number own.upper own.lower own.maxval c.args.self.now c.from.ensures c.from-2.ensures c.from-3.ensures c.self.view_is facts.0 facts.1 c.requires facts.2
