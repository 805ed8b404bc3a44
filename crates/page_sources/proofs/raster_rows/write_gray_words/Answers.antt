use Rattle.std.proofs.Common.{◌≡◌, ◌≤◌, ◌<◌, ◌+◌, ◌*◌, ℕ, length, arith, sym, subst}
use Rattle.std.specs.Prelude.{slice_index}
use Rattle.page_sources.proofs.EightLemmas.{word_of_eight}
use Rattle.page_sources.proofs.raster_rows.write_gray_words.Goals as goal

pub eight_scaled-requires-clause-limit : goal.eight_scaled-requires-clause-limit
eight_scaled-requires-clause-limit c i less =
    let bytes = c.args.bytes.now in
    let n = c.loop-n.n in
    let same : c.new-scaling.result ≡ c.args.maxval = c.new-scaling.ensures in
    let inside : 2 * (8 * n + i) < length c.args.bytes.now = omega (arith, less) in
    let limit = c.requires.limit (8 * n + i) inside in
    subst (λ (m : ℕ). 256 * slice_index bytes (16 * n + 2 * i) + slice_index bytes (16 * n + 2 * i + 1) ≤ m) (sym same)
    (subst (λ (v : ℕ). v ≤ c.args.maxval) (word_of_eight bytes n i) limit)
