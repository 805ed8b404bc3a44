use Rattle.std.specs.Prelude.{MatchBool}
use Rattle.netpbm.specs.Raster.{NoneAbove, SomeAbove}
use Rattle.page_sources.proofs.fitting.words_fit.Given as goal

abbrev pub invariant-loop-i : goal.invariant-loop-i
invariant-loop-i l = MatchBool l.fit (NoneAbove l.maxval l.fn.bytes l.i) (SomeAbove l.maxval l.fn.bytes l.i)
