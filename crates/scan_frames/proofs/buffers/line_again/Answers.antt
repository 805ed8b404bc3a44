use Rattle.std.proofs.Common.{ℕ, ◌+◌, sym, ◌∙◌, subst}
use Rattle.scan_frames.specs.Inside.{MakesLine, state_of}
use Rattle.scan_frames.proofs.Scans.{frame_again}
use Rattle.scan_frames.proofs.buffers.line_again.Goals as goal

pub returns : goal.returns
returns g c =
    let s = g.S.PageSource.source c.args.source.now in
    let setup = c.args.setup.now in
    let old = c.args.buffers.now in
    subst (λ (n : ℕ). MakesLine s setup (state_of old) s (record (state_of old) { made = old.made + 1; left = n })) (sym (c.len-buffers.ensures ∙ old.line.ok.0))
    (frame_again s setup (state_of old) c.requires.frame c.requires.more c.requires.begun c.requires.same)
