use Rattle.std.proofs.Common.{◌≡◌, rules, ap, ◌∙◌, subst}
use Rattle.page_picture.specs.Source.{SourceState}
use Rattle.scan_frames.specs.Inside.{HasLineBytes, state_of}
use Rattle.scan_frames.specs.PassReading.{FrameProgress}
use Rattle.scan_frames.proofs.Giving.{gives_of_line}
use Rattle.scan_frames.proofs.buffers.give_of_line.Goals.{else-buffers-eq0-via-then-buffers-eq0+then-size-buf+in_ok-give_whole_line+else-branch, else-buffers-eq0-via-then-buffers-eq0+else-size-buf, else-buffers-eq0-via-else-buffers-eq0}
use Rattle.scan_frames.proofs.buffers.give_of_line.Goals as goal

pub returns-clause-ok : goal.returns-clause-ok
returns-clause-ok g c =
    let s = g.S.PageSource.source c.args.source.now in
    let t = g.S.PageSource.source c.make_ready.new.source in
    let setup = c.args.setup.now in
    let old = state_of c.args.buffers.now in
    let ready = state_of c.make_ready.new.buffers in
    let same : (g.S.PageSource.source c.else-buffers-eq0.source ≡ s) × (state_of c.else-buffers-eq0.buffers ≡ old) = elim c.else-buffers-eq0.branch [
      | else-buffers-eq0-via-then-buffers-eq0+then-size-buf+in_ok-give_whole_line+else-branch w ↦
          let none = w.in_ok-give_whole_line.ensures.none (search rules) in
          (ap (λ r. g.S.PageSource.source r) w.source-is ∙ none.0, ap state_of w.buffers-is ∙ none.1)
      | else-buffers-eq0-via-then-buffers-eq0+else-size-buf w ↦ (ap (λ r. g.S.PageSource.source r) w.source-is, ap state_of w.buffers-is)
      | else-buffers-eq0-via-else-buffers-eq0 w ↦ (ap (λ r. g.S.PageSource.source r) w.source-is, ap state_of w.buffers-is)
    ] in
    let has : HasLineBytes s setup old t ready =
    subst (λ (u : SourceState). HasLineBytes u setup old t ready) same.0
    (subst (λ (f : FrameProgress). HasLineBytes (g.S.PageSource.source c.else-buffers-eq0.source) setup f t ready) same.1 c.in_ok-make_ready.ensures.ok) in
    let lent = c.give.auto.buf in
    let room = c.requires.buf in
    gives_of_line s t setup old ready (state_of c.give.new.buffers) c.give.result c.give.new.buf (search rules) has c.give.ensures
