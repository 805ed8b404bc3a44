use Rattle.std.proofs.Common.{◌≡◌, ◌++◌, length}
use Rattle.dispatch.specs.ConfigLines.{fields_of}
use Rattle.dispatch.proofs.config.lines.copied_pages.Given as goal

abbrev pub invariant-loop-page : goal.invariant-loop-page
invariant-loop-page l = l.texts.items ++ fields_of l.rest ≡ fields_of l.pages

abbrev pub decreases-loop-page : goal.decreases-loop-page
decreases-loop-page l = length l.rest
