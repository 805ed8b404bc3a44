use Rattle.saned_cli.proofs.LineLaws.{front_alone, then_told}
use Rattle.saned_cli.proofs.ending_lines.write_line.Goals as goal

pub returns-then-not-put : goal.returns-then-not-put
returns-then-not-put g c = front_alone _ _ _ _ _ (c.put.ensures.front c.if-not-put.true) (c.put.ensures.failed c.if-not-put.true)

pub returns-then-not-put-2 : goal.returns-then-not-put-2
returns-then-not-put-2 g c =
    then_told _ _ _ _ _ _ (c.put.ensures.whole c.if-not-put.false) (front_alone _ _ _ _ _ (c.put-2.ensures.front c.if-not-put-2.true) (c.put-2.ensures.failed c.if-not-put-2.true))

pub returns : goal.returns
returns g c = then_told _ _ _ _ _ _ (c.put.ensures.whole c.if-not-put.false) (then_told _ _ _ _ _ _ (c.put-2.ensures.whole c.if-not-put-2.false) c.write_text.ensures)
