use Rattle.scanimage_cli.proofs.ending.Ending.tell.Goals as goal

pub returns-in-CannotRead : goal.returns-in-CannotRead
returns-in-CannotRead g c = rw c.in-CannotRead.is (rw c.as_bytes.ensures.bytes at c.put_pieces-in-CannotRead.ensures)

pub returns-in-Ended : goal.returns-in-Ended
returns-in-Ended g c = rw c.in-Ended.is (rw (c.as_bytes-status.ensures.value, c.name.ensures, c.as_bytes-why.ensures.value, c.word.ensures) at c.put_pieces-in-Ended.ensures)

pub returns-in-BadCommandLine : goal.returns-in-BadCommandLine
returns-in-BadCommandLine g c = rw c.in-BadCommandLine.is c.put_pieces.ensures

pub returns-in-Config : goal.returns-in-Config
returns-in-Config g c = rw c.in-Config.is (rw c.text.ensures at c.tell_line.ensures)

pub returns-in-Page : goal.returns-in-Page
returns-in-Page g c = rw c.in-Page.is (rw c.text-in-Page.ensures at c.tell_line-in-Page.ensures)
