use Rattle.scanimage_cli.proofs.ending.tell_line.Goals as goal

pub returns : goal.returns
returns g c = rw (c.as_bytes-line.ensures.value, c.format.ensures.text, c.as_bytes-reason.ensures.value) at c.put_pieces.ensures
