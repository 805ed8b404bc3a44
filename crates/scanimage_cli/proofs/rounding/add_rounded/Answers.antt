use Rattle.scanimage_cli.proofs.rounding.add_rounded.Goals as goal

pub returns : goal.returns
returns c = rw (c.as_bytes.ensures.bytes, c.as_bytes-2.ensures.bytes, c.as_bytes-3.ensures.bytes, c.in_ok-asked.ensures.value, c.in_ok-given.ensures.value) at c.add_all.ensures
