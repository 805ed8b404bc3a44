use Rattle.wire_format.proofs.ReadLimits.{limited_sound, limited_complete, limited_more, limited_waits, limited_bad, limited_first}
use Rattle.wire_format.proofs.laws.reading_keeps_a_limit.Goals as goal

pub returns-clause-sound : goal.returns-clause-sound
returns-clause-sound g c = limited_sound c.args.limit g.A.Readable.format g.A.Readable.reads

pub returns-clause-complete : goal.returns-clause-complete
returns-clause-complete g c = limited_complete c.args.limit g.A.Readable.format g.A.Readable.reads

pub returns-clause-more : goal.returns-clause-more
returns-clause-more g c = limited_more c.args.limit g.A.Readable.format g.A.Readable.reads

pub returns-clause-waits : goal.returns-clause-waits
returns-clause-waits g c = limited_waits c.args.limit g.A.Readable.format g.A.Readable.reads

pub returns-clause-bad : goal.returns-clause-bad
returns-clause-bad g c = limited_bad c.args.limit g.A.Readable.format g.A.Readable.reads

pub returns-clause-first : goal.returns-clause-first
returns-clause-first g c = limited_first c.args.limit g.A.Readable.format g.A.Readable.reads
