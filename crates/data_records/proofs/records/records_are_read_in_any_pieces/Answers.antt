use Rattle.data_records.proofs.StepsOverPieces.{ended, used_all}
use Rattle.data_records.proofs.records.records_are_read_in_any_pieces.Goals as goal

pub returns-clause-ended : goal.returns-clause-ended
returns-clause-ended c = ended

pub returns-clause-whole : goal.returns-clause-whole
returns-clause-whole c = used_all
