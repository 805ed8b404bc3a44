use Rattle.system_model.proofs.MessagePieces as pieces
use Rattle.system_model.proofs.pieces_show_the_same.Goals as goal

pub returns-clause-complete : goal.returns-clause-complete
returns-clause-complete c = pieces.pieces_complete

pub returns-clause-marks : goal.returns-clause-marks
returns-clause-marks c = pieces.pieces_show_the_same
