use Rattle.interleaving.proofs.Parts.{another_listens, in_parts, in_parts_among}
use Rattle.interleaving.proofs.connections_hand_on_in_parts.Goals as goal

pub returns-clause-parts : goal.returns-clause-parts
returns-clause-parts g c = in_parts

pub returns-clause-among : goal.returns-clause-among
returns-clause-among g c = in_parts_among

pub returns-clause-another : goal.returns-clause-another
returns-clause-another g c = another_listens
