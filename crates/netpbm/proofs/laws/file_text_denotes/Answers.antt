use Rattle.netpbm.proofs.WritingLaws.{denotes_file}
use Rattle.netpbm.proofs.laws.file_text_denotes.Goals as goal

pub returns : goal.returns
returns c = denotes_file
