use Rattle.strangers.proofs.strangers_complete_no_file.Goals as goal

pub returns : goal.returns
returns c = λ source xs t w v run k. k.promises.short
