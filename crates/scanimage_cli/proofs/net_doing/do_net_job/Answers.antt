use Rattle.std.proofs.Common.{rules, refl, inl, inr}
use Rattle.scanimage_cli.proofs.NetDone.{short_of}
use Rattle.scanimage_cli.proofs.Carried.{nothing_stops_short}
use Rattle.scanimage_cli.proofs.net_doing.do_net_job.Goals as goal

pub returns-in_default-clause-ended : goal.returns-in_default-clause-ended
returns-in_default-clause-ended g c = record { stop = record { status = _; why = _ }; told = c.no_memory.ensures; reason = inl (record { why = inr (inr refl); same = refl }) }

pub returns-in-Ok-done-clause-done : goal.returns-in-Ok-done-clause-done
returns-in-Ok-done-clause-done g c = record { reports = c.in-Ok-done.field-0-0; ran = c.in-Ok-done.ensures.done; prints = search rules }

pub returns-clause-no_file : goal.returns-clause-no_file
returns-clause-no_file g c = short_of _ g.D.Dial.coming g.W.Write.contents c.args.job _ _ c.in-Err.stop c.in-Err.ensures.ended

pub returns-clause-ended : goal.returns-clause-ended
returns-clause-ended g c = record { stop = c.in-Err.stop; told = c.of.ensures; reason = c.in-Err.ensures.ended }

pub returns-in_default-clause-no_file : goal.returns-in_default-clause-no_file
returns-in_default-clause-no_file g c = nothing_stops_short _
