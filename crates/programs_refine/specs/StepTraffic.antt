-- What a step of a job's loop does on the job's connections.
use Rattle.std.specs.Prelude.{true, false}
use Rattle.net_jobs.specs.JobJournal.{JobMove}
use Rattle.net_jobs.specs.JobJournal.JobMove.{Writes, Fails, Hears, Resumes, Prepares, Dials, Takes, Gives, Loses}
use Rattle.net_jobs.specs.JobSteps.{JobStep}
use Rattle.interleaving.specs.Interleavings.{Traffic}
use Rattle.interleaving.specs.Interleavings.Traffic.{Writes as WritesBytes, Reads as ReadsBytes}
use Rattle.interleaving.specs.Interleavings.Traffic.{Dials as MakesConnection, Takes as TakesBytes, NoTraffic}

abbrev pub traffic_of_move : JobMove → Traffic
traffic_of_move (Writes bytes) = WritesBytes bytes
traffic_of_move (Fails bytes) = WritesBytes bytes
traffic_of_move (Hears piece) = ReadsBytes piece
traffic_of_move Resumes = NoTraffic
traffic_of_move (Prepares port) = NoTraffic
traffic_of_move (Dials port true) = MakesConnection
traffic_of_move (Dials port false) = NoTraffic
traffic_of_move (Takes piece) = TakesBytes piece
traffic_of_move (Gives bytes) = NoTraffic
traffic_of_move (Loses link reason) = NoTraffic

-- **traffic of a step (`traffic_of`)**: what its move does on the job's connections.
abbrev pub traffic_of : JobStep → Traffic
traffic_of step = traffic_of_move step.move
