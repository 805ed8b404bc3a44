use Rattle.std.proofs.Common.{◌∙◌, ◌≡◌, ◌≢◌, ℕ, Bool, List, [], take, ap, rules, subst, arith}
use Rattle.std.specs.Prelude.{if◌then◌else◌}
use Rattle.std.specs.Io.KnownBytes.{Consumes}
use Rattle.sane_fixed.specs.declared.status.Status.TheVariants as statuses
use Rattle.scan_job.specs.declared.outcome.Why.TheVariants as whys
use Rattle.net_client.specs.ClientStates.{ClientState, after_client_end}
use Rattle.net_jobs.specs.Inside.{Heard, Lost}
use Rattle.net_jobs.proofs.Turning.{few_taken, some_taken}
use Rattle.net_jobs.proofs.running.hear.Goals as goal

pub returns-in-0-clause-heard : goal.returns-in-0-clause-heard
returns-in-0-clause-heard g c =
    let old : ClientState = c.args.client.now in
    let reason = c.read_piece.ensures.none c.in-0.is in
    let none : take c.read_piece.result c.read_piece.new.piece ≡ [] = ap (λ (n : ℕ). take n c.read_piece.new.piece) c.in-0.is in
    Lost reason.0 (subst (λ (l : List ℕ). Consumes (g.C.Read.remaining c.args.control.now) (g.C.Read.remaining c.read_piece.new.stream) l) none c.read_piece.ensures.bytes)
    (record { lost = c.requires.running; new_is = c.link_lost.ensures.lost ∙ ap (λ (b : Bool). if b then after_client_end statuses.IoError whys.Lost old else old) c.requires.running }) reason.1

pub returns-in_default-clause-heard : goal.returns-in_default-clause-heard
returns-in_default-clause-heard g c =
    let not_zero : c.read_piece.result ≢ 0 = search rules in
    let piece : List ℕ = take c.read_piece.result c.read_piece.new.piece in
    let some : piece ≢ [] = some_taken c.read_piece.result c.read_piece.new.piece (omega (arith, c.read_piece.ensures.count, c.read_piece.auto.piece)) not_zero in
    let few = few_taken c.read_piece.result 4096 c.read_piece.new.piece (omega (arith, c.requires.few, c.read_piece.ensures.room)) in
    Heard piece (some, few) c.read_piece.ensures.bytes (record { running = c.requires.running; quiet = c.requires.quiet; heeds = λ past serves. c.feed_control.ensures.heeds c.requires.running past serves })
    (c.read_piece.ensures.some (omega (arith, not_zero)))
