use Rattle.std.proofs.Common.{◌∙◌, ◌+◌, ◌-◌, ◌≡◌, ◌++◌, ℕ, Bool, List, [], None, Some, take, drop, ap, sym, arith}
use Rattle.std.specs.Prelude.{if◌then◌else◌}
use Rattle.std.specs.Io.KnownBytes.{Consumes}
use Rattle.std.proofs.KnownBytes.{Consumes-trans}
use Rattle.sane_fixed.specs.declared.status.Status.TheVariants as statuses
use Rattle.scan_job.specs.declared.outcome.Why.TheVariants as whys
use Rattle.net_client.specs.ClientStates.{ClientState, after_client_end}
use Rattle.net_jobs.specs.Inside.{Took, Missed, left_ahead, read_ahead}
use Rattle.net_jobs.proofs.DataLoop.{lost_image}
use Rattle.net_jobs.proofs.DataStreams.{ahead_taken, first_piece, next_taken}
use Rattle.net_jobs.proofs.running.see.Goals as goal

pub returns-then-not-read_on-clause-seen : goal.returns-then-not-read_on-clause-seen
returns-then-not-read_on-clause-seen g c =
    let old : ClientState = c.args.client.now in
    let reason = c.read_on.ensures.none c.if-not-read_on.true in
    let lost = lost_image old.outcome old.progress c.requires.receiving in
    Missed reason.0 (record { lost = lost; new_is = c.link_lost.ensures.lost ∙ ap (λ (b : Bool). if b then after_client_end statuses.IoError whys.Lost old else old) lost }) reason.1

pub returns-then-is_receiving-clause-seen : goal.returns-then-is_receiving-clause-seen
returns-then-is_receiving-clause-seen g c =
    let s = c.read_on.new.stream in
    let room : List ℕ = c.read_on.new.room in
    let n : ℕ = c.min-n.result in
    let same : s.at + n - s.at ≡ n = omega arith in
    let lies = c.read_on.ensures.within in
    let some = c.read_on.ensures.some c.if-not-read_on.false in
    let behind = read_ahead room (record s { at = s.at + n }) in
    let piece : List ℕ = take (s.at + n - s.at) (drop s.at room) in
    let next = next_taken room s.at s.end n (omega (arith, lies.0, c.min-n.ensures)) ∙ ap (λ (k : ℕ). take k (drop s.at room) ++ take (s.end - (s.at + n)) (drop (s.at + n) room)) (sym same) in
    let took : Consumes (left_ahead g.R.Read.remaining (read_ahead room s)) (left_ahead g.R.Read.remaining behind) piece = ahead_taken (g.R.Read.remaining s.conn) _ piece _ next in
    Took piece behind (first_piece (s.at + n - s.at) s.at room (omega (arith, some, c.min-n.ensures)) (omega (arith, lies.1, some)) (omega (arith, c.min-n.ensures))) (Consumes-trans _ _ _ [] piece c.read_on.ensures.bytes took)
    (record { receiving = c.requires.receiving; receives = λ past serves. c.feed_data.ensures.receives c.requires.receiving past serves })
    (ap (λ (b : Bool). if b then Some behind else None) (sym (sym c.is_receiving.ensures ∙ c.if-is_receiving.true))) (c.read_on.ensures.held c.if-not-read_on.false)

pub returns-else-is_receiving-clause-seen : goal.returns-else-is_receiving-clause-seen
returns-else-is_receiving-clause-seen g c =
    let s = c.read_on.new.stream in
    let room : List ℕ = c.read_on.new.room in
    let n : ℕ = c.min-n.result in
    let same : s.at + n - s.at ≡ n = omega arith in
    let lies = c.read_on.ensures.within in
    let some = c.read_on.ensures.some c.if-not-read_on.false in
    let behind = read_ahead room (record s { at = s.at + n }) in
    let piece : List ℕ = take (s.at + n - s.at) (drop s.at room) in
    let next = next_taken room s.at s.end n (omega (arith, lies.0, c.min-n.ensures)) ∙ ap (λ (k : ℕ). take k (drop s.at room) ++ take (s.end - (s.at + n)) (drop (s.at + n) room)) (sym same) in
    let took : Consumes (left_ahead g.R.Read.remaining (read_ahead room s)) (left_ahead g.R.Read.remaining behind) piece = ahead_taken (g.R.Read.remaining s.conn) _ piece _ next in
    Took piece behind (first_piece (s.at + n - s.at) s.at room (omega (arith, some, c.min-n.ensures)) (omega (arith, lies.1, some)) (omega (arith, c.min-n.ensures))) (Consumes-trans _ _ _ [] piece c.read_on.ensures.bytes took)
    (record { receiving = c.requires.receiving; receives = λ past serves. c.feed_data.ensures.receives c.requires.receiving past serves })
    (ap (λ (b : Bool). if b then Some behind else None) (sym (sym c.is_receiving.ensures ∙ c.if-is_receiving.false))) (c.read_on.ensures.held c.if-not-read_on.false)
