use Rattle.std.proofs.Common.{◌≡◌, ◌∙◌, true, false, inl, inr, ap, refl, sym, subst, rules}
use Rattle.std.specs.Result.{is_ok}
use Rattle.std.proofs.lemmas.Result.{err_from_is_err_and}
use Rattle.scan_job.specs.declared.outcome.Outcome.{Outcome}
use Rattle.client_replies.specs.ProtocolStates.{is_ended, is_running}
use Rattle.net_jobs.specs.Inside.{StopsAs, CallNotes, ahead_of, left_ahead}
use Rattle.net_jobs.proofs.JobEnds.{leaves_links, done_told, err_of, runs_on}
use Rattle.net_jobs.proofs.RunInvariants.{turns_on, turned_delivers, turned_still}
use Rattle.net_jobs.proofs.Steps.{to_be_given}
use Rattle.net_jobs.proofs.OutputEnds.{fails_by, told_spares}
use Rattle.net_jobs.proofs.Turning.{is_over_by, runs_by}
use Rattle.net_jobs.proofs.Shelving.{lying_fresh, lying_gave, lying_went, laid_then, shut_parted}
use Rattle.net_jobs.proofs.Batching.{came_done, came_sunk, came_stopped}
use Rattle.net_jobs.proofs.running.run_client.Goals.{else-came-via-then-came+then-not-is_over+else-not-fill, else-came-via-then-came+else-not-is_over, else-came-via-else-came, else-is_ok-via-then-is_ok+else-not-fill-2, else-is_ok-via-else-is_ok}
use Rattle.net_jobs.proofs.running.run_client.Goals as goal

pub loop-client-init : goal.loop-client-init
loop-client-init g c = record {
  ahead = refl;
  room = refl;
  within = tt;
  held = λ e. ap (λ (n : CallNotes). n.loss) c.requires.new;
  up = λ e. ap (λ (n : CallNotes). n.write_failed) c.requires.new;
  lying = λ job fresh count scanning none. lying_fresh _ (left_ahead g.D.Conn.Read.remaining) job _ _ _ _ c.args.client c.requires.new c.not_whole_before.ensures fresh none;
}

pub returns-then-not-fill-clause-came : goal.returns-then-not-fill-clause-came
returns-then-not-fill-clause-came g c = λ job fresh count scanning none.
    let p = c.loop-client.invariant.lying job fresh count scanning none in
    let before = runs_by (is_running c.loop-client.client.outcome) c.is_over.result c.is_over.ensures c.loop-client-test.true in
    let t = turns_on _ (left_ahead g.D.Conn.Read.remaining) job _ _ p.laid.given c.go_on-came.result _ _ c.go_on-came.ensures.moved.0 c.go_on-came.ensures.moved.1 c.go_on-came.ensures.moved.2 before p.laid.going p.laid.steps in
    let runs = runs_by (is_running c.go_on-came.new.client.outcome) c.is_over-then-came.result c.is_over-then-came.ensures c.if-not-is_over.true in
    let last = turned_delivers _ (left_ahead g.D.Conn.Read.remaining) job _ _ p.laid.given c.go_on-came.result _ t c.if-came.true runs in
    rw (c.failed_output.ensures, c.fill.ensures.calls.0) (came_sunk _ (left_ahead g.D.Conn.Read.remaining) job _ _ _ _ _ _ _ (ahead_of c.go_on-came.new.stream c.go_on-came.new.ahead) c.go_on-came.new.client c.loop-client.client c.fill.new.client _ p.laid.given p.laid.going.stage.history c.args.is_scanning c.fill.result scanning count c.whole_shows.ensures p.laid.shelf
    t.going (runs_on c.go_on-came.new.client.outcome runs) last c.if-not-fill.true (λ e. (c.fill.ensures.none e).0) (c.fill.ensures.short c.if-not-fill.true))

pub loop-client-preserved : goal.loop-client-preserved
loop-client-preserved g c = record {
  ahead = search rules;
  room = search rules;
  within = c.go_on-came.ensures.within;
  held = elim c.else-came.branch [
    | else-came-via-then-came+then-not-is_over+else-not-fill w ↦ rw (w.client-is, w.tally-is) (λ e. ap (λ (n : CallNotes). n.loss) w.fill.ensures.calls.0 ∙ c.go_on-came.ensures.held (sym (ap is_running w.fill.ensures.outcome) ∙ e))
    | else-came-via-then-came+else-not-is_over w ↦ rw (w.client-is, w.tally-is) c.go_on-came.ensures.held
    | else-came-via-else-came w ↦ rw (w.client-is, w.tally-is) c.go_on-came.ensures.held
  ];
  up = elim c.else-came.branch [
    | else-came-via-then-came+then-not-is_over+else-not-fill w ↦ rw (w.client-is, w.tally-is) (λ e. ap (λ (n : CallNotes). n.write_failed) w.fill.ensures.calls.0 ∙ c.go_on-came.ensures.up (sym (ap is_running w.fill.ensures.outcome) ∙ e))
    | else-came-via-then-came+else-not-is_over w ↦ rw (w.client-is, w.tally-is) c.go_on-came.ensures.up
    | else-came-via-else-came w ↦ rw (w.client-is, w.tally-is) c.go_on-came.ensures.up
  ];
  lying = λ job fresh count scanning none.
      let p = c.loop-client.invariant.lying job fresh count scanning none in
      let before = runs_by (is_running c.loop-client.client.outcome) c.is_over.result c.is_over.ensures c.loop-client-test.true in
      let t = turns_on _ (left_ahead g.D.Conn.Read.remaining) job _ _ p.laid.given c.go_on-came.result _ _ c.go_on-came.ensures.moved.0 c.go_on-came.ensures.moved.1 c.go_on-came.ensures.moved.2 before p.laid.going p.laid.steps in
      elim c.else-came.branch [
        | else-came-via-then-came+then-not-is_over+else-not-fill w ↦
            (let runs = runs_by (is_running c.go_on-came.new.client.outcome) w.is_over-then-came.result w.is_over-then-came.ensures w.if-not-is_over.true in
            let last = turned_delivers _ (left_ahead g.D.Conn.Read.remaining) job _ _ p.laid.given c.go_on-came.result _ t w.if-came.true runs in
            rw (w.client-is, w.to-is, w.sink-is, w.tally-is, w.fill.ensures.calls.0) (lying_gave _ (left_ahead g.D.Conn.Read.remaining) job _ _ _ _ _ _ (ahead_of c.go_on-came.new.stream c.go_on-came.new.ahead) w.fill.new.client _ c.not_whole_before.ensures (ap is_running w.fill.ensures.outcome ∙ runs)
            (laid_then _ (left_ahead g.D.Conn.Read.remaining) job _ _ _ _ _ _ _ (ahead_of c.go_on-came.new.stream c.go_on-came.new.ahead) c.go_on-came.new.client c.loop-client.client w.fill.new.client _ p.laid.given p.laid.going.stage.history c.args.is_scanning scanning count c.whole_shows.ensures p.laid.shelf t.going last
            (λ e. ((w.fill.ensures.none e).1, (w.fill.ensures.none e).2))
            (λ is. w.fill.ensures.drained is w.if-not-fill.false))))
        | else-came-via-then-came+else-not-is_over w ↦
            (let over = is_over_by (is_running c.go_on-came.new.client.outcome) w.is_over-then-came.result w.is_over-then-came.ensures w.if-not-is_over.false in
            rw (w.client-is, w.to-is, w.sink-is, w.tally-is) (lying_went _ (left_ahead g.D.Conn.Read.remaining) job _ _ _ _ _ _ _ _ _ (ahead_of c.loop-client.stream c.loop-client.ahead) (ahead_of c.go_on-came.new.stream c.go_on-came.new.ahead) c.loop-client.client c.go_on-came.new.client _ p t.going
            (turned_still _ (left_ahead g.D.Conn.Read.remaining) job _ _ p.laid.given c.go_on-came.result _ t (inr over))))
        | else-came-via-else-came w ↦ rw (w.client-is, w.to-is, w.sink-is, w.tally-is) (lying_went _ (left_ahead g.D.Conn.Read.remaining) job _ _ _ _ _ _ _ _ _ (ahead_of c.loop-client.stream c.loop-client.ahead) (ahead_of c.go_on-came.new.stream c.go_on-came.new.ahead) c.loop-client.client c.go_on-came.new.client _ p t.going
            (turned_still _ (left_ahead g.D.Conn.Read.remaining) job _ _ p.laid.given c.go_on-came.result _ t (inl w.if-came.false)))
      ];
}

pub returns-then-not-fill-2-clause-came : goal.returns-then-not-fill-2-clause-came
returns-then-not-fill-2-clause-came g c = λ job fresh count scanning none.
    let p = c.loop-client.invariant.lying job fresh count scanning none in
    let done = done_told c.outcome.result.now c.told_of-told.result _ (sym c.is_ok.ensures.value ∙ c.if-is_ok.true) c.told_of-told.ensures.told in
    let alive = ap is_ended (sym c.outcome.ensures ∙ done.1) in
    let last = to_be_given job.task p.laid.going.fresh p.laid.going.moves c.loop-client.client p.laid.given done.0 (sym c.outcome.ensures ∙ done.1) p.laid.steps in
    rw (c.failed_output-then-not-fill-2.ensures, c.fill-then-is_ok.ensures.calls.0) (came_sunk _ (left_ahead g.D.Conn.Read.remaining) job _ _ _ _ _ _ _ (ahead_of c.loop-client.stream c.loop-client.ahead) c.loop-client.client c.loop-client.client c.fill-then-is_ok.new.client _ p.laid.given p.laid.going.stage.history c.args.is_scanning c.fill-then-is_ok.result scanning count c.whole_shows.ensures p.laid.shelf
    p.laid.going alive last c.if-not-fill-2.true (λ e. (c.fill-then-is_ok.ensures.none e).0) (c.fill-then-is_ok.ensures.short c.if-not-fill-2.true))

pub returns-in_err-told-clause-came : goal.returns-in_err-told-clause-came
returns-in_err-told-clause-came g c = λ job fresh count scanning none.
    let p = c.loop-client.invariant.lying job fresh count scanning none in
    let q = err_from_is_err_and c.from_residual.result c.from_residual.ensures.1 in
    let ends = subst (λ (o : Outcome). StopsAs o c.in_err-told.field-0.0) c.outcome.ensures (err_of c.told_of-told.result c.in_err-told.field-0.0 _ c.in_err-told.was c.told_of-told.ensures.ended) in
    rw (q.1, q.2) (elim c.else-is_ok.branch [
      | else-is_ok-via-then-is_ok+else-not-fill-2 w ↦ absurd (let clash : true ≡ false = sym w.if-is_ok.true ∙ c.is_ok.ensures.value ∙ ap is_ok c.in_err-told.was in cc)
      | else-is_ok-via-else-is_ok w ↦
          rw (w.to-is, w.sink-is) (came_stopped _ (left_ahead g.D.Conn.Read.remaining) job _ _ _ _ _ _ _ _ (ahead_of c.loop-client.stream c.loop-client.ahead) c.loop-client.client _ c.in_err-told.field-0.0 c.not_whole_before.ensures ends
          (leaves_links g.C.Read.remaining g.C.Write.contents g.D.Dial.ports g.D.Dial.prepared c.loop-client.control c.part-outcome.new.control c.loop-client.dial _ _ _ (rw (w.client-is, w.tally-is) at c.part-outcome.ensures.left)) p)
    ])

pub returns-clause-came : goal.returns-clause-came
returns-clause-came g c = λ job fresh count scanning none.
    let p = c.loop-client.invariant.lying job fresh count scanning none in
    elim c.else-is_ok.branch [
      | else-is_ok-via-then-is_ok+else-not-fill-2 w ↦
          (let done = sym (rw w.client-is at c.part-outcome.ensures.outcome) ∙ c.in-Done.is in
          let last = to_be_given job.task p.laid.going.fresh p.laid.going.moves c.loop-client.client p.laid.given c.in-Done.reports (sym w.fill-then-is_ok.ensures.outcome ∙ done) p.laid.steps in
          rw (w.to-is, w.sink-is) (came_done _ (left_ahead g.D.Conn.Read.remaining) job _ _ _ _ _ _ (ahead_of c.loop-client.stream c.loop-client.ahead) w.fill-then-is_ok.new.client _ c.in-Done.reports count c.whole_shows.ensures (sym (rw w.client-is at c.part-outcome.ensures.outcome) ∙ c.in-Done.is)
          (shut_parted _ (left_ahead g.D.Conn.Read.remaining) job _ _ _ _ _ _ _ _ (ahead_of c.loop-client.stream c.loop-client.ahead) w.fill-then-is_ok.new.client _ (ap is_running (sym (rw w.client-is at c.part-outcome.ensures.outcome) ∙ c.in-Done.is))
          (leaves_links g.C.Read.remaining g.C.Write.contents g.D.Dial.ports g.D.Dial.prepared c.loop-client.control c.part-outcome.new.control c.loop-client.dial _ _ _ (rw (w.client-is, w.tally-is, w.fill-then-is_ok.ensures.calls.0) at c.part-outcome.ensures.left))
          (laid_then _ (left_ahead g.D.Conn.Read.remaining) job _ _ _ _ _ _ _ (ahead_of c.loop-client.stream c.loop-client.ahead) c.loop-client.client c.loop-client.client w.fill-then-is_ok.new.client _ p.laid.given p.laid.going.stage.history c.args.is_scanning scanning count c.whole_shows.ensures p.laid.shelf p.laid.going last
          (λ e. ((w.fill-then-is_ok.ensures.none e).1, (w.fill-then-is_ok.ensures.none e).2))
          (λ is. w.fill-then-is_ok.ensures.drained is w.if-not-fill-2.false))).0))
      | else-is_ok-via-else-is_ok w ↦ absurd (let clash : true ≡ false = sym (c.is_ok.ensures.value ∙ ap is_ok c.in_ok-told.was) ∙ w.if-is_ok.false in cc)
    ]

pub returns-then-not-fill-clause-output : goal.returns-then-not-fill-clause-output
returns-then-not-fill-clause-output g c = λ job fresh count scanning none sink.
    let p = c.loop-client.invariant.lying job fresh count scanning none in
    let before = runs_by (is_running c.loop-client.client.outcome) c.is_over.result c.is_over.ensures c.loop-client-test.true in
    let t = turns_on _ (left_ahead g.D.Conn.Read.remaining) job _ _ p.laid.given c.go_on-came.result _ _ c.go_on-came.ensures.moved.0 c.go_on-came.ensures.moved.1 c.go_on-came.ensures.moved.2 before p.laid.going p.laid.steps in
    fails_by _ (left_ahead g.D.Conn.Read.remaining) job _ _ _ _ _ _ _ (ahead_of c.go_on-came.new.stream c.go_on-came.new.ahead) c.go_on-came.new.client c.loop-client.client p.laid.given p.laid.going.stage.history c.args.is_scanning c.args.is_scanning c.fill.result c.fill.new.tally.output.failed refl scanning count p.laid.shelf
    t.going c.if-not-fill.true (λ e. (c.fill.ensures.none e).0) (c.fill.ensures.failed c.if-not-fill.true)

pub returns-then-not-fill-2-clause-output : goal.returns-then-not-fill-2-clause-output
returns-then-not-fill-2-clause-output g c = λ job fresh count scanning none sink.
    let p = c.loop-client.invariant.lying job fresh count scanning none in
    fails_by _ (left_ahead g.D.Conn.Read.remaining) job _ _ _ _ _ _ _ (ahead_of c.loop-client.stream c.loop-client.ahead) c.loop-client.client c.loop-client.client p.laid.given p.laid.going.stage.history c.args.is_scanning c.args.is_scanning c.fill-then-is_ok.result c.fill-then-is_ok.new.tally.output.failed refl scanning count p.laid.shelf
    p.laid.going c.if-not-fill-2.true (λ e. (c.fill-then-is_ok.ensures.none e).0) (c.fill-then-is_ok.ensures.failed c.if-not-fill-2.true)

pub returns-in_err-told-clause-output : goal.returns-in_err-told-clause-output
returns-in_err-told-clause-output g c =
    let q = err_from_is_err_and c.from_residual.result c.from_residual.ensures.1 in
    let ends = subst (λ (o : Outcome). StopsAs o c.in_err-told.field-0.0) c.outcome.ensures (err_of c.told_of-told.result c.in_err-told.field-0.0 _ c.in_err-told.was c.told_of-told.ensures.ended) in
    rw (q.1, q.2) (λ job fresh count scanning none sink. absurd (told_spares _ (left_ahead g.D.Conn.Read.remaining) job _ _ _ _ _ _ (ahead_of c.loop-client.stream c.loop-client.ahead) c.loop-client.client c.in_err-told.field-0.0 (c.loop-client.invariant.lying job fresh count scanning none).laid.going ends sink))
