use Rattle.std.proofs.Common.{rules, map, refl, subst, ◌≡◌}
use Rattle.virtual_scanner.specs.Scanners.{scanner_state}
use Rattle.config_pages.specs.Devices.{HasNoScanners, calls_of_lines}
use Rattle.config_pages.specs.InputTexts.{with_calls}
use Rattle.scanimage_cli.specs.Programs.{seen_outputs}
use Rattle.scanimage_cli.specs.Whole.{ProgramState}
use Rattle.std.proofs.lemmas.Result.{err_from_is_err_and}
use Rattle.scanimage_cli.specs.declared.planning.Location.TheVariants.{Here, There}
use Rattle.scanimage_cli.specs.Causes.IsCauseOf.{OfConfig, OfMemory, OfPage, OfPassword, OfTask, OfWords}
use Rattle.scanimage_cli.specs.Inputs.{IsPasswordIn, IsUnreadAt}
use Rattle.scanimage_cli.proofs.CausedRun.{ends_here, ends_there, if_err_of}
use Rattle.scanimage_cli.proofs.Carried.{on_ok_of}
use Rattle.scanimage_cli.proofs.Carrying.{carried_fresh, carried_here, carried_there, leaves_none_of}
use Rattle.scanimage_cli.proofs.program_run.run.Goals as goal

pub returns-in-There-clause-done : goal.returns-in-There-clause-done
returns-in-There-clause-done g c =
    let at : c.in_ok-plan.plan.location ≡ There c.in-There.remote = search rules in
    let configured = g.I.Inputs.seen c.config_lines.new.inputs in
    let asked : g.I.Inputs.seen c.scanners.new.inputs ≡ with_calls (calls_of_lines c.in_ok-lines.lines.items) configured = search rules in
    let was : ProgramState = record { inputs = g.I.Inputs.seen c.scanners.new.inputs; ports = g.H.Dial.ports c.args.outside.now.hosts; outputs = seen_outputs g.O.Write.contents g.E.Write.contents g.N.Write.contents g.S.Shelf.stock c.args.outputs.now } in
    let now : ProgramState = record { inputs = g.I.Inputs.seen c.password_of.new.inputs; ports = g.H.Dial.ports c.run_net_task.new.hosts; outputs = seen_outputs g.O.Write.contents g.E.Write.contents g.N.Write.contents g.S.Shelf.stock c.run_net_task.new.outputs } in
    on_ok_of c.run_net_task.result (λ done. record {
      plan = c.in_ok-plan.plan;
      is_plan = c.in_ok-plan.ensures.planned;
      lines = c.in_ok-lines.lines.items;
      configured = configured;
      config = c.in_ok-lines.ensures.lines;
      devices = _;
      of_lines = search rules;
      carried = carried_fresh c.in_ok-plan.plan _ _ was now _ c.in-Ok-new.ensures.ok asked (carried_there c.in_ok-plan.plan c.in-There.remote _ c.in_ok-password.password was now at c.in_ok-password.ensures.password done);
    }) c.run_net_task.ensures.done

pub returns-clause-done : goal.returns-clause-done
returns-clause-done g c =
    let at : c.in_ok-plan.plan.location ≡ Here c.in-Here.device = search rules in
    let configured = g.I.Inputs.seen c.config_lines.new.inputs in
    let asked : g.I.Inputs.seen c.scanners.new.inputs ≡ with_calls (calls_of_lines c.in_ok-lines.lines.items) configured = search rules in
    let was : ProgramState = record { inputs = g.I.Inputs.seen c.scanners.new.inputs; ports = g.H.Dial.ports c.args.outside.now.hosts; outputs = seen_outputs g.O.Write.contents g.E.Write.contents g.N.Write.contents g.S.Shelf.stock c.args.outputs.now } in
    let now : ProgramState = record { inputs = g.I.Inputs.seen c.password_of.new.inputs; ports = g.H.Dial.ports c.args.outside.now.hosts; outputs = seen_outputs g.O.Write.contents g.E.Write.contents g.N.Write.contents g.S.Shelf.stock c.run_task.new.outputs } in
    on_ok_of c.run_task.result (λ done. record {
      plan = c.in_ok-plan.plan;
      is_plan = c.in_ok-plan.ensures.planned;
      lines = c.in_ok-lines.lines.items;
      configured = configured;
      config = c.in_ok-lines.ensures.lines;
      devices = _;
      of_lines = search rules;
      carried = carried_fresh c.in_ok-plan.plan _ _ was now _ c.in-Ok-new.ensures.ok asked (carried_here c.in_ok-plan.plan c.in-Here.device _ c.in_ok-password.password was now at c.in_ok-password.ensures.password refl done);
    }) c.run_task.ensures.done

pub returns-in_err-lines-clause-output : goal.returns-in_err-lines-clause-output
returns-in_err-lines-clause-output g c =
    let p = err_from_is_err_and c.from_residual-in_err-lines.result c.from_residual-in_err-lines.ensures.1 in
    rw (p.1, p.2) (λ is. absurd (c.in_err-lines.ensures.spares is))

pub returns-in_err-password-clause-output : goal.returns-in_err-password-clause-output
returns-in_err-password-clause-output g c =
    let p = err_from_is_err_and c.from_residual-in_err-password.result c.from_residual-in_err-password.ensures.1 in
    rw (p.1, p.2) (λ is. absurd (c.in_err-password.ensures.spares is))

pub returns-in-There-clause-no_file : goal.returns-in-There-clause-no_file
returns-in-There-clause-no_file g c = leaves_none_of c.args.words.now c.in_ok-plan.plan _ _ c.run_net_task.result c.in_ok-plan.ensures.planned c.run_net_task.ensures.no_file

pub returns-clause-no_file : goal.returns-clause-no_file
returns-clause-no_file g c = leaves_none_of c.args.words.now c.in_ok-plan.plan _ _ c.run_task.result c.in_ok-plan.ensures.planned c.run_task.ensures.no_file

pub returns-in_err-plan-clause-cause : goal.returns-in_err-plan-clause-cause
returns-in_err-plan-clause-cause g c =
    let p = err_from_is_err_and c.from_residual.result c.from_residual.ensures.1 in
    rw (p.1, p.2) (OfWords c.in_err-plan.ensures.refused refl)

pub returns-in_err-lines-clause-cause : goal.returns-in_err-lines-clause-cause
returns-in_err-lines-clause-cause g c =
    let p = err_from_is_err_and c.from_residual-in_err-lines.result c.from_residual-in_err-lines.ensures.1 in
    rw (p.1, p.2) (OfConfig c.in_ok-plan.plan c.in_ok-plan.ensures.planned c.in_err-lines.ensures.refused refl)

pub returns-in-Err-clause-cause : goal.returns-in-Err-clause-cause
returns-in-Err-clause-cause g c =
    let configured = g.I.Inputs.seen c.config_lines.new.inputs in
    let same : c.as_slice.result.now ≡ c.in_ok-lines.lines.items = search rules in
    OfPage (record { plan = c.in_ok-plan.plan; is_plan = c.in_ok-plan.ensures.planned; lines = c.in_ok-lines.lines.items; configured = configured; config = c.in_ok-lines.ensures.lines }) c.in-Err.why
    (subst (λ lines. HasNoScanners lines configured (g.I.Inputs.seen c.scanners.new.inputs) c.in-Err.why) same c.in-Err.ensures.fault) c.of_device.ensures refl

pub returns-in_default-clause-cause : goal.returns-in_default-clause-cause
returns-in_default-clause-cause g c =
    let configured = g.I.Inputs.seen c.config_lines.new.inputs in
    let asked : g.I.Inputs.seen c.scanners.new.inputs ≡ with_calls (calls_of_lines c.in_ok-lines.lines.items) configured = search rules in
    OfMemory (record { plan = c.in_ok-plan.plan; is_plan = c.in_ok-plan.ensures.planned; lines = c.in_ok-lines.lines.items; configured = configured; config = c.in_ok-lines.ensures.lines }) asked c.no_memory.ensures refl

pub returns-in_err-password-clause-cause : goal.returns-in_err-password-clause-cause
returns-in_err-password-clause-cause g c =
    let p = err_from_is_err_and c.from_residual-in_err-password.result c.from_residual-in_err-password.ensures.1 in
    let configured = g.I.Inputs.seen c.config_lines.new.inputs in
    let asked : g.I.Inputs.seen c.scanners.new.inputs ≡ with_calls (calls_of_lines c.in_ok-lines.lines.items) configured = search rules in
    rw (p.1, p.2)
    (OfPassword (record { plan = c.in_ok-plan.plan; is_plan = c.in_ok-plan.ensures.planned; lines = c.in_ok-lines.lines.items; configured = configured; config = c.in_ok-lines.ensures.lines })
    (subst (λ seen. IsUnreadAt c.in_ok-plan.plan.password_file seen (g.I.Inputs.seen c.password_of.new.inputs) c.in_err-password.field-0.0) asked c.in_err-password.ensures.refused) refl)

pub returns-in-There-clause-cause : goal.returns-in-There-clause-cause
returns-in-There-clause-cause g c =
    let at : c.in_ok-plan.plan.location ≡ There c.in-There.remote = search rules in
    let configured = g.I.Inputs.seen c.config_lines.new.inputs in
    let asked : g.I.Inputs.seen c.scanners.new.inputs ≡ with_calls (calls_of_lines c.in_ok-lines.lines.items) configured = search rules in
    let was : ProgramState = record { inputs = g.I.Inputs.seen c.args.outside.now.inputs; ports = g.H.Dial.ports c.args.outside.now.hosts; outputs = seen_outputs g.O.Write.contents g.E.Write.contents g.N.Write.contents g.S.Shelf.stock c.args.outputs.now } in
    let now : ProgramState = record { inputs = g.I.Inputs.seen c.password_of.new.inputs; ports = g.H.Dial.ports c.run_net_task.new.hosts; outputs = seen_outputs g.O.Write.contents g.E.Write.contents g.N.Write.contents g.S.Shelf.stock c.run_net_task.new.outputs } in
    if_err_of c.run_net_task.result (λ ending ends. OfTask (record {
      read = record { plan = c.in_ok-plan.plan; is_plan = c.in_ok-plan.ensures.planned; lines = c.in_ok-lines.lines.items; configured = configured; config = c.in_ok-lines.ensures.lines };
      devices = map scanner_state c.in-Ok.devices.items;
      of_lines = search rules;
      password = c.in_ok-password.password;
      named = subst (λ seen. IsPasswordIn c.in_ok-plan.plan.password_file seen (g.I.Inputs.seen c.password_of.new.inputs) c.in_ok-password.password) asked c.in_ok-password.ensures.password;
      ends = ends_there c.in_ok-plan.plan c.in-There.remote _ c.in_ok-password.password was now ending at ends;
    })) c.run_net_task.ensures.ended

pub returns-clause-cause : goal.returns-clause-cause
returns-clause-cause g c =
    let at : c.in_ok-plan.plan.location ≡ Here c.in-Here.device = search rules in
    let configured = g.I.Inputs.seen c.config_lines.new.inputs in
    let asked : g.I.Inputs.seen c.scanners.new.inputs ≡ with_calls (calls_of_lines c.in_ok-lines.lines.items) configured = search rules in
    let was : ProgramState = record { inputs = g.I.Inputs.seen c.args.outside.now.inputs; ports = g.H.Dial.ports c.args.outside.now.hosts; outputs = seen_outputs g.O.Write.contents g.E.Write.contents g.N.Write.contents g.S.Shelf.stock c.args.outputs.now } in
    let now : ProgramState = record { inputs = g.I.Inputs.seen c.password_of.new.inputs; ports = g.H.Dial.ports c.args.outside.now.hosts; outputs = seen_outputs g.O.Write.contents g.E.Write.contents g.N.Write.contents g.S.Shelf.stock c.run_task.new.outputs } in
    if_err_of c.run_task.result (λ ending ends. OfTask (record {
      read = record { plan = c.in_ok-plan.plan; is_plan = c.in_ok-plan.ensures.planned; lines = c.in_ok-lines.lines.items; configured = configured; config = c.in_ok-lines.ensures.lines };
      devices = _;
      of_lines = search rules;
      password = c.in_ok-password.password;
      named = subst (λ seen. IsPasswordIn c.in_ok-plan.plan.password_file seen (g.I.Inputs.seen c.password_of.new.inputs) c.in_ok-password.password) asked c.in_ok-password.ensures.password;
      ends = ends_here c.in_ok-plan.plan c.in-Here.device _ _ c.in_ok-password.password was now ending at c.in-Ok-new.ensures.ok refl ends;
    })) c.run_task.ensures.ended
