use Rattle.std.proofs.Common.{rules, ap, subst, map, All, refl, ◌≡◌, ◌∙◌}
use Rattle.std.proofs.lemmas.List.Elements.{All-map}
use Rattle.std.proofs.lemmas.Result.{err_from_is_err_and}
use Rattle.std.specs.Prelude.{string_bytes}
use Rattle.virtual_scanner.specs.Scanners.{scanner_state}
use Rattle.device_api.specs.ScannerLimits.{HasLimits}
use Rattle.config_pages.specs.Devices.{HasNoScanners, calls_of_lines}
use Rattle.config_pages.specs.InputTexts.{with_calls}
use Rattle.saned_core.specs.DaemonStates.{seen_session_slots}
use Rattle.saned_cli.specs.DaemonCauses.{HasItsLines, HasItsScanners}
use Rattle.saned_cli.specs.DaemonCauses.IsDaemonCause.{ByConfig, ByRegistry, ByScanner, ByServing, ByUsers, ByWords}
use Rattle.saned_cli.specs.DaemonInputs.{AreUsersIn, RefusesUsersIn}
use Rattle.saned_cli.proofs.Ends.{if_err_of, on_ok_of}
use Rattle.saned_cli.proofs.daemon_run.run.Goals as goal

pub returns-clause-done : goal.returns-clause-done
returns-clause-done g c =
    let asked : g.I.Inputs.seen c.scanners.new.inputs ≡ with_calls (calls_of_lines c.in_ok-lines.lines.items) (g.I.Inputs.seen c.config_lines.new.inputs) = search rules in
    on_ok_of c.serve_at.result (λ served. record {
      plan = c.in_ok-plan.plan;
      is_plan = c.in_ok-plan.ensures.planned;
      lines = c.in_ok-lines.lines.items;
      configured = g.I.Inputs.seen c.config_lines.new.inputs;
      config = c.in_ok-lines.ensures.lines;
      devices = _;
      of_lines = search rules;
      users = c.in_ok-users.users;
      users_named = subst (λ seen. AreUsersIn c.in_ok-plan.plan.options seen (g.I.Inputs.seen c.users_of.new.inputs) c.in_ok-users.users) asked c.in_ok-users.ensures.users;
      first = _;
      serves = served;
      begun = record {
        registry = c.with_strings-daemon.ensures.registry ∙ c.in-Ok-new.ensures.ok;
        users_are = c.with_strings-daemon.ensures.users;
        strings = c.with_strings-daemon.ensures.strings;
        seed = c.with_strings-daemon.ensures.seed;
        none = ap (seen_session_slots _) c.with_strings-daemon.ensures.none;
        opened = c.with_strings-daemon.ensures.opened;
        names = c.in-Ok-new.ensures.accepted.names;
        few = c.in-Ok-new.ensures.accepted.few;
        limits = subst (λ scanners. All HasLimits (map scanner_state scanners)) c.as_slice-2.ensures.value (All-map HasLimits scanner_state c.as_slice-2.result.now c.ask_limits.ensures);
      };
    }) c.serve_at.ensures.served

pub returns-clause-listens : goal.returns-clause-listens
returns-clause-listens g c = on_ok_of c.serve_at.result (λ listens. record { plan = c.in_ok-plan.plan; is_plan = c.in_ok-plan.ensures.planned; listens = listens }) c.serve_at.ensures.listens

pub returns-in_err-plan-clause-cause : goal.returns-in_err-plan-clause-cause
returns-in_err-plan-clause-cause g c =
    let p = err_from_is_err_and c.from_residual.result c.from_residual.ensures.1 in
    rw (p.1, p.2) (ByWords c.in_err-plan.ensures.refused refl refl)

pub returns-in_err-lines-clause-cause : goal.returns-in_err-lines-clause-cause
returns-in_err-lines-clause-cause g c =
    let p = err_from_is_err_and c.from_residual-in_err-lines.result c.from_residual-in_err-lines.ensures.1 in
    rw (p.1, p.2) (ByConfig c.in_ok-plan.plan c.in_ok-plan.ensures.planned c.in_err-lines.ensures.refused refl)

pub returns-in-Err-clause-cause : goal.returns-in-Err-clause-cause
returns-in-Err-clause-cause g c =
    let configured = g.I.Inputs.seen c.config_lines.new.inputs in
    let same : c.as_slice.result.now ≡ c.in_ok-lines.lines.items = search rules in
    ByScanner (record { plan = c.in_ok-plan.plan; is_plan = c.in_ok-plan.ensures.planned; lines = c.in_ok-lines.lines.items; now = configured; config = c.in_ok-lines.ensures.lines }) c.in-Err.why
    (subst (λ lines. HasNoScanners lines configured (g.I.Inputs.seen c.scanners.new.inputs) c.in-Err.why) same c.in-Err.ensures.fault) c.of_device.ensures refl

pub returns-in_err-users-clause-cause : goal.returns-in_err-users-clause-cause
returns-in_err-users-clause-cause g c =
    let p = err_from_is_err_and c.from_residual-in_err-users.result c.from_residual-in_err-users.ensures.1 in
    let configured = g.I.Inputs.seen c.config_lines.new.inputs in
    let asked : g.I.Inputs.seen c.scanners.new.inputs ≡ with_calls (calls_of_lines c.in_ok-lines.lines.items) configured = search rules in
    rw (p.1, p.2)
    (ByUsers (record {
      read = record { plan = c.in_ok-plan.plan; is_plan = c.in_ok-plan.ensures.planned; lines = c.in_ok-lines.lines.items; now = configured; config = c.in_ok-lines.ensures.lines };
      devices = map scanner_state c.in-Ok.devices.items;
      of_lines = search rules;
    }) (subst (λ seen. RefusesUsersIn c.in_ok-plan.plan.options seen (g.I.Inputs.seen c.users_of.new.inputs) c.in_err-users.field-0.0) asked c.in_err-users.ensures.refused) refl)

pub returns-in_default-clause-cause : goal.returns-in_default-clause-cause
returns-in_default-clause-cause g c =
    let configured = g.I.Inputs.seen c.config_lines.new.inputs in
    let asked : g.I.Inputs.seen c.scanners.new.inputs ≡ with_calls (calls_of_lines c.in_ok-lines.lines.items) configured = search rules in
    ByRegistry (record {
      read = record { plan = c.in_ok-plan.plan; is_plan = c.in_ok-plan.ensures.planned; lines = c.in_ok-lines.lines.items; now = configured; config = c.in_ok-lines.ensures.lines };
      devices = map scanner_state c.in-Ok.devices.items;
      of_lines = search rules;
    }) c.in_ok-users.users (subst (λ seen. AreUsersIn c.in_ok-plan.plan.options seen (g.I.Inputs.seen c.users_of.new.inputs) c.in_ok-users.users) asked c.in_ok-users.ensures.users) _ c.in_default.ensures.fault refl refl

pub returns-clause-cause : goal.returns-clause-cause
returns-clause-cause g c =
    let configured = g.I.Inputs.seen c.config_lines.new.inputs in
    let asked : g.I.Inputs.seen c.scanners.new.inputs ≡ with_calls (calls_of_lines c.in_ok-lines.lines.items) configured = search rules in
    if_err_of c.serve_at.result (λ ending ends. ByServing (record {
      read = record { plan = c.in_ok-plan.plan; is_plan = c.in_ok-plan.ensures.planned; lines = c.in_ok-lines.lines.items; now = configured; config = c.in_ok-lines.ensures.lines };
      devices = map scanner_state c.in-Ok.devices.items;
      of_lines = search rules;
    }) c.in_ok-users.users (subst (λ seen. AreUsersIn c.in_ok-plan.plan.options seen (g.I.Inputs.seen c.users_of.new.inputs) c.in_ok-users.users) asked c.in_ok-users.ensures.users) ends) c.serve_at.ensures.otherwise
