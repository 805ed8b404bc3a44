use Rattle.std.proofs.Common.{◌≡◌, ℕ, List, Some, None, arith, sym, ap, ◌∙◌, option_map, Bor}
use Rattle.std.specs.List.{slice_get}
use Rattle.dispatch.specs.ConfigLines.{fields_of}
use Rattle.saned_cli.proofs.SocketLines.{none_at, some_at, more_at}
use Rattle.saned_cli.proofs.table_fields.field_at.Goals as goal

pub returns-in_err-after : goal.returns-in_err-after
returns-in_err-after c =
    let none : slice_get (fields_of c.args.line.now) c.args.place ≡ None = none_at (fields_of c.args.line.now) c.loop-i._i c.args.place (sym c.loop-i.invariant ∙ c.in_err-after.ensures.none) (omega arith) in
    ap (option_map (λ (field : Bor (List ℕ)). field.now)) c.from_residual.ensures ∙ sym none

pub loop-i-preserved : goal.loop-i-preserved
loop-i-preserved c = sym (more_at (fields_of c.args.line.now) c.loop-i._i c.in_ok-after.field-0-0.now (fields_of c.in_ok-after.after.now) (sym c.loop-i.invariant ∙ c.in_ok-after.ensures.some))

pub returns-in_err-field : goal.returns-in_err-field
returns-in_err-field c =
    let none : slice_get (fields_of c.args.line.now) c.args.place ≡ None = none_at (fields_of c.args.line.now) c.loop-i._i c.args.place (sym c.loop-i.invariant ∙ c.in_err-field.ensures.none) (omega arith) in
    ap (option_map (λ (field : Bor (List ℕ)). field.now)) c.from_residual-in_err-field.ensures ∙ sym none

pub returns : goal.returns
returns c =
    let place : c.loop-i._i ≡ c.args.place = omega arith in
    let some : slice_get (fields_of c.args.line.now) c.loop-i._i ≡ Some c.in_ok-field.field.now = some_at (fields_of c.args.line.now) c.loop-i._i c.in_ok-field.field.now (fields_of c.in_ok-field.field-0-1.now) (sym c.loop-i.invariant ∙ c.in_ok-field.ensures.some) in
    sym (ap (slice_get (fields_of c.args.line.now)) (sym place) ∙ some)
