use Rattle.std.proofs.Common.{◌∙◌, arith, false, refl}
use Rattle.saned_cli.proofs.CallLaws.{same_calls}
use Rattle.saned_cli.proofs.ComerLaws.{have_come, no_more_came, nobody_asked, nobody_yet, one_came}
use Rattle.saned_cli.proofs.data_port.newcomers.Goals as goal

pub loop-i-init : goal.loop-i-init
loop-i-init g c = record {
  come = nobody_yet _ _ _ _ c.in-Ok.ensures.items (same_calls _);
  room = c.in-Ok.ensures.exact;
  len = c.in-Ok.ensures.len;
}

pub loop-i-preserved : goal.loop-i-preserved
loop-i-preserved g c = record {
  come = one_came _ _ _ _ _ _ _ _ _ (record { stream = c.in-Ok-Some.field-0-0.stream; peer = c.in-Ok-Some.field-0-0.peer; is_his = false }) c.in-Ok-Some.field-0-0 c.accept.result c.loop-i.invariant.come c.accept.ensures.told
      (cc) c.push_reserved.ensures.items refl refl refl refl;
  room = c.push_reserved.ensures.capacity ∙ c.loop-i.invariant.room;
  len = omega (arith, c.push_reserved.ensures.len, c.loop-i.invariant.len);
}

pub returns : goal.returns
returns g c = have_come _ _ _ _ _ _ _ c.loop-i.invariant.come (omega arith) refl

pub returns-in_default : goal.returns-in_default
returns-in_default g c = nobody_asked _ _ _ _ c.new.ensures.items (same_calls _)

pub returns-in_default-accept : goal.returns-in_default-accept
returns-in_default-accept g c = no_more_came _ _ _ _ _ _ _ c.accept.result c.loop-i.invariant.come c.accept.ensures.told (λ it e. cc) (omega arith)

pub returns-in_default-accept-2 : goal.returns-in_default-accept-2
returns-in_default-accept-2 g c = no_more_came _ _ _ _ _ _ _ c.accept.result c.loop-i.invariant.come c.accept.ensures.told (λ it e. cc) (omega arith)
