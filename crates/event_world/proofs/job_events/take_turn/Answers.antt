use Rattle.std.proofs.Common.{◌≡◌, ◌∙◌, ℕ, List, true, false, rules, min, take, length, sym, ap, subst}
use Rattle.std.proofs.lemmas.List.{take_min}
use Rattle.saned_core.specs.declared.session_slot.DataStep.TheVariants.{Bytes, Last}
use Rattle.saned_core.specs.DaemonStates.{core}
use Rattle.event_world.specs.JobEvents.{SendsRecord}
use Rattle.event_world.proofs.job_events.take_turn.Goals as goal

-- the buffer is as long as it was
front : (n m size : ℕ) (buf : List ℕ) → length buf ≡ size → m ≡ min n size → take m buf ≡ take n buf
front n m size buf long e = ap (λ (k : ℕ). take k buf) (e ∙ ap (λ (k : ℕ). min n k) (sym long)) ∙ take_min n buf

pub returns-in-Bytes : goal.returns-in-Bytes
returns-in-Bytes g c =
    let mid = core g.D.Device.state c.data_turn.new.self in
    let buf = c.data_turn.new.buf in
    record {
      step = Bytes c.in-Bytes.n;
      buf = buf;
      mid = mid;
      turns = c.in-Bytes.ensures;
      sends = subst (λ (l : List ℕ). SendsRecord c.args.id.number l false mid c.args.endpoint.now (core g.D.Device.state c.send.new.daemon) c.send.new.endpoint) (front c.in-Bytes.n c.min.result 65540 buf (search rules) c.min.ensures) c.send.ensures;
    }

pub returns-in-Last : goal.returns-in-Last
returns-in-Last g c =
    let mid = core g.D.Device.state c.data_turn.new.self in
    let buf = c.data_turn.new.buf in
    record {
      step = Last c.in-Last.n;
      buf = buf;
      mid = mid;
      turns = c.in-Last.ensures;
      sends = subst (λ (l : List ℕ). SendsRecord c.args.id.number l true mid c.args.endpoint.now (core g.D.Device.state c.send-in-Last.new.daemon) c.send-in-Last.new.endpoint) (front c.in-Last.n c.min-in-Last.result 65540 buf (search rules) c.min-in-Last.ensures) c.send-in-Last.ensures;
    }
