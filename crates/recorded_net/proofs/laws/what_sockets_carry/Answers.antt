use Rattle.std.proofs.Common.{◌∙◌, sym, ap, subst}
use Rattle.saned_serve.specs.Journal.{listener_trace_after}
use Rattle.saned_serve.proofs.Summing.{was_left}
use Rattle.recorded_net.proofs.Back.{IsIn, begun_told}
use Rattle.recorded_net.proofs.Carries.{carried, in_of_split, kept}
use Rattle.recorded_net.proofs.laws.what_sockets_carry.Goals as goal

pub returns : goal.returns
returns c = λ limits was now end served listened began told.
    let ends = sym served.leads.net ∙ told in
    let begins = begun_told served.journal was.listeners listened began ends in
    let shows = ap (λ t. listener_trace_after served.journal t) (sym begins) ∙ ends in
    record {
      each = λ calls back. carried served.journal listened served.leads.is_journal shows calls
          (subst (λ l. IsIn calls l) (sym back.2) (in_of_split back.0 back.1 calls));
      all = λ id port opened.
          let left = was_left served.journal id port served.leads.is_journal opened (served.over.gone id) in
          kept served.journal listened id left.port left.trace served.leads.is_journal shows left.held;
    }
