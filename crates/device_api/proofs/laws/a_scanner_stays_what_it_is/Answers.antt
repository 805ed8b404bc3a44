use Rattle.std.proofs.Common.{refl}
use Rattle.device_api.proofs.SameLaws.{set_same, reset_same, cancel_same, start_same, read_same}
use Rattle.device_api.proofs.laws.a_scanner_stays_what_it_is.Goals as goal

pub returns : goal.returns
returns c = record {
  set = λ s n given. set_same s n given;
  reset = λ s. reset_same s;
  cancel = λ s. cancel_same s;
  load = λ s source. record { info = refl; setup = record { kind = refl; order = refl } };
  start = λ s t result h. start_same s t result h;
  read = λ s t result buf h. read_same s t result buf h;
}
