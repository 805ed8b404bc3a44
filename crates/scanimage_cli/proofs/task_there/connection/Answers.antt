use Rattle.std.proofs.Common.{inl, inr, refl}
use Rattle.scanimage_cli.proofs.task_there.connection.Goals as goal

pub returns-in-Ok-clause-called : goal.returns-in-Ok-clause-called
returns-in-Ok-clause-called g c = record {
  at = record { address = c.in-Some.address; port = c.args.port; is_first = c.args.dial_first };
  address = c.in-Some.ensures.known;
  port = refl;
  is_first = refl;
  called = c.in-Ok.ensures;
}

pub returns-in_default-clause-unconnected : goal.returns-in_default-clause-unconnected
returns-in_default-clause-unconnected g c =
    (c.ending_of_loss.ensures, inl ((λ address is. c.address_of.ensures.unknown c.in_default.is address is), refl))

pub returns-in-Err-clause-unconnected : goal.returns-in-Err-clause-unconnected
returns-in-Err-clause-unconnected g c = (
  c.ending_of_loss-in-Err.ensures,
  inr (record {
    at = record { address = c.in-Some.address; port = c.args.port; is_first = c.args.dial_first };
    address = c.in-Some.ensures.known;
    port = refl;
    is_first = refl;
    called = c.in-Err.ensures;
  }),
)
