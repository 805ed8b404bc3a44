use Rattle.std.proofs.Common.{◌≡◌, true, false, Some, inl, inr, refl, sym, subst}
use Rattle.saned_serve.specs.declared.sockets.Got.TheVariants.{Nothing}
use Rattle.saned_serve.specs.Inside.{SendsIn}
use Rattle.saned_serve.proofs.link.send_records.Goals as goal

pub returns-in-Some : goal.returns-in-Some
returns-in-Some g c = record {
  link = refl;
  sends = subst (λ i. SendsIn g.C.Socket.history c.write_to.result i c.args.link.now.records (Some c.write_to.new.conn) c.write_to.new.self) (sym c.in-Some.is)
      (inr ((λ none. let wrong : false ≡ true = c.if-not-is_empty.ensures.1 none in cc), c.write_to.new.conn, refl, c.write_to.ensures.told, c.write_to.ensures.rest));
}

pub returns-in_default : goal.returns-in_default
returns-in_default g c = record {
  link = refl;
  sends = subst (λ i. SendsIn g.C.Socket.history Nothing i c.args.link.now.records (Some c.in-Some.conn) c.args.link.now.records) (sym c.in-Some.is) (inl (c.if-not-is_empty.ensures.0 refl, refl, refl, refl));
}

pub returns-in_default-2 : goal.returns-in_default-2
returns-in_default-2 g c = record {
  link = refl;
  sends = subst (λ i. SendsIn g.C.Socket.history Nothing i c.args.link.now.records c.args.link.now.image c.args.link.now.records) (sym c.in_default.is) (refl, c.in_default.is, refl);
}
