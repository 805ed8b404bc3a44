use Rattle.std.proofs.Common.{◌∙◌, ap, sym, List, is_some}
use Rattle.dispatch.specs.declared.table.place.Place.{Place}
use Rattle.dispatch.specs.Table.{find_name}
use Rattle.dispatch.proofs.Tables.{find_name-table}
use Rattle.dispatch.proofs.registry.Registry.lists.Goals as goal

pub returns-in-Some : goal.returns-in-Some
returns-in-Some g c = sym (ap is_some (find_name-table g.D.Device.state c.args.name.now c.args.self.now ∙ sym (c.find_name-place.ensures ∙ ap (λ (ps : List (Place g.row.D.Denot)). find_name c.args.name.now ps) (c.deref.ensures.value ∙ c.self.view_is)) ∙ c.in-Some.is))

pub returns-in-None : goal.returns-in-None
returns-in-None g c = sym (ap is_some (find_name-table g.D.Device.state c.args.name.now c.args.self.now ∙ sym (c.find_name-place.ensures ∙ ap (λ (ps : List (Place g.row.D.Denot)). find_name c.args.name.now ps) (c.deref.ensures.value ∙ c.self.view_is)) ∙ c.in-None.is))
