use Rattle.std.proofs.Common.{◌≡◌, ◌∙◌, ap, sym, List, Some, None}
use Rattle.dispatch.specs.declared.table.place.Place.{Place}
use Rattle.dispatch.specs.Table.{find_name, is_named}
use Rattle.std.proofs.lemmas.List.Quantifiers.{position-Some}
use Rattle.dispatch.proofs.Loads.{load_unknown, after_load_unknown, load_answer_is, after_load_is}
use Rattle.dispatch.proofs.registry.Registry.load.Goals as goal

pub returns-in_default-clause-answer : goal.returns-in_default-clause-answer
returns-in_default-clause-answer g c =
    let none : find_name c.args.name.now c.args.self.now ≡ None = sym (c.find_name.ensures ∙ ap (λ (ps : List (Place g.row.D.Denot)). find_name c.args.name.now ps) (c.deref.ensures.value ∙ c.self.view_is)) ∙ c.in_default.is in
    sym (load_unknown g.D.Device.state c.args.self.now c.args.name.now none)

pub returns-in_default-clause-after : goal.returns-in_default-clause-after
returns-in_default-clause-after g c =
    let none : find_name c.args.name.now c.args.self.now ≡ None = sym (c.find_name.ensures ∙ ap (λ (ps : List (Place g.row.D.Denot)). find_name c.args.name.now ps) (c.deref.ensures.value ∙ c.self.view_is)) ∙ c.in_default.is in
    sym (after_load_unknown g.D.Device.state c.args.self.now c.args.name.now _ none)

pub returns-clause-answer : goal.returns-clause-answer
returns-clause-answer g c =
    let found : find_name c.args.name.now c.args.self.now ≡ Some c.in-Some.k = sym (c.find_name.ensures ∙ ap (λ (ps : List (Place g.row.D.Denot)). find_name c.args.name.now ps) (c.deref.ensures.value ∙ c.self.view_is)) ∙ c.in-Some.is in
    c.load_slot.ensures.answer ∙ sym (load_answer_is g.D.Device.state c.args.self.now c.args.name.now c.in-Some.k c.index_mut.result.now found (position-Some (is_named c.args.name.now) c.args.self.now c.in-Some.k c.index_mut.result.now found).0 (rw (← c.self.view_is) c.index_mut.ensures.value))

pub returns-clause-after : goal.returns-clause-after
returns-clause-after g c =
    let found : find_name c.args.name.now c.args.self.now ≡ Some c.in-Some.k = sym (c.find_name.ensures ∙ ap (λ (ps : List (Place g.row.D.Denot)). find_name c.args.name.now ps) (c.deref.ensures.value ∙ c.self.view_is)) ∙ c.in-Some.is in
    rw (← c.self.view_is) (after_load_is g.D.Device.state c.self.inside.places.items c.args.name.now c.in-Some.k c.index_mut.result.now c.load_slot.new.slot _ (rw c.self.view_is found) c.index_mut.ensures.value c.load_slot.ensures.after)
