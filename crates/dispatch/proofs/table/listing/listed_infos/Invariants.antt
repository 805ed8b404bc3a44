use Rattle.std.proofs.Common.{◌≡◌, ◌++◌, drop}
use Rattle.dispatch.specs.Table.{listed_infos}
use Rattle.dispatch.proofs.table.listing.listed_infos.Given as goal

abbrev pub invariant-loop-place : goal.invariant-loop-place
invariant-loop-place g l = l.infos.items ++ listed_infos (drop l.place-index l.places) ≡ listed_infos l.places
