-- What the fields of a color show.
use Rattle.frame_join.specs.declared.planes.Plane.TheInside.{Inside}
use Rattle.frame_join.specs.ColorPlanes.{Plane}

abbrev pub plane_seen : Inside → Plane
plane_seen p = record { line = p.line; bytes = p.bytes.items }
