-- What the fields of three colors show.
use Rattle.frame_join.specs.declared.planes.Planes.TheInside.{Inside}
use Rattle.frame_join.specs.ColorPlanes.{Planes}

abbrev pub planes_seen : Inside → Planes
planes_seen p = record { red = p.red; green = p.green; blue = p.blue }
