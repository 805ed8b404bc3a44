-- A file denotes one picture.
use Rattle.std.proofs.Common.{ℕ, List}
use Rattle.netpbm.specs.Picture.{Picture, SamePicture}
use Rattle.netpbm.specs.Pnm.{Denotes}
use Rattle.worked_strangers.specs.Lies.{PictureIsNoStrangers}

pub no_strangers : ((text : List ℕ) (p q : Picture) → Denotes text p → Denotes text q → SamePicture p q) → PictureIsNoStrangers
no_strangers one source xs t w v run k i endpoint reports file picture at task done file_is steady denotes other =
    let f = k.promises.scans i endpoint reports file at task done file_is in
    let m = f.meant steady in
    other f.begin f.later m.picture f.started m.meant (one file picture m.picture denotes m.denotes.denotes)
