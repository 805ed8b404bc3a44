use Rattle.std.proofs.Common.{◌≡◌, ◌<◌, ◌+◌, ◌*◌, ◌/◌, ◌%◌, get_or, arith, w8}
use Rattle.std.specs.Simd.Lanes.{chunk}
use Rattle.std.proofs.lemmas.Simd.{chunk-fits, below_from_Fits}
use Rattle.vector_lanes.proofs.Lanes.{turned_load, turned_word}
use Rattle.vector_lanes.proofs.words.loaded.Goals as goal

pub returns-clause-lower : goal.returns-clause-lower
returns-clause-lower c i less =
    let bytes = c.args.bytes.now in
    let at = c.args.at in
    let small = below_from_Fits w8 (chunk at 16 bytes) (chunk-fits w8 at 16 bytes c.type_inv.bytes) in
    let first : get_or bytes (at + 2 * i) 0 < 256 = (c.type_inv.bytes (at + 2 * i)).fits in
    let word = turned_word at bytes i c.requires small less in
    let is : get_or (turned_load at bytes) i 0 % 256 ≡ get_or bytes (at + 2 * i) 0 = omega (arith, word, first) in
    is

pub returns-clause-upper : goal.returns-clause-upper
returns-clause-upper c i less =
    let bytes = c.args.bytes.now in
    let at = c.args.at in
    let small = below_from_Fits w8 (chunk at 16 bytes) (chunk-fits w8 at 16 bytes c.type_inv.bytes) in
    let first : get_or bytes (at + 2 * i) 0 < 256 = (c.type_inv.bytes (at + 2 * i)).fits in
    let word = turned_word at bytes i c.requires small less in
    let is : get_or (turned_load at bytes) i 0 / 256 ≡ get_or bytes (at + 2 * i + 1) 0 = omega (arith, word, first) in
    is
