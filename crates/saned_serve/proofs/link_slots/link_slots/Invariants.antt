use Rattle.std.proofs.Common.{ℕ, ◌≡◌, ◌≤◌, ◌+◌, None, All, vec_len, vec_capacity}
use Rattle.saned_serve.specs.Inside.{link_at, HasRooms}
use Rattle.saned_serve.proofs.link_slots.link_slots.Given as goal

abbrev pub invariant-loop-i : goal.invariant-loop-i
invariant-loop-i g l = record {
  empty : (j : ℕ) → link_at l.slots.items j ≡ None;
  left : vec_len l.rooms + l._i ≡ 8;
  room : 8 ≤ vec_capacity l.slots;
  roomed : All HasRooms l.slots.items;
  len : vec_len l.slots ≡ l._i;
}
