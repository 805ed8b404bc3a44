use Rattle.std.proofs.Common.{◌≡◌, ℕ, zero, suc, None, IsSome, All, [], ◌∷◌, refl, sym, subst, arith, rules}
use Rattle.std.proofs.lemmas.List.Elements.{All-append}
use Rattle.saned_serve.specs.Inside.{link_at, HasRooms}
use Rattle.saned_serve.specs.declared.link_slots.LinkSlot.{LinkSlot}
use Rattle.saned_serve.proofs.SlotGreeting.{link_at_empty}
use Rattle.saned_serve.proofs.link_slots.link_slots.Goals as goal

one_roomed : {C : Type 0} (slot : LinkSlot C) → IsSome slot.rooms → All HasRooms (slot ∷ [])
one_roomed slot some zero d few = λ none. some
one_roomed slot some (suc k) d few = absurd (omega (arith, few))

pub loop-i-preserved : goal.loop-i-preserved
loop-i-preserved g c = record {
  empty = subst (λ xs. (j : ℕ) → link_at xs j ≡ None) (sym c.push_reserved.ensures.items) (link_at_empty c.loop-i.slots.items _ refl c.loop-i.invariant.empty);
  roomed = subst (λ xs. All HasRooms xs) (sym c.push_reserved.ensures.items) (All-append HasRooms c.loop-i.slots.items _ c.loop-i.invariant.roomed (one_roomed _ (search rules)));
  left = search rules;
  room = search rules;
  len = search rules;
}
