-- Room for a tree: under these binders, with so many codes before it, no number in its code has more than 32 bits.
use Rattle.std.proofs.Common.{List, None, Option, Some, [], ap, ap₂, arith, length, refl, ℕ, ◌+◌, ◌<◌, ◌≡◌, ◌≤◌, ◌∷◌}
use Rattle.std.proofs.Math.Nat.{min-eq_left}
use Rattle.obq_base.specs.declared.code.Slot.{Slot}
use Rattle.obq_base.specs.declared.code.Slot.TheVariants as s
use Rattle.obq_model.specs.Scopes.{Outside, last_place, slot_of, slot_or, slots_of}
use Rattle.obq_model.proofs.Places.{place_below}
use Rattle.obq_names.proofs.Unions.{Names}
use Rattle.obq_scope.specs.declared.output.Output.{Output}
use Rattle.obq_scope.specs.Narrowed.{found_slot, found_slots, narrowed}

pub record Room (o : Outside) (locals : Names) (out : Output) (size : ℕ) : Type 0 where
  pub room : length locals + length out.codes + size < 4294967296
  pub members : length o.members < 4294967296
  pub captured : length o.captured < 4294967296

pub narrow_at : (k : ℕ) → k < 4294967296 → narrowed k ≡ k
unfolding narrowed
narrow_at k lt = let le : k ≤ 4294967295 = omega (arith, lt) in min-eq_left le

place_at : (make : ℕ → Slot) (x : List ℕ) (names : Names) (a b : Slot) → length names < 4294967296 → a ≡ b → slot_or (λ k. make (narrowed k)) (last_place x names) a ≡ slot_or make (last_place x names) b
place_at make x names a b few same = row (last_place x names) refl where
  row : (found : Option ℕ) → last_place x names ≡ found → slot_or (λ k. make (narrowed k)) found a ≡ slot_or make found b
  row None e = same
  row (Some k) e = let below = place_below 0 x names k e in ap make (narrow_at k (omega (arith, below, few)))

pub slot_at : {o : Outside} {locals : Names} {out : Output} {size : ℕ} → Room o locals out size → (x : List ℕ) → found_slot o locals x ≡ slot_of o locals x
slot_at {o} {locals} r x =
    let room = r.room in
    place_at s.Local x locals _ _ (omega (arith, room)) (place_at s.Member x o.members _ _ r.members (place_at s.Captured x o.captured _ _ r.captured refl))

pub slots_at : {o : Outside} {locals : Names} {out : Output} {size : ℕ} → Room o locals out size → (names : Names) → found_slots o locals names ≡ slots_of o locals names
slots_at r [] = refl
slots_at r (x ∷ names) = ap₂ (λ a b. a ∷ b) (slot_at r x) (slots_at r names)
