-- The threads of a site that read back, with one of them changed.
use Rattle.std.specs.Prelude.{List, Option, Some, None, [], ◌∷◌, ◌++◌, ℕ, length, slice_get, slice_set, refl, ◌<◌, ◌≡◌, ◌⊎◌}
use Rattle.std.proofs.Common.{inl, inr, ap, sym, subst}
use Rattle.obq_model.proofs.Slices.{push_other, push_same, set_other, set_same}
use Rattle.obq_stands.specs.World.{with_at, Slot}
use Rattle.obq_stands.proofs.Update.{same_or, with_at_same, with_at_other}
use Rattle.obq_world.specs.declared.slots.ThreadSlot.{ThreadSlot}
use Rattle.obq_world.specs.Entries.{new_slot}
use Rattle.obq_world.specs.Meaning.{Meaning}
use Rattle.obq_world.specs.State.{used_in, SegmentReads, ThreadReads, ThreadsRead}

-- the segment of a thread with a window, and the window of one with a segment
pub record Running {C W S : Type 0} (m : Meaning C W S) (used : ℕ) (x : W) (r : Option Slot) : Type 0 where
  pub slot : Slot
  pub here : r ≡ Some slot
  pub segment : SegmentReads m used x slot

pub running : {C W S : Type 0} (m : Meaning C W S) (used : ℕ) (o : Option W) (r : Option Slot) (x : W) → ThreadReads m used o r → o ≡ Some x → Running m used x r
running m used None None x h e = absurd (cc e)
running m used (Some y) (Some slot) x h e = let same : y ≡ x = cc e in record { slot = slot; here = refl; segment = subst (λ v. SegmentReads m used v slot) same h }
running m used (Some y) None x h e = absurd h
running m used None (Some slot) x h e = absurd h

pub windowed : {C W S : Type 0} (m : Meaning C W S) (used : ℕ) (o : Option W) (r : Option Slot) (slot : Slot) → ThreadReads m used o r → r ≡ Some slot → (x : W) × (o ≡ Some x)
windowed m used None None slot h e = absurd (cc e)
windowed m used (Some y) (Some other) slot h e = (y, refl)
windowed m used (Some y) None slot h e = absurd h
windowed m used None (Some other) slot h e = absurd h

-- the threads with another window and segment of thread t
pub changes : {C W S : Type 0} (m : Meaning C W S) (slots slots2 : List ThreadSlot) (ws : ℕ → Option W) (rs : ℕ → Option Slot) (t : ℕ) (o : Option W) (r : Option Slot)
    → ThreadsRead m slots ws rs → ((u : ℕ) → (u ≡ t → ⊥) → used_in (slice_get slots2 u) ≡ used_in (slice_get slots u)) → ThreadReads m (used_in (slice_get slots2 t)) o r
    → ThreadsRead m slots2 (with_at ws t o) (with_at rs t r)
changes m slots slots2 ws rs t o r old others new u = by (same_or u t)
  where
    by : ((u ≡ t) ⊎ (u ≡ t → ⊥)) → ThreadReads m (used_in (slice_get slots2 u)) (with_at ws t o u) (with_at rs t r u)
    by (inl p) = rw (p, with_at_same ws t o, with_at_same rs t r) new
    by (inr ne) = rw (with_at_other ws t o u ne, with_at_other rs t r u ne, others u ne) (old u)

-- it has used other turns
pub moves : {C W S : Type 0} (m : Meaning C W S) (slots : List ThreadSlot) (ws : ℕ → Option W) (rs : ℕ → Option Slot) (t : ℕ) (x : ThreadSlot) (o : Option W) (r : Option Slot)
    → ThreadsRead m slots ws rs → t < length slots → ThreadReads m x.used o r → ThreadsRead m (slice_set slots t x) (with_at ws t o) (with_at rs t r)
moves m slots ws rs t x o r old lt new =
    changes m slots (slice_set slots t x) ws rs t o r old (λ u ne. ap used_in (set_other slots t x u ne)) (subst (λ n. ThreadReads m n o r) (sym (ap used_in (set_same slots t x lt))) new)

-- there is a thread more
pub adds : {C W S : Type 0} (m : Meaning C W S) (slots : List ThreadSlot) (ws : ℕ → Option W) (rs : ℕ → Option Slot) (o : Option W) (r : Option Slot)
    → ThreadsRead m slots ws rs → ThreadReads m 0 o r → ThreadsRead m (slots ++ new_slot ∷ []) (with_at ws (length slots) o) (with_at rs (length slots) r)
adds m slots ws rs o r old new =
    changes m slots (slots ++ new_slot ∷ []) ws rs (length slots) o r old (λ u ne. ap used_in (push_other slots new_slot u ne)) (subst (λ n. ThreadReads m n o r) (sym (ap used_in (push_same slots new_slot))) new)

-- as these functions are, so are the windows of a site that has them
pub reads_by : {C W S : Type 0} (m : Meaning C W S) (slots : List ThreadSlot) (ws ws2 : ℕ → Option W) (rs rs2 : ℕ → Option Slot) → ((u : ℕ) → ws2 u ≡ ws u) → ((u : ℕ) → rs2 u ≡ rs u)
    → ThreadsRead m slots ws rs → ThreadsRead m slots ws2 rs2
reads_by m slots ws ws2 rs rs2 windows runs old u = rw (windows u, runs u) (old u)
