-- Rows by numbers, which may be empty.
use Rattle.std.specs.Prelude.{◌≡◌, ◌≢◌, ◌<◌, ℕ, List, Option, Some, None, slice_index_or}
use Rattle.obq_thread.specs.declared.segments.Suspended.{Suspended}

-- the row of this place
abbrev pub row_at : {X : Type 0} → List (Option X) → ℕ → Option X
row_at rows place = slice_index_or rows place None

abbrev pub SameRows : {X : Type 0} → List (Option X) → List (Option X) → Type 0
SameRows old new = (place : ℕ) → row_at new place ≡ row_at old place

-- g has x at this place, and elsewhere what f has
pub record Sets {X : Type 0} (f g : ℕ → X) (place : ℕ) (x : X) : Type 0 where
  pub changed : g place ≡ x
  pub others : (other : ℕ) → other ≢ place → g other ≡ f other

-- there is a row for the thread of each suspended segment
abbrev pub ArePlaced : {W : Type 0} → List (Option (Suspended W)) → ℕ → Type 0
ArePlaced {W} slots rows = (call : ℕ) (e : Suspended W) → row_at slots call ≡ Some e → e.thread.0 < rows

-- g has everywhere what f has
abbrev pub Same : {X : Type 0} → (f g : ℕ → X) → Type 0
Same f g = (place : ℕ) → g place ≡ f place
