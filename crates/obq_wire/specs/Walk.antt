-- What the walk over a table keeps: entries that were begun, from the outermost on, each with the indices that it still needs.
use Rattle.std.specs.Prelude.{◌≡◌, ◌≢◌, ◌<◌, ℕ, zero, suc, true, false, List, [], ◌∷◌, ◌++◌, drop, Option, Some, None, fold}
use Rattle.std.specs.List.{AllByRecursion}
use Rattle.obq_wire.specs.declared.order.Begun.{Begun}
use Rattle.obq_wire.specs.declared.order.Next.{Next}
use Rattle.obq_wire.specs.declared.order.Next.TheVariants as next
use Rattle.obq_wire.specs.declared.order.Reached.{Reached}
use Rattle.obq_wire.specs.declared.order.Reached.TheVariants as reached
use Rattle.obq_wire.specs.declared.values.TableEntry.{TableEntry}
use Rattle.obq_wire.specs.Order.{captured_at, entry_needs, is_needed_there, needs, placed}

-- the numbers below this one
abbrev pub numbers_below : ℕ → List ℕ
numbers_below zero = []
numbers_below (suc n) = numbers_below n ++ n ∷ []

-- each entry needs earlier ones
abbrev pub NeedsEarlier : List TableEntry → Type 0
NeedsEarlier table = (i : ℕ) → AllByRecursion (λ j. j < i) (entry_needs table i)

-- an entry that was begun needs these still
abbrev pub still_needs : List TableEntry → Begun → List ℕ
still_needs table b = needs (drop b.next (captured_at table b.index))

abbrev pub IsBegun : List TableEntry → Begun → Type 0
IsBegun table b = AllByRecursion (λ j. j < b.index) (still_needs table b)

-- the indices behind those that are placed, once an entry is done
abbrev pub done : List TableEntry → List ℕ → Begun → List ℕ
done table so_far b = fold (placed table b.index) so_far (still_needs table b) ++ b.index ∷ []

-- once all are, the innermost first
abbrev pub all_done : List TableEntry → List Begun → List ℕ → List ℕ
all_done table [] so_far = so_far
all_done table (b ∷ bs) so_far = done table (all_done table bs so_far) b

-- the indices are those below n, and then another than n
abbrev pub HasOther : ℕ → List ℕ → Type 0
HasOther n order = (i : ℕ) × (more : List ℕ) × (order ≡ numbers_below n ++ (i ∷ more)) × (i ≢ n)

-- what an entry needs next
abbrev pub IsNext : List TableEntry → Begun → Next → Type 0
IsNext table b next.Nothing = still_needs table b ≡ []
IsNext table b (next.Other after) = (after.index ≡ b.index) × (still_needs table after ≡ still_needs table b)
IsNext table b (next.Index i after) = (after.index ≡ b.index) × (still_needs table b ≡ i ∷ still_needs table after)

-- one step, of the innermost entry that was begun
abbrev pub Steps : List TableEntry → List Begun → Begun → ℕ → List Begun → Option ℕ → Type 0
Steps table before b count after None = HasOther count (all_done table (before ++ b ∷ []) (numbers_below count))
Steps table before b count after (Some n) =
    (all_done table after (numbers_below n) ≡ all_done table (before ++ b ∷ []) (numbers_below count)) × AllByRecursion (IsBegun table) after

-- where the indices of a list are those below n; or those below n, and then another
abbrev pub Reaches : List ℕ → Reached → Type 0
Reaches order (reached.All n) = order ≡ numbers_below n
Reaches order (reached.Other n) = HasOther n order

-- the first place at which another index is needed, or none
pub record IsAgreement (order : List ℕ) (n : ℕ) : Type 0 where
  pub below : (k : ℕ) → k < n → is_needed_there order k ≡ true
  pub there : is_needed_there order n ≡ false
