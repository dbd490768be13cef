-- What the numbers of closed groups stand for: each for one group, at every site and in every frame.
use Rattle.std.specs.Prelude.{◌≡◌, ◌≤◌, ◌+◌, ℕ, ℤ, Bool, List, [], ◌∷◌}
use Rattle.std.specs.List.{AllByRecursion}
use Rattle.obq_base.specs.declared.limits.TheConstants.{CLOSURE_LIMIT}
use Rattle.obq_base.specs.declared.places.Ref.{Ref}
use Rattle.obq_base.specs.declared.places.SiteId.{SiteId}
use Rattle.obq_base.specs.declared.places.ThreadId.{ThreadId}
use Rattle.obq_base.specs.declared.values.Group.{Group}
use Rattle.obq_base.specs.declared.values.Value.{Value}
use Rattle.obq_base.specs.declared.values.Value.TheVariants as v
use Rattle.obq_marshal.specs.Groups.{Cached, greatest_depth}

-- the group of a thread's number
abbrev pub Meaning : Type 0
Meaning = ℕ → ℕ → Group

-- Each group that the values need is the one that its number stands for. Its depth is one more than the greatest among what it
-- captured, and within the limit.
pub data AreMeant (meaning : Meaning) : List Value → Type 0 where
  nothing : AreMeant meaning []
  int : (z : ℤ) (xs : List Value) → AreMeant meaning xs → AreMeant meaning (v.Int z ∷ xs)
  truth : (t : Bool) (xs : List Value) → AreMeant meaning xs → AreMeant meaning (v.Bool t ∷ xs)
  okay : (xs : List Value) → AreMeant meaning xs → AreMeant meaning (v.Okay ∷ xs)
  text : (t : List ℕ) (xs : List Value) → AreMeant meaning xs → AreMeant meaning (v.Text t ∷ xs)
  exception : (t : List ℕ) (xs : List Value) → AreMeant meaning xs → AreMeant meaning (v.Exn t ∷ xs)
  closure : (g : Group) (member : ℕ) (xs : List Value) → meaning g.number.thread g.number.n ≡ g → g.depth ≡ greatest_depth g.captured + 1 → g.depth ≤ CLOSURE_LIMIT
      → AreMeant meaning g.captured → AreMeant meaning xs → AreMeant meaning (v.Clo g member ∷ xs)
  reference : (r : Ref) (xs : List Value) → AreMeant meaning xs → AreMeant meaning (v.Ref r ∷ xs)
  thread : (t : ThreadId) (home : SiteId) (xs : List Value) → AreMeant meaning xs → AreMeant meaning (v.Thread t home ∷ xs)

-- each cached group is the one that its number stands for
abbrev pub Agrees : Meaning → Cached → Type 0
Agrees meaning cache = AllByRecursion (λ c. c.1 ≡ meaning c.0.0 c.0.1) cache
