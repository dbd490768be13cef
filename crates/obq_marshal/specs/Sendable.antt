-- Which values a frame can carry.
use Rattle.std.specs.Prelude.{◌≡◌, ◌≤◌, ◌<◌, ◌+◌, ◌^◌, ℕ, ℤ, Bool, List, [], ◌∷◌, length, FitsSigned}
use Rattle.std.specs.Int.{w64}
use Rattle.obq_base.specs.declared.limits.TheConstants.{CLOSURE_LIMIT}
use Rattle.obq_base.specs.declared.places.Ref.{Ref}
use Rattle.obq_base.specs.declared.places.SiteId.{SiteId}
use Rattle.obq_base.specs.declared.places.ThreadId.{ThreadId}
use Rattle.obq_base.specs.declared.values.Group.{Group}
use Rattle.obq_base.specs.declared.values.Value.{Value}
use Rattle.obq_base.specs.declared.values.Value.TheVariants as v
use Rattle.obq_wire.specs.Fits.{IsCodeNumber, IsGroupNumber, IsList, IsReference, IsSite, IsText, IsThread}
use Rattle.obq_marshal.specs.Groups.{greatest_depth}
use Rattle.obq_marshal.specs.Meaning.{Meaning}

-- the group is the one that its number stands for, its depth is right, and its fields are in their ranges
pub record IsGroupOf (meaning : Meaning) (g : Group) : Type 0 where
  pub meant : meaning g.number.thread g.number.n ≡ g
  pub deep : g.depth ≡ greatest_depth g.captured + 1
  pub limit : g.depth ≤ CLOSURE_LIMIT
  pub number : IsGroupNumber g.number
  pub codes : IsList IsCodeNumber g.codes
  pub count : length g.captured < 2 ^ 32

-- each value is in its range, and so are the groups that the values need
pub data AreSendable (meaning : Meaning) : List Value → Type 0 where
  nothing : AreSendable meaning []
  int : (z : ℤ) (xs : List Value) → FitsSigned w64 z → AreSendable meaning xs → AreSendable meaning (v.Int z ∷ xs)
  truth : (t : Bool) (xs : List Value) → AreSendable meaning xs → AreSendable meaning (v.Bool t ∷ xs)
  okay : (xs : List Value) → AreSendable meaning xs → AreSendable meaning (v.Okay ∷ xs)
  text : (t : List ℕ) (xs : List Value) → IsText t → AreSendable meaning xs → AreSendable meaning (v.Text t ∷ xs)
  exception : (t : List ℕ) (xs : List Value) → IsText t → AreSendable meaning xs → AreSendable meaning (v.Exn t ∷ xs)
  closure : (g : Group) (member : ℕ) (xs : List Value) → IsGroupOf meaning g → member < length g.codes → AreSendable meaning g.captured → AreSendable meaning xs
      → AreSendable meaning (v.Clo g member ∷ xs)
  reference : (r : Ref) (xs : List Value) → IsReference r → AreSendable meaning xs → AreSendable meaning (v.Ref r ∷ xs)
  thread : (t : ThreadId) (home : SiteId) (xs : List Value) → IsThread t → IsSite home → AreSendable meaning xs → AreSendable meaning (v.Thread t home ∷ xs)
