-- What putting values in, reading with values, and depths do to one another.
use Rattle.std.specs.Prelude.{List, false, true, ℕ, ◌≡◌, ◌≤◌}
use Rattle.obq_model.specs.Terms.{Bytes, Value, Term, Under, Parts}
use Rattle.obq_model.specs.Put.{put, enter, put_members}
use Rattle.obq_model.specs.Depth.{deepest}
use Rattle.obq_model.specs.Reading.{Env, hide, read, also, occurs, with_all, with_members, depth_of}

-- a value put in is one more value to read with
abbrev pub PutRead : Type 0 → Type 0
PutRead R = (t : Term R) (env : Env R) (v : Value R) (x : Bytes) → put v x (read env t) ≡ read (also env x v) t

-- after a value was put in for a name, nothing is left to put in for it
abbrev pub PutTwice : Type 0 → Type 0
PutTwice R = (v w : Value R) (x : Bytes) (t : Term R) → put v x (put w x t) ≡ put w x t

-- values for two names may be put in in either order
abbrev pub PutCommute : Type 0 → Type 0
PutCommute R = (v w : Value R) (x y : Bytes) → (x ≡ y → ⊥) → (t : Term R) → put v x (put w y t) ≡ put w y (put v x t)

-- a part under names that is read and entered is read with the values
abbrev pub EnterRead : Type 0 → Type 0
EnterRead R = (vs : List (Value R)) (env : Env R) (names : List Bytes) (t : Term R) → enter vs (read env (Under names t)) ≡ read (with_all vs names (hide names env)) t

-- a group whose members are put in is read with them
abbrev pub MembersRead : Type 0 → Type 0
MembersRead R = (names : List Bytes) (group : Parts R) (i : ℕ) (xs : List Bytes) (env : Env R) (t : Term R) → put_members names group i xs (read env t) ≡ read (with_members names group i xs env) t

-- values for the names that occur are enough: a closure need capture no other
abbrev pub AgreeRead : Type 0 → Type 0
AgreeRead R = (t : Term R) (env env2 : Env R) → ((x : Bytes) → occurs x t ≡ true → env x ≡ env2 x) → read env t ≡ read env2 t

-- putting in for a name that doesn't occur changes nothing
abbrev pub PutFresh : Type 0 → Type 0
PutFresh R = (t : Term R) (v : Value R) (x : Bytes) → occurs x t ≡ false → put v x t ≡ t

-- the depth of a term that is read is the greatest of its own and those of the values of the names that occur
abbrev pub DepthAtMost : Type 0 → Type 0
DepthAtMost R = (t : Term R) (env : Env R) (m : ℕ) → deepest t ≤ m → ((x : Bytes) → occurs x t ≡ true → depth_of (env x) ≤ m) → deepest (read env t) ≤ m

-- reading lessens no depth
abbrev pub DepthOwn : Type 0 → Type 0
DepthOwn R = (t : Term R) (env : Env R) → deepest t ≤ deepest (read env t)

-- the depth of the value of a name that occurs is in the depth of the term that is read
abbrev pub DepthAtLeast : Type 0 → Type 0
DepthAtLeast R = (t : Term R) (env : Env R) (x : Bytes) → occurs x t ≡ true → depth_of (env x) ≤ deepest (read env t)
