-- What a machine over slots needs of reading: entering, capturing, depths.
use Rattle.std.specs.Prelude.{Bool, List, None, Option, Some, T, [], false, if◌then◌else◌, max, not, refl, suc, true, ℕ, ◌&&◌, ◌||◌, ◌∷◌, ◌≡◌, ◌≤◌}
use Rattle.std.proofs.lemmas.Slice.Eq.{bytes_eq-Decides}
use Rattle.std.proofs.Common.{subst, ap, sym, ◌∙◌, arith}
use Rattle.obq_model.specs.Terms.{Bytes, Object, Variable, Value, Member, Loc, Term, Const, Name, Under, Form, Parts, End, Part}
use Rattle.obq_model.specs.Put.{among, occurrence, put, put_parts, put_all}
use Rattle.obq_model.specs.Depth.{deepest, deepest_of, depth_in}
use Rattle.obq_model.specs.Reading.{Env, hide, name_or, read, read_parts, occurs, occurs_in, with_all, with_members, depth_of}
use Rattle.obq_model.specs.Substitution.{EnterRead, MembersRead}
use Rattle.obq_model.proofs.PutRead.{put_read}

put_all_read : {R : Type 0} → (vs : List (Value R)) (xs : List Bytes) (env : Env R) (t : Term R) → put_all vs xs (read env t) ≡ read (with_all vs xs env) t
put_all_read [] xs env t = refl
put_all_read (v ∷ vs) [] env t = refl
put_all_read (v ∷ vs) (x ∷ xs) env t = ap (put v x) (put_all_read vs xs env t) ∙ put_read t (with_all vs xs env) v x

pub enter_read : {R : Type 0} → EnterRead R
enter_read vs env names t = put_all_read vs names (hide names env) t

pub members_read : {R : Type 0} → MembersRead R
members_read names group i [] env t = refl
members_read names group i (x ∷ xs) env t =
    ap (put (Member names group i) x) (members_read names group (suc i) xs env t) ∙ put_read t (with_members names group (suc i) xs env) (Member names group i) x

or_left : (a b : Bool) → a ≡ true → (a || b) ≡ true
or_left true b e = refl
or_left false b e = absurd (false_true e)
  where
    false_true : false ≡ true → ⊥
    false_true q = subst T (sym q) tt

or_right : (a b : Bool) → b ≡ true → (a || b) ≡ true
or_right true b e = refl
or_right false b e = e

or_none : (a b : Bool) → (a || b) ≡ false → (a ≡ false) × (b ≡ false)
or_none true b e = absurd (subst T e tt)
or_none false b e = (refl, e)

under_occurs : {R : Type 0} → (x : Bytes) (names : List Bytes) (t : Term R) → among x names ≡ false → occurs x t ≡ true → occurs x (Under names t) ≡ true
under_occurs x names t q i = ap (λ c. not c && occurs x t) q ∙ i

mutual
  pub agree_read : {R : Type 0} → (t : Term R) (env env2 : Env R) → ((x : Bytes) → occurs x t ≡ true → env x ≡ env2 x) → read env t ≡ read env2 t
  agree_read (Const v) env env2 h = refl
  agree_read (Name y) env env2 h = ap (name_or y) (h y ((bytes_eq-Decides y y).1 refl))
  agree_read {R} (Under names t) env env2 h = ap (Under names) (agree_read t (hide names env) (hide names env2) (λ x i. hidden x (among x names) refl i))
    where
      hidden : (x : Bytes) (c : Bool) → among x names ≡ c → occurs x t ≡ true → (if c then None else env x) ≡ (if c then None else env2 x)
      hidden x true q i = refl
      hidden x false q i = h x (under_occurs x names t q i)
  agree_read (Form k parts) env env2 h = ap (Form k) (agree_read_parts parts env env2 h)

  pub agree_read_parts : {R : Type 0} → (parts : Parts R) (env env2 : Env R) → ((x : Bytes) → occurs_in x parts ≡ true → env x ≡ env2 x) → read_parts env parts ≡ read_parts env2 parts
  agree_read_parts End env env2 h = refl
  agree_read_parts (Part t parts) env env2 h =
      rw (agree_read t env env2 (λ x i. h x (or_left (occurs x t) (occurs_in x parts) i)), agree_read_parts parts env env2 (λ x i. h x (or_right (occurs x t) (occurs_in x parts) i)))

if_same : {R : Type 0} → (c : Bool) (t u : Term R) → (c ≡ false → u ≡ t) → (if c then t else u) ≡ t
if_same true t u h = refl
if_same false t u h = h refl

mutual
  pub put_fresh : {R : Type 0} → (t : Term R) (v : Value R) (x : Bytes) → occurs x t ≡ false → put v x t ≡ t
  put_fresh (Const w) v x h = refl
  put_fresh (Name y) v x h = ap (λ c. if c then occurrence v else Name y) h
  put_fresh (Under names t) v x h = ap (Under names) (if_same (among x names) t (put v x t) (λ q. put_fresh t v x (sym (ap (λ c. not c && occurs x t) q) ∙ h)))
  put_fresh (Form k parts) v x h = ap (Form k) (put_fresh_parts parts v x h)

  pub put_fresh_parts : {R : Type 0} → (parts : Parts R) (v : Value R) (x : Bytes) → occurs_in x parts ≡ false → put_parts v x parts ≡ parts
  put_fresh_parts End v x h = refl
  put_fresh_parts (Part t parts) v x h =
      let both : (occurs x t ≡ false) × (occurs_in x parts ≡ false) = or_none (occurs x t) (occurs_in x parts) h in
      rw (put_fresh t v x both.0, put_fresh_parts parts v x both.1)

-- ---- depths

depth_occurrence : {R : Type 0} → (v : Value R) → deepest (occurrence v) ≡ depth_in v
depth_occurrence (Loc Variable l) = refl
depth_occurrence (Loc Object l) = refl
depth_occurrence _ = refl

depth_name : {R : Type 0} → (y : Bytes) (o : Option (Value R)) → deepest (name_or y o) ≡ depth_of o
depth_name y None = refl
depth_name y (Some v) = depth_occurrence v

below_max : (a b m : ℕ) → a ≤ m → b ≤ m → max a b ≤ m
below_max a b m h k = omega arith

left_max : (a b m : ℕ) → max a b ≤ m → a ≤ m
left_max a b m h = omega arith

right_max : (a b m : ℕ) → max a b ≤ m → b ≤ m
right_max a b m h = omega arith

max_left : (n a b : ℕ) → n ≤ a → n ≤ max a b
max_left n a b h = omega arith

max_right : (n a b : ℕ) → n ≤ b → n ≤ max a b
max_right n a b h = omega arith

max_both : (a b c d : ℕ) → a ≤ c → b ≤ d → max a b ≤ max c d
max_both a b c d h k = omega arith

nothing_below : (m : ℕ) → 0 ≤ m
nothing_below m = omega arith

hidden_depth : {R : Type 0} → (x : Bytes) (env : Env R) (m : ℕ) (c : Bool) → (c ≡ false → depth_of (env x) ≤ m) → depth_of (if c then None else env x) ≤ m
hidden_depth x env m true h = nothing_below m
hidden_depth x env m false h = h refl

mutual
  pub depth_at_most : {R : Type 0} → (t : Term R) (env : Env R) (m : ℕ) → deepest t ≤ m → ((x : Bytes) → occurs x t ≡ true → depth_of (env x) ≤ m) → deepest (read env t) ≤ m
  depth_at_most (Const v) env m d h = d
  depth_at_most (Name y) env m d h = subst (λ n. n ≤ m) (sym (depth_name y (env y))) (h y ((bytes_eq-Decides y y).1 refl))
  depth_at_most (Under names t) env m d h = depth_at_most t (hide names env) m d (λ x i. hidden_depth x env m (among x names) (λ q. h x (under_occurs x names t q i)))
  depth_at_most (Form k parts) env m d h = depth_at_most_parts parts env m d h

  pub depth_at_most_parts : {R : Type 0} → (parts : Parts R) (env : Env R) (m : ℕ) → deepest_of parts ≤ m → ((x : Bytes) → occurs_in x parts ≡ true → depth_of (env x) ≤ m) → deepest_of (read_parts env parts) ≤ m
  depth_at_most_parts End env m d h = d
  depth_at_most_parts (Part t parts) env m d h =
      below_max (deepest (read env t)) (deepest_of (read_parts env parts)) m
      (depth_at_most t env m (left_max (deepest t) (deepest_of parts) m d) (λ x i. h x (or_left (occurs x t) (occurs_in x parts) i)))
      (depth_at_most_parts parts env m (right_max (deepest t) (deepest_of parts) m d) (λ x i. h x (or_right (occurs x t) (occurs_in x parts) i)))

mutual
  pub depth_own : {R : Type 0} → (t : Term R) (env : Env R) → deepest t ≤ deepest (read env t)
  depth_own (Const v) env = omega arith
  depth_own (Name y) env = nothing_below (deepest (name_or y (env y)))
  depth_own (Under names t) env = depth_own t (hide names env)
  depth_own (Form k parts) env = depth_own_parts parts env

  pub depth_own_parts : {R : Type 0} → (parts : Parts R) (env : Env R) → deepest_of parts ≤ deepest_of (read_parts env parts)
  depth_own_parts End env = omega arith
  depth_own_parts (Part t parts) env = max_both (deepest t) (deepest_of parts) (deepest (read env t)) (deepest_of (read_parts env parts)) (depth_own t env) (depth_own_parts parts env)

seen : {R : Type 0} → (x : Bytes) (names : List Bytes) (t : Term R) (c : Bool) → among x names ≡ c → occurs x (Under names t) ≡ true → (among x names ≡ false) × (occurs x t ≡ true)
seen x names t true q i = absurd (subst T (sym (sym (ap (λ c. not c && occurs x t) q) ∙ i)) tt)
seen x names t false q i = (q, sym (ap (λ c. not c && occurs x t) q) ∙ i)

in_either : (b c : Bool) (n k m : ℕ) → (b || c) ≡ true → (b ≡ true → n ≤ k) → (c ≡ true → n ≤ m) → n ≤ max k m
in_either true c n k m i h g = max_left n k m (h refl)
in_either false c n k m i h g = max_right n k m (g i)

mutual
  pub depth_at_least : {R : Type 0} → (t : Term R) (env : Env R) (x : Bytes) → occurs x t ≡ true → depth_of (env x) ≤ deepest (read env t)
  depth_at_least (Const v) env x i = absurd (subst T (sym i) tt)
  depth_at_least (Name y) env x i = subst (λ z. depth_of (env x) ≤ deepest (name_or z (env z))) ((bytes_eq-Decides x y).0 i) (subst (λ n. depth_of (env x) ≤ n) (sym (depth_name x (env x))) (omega arith))
  depth_at_least (Under names t) env x i =
      let both : (among x names ≡ false) × (occurs x t ≡ true) = seen x names t (among x names) refl i in
      subst (λ (c : Bool). depth_of (if c then None else env x) ≤ deepest (read (hide names env) t)) both.0 (depth_at_least t (hide names env) x both.1)
  depth_at_least (Form k parts) env x i = depth_at_least_parts parts env x i

  pub depth_at_least_parts : {R : Type 0} → (parts : Parts R) (env : Env R) (x : Bytes) → occurs_in x parts ≡ true → depth_of (env x) ≤ deepest_of (read_parts env parts)
  depth_at_least_parts End env x i = absurd (subst T (sym i) tt)
  depth_at_least_parts (Part t parts) env x i =
      in_either (occurs x t) (occurs_in x parts) (depth_of (env x)) (deepest (read env t)) (deepest_of (read_parts env parts)) i (depth_at_least t env x) (depth_at_least_parts parts env x)
