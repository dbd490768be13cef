-- Names in force, with their values: what binding, entering and capturing do to the environment that a place reads with.
use Rattle.std.specs.Prelude.{Bool, List, None, Option, Some, T, [], bytes_eq, false, if◌then◌else◌, length, option_map, refl, suc, true, ℕ, ◌++◌, ◌+◌, ◌||◌, ◌∷◌, ◌≡◌}
use Rattle.std.proofs.Common.{ap, arith, sym, ◌∙◌, true≢false}
use Rattle.obq_model.specs.Put.{among}
use Rattle.obq_model.specs.Reading.{Env, also, hide, or_some, with_all}
use Rattle.obq_model.specs.Scopes.{Outside, last_place, last_place_from}
use Rattle.obq_model.specs.Terms.{Bytes, Value}
use Rattle.obq_model.proofs.Among.{bytes_sym}
use Rattle.obq_model.proofs.Options.{some_none}
use Rattle.obq_model.proofs.Places.{or_else, place_found}
use Rattle.obq_windows.specs.Places.{Bound, Place, bind_of, bound_names, env_at, last_bound, member_at, or_this, proc_group, proc_outside, with_bound, zipped}
use Rattle.obq_windows.specs.Values.{AValue, NoValues, PlainValue, PlainValues, Table, captured_at, captured_env, no_env, padded, read_all, read_value, read_values}

pub fun_eq : {A B : Type 0} (f g : A → B) → ((x : A) → f x ≡ g x) → f ≡ g
fun_eq f g h = λ i x. h x i

-- ---- one more name

last_bound_end : {R : Type 0} → (y x : Bytes) (v : PlainValue R) (bs : List (Bound R)) → last_bound y (bs ++ bind_of x v ∷ []) ≡ (if bytes_eq x y then Some v else last_bound y bs)
last_bound_end {R} y x v [] = by_case (bytes_eq x y) where
  by_case : (c : Bool) → or_this None c v ≡ (if c then Some v else None)
  by_case true = refl
  by_case false = refl
last_bound_end {R} y x v (b ∷ bs) = ap (λ (o : Option (PlainValue R)). or_this o (bytes_eq b.name y) b.value) (last_bound_end y x v bs) ∙ by_case (bytes_eq x y) (last_bound y bs) where
  by_case : (c : Bool) (o : Option (PlainValue R)) → or_this (if c then Some v else o) (bytes_eq b.name y) b.value ≡ (if c then Some v else or_this o (bytes_eq b.name y) b.value)
  by_case true o = refl
  by_case false o = refl

-- the value of a name that is not bound in the code itself
abbrev pub others : {R : Type 0} → Table R → Place R → Bytes → Option (PlainValue R)
others T p y = or_else (option_map (member_at (proc_group (T.procs p.code)) p) (last_place y (proc_outside (T.procs p.code)).members)) (option_map (captured_at p.captured) (last_place y (proc_outside (T.procs p.code)).captured))

pub bound_more : {R : Type 0} → (T : Table R) (p : Place R) (x : Bytes) (v : PlainValue R) → also (hide (x ∷ []) (env_at T p)) x (read_value T v) ≡ env_at T (with_bound p (bind_of x v ∷ []))
bound_more {R} T p x v = fun_eq _ _ at where
  swap : (y : Bytes) (rest : Option (PlainValue R)) (lb : Option (PlainValue R)) (c : Bool)
      → or_some (if c || false then None else option_map (read_value T) (or_else lb rest)) c (read_value T v)
      ≡ option_map (read_value T) (or_else (if c then Some v else lb) rest)
  swap y rest lb true = refl
  swap y rest None false = same (option_map (read_value T) rest) where
    same : (o : Option (Value R)) → or_some o false (read_value T v) ≡ o
    same None = refl
    same (Some w) = refl
  swap y rest (Some w) false = refl

  at : (y : Bytes) → also (hide (x ∷ []) (env_at T p)) x (read_value T v) y ≡ env_at T (with_bound p (bind_of x v ∷ [])) y
  at y =
      ap (λ (c : Bool). or_some (if c || false then None else env_at T p y) (bytes_eq x y) (read_value T v)) (bytes_sym y x)
      ∙ swap y (others T p y) (last_bound y p.bound) (bytes_eq x y)
      ∙ ap (λ (o : Option (PlainValue R)). option_map (read_value T) (or_else o (others T p y))) (sym (last_bound_end y x v p.bound))

pub names_more : {R : Type 0} → (bs : List (Bound R)) (x : Bytes) (v : PlainValue R) → bound_names (bs ++ bind_of x v ∷ []) ≡ bound_names bs ++ x ∷ []
names_more [] x v = refl
names_more (b ∷ bs) x v = ap (λ l. b.name ∷ l) (names_more bs x v)

-- ---- places of names

-- the captured names
captured_from : {R : Type 0} → (T : Table R) (y : Bytes) (xs : List Bytes) (cs : PlainValues R) (i : ℕ) (g : ℕ → Value R)
    → ((j k : ℕ) → k ≡ i + j → read_value T (captured_at cs j) ≡ g k)
    → with_all (padded xs (read_values T cs)) xs no_env y ≡ option_map g (last_place_from i None y xs)
captured_from T y [] cs i g h = refl
captured_from {R} T y (x ∷ xs) cs i g h = first cs h (λ zs k. captured_from T y xs zs (suc i) g k) where
  joined : (c : Bool) (o : Option ℕ) (v : Value R) → v ≡ g i → or_some (option_map g o) c v ≡ option_map g (or_else o (if c then Some i else None))
  joined true None v e = ap Some e
  joined true (Some n) v e = refl
  joined false None v e = refl
  joined false (Some n) v e = refl

  both : (o : Option (Value R)) (v : Value R) → o ≡ option_map g (last_place_from (suc i) None y xs) → v ≡ g i → or_some o (bytes_eq x y) v ≡ option_map g (last_place_from i None y (x ∷ xs))
  both o v e f =
      ap (λ (z : Option (Value R)). or_some z (bytes_eq x y) v) e ∙ joined (bytes_eq x y) (last_place_from (suc i) None y xs) v f
      ∙ ap (λ (c : Bool). option_map g (or_else (last_place_from (suc i) None y xs) (if c then Some i else None))) (bytes_sym x y)
      ∙ ap (option_map g) (sym (place_found (suc i) (if bytes_eq y x then Some i else None) y xs))

  first : (cs : PlainValues R) → ((j k : ℕ) → k ≡ i + j → read_value T (captured_at cs j) ≡ g k)
      → ((zs : PlainValues R) → ((j k : ℕ) → k ≡ suc i + j → read_value T (captured_at zs j) ≡ g k) → with_all (padded xs (read_values T zs)) xs no_env y ≡ option_map g (last_place_from (suc i) None y xs))
      → with_all (padded (x ∷ xs) (read_values T cs)) (x ∷ xs) no_env y ≡ option_map g (last_place_from i None y (x ∷ xs))
  first NoValues h ih = both _ _ (ih NoValues (λ j k e. h (suc j) k (omega (arith, e)))) (h 0 i (omega arith))
  first (AValue v vs) h ih = both _ _ (ih vs (λ j k e. h (suc j) k (omega (arith, e)))) (h 0 i (omega arith))

pub captured_value : {R : Type 0} → (T : Table R) (u : Outside) (cs : PlainValues R) (y : Bytes) → captured_env u (read_values T cs) y ≡ option_map (read_value T) (option_map (captured_at cs) (last_place y u.captured))
captured_value {R} T u cs y = captured_from T y u.captured cs 0 (λ k. read_value T (captured_at cs k)) (λ j k e. ap (λ n. read_value T (captured_at cs n)) (omega (arith, e))) ∙ twice (last_place y u.captured) where
  twice : (o : Option ℕ) → option_map (λ k. read_value T (captured_at cs k)) o ≡ option_map (read_value T) (option_map (captured_at cs) o)
  twice None = refl
  twice (Some k) = refl

-- ---- arguments

args_at : {R : Type 0} → (T : Table R) (y : Bytes) (xs : List Bytes) (vs : List (PlainValue R)) (e : Env R) → (among y xs ≡ true → e y ≡ None)
    → with_all (read_all T vs) xs e y ≡ or_else (option_map (read_value T) (last_bound y (zipped xs vs))) (e y)
args_at T y [] [] e h = refl
args_at T y [] (v ∷ vs) e h = refl
args_at T y (x ∷ xs) [] e h = refl
args_at {R} T y (x ∷ xs) (v ∷ vs) e h =
    ap (λ (o : Option (Value R)). or_some o (bytes_eq x y) (read_value T v)) (args_at T y xs vs e (λ q. h (or_right (bytes_eq y x) (among y xs) q)))
    ∙ by_case (bytes_eq x y) (last_bound y (zipped xs vs)) (e y) (λ q. h (ap (λ c. c || among y xs) (bytes_sym y x ∙ q))) where
      or_right : (b c : Bool) → c ≡ true → (b || c) ≡ true
      or_right true c q = refl
      or_right false c q = q

      by_case : (c : Bool) (o : Option (PlainValue R)) (w : Option (Value R)) → (c ≡ true → w ≡ None)
          → or_some (or_else (option_map (read_value T) o) w) c (read_value T v) ≡ or_else (option_map (read_value T) (or_this o c v)) w
      by_case true None w h = ap (λ (z : Option (Value R)). or_some z true (read_value T v)) (h refl)
      by_case true (Some u) w h = refl
      by_case false None None h = refl
      by_case false None (Some u) h = refl
      by_case false (Some u) w h = refl

-- as many arguments as parameters: each parameter has one
has_argument : {R : Type 0} → (y : Bytes) (xs : List Bytes) (vs : List (PlainValue R)) → length xs ≡ length vs → among y xs ≡ true → last_bound y (zipped xs vs) ≡ None → ⊥
has_argument y [] vs e q n = absurd (true≢false (sym q))
has_argument y (x ∷ xs) [] e q n = absurd (zero_suc (length xs) e) where
  zero_suc : (m : ℕ) → suc m ≡ 0 → ⊥
  zero_suc m h = omega (arith, h)
has_argument {R} y (x ∷ xs) (v ∷ vs) e q n = by_case (bytes_eq x y) refl (last_bound y (zipped xs vs)) refl (has_argument y xs vs (omega (arith, e))) where
  by_case : (c : Bool) → bytes_eq x y ≡ c → (o : Option (PlainValue R)) → last_bound y (zipped xs vs) ≡ o → (among y xs ≡ true → last_bound y (zipped xs vs) ≡ None → ⊥) → ⊥
  by_case true f None g ih = some_none v (sym (ap (λ (o : Option (PlainValue R)). or_this o (bytes_eq x y) v) g ∙ ap (λ c. or_this None c v) f) ∙ n)
  by_case c f (Some w) g ih = some_none w (sym (ap (λ (o : Option (PlainValue R)). or_this o (bytes_eq x y) v) g) ∙ n)
  by_case false f None g ih = ih (sym (ap (λ c. c || among y xs) (bytes_sym y x ∙ f)) ∙ q) g

pub args_hidden : {R : Type 0} → (T : Table R) (y : Bytes) (xs : List Bytes) (vs : List (PlainValue R)) (e : Env R) → length xs ≡ length vs
    → with_all (read_all T vs) xs (hide xs e) y ≡ or_else (option_map (read_value T) (last_bound y (zipped xs vs))) (e y)
args_hidden {R} T y xs vs e l = args_at T y xs vs (hide xs e) (λ q. ap (λ (c : Bool). if c then None else e y) q) ∙ by_case (among y xs) refl (last_bound y (zipped xs vs)) refl where
  by_case : (c : Bool) → among y xs ≡ c → (o : Option (PlainValue R)) → last_bound y (zipped xs vs) ≡ o → or_else (option_map (read_value T) o) (if c then None else e y) ≡ or_else (option_map (read_value T) o) (e y)
  by_case true q None n = absurd (has_argument y xs vs l q n)
  by_case false q None n = refl
  by_case c q (Some w) n = refl

pub zipped_names : {R : Type 0} → (xs : List Bytes) (vs : List (PlainValue R)) → length xs ≡ length vs → bound_names (zipped xs vs) ≡ xs
zipped_names [] vs e = refl
zipped_names (x ∷ xs) [] e = absurd (zero_suc (length xs) e) where
  zero_suc : (m : ℕ) → suc m ≡ 0 → ⊥
  zero_suc m h = omega (arith, h)
zipped_names (x ∷ xs) (v ∷ vs) e = ap (λ l. x ∷ l) (zipped_names xs vs (omega (arith, e)))
