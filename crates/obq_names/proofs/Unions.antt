-- Names, each once.
use Rattle.std.proofs.Common.{◌≡◌, ◌∙◌, inl, inr, ℕ, Bool, true, false, ◌||◌, List, [], ◌∷◌, ◌++◌, refl, ap, sym, subst, bytes_eq}
use Rattle.std.specs.List.{filter}
use Rattle.std.specs.Cmp.Lexicographic.{bytes_decides}
use Rattle.std.proofs.lemmas.Bool.{cases_Bool, true≢false}
use Rattle.std.proofs.lemmas.List.{append-nil}
use Rattle.std.proofs.lemmas.List.Elements.{filter-append}
use Rattle.obq_model.specs.Put.{among}
use Rattle.obq_model.proofs.Among.{among_append}
use Rattle.obq_names.specs.Union.{union, with_name}

abbrev pub Names : Type 0
Names = List (List ℕ)

-- a name that passes is among the ones that pass where it is among all
pub among-filter : (f : List ℕ → Bool) (x : List ℕ) (xs : Names) → f x ≡ true → among x (filter f xs) ≡ among x xs
among-filter f x [] p = refl
among-filter f x (y ∷ xs) p = elim (cases_Bool (f y)) [
  | inl e ↦ rw e (ap (λ (b : Bool). bytes_eq x y || b) (among-filter f x xs p))
  | inr e ↦ elim (cases_Bool (bytes_eq x y)) [
    | inl h ↦ absurd (true≢false (sym p ∙ ap f ((bytes_decides x y).0 h) ∙ e))
    | inr h ↦ rw (e, h) (among-filter f x xs p)
  ]
]

-- one that is among those that pass passes
pub passes : (f : List ℕ → Bool) (x : List ℕ) (xs : Names) → among x (filter f xs) ≡ true → f x ≡ true
passes f x [] h = absurd (true≢false (sym h))
passes f x (y ∷ xs) h = elim (cases_Bool (f y)) [
  | inl e ↦ elim (cases_Bool (bytes_eq x y)) [
    | inl g ↦ ap f ((bytes_decides x y).0 g) ∙ e
    | inr g ↦ passes f x xs (rw (e, g) at h)
  ]
  | inr e ↦ passes f x xs (rw e at h)
]

filter_with_name : (f : List ℕ → Bool) (x : List ℕ) (xs : Names) → f x ≡ true → filter f (with_name x xs) ≡ with_name x (filter f xs)
filter_with_name f x xs p = elim (cases_Bool (among x xs)) [
  | inl e ↦ rw (among-filter f x xs p, e) refl
  | inr e ↦ rw (among-filter f x xs p, e) (filter-append f xs (x ∷ []) ∙ rw p refl)
]

filter_without : (f : List ℕ → Bool) (x : List ℕ) (xs : Names) → f x ≡ false → filter f (with_name x xs) ≡ filter f xs
filter_without f x xs p = elim (cases_Bool (among x xs)) [
  | inl e ↦ rw e refl
  | inr e ↦ rw e (filter-append f xs (x ∷ []) ∙ rw p (append-nil (filter f xs)))
]

-- those that pass one test, where they pass another before
pub filter_union : (f g : List ℕ → Bool) → ((x : List ℕ) → f x ≡ true → g x ≡ true) → (names xs : Names) → filter f (union names (filter g xs)) ≡ union (filter f names) (filter f xs)
filter_union f g k names [] = refl
filter_union f g k names (x ∷ xs) = elim (cases_Bool (f x)) [
  | inl e ↦ rw (k x e, e) (filter_union f g k (with_name x names) xs ∙ ap (λ (l : Names). union l (filter f xs)) (filter_with_name f x names e))
  | inr e ↦ elim (cases_Bool (g x)) [
    | inl h ↦ rw (h, e) (filter_union f g k (with_name x names) xs ∙ ap (λ (l : Names). union l (filter f xs)) (filter_without f x names e))
    | inr h ↦ rw (h, e) (filter_union f g k names xs)
  ]
]

union_name : (names : Names) (x : List ℕ) (xs : Names) → union names (xs ++ x ∷ []) ≡ with_name x (union names xs)
union_name names x [] = refl
union_name names x (y ∷ xs) = union_name (with_name y names) x xs

pub union-append : (names xs ys : Names) → union names (xs ++ ys) ≡ union (union names xs) ys
union-append names [] ys = refl
union-append names (x ∷ xs) ys = union-append (with_name x names) xs ys

among-with_name : (y x : List ℕ) (names : Names) → among y names ≡ true → among y (with_name x names) ≡ true
among-with_name y x names h = elim (cases_Bool (among x names)) [
  | inl e ↦ rw e h
  | inr e ↦ rw e (among_append y names (x ∷ []) ∙ rw h refl)
]

among-union : (y : List ℕ) (names xs : Names) → among y names ≡ true → among y (union names xs) ≡ true
among-union y names [] h = h
among-union y names (x ∷ xs) h = among-union y (with_name x names) xs (among-with_name y x names h)

is_itself : (x : List ℕ) → bytes_eq x x ≡ true
is_itself x = (bytes_decides x x).1 refl

-- each name that is put in is there
puts_in : (x : List ℕ) (names : Names) → among x (with_name x names) ≡ true
puts_in x names = elim (cases_Bool (among x names)) [
  | inl e ↦ rw e e
  | inr e ↦ rw e (among_append x names (x ∷ []) ∙ rw (e, is_itself x) refl)
]

among_put : (y : List ℕ) (names xs : Names) → among y xs ≡ true → among y (union names xs) ≡ true
among_put y names [] h = absurd (true≢false (sym h))
among_put y names (x ∷ xs) h = elim (cases_Bool (bytes_eq y x)) [
  | inl e ↦ among-union y (with_name x names) xs (subst (λ (z : List ℕ). among y (with_name z names) ≡ true) ((bytes_decides y x).0 e) (puts_in y names))
  | inr e ↦ among_put y (with_name x names) xs (rw e at h)
]

put_twice : (x : List ℕ) (names xs : Names) → among x xs ≡ true → with_name x (union names xs) ≡ union names xs
put_twice x names xs h = rw (among_put x names xs h) refl

union_with_name : (names : Names) (x : List ℕ) (xs : Names) → union names (with_name x xs) ≡ with_name x (union names xs)
union_with_name names x xs = elim (cases_Bool (among x xs)) [
  | inl e ↦ rw e (sym (put_twice x names xs e))
  | inr e ↦ rw e (union_name names x xs)
]

-- names that are put in once already
pub union_union : (names further xs : Names) → union names (union further xs) ≡ union (union names further) xs
union_union names further [] = refl
union_union names further (x ∷ xs) = union_union names (with_name x further) xs ∙ ap (λ (l : Names). union l xs) (union_with_name names x further)
