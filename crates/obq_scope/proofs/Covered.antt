-- Which names the binders in force cover, and what a procedure captures of the names ahead.
use Rattle.std.proofs.Common.{◌≡◌, ◌∙◌, inl, inr, ℕ, true, false, ◌||◌, List, [], ◌∷◌, ◌++◌, refl, ap, sym}
use Rattle.std.specs.List.{filter}
use Rattle.std.proofs.lemmas.Bool.{cases_Bool, true≢false}
use Rattle.obq_base.specs.declared.occurrences.Occurrence.{Occurrence}
use Rattle.obq_model.specs.Put.{among}
use Rattle.obq_model.specs.Scopes.{Outside, captured_from, captured_of, inside, is_covered, outermost}
use Rattle.obq_model.proofs.Among.{among_append, either, left_of, right_of}
use Rattle.obq_names.specs.Union.{covered_names, names_of, union, with_name}
use Rattle.obq_names.proofs.Unions.{Names, filter_union, passes}

-- what a code's binders cover is among these
pub record Covers (o : Outside) (locals bound : Names) : Type 0 where
  pub covers : (x : List ℕ) → is_covered o locals x ≡ true → among x bound ≡ true

pub covers_nothing : (source : ℕ) → Covers (outermost source) [] []
covers_nothing source = record { covers = λ x h. absurd (true≢false (sym h)) }

-- more binders
pub covers_more : (o : Outside) (locals bound names : Names) → Covers o locals bound → Covers o (locals ++ names) (bound ++ names)
covers_more o locals bound names c = record {
  covers = λ x h.
      let e : ((among x locals || among x names) || (among x o.members || among x o.captured)) ≡ true = sym (ap (λ b. b || (among x o.members || among x o.captured)) (among_append x locals names)) ∙ h in
      among_append x bound names ∙ elim (either (among x locals || among x names) (among x o.members || among x o.captured) e) [
        | inl f ↦ elim (either (among x locals) (among x names) f) [
          | inl g ↦ left_of (among x bound) (among x names) (c.covers x (left_of (among x locals) (among x o.members || among x o.captured) g))
          | inr g ↦ right_of (among x bound) (among x names) g
        ]
        | inr f ↦ left_of (among x bound) (among x names) (c.covers x (right_of (among x locals) (among x o.members || among x o.captured) f))
      ];
}

is_in : (x : List ℕ) (names : Names) → among x names ≡ true → with_name x names ≡ names
is_in x names h = rw h refl

is_new : (x : List ℕ) (names : Names) → among x names ≡ false → with_name x names ≡ names ++ x ∷ []
is_new x names h = rw h refl

captured_from_is : (o : Outside) (locals names : Names) (us : List Occurrence) → captured_from o locals names us ≡ union names (filter (is_covered o locals) (names_of us))
captured_from_is o locals names [] = refl
captured_from_is o locals names (u ∷ us) = elim (cases_Bool (is_covered o locals u.name)) [
  | inl e ↦ elim (cases_Bool (among u.name names)) [
    | inl g ↦ rw (e, g) (captured_from_is o locals names us ∙ ap (λ (l : Names). union l (filter (is_covered o locals) (names_of us))) (sym (is_in u.name names g)))
    | inr g ↦ rw (e, g) (captured_from_is o locals (names ++ u.name ∷ []) us ∙ ap (λ (l : Names). union l (filter (is_covered o locals) (names_of us))) (sym (is_new u.name names g)))
  ]
  | inr e ↦ rw e (captured_from_is o locals names us)
]

captured_is : (o : Outside) (locals : Names) (us : List Occurrence) → captured_of o locals us ≡ union [] (filter (is_covered o locals) (names_of us))
captured_is o locals us = captured_from_is o locals [] us

-- one that is captured is covered
passed : (o : Outside) (locals : Names) (us : List Occurrence) (x : List ℕ) → among x (union [] (filter (is_covered o locals) (names_of us))) ≡ true → is_covered o locals x ≡ true
passed o locals us x h = passes (is_covered o locals) x (union [] (filter (is_covered o locals) (names_of us))) (ap (among x) (filter_union (is_covered o locals) (is_covered o locals) (λ y g. g) [] (names_of us)) ∙ h)

captured_covers : (o : Outside) (locals bound : Names) (us : List Occurrence) → Covers o locals bound → (x : List ℕ) → among x (captured_of o locals us) ≡ true → among x bound ≡ true
captured_covers o locals bound us c x h =
    c.covers x (passed o locals us x (sym (ap (among x) (captured_is o locals us)) ∙ h))

-- inside a procedure
pub covers_inside : (o : Outside) (locals bound : Names) (us : List Occurrence) → Covers o locals bound → Covers (inside o [] (captured_of o locals us)) [] bound
covers_inside o locals bound us c = record { covers = λ x h. captured_covers o locals bound us c x h }

-- inside the procedures of a `let rec`
pub covers_group : (o : Outside) (locals bound members : Names) (us : List Occurrence) → Covers o locals bound → Covers (inside o members (captured_of o locals us)) [] (bound ++ members)
covers_group o locals bound members us c = record {
  covers = λ x h.
      among_append x bound members ∙ elim (either (among x members) (among x (captured_of o locals us)) h) [
        | inl f ↦ right_of (among x bound) (among x members) f
        | inr f ↦ left_of (among x bound) (among x members) (captured_covers o locals bound us c x f)
      ];
}

-- of the names ahead a procedure captures those that are covered
pub captures_are : (o : Outside) (locals bound : Names) (us : List Occurrence) → Covers o locals bound → filter (is_covered o locals) (union [] (covered_names bound us)) ≡ captured_of o locals us
captures_are o locals bound us c = filter_union (is_covered o locals) (λ x. among x bound) c.covers [] (names_of us) ∙ sym (captured_is o locals us)
