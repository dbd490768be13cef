-- The trail of a thread in the located fold, and the replies, behind pure steps.
use Rattle.std.specs.Prelude.{Bool, List, None, Option, Some, [], drop, false, if◌then◌else◌, length, nat_lt, refl, suc, true, zero, ℕ, ◌&&◌, ◌++◌, ◌+◌, ◌<◌, ◌==◌, ◌∷◌, ◌≡◌, ◌≤◌, ◌⊎◌}
use Rattle.std.proofs.Common.{inl, inr, subst, ap, sym, ◌∙◌, arith, true≢false}
use Rattle.std.proofs.lemmas.Bool.{eqb-true}
use Rattle.std.proofs.lemmas.Bool.Decides.{nat_tests}
use Rattle.obq_model.specs.Terms.{Term}
use Rattle.obq_model.specs.Store.{same_loc}
use Rattle.obq_model.specs.Step.{no_self, find, pure}
use Rattle.obq_model.specs.Forms.{IsFormed}
use Rattle.obq_model.specs.Located.{Message, activations_of, site_here, message, Trail, entered_at, left_from, turned, after_steps, sent}
use Rattle.obq_model.specs.Replay.{after_pure}
use Rattle.obq_laws.specs.ActivationSites.{objects_of, AreAt}
use Rattle.obq_laws.specs.Messages.{open_calls}
use Rattle.obq_laws.specs.Trails.{StepsTrail}
use Rattle.obq_laws.proofs.Activated.{objects_long, found_objects}
use Rattle.obq_laws.proofs.FewActivations.{Stepped, step_moves}
use Rattle.obq_laws.proofs.OwnerTerms.{eq_refl}
use Rattle.obq_laws.proofs.Plugged.{step_keeps}

-- ---- one turn

at_most : (m n : ℕ) → n ≤ m → nat_lt m n ≡ false
at_most m n l = by (nat_lt m n) refl
  where
    by : (b : Bool) → nat_lt m n ≡ b → nat_lt m n ≡ false
    by true q = let k : m < n = grind (arith, nat_tests) in absurd (omega arith)
    by false q = q

below : (m n : ℕ) → m < n → nat_lt m n ≡ true
below m n l = by (nat_lt m n) refl
  where
    by : (b : Bool) → nat_lt m n ≡ b → nat_lt m n ≡ true
    by true q = q
    by false q = let k : n ≤ m = grind (arith, nat_tests) in absurd (omega arith)

-- as many activations
pub turned_same : (site n : ℕ) (tr : Trail) → turned site n n tr ≡ tr
turned_same site n tr =
    ap (λ (b : Bool). if b then entered_at site tr else (if nat_lt n n then left_from tr else tr)) (at_most n n (omega arith))
    ∙ ap (λ (b : Bool). if b then left_from tr else tr) (at_most n n (omega arith))

-- one more
pub turned_more : (site n : ℕ) (tr : Trail) → turned site n (suc n) tr ≡ entered_at site tr
turned_more site n tr = ap (λ (b : Bool). if b then entered_at site tr else (if nat_lt (suc n) n then left_from tr else tr)) (below n (suc n) (omega arith))

-- one fewer
pub turned_less : (site n : ℕ) (tr : Trail) → turned site (suc n) n tr ≡ left_from tr
turned_less site n tr =
    ap (λ (b : Bool). if b then entered_at site tr else (if nat_lt n (suc n) then left_from tr else tr)) (at_most (suc n) n (omega arith))
    ∙ ap (λ (b : Bool). if b then left_from tr else tr) (below n (suc n) (omega arith))

-- ---- sites

-- a site for each activation, and the home; each method's where P says that its object is
abbrev pub Fits : (ℕ → ℕ → Type 0) → List ℕ → List (Option ℕ) → Type 0
Fits P ss os = (length ss ≡ suc (length os)) × AreAt P ss os

abbrev pub IsAt : (ℕ → ℕ → Type 0) → ℕ → Option ℕ → Type 0
IsAt P site None = Unit {0}
IsAt P site (Some o) = P o site

-- the same activations, or one more, which is at this site, or one fewer
abbrev pub MovesAt : (ℕ → ℕ → Type 0) → ℕ → List (Option ℕ) → List (Option ℕ) → Type 0
MovesAt P site os os2 = (os2 ≡ os) ⊎ ((x : Option ℕ) × (os2 ≡ x ∷ os) × IsAt P site x) ⊎ ((x : Option ℕ) × (os ≡ x ∷ os2))

less_one : (m n : ℕ) → suc m ≡ suc n → m ≡ n
less_one m n e = omega arith

pub fits_push : (P : ℕ → ℕ → Type 0) (site : ℕ) (ss : List ℕ) (x : Option ℕ) (os : List (Option ℕ)) → IsAt P site x → Fits P ss os → Fits P (site ∷ ss) (x ∷ os)
fits_push P site ss None os i h = (ap suc h.0, h.1)
fits_push P site ss (Some o) os i h = (ap suc h.0, (i, h.1))

pub fits_pop : (P : ℕ → ℕ → Type 0) (ss : List ℕ) (x : Option ℕ) (os : List (Option ℕ)) → Fits P ss (x ∷ os) → Fits P (drop 1 ss) os
fits_pop P [] x os h = absurd h.1
fits_pop P (s ∷ ss) None os h = (less_one (length ss) (suc (length os)) h.0, h.1)
fits_pop P (s ∷ ss) (Some o) os h = (less_one (length ss) (suc (length os)) h.0, h.1.1)

pub turned_fits : (P : ℕ → ℕ → Type 0) (site : ℕ) (os os2 : List (Option ℕ)) (tr : Trail) → Fits P tr.0 os → MovesAt P site os os2 → Fits P (turned site (length os) (length os2) tr).0 os2
turned_fits P site os os2 tr h (inl e) =
    subst (λ (l : List (Option ℕ)). Fits P (turned site (length os) (length l) tr).0 l) (sym e) (subst (λ (q : Trail). Fits P q.0 os) (sym (turned_same site (length os) tr)) h)
turned_fits P site os os2 tr h (inr (inl (x, e, i))) =
    subst (λ (l : List (Option ℕ)). Fits P (turned site (length os) (length l) tr).0 l) (sym e) (subst (λ (q : Trail). Fits P q.0 (x ∷ os)) (sym (turned_more site (length os) tr)) (fits_push P site tr.0 x os i h))
turned_fits P site os os2 tr h (inr (inr (x, e))) =
    subst (λ (l : List (Option ℕ)). Fits P (turned site (length l) (length os2) tr).0 os2) (sym e)
    (subst (λ (q : Trail). Fits P q.0 os2) (sym (turned_less site (length os2) tr)) (fits_pop P tr.0 x os2 (subst (Fits P tr.0) e h)))

-- ---- replies

-- the replies so far, and those to come
abbrev pub owed : ℕ → ℕ → Trail → ℕ
owed a b tr = sent b a tr.1 + sent a b (open_calls tr.0)

pub sent_more : (a b : ℕ) (xs ys : List Message) → sent a b (xs ++ ys) ≡ sent a b xs + sent a b ys
sent_more a b [] ys = omega arith
sent_more a b (m ∷ xs) ys = by (m.0 == a && m.1 == b) (sent_more a b xs ys)
  where
    by : (c : Bool) → sent a b (xs ++ ys) ≡ sent a b xs + sent a b ys → (if c then suc (sent a b (xs ++ ys)) else sent a b (xs ++ ys)) ≡ (if c then suc (sent a b xs) else sent a b xs) + sent a b ys
    by true e = omega arith
    by false e = e

pub no_message : (s : ℕ) → message s s ≡ []
no_message s = ap (λ (b : Bool). if b then [] else (s, s) ∷ []) (eq_refl s)

eq_turned : (m n : ℕ) → (m == n) ≡ (n == m)
eq_turned m n = by (m == n) refl (n == m) refl
  where
    by : (b : Bool) → (m == n) ≡ b → (c : Bool) → (n == m) ≡ c → (m == n) ≡ (n == m)
    by true q true r = q ∙ sym r
    by false q false r = q ∙ sym r
    by true q false r = absurd (true≢false (sym (eq_refl m) ∙ ap (λ x. x == m) (eqb-true m n q) ∙ r))
    by false q true r = absurd (true≢false (sym (eq_refl n) ∙ ap (λ x. x == n) (eqb-true n m r) ∙ q))

-- a message one way is one the other way for the pair turned round
pub message_turned : (a b s r : ℕ) → sent b a (message s r) ≡ sent a b (message r s)
message_turned a b s r = ap (λ (c : Bool). sent b a (if c then [] else (s, r) ∷ [])) (eq_turned s r) ∙ by (r == s)
  where
    both : (c d : Bool) → (if c && d then suc zero else zero) ≡ (if d && c then suc zero else zero)
    both true true = refl
    both true false = refl
    both false true = refl
    both false false = refl

    by : (c : Bool) → sent b a (if c then [] else (s, r) ∷ []) ≡ sent a b (if c then [] else (r, s) ∷ [])
    by true = refl
    by false = both (s == b) (r == a)

-- an activation at the same site
owed_here : (a b : ℕ) (ss : List ℕ) (ms : List Message) → owed a b (entered_at (site_here ss) (ss, ms)) ≡ owed a b (ss, ms)
owed_here a b [] ms = refl
owed_here a b (s ∷ ss) ms = ap (λ (xs : List Message). sent b a ms + sent a b (xs ++ open_calls (s ∷ ss))) (no_message s)

-- an activation that is left
pub owed_left : (a b n : ℕ) (ss : List ℕ) (ms : List Message) → length ss ≡ suc (suc n) → owed a b (left_from (ss, ms)) ≡ owed a b (ss, ms)
owed_left a b n [] ms e = absurd (omega arith)
owed_left a b n (s ∷ []) ms e = absurd (omega arith)
owed_left a b n (s ∷ r ∷ ss) ms e =
    let more : sent b a (message s r ++ ms) ≡ sent b a (message s r) + sent b a ms = sent_more b a (message s r) ms in
    let calls : sent a b (message r s ++ open_calls (r ∷ ss)) ≡ sent a b (message r s) + sent a b (open_calls (r ∷ ss)) = sent_more a b (message r s) (open_calls (r ∷ ss)) in
    let same : sent b a (message s r) ≡ sent a b (message r s) = message_turned a b s r in
    together (sent b a (message s r ++ ms)) (sent a b (message r s ++ open_calls (r ∷ ss))) (sent b a (message s r)) (sent a b (message r s)) (sent b a ms) (sent a b (open_calls (r ∷ ss))) more calls same
  where
    together : (x y p q m o : ℕ) → x ≡ p + m → y ≡ q + o → p ≡ q → x + o ≡ m + y
    together x y p q m o e f g = omega arith

owed_step : (a b : ℕ) (os os2 : List (Option ℕ)) (tr : Trail) → length tr.0 ≡ suc (length os) → Stepped os os2 → owed a b (turned (site_here tr.0) (length os) (length os2) tr) ≡ owed a b tr
owed_step a b os os2 tr h (inl e) = ap (λ (l : List (Option ℕ)). owed a b (turned (site_here tr.0) (length os) (length l) tr)) e ∙ ap (owed a b) (turned_same (site_here tr.0) (length os) tr)
owed_step a b os os2 tr h (inr (inl e)) =
    ap (λ (l : List (Option ℕ)). owed a b (turned (site_here tr.0) (length os) (length l) tr)) e.0 ∙ ap (owed a b) (turned_more (site_here tr.0) (length os) tr) ∙ owed_here a b tr.0 tr.1
owed_step a b os os2 tr h (inr (inr (x, e))) =
    ap (λ (l : List (Option ℕ)). owed a b (turned (site_here tr.0) (length l) (length os2) tr)) e ∙ ap (owed a b) (turned_less (site_here tr.0) (length os2) tr)
    ∙ owed_left a b (length os2) tr.0 tr.1 (h ∙ ap (λ (l : List (Option ℕ)). suc (length l)) e)

-- ---- pure steps

step_at : (P : ℕ → ℕ → Type 0) (site : ℕ) (os os2 : List (Option ℕ)) → Stepped os os2 → MovesAt P site os os2
step_at P site os os2 (inl e) = inl e
step_at P site os os2 (inr (inl e)) = inr (inl (None, e.0, tt))
step_at P site os os2 (inr (inr e)) = inr (inr e)

-- a turn by the activations of two terms
pub turned_long : (site : ℕ) (t u : Term ℕ) (tr : Trail) → turned site (length (objects_of t)) (length (objects_of u)) tr ≡ turned site (activations_of t) (activations_of u) tr
turned_long site t u tr = ap (λ n. turned site n (length (objects_of u)) tr) (objects_long t) ∙ ap (λ n. turned site (activations_of t) n tr) (objects_long u)

-- behind n pure steps
abbrev pub Walked : (ℕ → ℕ → Type 0) → Trail → Trail → Term ℕ → Type 0
Walked P tr tr2 v = Fits P tr2.0 (objects_of v) × ((a b : ℕ) → owed a b tr2 ≡ owed a b tr) × IsFormed no_self v

pub steps_walk : (P : ℕ → ℕ → Type 0) (n : ℕ) (t v : Term ℕ) (tr : Trail) → IsFormed no_self t → Fits P tr.0 (objects_of t) → after_pure n t ≡ Some v → Walked P tr (after_steps n t tr) v
steps_walk P zero t v tr f h e = let same : t ≡ v = cc e in (subst (λ w. Fits P tr.0 (objects_of w)) same h, (λ a b. refl), subst (IsFormed no_self) same f)
steps_walk P (suc n) t v tr f h e = by (pure same_loc t) refl e (λ u tr2. steps_walk P n u v tr2)
  where
    by : (o : Option (Term ℕ)) → pure same_loc t ≡ o → elim o [ None ↦ None | Some u ↦ after_pure n u ] ≡ Some v
        → ((u : Term ℕ) (tr2 : Trail) → IsFormed no_self u → Fits P tr2.0 (objects_of u) → after_pure n u ≡ Some v → Walked P tr2 (after_steps n u tr2) v)
        → Walked P tr (elim o as (λ x. Trail) [ None ↦ tr | Some u ↦ after_steps n u (turned (site_here tr.0) (activations_of t) (activations_of u) tr) ]) v
    by None q r next = absurd (cc r)
    by (Some u) q r next =
        let moved : Stepped (objects_of t) (objects_of u) = step_moves (objects_of t) (find same_loc 0 no_self t) u (found_objects same_loc 0 no_self t f) q in
        let tr2 : Trail = turned (site_here tr.0) (activations_of t) (activations_of u) tr in
        let same : turned (site_here tr.0) (length (objects_of t)) (length (objects_of u)) tr ≡ tr2 = turned_long (site_here tr.0) t u tr in
        let fits : Fits P tr2.0 (objects_of u) = subst (λ (x : Trail). Fits P x.0 (objects_of u)) same (turned_fits P (site_here tr.0) (objects_of t) (objects_of u) tr h (step_at P (site_here tr.0) (objects_of t) (objects_of u) moved)) in
        let rest : Walked P tr2 (after_steps n u tr2) v = next u tr2 (step_keeps same_loc 0 no_self t u f q).0 fits r in
        (rest.0, (λ a b. rest.1 a b ∙ ap (owed a b) (sym same) ∙ owed_step a b (objects_of t) (objects_of u) tr h.0 moved), rest.2)

-- ---- lengths alone

abbrev Anywhere : ℕ → ℕ → Type 0
Anywhere o s = Unit {0}

at_any : (ss : List ℕ) (os : List (Option ℕ)) → length ss ≡ suc (length os) → AreAt Anywhere ss os
at_any ss [] e = tt
at_any [] (o ∷ os) e = absurd (omega arith)
at_any (s ∷ ss) (None ∷ os) e = at_any ss os (less_one (length ss) (suc (length os)) e)
at_any (s ∷ ss) (Some o ∷ os) e = (tt, at_any ss os (less_one (length ss) (suc (length os)) e))

pub steps_trail_law : StepsTrail
steps_trail_law n t v tr f h e =
    let long : length tr.0 ≡ suc (length (objects_of t)) = h ∙ ap suc (sym (objects_long t)) in
    (steps_walk Anywhere n t v tr f (long, at_any tr.0 (objects_of t) long) e).0.0 ∙ ap suc (objects_long v)
