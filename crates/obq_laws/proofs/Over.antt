-- No thread is able exactly where the first able one isn't there.
use Rattle.std.specs.Prelude.{Bool, List, None, Option, Some, [], false, if◌then◌else◌, is_none, refl, slice_get, suc, true, zero, ℕ, ◌+◌, ◌∷◌, ◌≡◌}
use Rattle.std.proofs.Common.{ap, sym, ◌∙◌, arith}
use Rattle.obq_model.specs.Config.{ThreadState, Config}
use Rattle.obq_model.specs.Replay.{is_able_execution, first_able_of}
use Rattle.obq_laws.specs.Determinism.{OverLaw}
use Rattle.obq_laws.proofs.HeldActs.{clash}

-- the thread with this number and state is able
abbrev pub able_at : ℕ → Config → ℕ → Option ThreadState → Bool
able_at turns k t o = elim o [ None ↦ false | Some state ↦ is_able_execution turns k t state.used state.execution ]

pub plus_zero : (t : ℕ) → t + 0 ≡ t
plus_zero t = omega arith

pub plus_suc : (t i : ℕ) → t + suc i ≡ suc t + i
plus_suc t i = omega arith

pub zero_plus : (i : ℕ) → 0 + i ≡ i
zero_plus i = omega arith

none_able : (turns : ℕ) (k : Config) (t : ℕ) (ss : List ThreadState) → is_none (first_able_of turns k t ss) ≡ true → (i : ℕ) → able_at turns k (t + i) (slice_get ss i) ≡ false
none_able turns k t [] h i = refl
none_able turns k t (s ∷ ss) h i = by_case (is_able_execution turns k t s.used s.execution) refl h (none_able turns k (suc t) ss) i
  where
    by_case : (b : Bool) → is_able_execution turns k t s.used s.execution ≡ b → is_none (if b then Some t else first_able_of turns k (suc t) ss) ≡ true → (is_none (first_able_of turns k (suc t) ss) ≡ true → (i : ℕ) → able_at turns k (suc t + i) (slice_get ss i) ≡ false) → (i : ℕ) → able_at turns k (t + i) (slice_get (s ∷ ss) i) ≡ false
    by_case true q r more i = absurd (clash false r refl)
    by_case false q r more zero = ap (λ n. is_able_execution turns k n s.used s.execution) (plus_zero t) ∙ q
    by_case false q r more (suc i) = ap (λ n. able_at turns k n (slice_get ss i)) (plus_suc t i) ∙ more r i

none_first : (turns : ℕ) (k : Config) (t : ℕ) (ss : List ThreadState) → ((i : ℕ) → able_at turns k (t + i) (slice_get ss i) ≡ false) → is_none (first_able_of turns k t ss) ≡ true
none_first turns k t [] h = refl
none_first turns k t (s ∷ ss) h =
    by_case (is_able_execution turns k t s.used s.execution) (ap (λ n. is_able_execution turns k n s.used s.execution) (sym (plus_zero t)) ∙ h zero)
    (none_first turns k (suc t) ss (λ i. ap (λ n. able_at turns k n (slice_get ss i)) (sym (plus_suc t i)) ∙ h (suc i)))
  where
    by_case : (b : Bool) → b ≡ false → is_none (first_able_of turns k (suc t) ss) ≡ true → is_none (if b then Some t else first_able_of turns k (suc t) ss) ≡ true
    by_case true q r = absurd (clash true refl q)
    by_case false q r = r

pub over_law : OverLaw
over_law turns k = (
  (λ h t. ap (λ n. able_at turns k n (slice_get k.threads t)) (sym (zero_plus t)) ∙ none_able turns k 0 k.threads h t),
  (λ h. none_first turns k 0 k.threads (λ i. ap (λ n. able_at turns k n (slice_get k.threads i)) (zero_plus i) ∙ h i)),
)
