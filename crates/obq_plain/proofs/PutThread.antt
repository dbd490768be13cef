-- Threads of a configuration that are set.
use Prim.Native.Nat.{zero}
use Rattle.std.proofs.Common.{List, None, Option, Some, ap, arith, length, map, refl, slice_get, slice_set, suc, ℕ, ◌+◌, ◌<◌, ◌∙◌, ◌∷◌, ◌≡◌, []}
use Rattle.std.specs.Prelude.{slice_index_or}
use Rattle.std.proofs.lemmas.List.{map-set}
use Rattle.obq_model.proofs.Options.{none_some, some_same}
use Rattle.obq_model.proofs.Slices.{set_same, set_set}
use Rattle.obq_model.specs.Config.{Config, Execution, ThreadState, with_execution}
use Rattle.obq_model.specs.Replay.{spend, with_turns}
use Rattle.obq_plain.specs.Taking.{put_thread}
use Rattle.obq_plain.specs.Threads.{thread_of}
use Rattle.obq_plain.specs.declared.threads.ThreadState.{ThreadState as Held}

pub thread_put : (threads : List Held) (k : ℕ) (s : Held) → map thread_of (slice_set threads k s) ≡ slice_set (map thread_of threads) k (thread_of s)
thread_put threads k s = map-set thread_of threads k s

index_set : {A : Type 0} (xs : List A) (k : ℕ) (x d : A) → k < length xs → slice_index_or (slice_set xs k x) k d ≡ x
index_set [] k x d h = absurd (omega (arith, h))
index_set (y ∷ ys) zero x d h = refl
index_set (y ∷ ys) (suc k) x d h = index_set ys k x d (omega (arith, h))

index_get : {A : Type 0} (xs : List A) (k : ℕ) (x d : A) → slice_get xs k ≡ Some x → slice_index_or xs k d ≡ x
index_get [] k x d e = absurd (none_some x e)
index_get (y ∷ ys) zero x d e = some_same y x e
index_get (y ∷ ys) (suc k) x d e = index_get ys k x d e

-- the threads, of which one is set
thread_with : Config → ℕ → ThreadState → Config
thread_with k t s = record k { threads = slice_set k.threads t s }

-- a thread of the configuration goes on with another term
pub executed : (k : Config) (t : ℕ) (s : ThreadState) (x : Execution) → slice_get k.threads t ≡ Some s → with_execution k t x ≡ put_thread k t x s.used
executed k t s x e = ap (λ state. put_thread k t x (used_of state)) (index_get k.threads t s (record { execution = x; used = 0 }) e) where
  used_of : ThreadState → ℕ
  used_of state = state.used

-- a thread that is set goes on with another term
pub executed_again : (k : Config) (t : ℕ) (y x : Execution) (n : ℕ) → t < length k.threads → with_execution (put_thread k t y n) t x ≡ put_thread k t x n
executed_again k t y x n h =
    executed (put_thread k t y n) t (record { execution = y; used = n }) x (set_same k.threads t (record { execution = y; used = n }) h)
    ∙ ap (λ ss. record k { threads = ss }) (set_set k.threads t (record { execution = y; used = n }) (record { execution = x; used = n }))

-- a thread that is set uses more turns
pub turned : (k : Config) (t : ℕ) (x : Execution) (n m : ℕ) → t < length k.threads → with_turns t m (put_thread k t x n) ≡ put_thread k t x (n + m)
turned k t x n m h = by_state (slice_get (put_thread k t x n).threads t) (set_same k.threads t (record { execution = x; used = n }) h) where
  by_state : (o : Option ThreadState) → o ≡ Some (record { execution = x; used = n })
      → ◌≡◌ {A = Config} (record (put_thread k t x n) { threads = elim o [ None ↦ (put_thread k t x n).threads | Some state ↦ slice_set (put_thread k t x n).threads t (spend m state) ] }) (put_thread k t x (n + m))
  by_state None e = absurd (none_some _ e)
  by_state (Some state) e =
      ap (λ s. record k { threads = slice_set (slice_set k.threads t (record { execution = x; used = n })) t (spend m s) }) (some_same state _ e)
      ∙ ap (λ ss. record k { threads = ss }) (set_set k.threads t (record { execution = x; used = n }) (record { execution = x; used = n + m }))
