-- The built-in with a name is that of the name's row.
use Rattle.std.specs.Prelude.{Bool, List, None, Option, Some, [], bytes_eq, false, if◌then◌else◌, length, nat_lt, not, option_map, refl, suc, true, ℕ, ◌+◌, ◌∷◌, ◌≡◌}
use Rattle.std.specs.List.{prefix_len}
use Rattle.std.proofs.lemmas.Slice.Eq.{bytes_eq-Decides}
use Rattle.std.proofs.Common.{subst, ap, sym, ◌∙◌, arith, true≢false}
use Rattle.obq_tables.specs.Tables.{builtins}
use Rattle.obq_model.specs.Terms.{Bytes, Builtin, Not, Exception, FmtInt, FmtBool, TextLength, TextSub, ArrayNew, ArraySize, PutText, NewCondition, SignalOne, SignalAll, Fork, JoinThread, NetExport, NetImport, ExportEngine, ImportEngine}
use Rattle.obq_model.specs.Occurrences.{builtin_row}
use Rattle.obq_model.specs.Opening.{builtin_named}
use Rattle.obq_model.specs.Opened.{builtin_at}
use Rattle.obq_model.proofs.Among.{bytes_sym}

abbrev All : (Bytes → Type 0) → List Bytes → Type 0
All P [] = Unit {0}
All P (k ∷ ks) = P k × All P ks

-- x is one of these keys, or none of them
by_keys : (P : Bytes → Type 0) (keys : List Bytes) → All P keys → (x : Bytes) → (All (λ k. bytes_eq x k ≡ false) keys → P x) → P x
by_keys P [] h x none = none tt
by_keys P (k ∷ ks) h x none = at (bytes_eq x k) refl (λ f. by_keys P ks h.1 x f) where
  at : (b : Bool) → bytes_eq x k ≡ b → ((All (λ k. bytes_eq x k ≡ false) ks → P x) → P x) → P x
  at true e go = subst P (sym ((bytes_eq-Decides x k).0 e)) h.0
  at false e go = go (λ rest. none (e, rest))

-- the first place of x among keys that it isn't is their end
at_end : (x : Bytes) (ks : List Bytes) → All (λ k. bytes_eq x k ≡ false) ks → prefix_len (λ k. not (bytes_eq k x)) ks ≡ length ks
at_end x [] h = refl
at_end x (k ∷ ks) h = ap (λ (b : Bool). if not b then 1 + prefix_len (λ k. not (bytes_eq k x)) ks else 0) (bytes_sym k x ∙ h.0) ∙ ap (λ n. 1 + n) (at_end x ks h.1) ∙ plus (length ks) where
  plus : (n : ℕ) → 1 + n ≡ suc n
  plus n = omega arith

no_row : (x : Bytes) → All (λ k. bytes_eq x k ≡ false) builtins → builtin_row x ≡ None
unfolding builtin_row
no_row x h = ap (λ (n : ℕ). if nat_lt n 18 then Some n else None) (at_end x builtins h)

-- one more key that x isn't
passed : (b : Bool) (v : Builtin) (o p : Option Builtin) → b ≡ false → o ≡ p → (if b then Some v else o) ≡ p
passed true v o p e k = absurd (true≢false e)
passed false v o p e k = k

no_name : (x : Bytes) → All (λ k. bytes_eq x k ≡ false) builtins → builtin_named x ≡ None
no_name x h =
    passed _ Not _ _ h.1.1.1.1.1.1.1.1.1.1.1.1.1.0 (passed _ Exception _ _ h.1.1.1.1.0 (passed _ FmtInt _ _ h.1.1.1.1.1.1.0 (passed _ FmtBool _ _ h.1.1.1.1.1.0 (passed _ TextLength _ _ h.1.1.1.1.1.1.1.1.1.1.1.1.1.1.1.0 (passed _ TextSub _ _ h.1.1.1.1.1.1.1.1.1.1.1.1.1.1.1.1.0 (passed _ ArrayNew _ _ h.0 (passed _ ArraySize _ _ h.1.0
    (passed _ PutText _ _ h.1.1.1.1.1.1.1.1.1.1.1.1.1.1.1.1.1.0 (passed _ NewCondition _ _ h.1.1.1.0 (passed _ SignalOne _ _ h.1.1.1.1.1.1.1.1.1.1.1.1.1.1.0 (passed _ SignalAll _ _ h.1.1.0 (passed _ Fork _ _ h.1.1.1.1.1.1.1.0 (passed _ JoinThread _ _ h.1.1.1.1.1.1.1.1.0 (passed _ NetExport _ _ h.1.1.1.1.1.1.1.1.1.0
    (passed _ NetImport _ _ h.1.1.1.1.1.1.1.1.1.1.1.0 (passed _ ExportEngine _ _ h.1.1.1.1.1.1.1.1.1.1.0 (passed _ ImportEngine _ _ h.1.1.1.1.1.1.1.1.1.1.1.1.0 refl)))))))))))))))))

pub named_row : (x : Bytes) → builtin_named x ≡ option_map builtin_at (builtin_row x)
unfolding builtin_at builtin_row
named_row x =
    by_keys (λ x. builtin_named x ≡ option_map builtin_at (builtin_row x)) builtins
    (refl, (refl, (refl, (refl, (refl, (refl, (refl, (refl, (refl, (refl, (refl, (refl, (refl, (refl, (refl, (refl, (refl, (refl, tt)))))))))))))))))) x
    (λ h. no_name x h ∙ sym (ap (option_map builtin_at) (no_row x h)))
