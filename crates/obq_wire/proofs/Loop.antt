-- Reading items one after the other, as a loop does.
use Rattle.std.proofs.Common.{◌≡◌, ℕ, suc, ◌-◌, ◌+◌, ◌≤◌, ◌<◌, List, [], ◌∷◌, ◌++◌, Result, Ok, Err, refl, sym, ◌∙◌, arith}
use Rattle.obq_wire.specs.declared.refusal.Refused.{Refused}
use Rattle.obq_wire.specs.declared.refusal.Refused.TheVariants as refused
use Rattle.obq_wire.specs.Reading.{Reader, Fails, items_at}

module _ {A : Type 0} (item : List A → Reader A) (so_far : List A) (count i : ℕ) (bytes : List ℕ) (total : Result (List A × List ℕ) ℕ) where
  pub goes_on : (x : A) (after : List ℕ) → i < count → item so_far bytes ≡ Ok (x, after) → items_at item (count - i) so_far bytes ≡ total
      → items_at item (count - (i + 1)) (so_far ++ x ∷ []) after ≡ total
  goes_on x after lt read rest =
      let k : count - i ≡ suc (count - (i + 1)) = omega arith in
      let one : items_at item (count - i) so_far bytes ≡ items_at item (count - (i + 1)) (so_far ++ x ∷ []) after = rw (k, read) refl in
      sym one ∙ rest

  pub ends : (e : Refused) → i < count → Fails e (item so_far bytes) → items_at item (count - i) so_far bytes ≡ total → Fails e total
  ends refused.NoMemory lt fails rest = tt
  ends (refused.Bad left) lt fails rest =
      let k : count - i ≡ suc (count - (i + 1)) = omega arith in
      let one : items_at item (count - i) so_far bytes ≡ Err left = rw (k, fails) refl in
      sym rest ∙ one

  pub is_done : count ≤ i → items_at item (count - i) so_far bytes ≡ total → total ≡ Ok (so_far, bytes)
  is_done le rest =
      let k : count - i ≡ 0 = omega arith in
      let one : items_at item (count - i) so_far bytes ≡ Ok (so_far, bytes) = rw k refl in
      sym rest ∙ one
