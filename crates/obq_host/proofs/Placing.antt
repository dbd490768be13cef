-- Places that were emptied and are filled again.
use Rattle.std.specs.Prelude.{Bool, List, None, Option, Some, false, true, ℕ, ◌≡◌, ◌⊎◌}
use Rattle.std.proofs.Common.{inl, inr, sym, ◌∙◌}
use Rattle.obq_host.specs.Places.{IsWith, IsWithTwo, at_place}
use Rattle.obq_stands.specs.World.{with_at}
use Rattle.obq_stands.proofs.Update.{same_or, with_at_other, with_at_same}

-- what was at place k before doesn't matter
with_again : {X : Type 0} (f g : ℕ → X) (k : ℕ) (x y : X) → ((j : ℕ) → g j ≡ with_at f k y j) → (j : ℕ) → with_at g k x j ≡ with_at f k x j
with_again {X} f g k x y h j = by (same_or j k)
  where
    by : ((j ≡ k) ⊎ (j ≡ k → ⊥)) → with_at g k x j ≡ with_at f k x j
    by (inl e) = rw e (with_at_same g k x ∙ sym (with_at_same f k x))
    by (inr ne) = with_at_other g k x j ne ∙ h j ∙ with_at_other f k y j ne ∙ sym (with_at_other f k x j ne)

-- the same at one place more
with_more : {X : Type 0} (f g : ℕ → X) (k : ℕ) (x : X) → ((j : ℕ) → g j ≡ f j) → (j : ℕ) → with_at g k x j ≡ with_at f k x j
with_more {X} f g k x h j = by (same_or j k)
  where
    by : ((j ≡ k) ⊎ (j ≡ k → ⊥)) → with_at g k x j ≡ with_at f k x j
    by (inl e) = rw e (with_at_same g k x ∙ sym (with_at_same f k x))
    by (inr ne) = with_at_other g k x j ne ∙ h j ∙ sym (with_at_other f k x j ne)

pub put_back : {T : Type 0} (old mid new : List (Option T)) (k : ℕ) (x : T) → IsWith old k None mid → IsWith mid k (Some x) new → IsWith old k (Some x) new
put_back old mid new k x out into j = into j ∙ with_again (at_place old) (at_place mid) k (Some x) None out j

pub two_back : {T : Type 0} (old mid new : List (Option T)) (k : ℕ) (x : T) (l : ℕ) (o : Option T) (made : Bool) → IsWith old k None mid → IsWithTwo mid k x l o made new → IsWithTwo old k x l o made new
two_back old mid new k x l (Some y) true out into = λ j. into j ∙ with_more (with_at (at_place old) k (Some x)) (with_at (at_place mid) k (Some x)) l (Some y) (with_again (at_place old) (at_place mid) k (Some x) None out) j
two_back old mid new k x l None false out into = put_back old mid new k x out into
two_back old mid new k x l None true out into = absurd into
two_back old mid new k x l (Some y) false out into = absurd into
