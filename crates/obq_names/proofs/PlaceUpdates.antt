-- What a change at a name leaves at every name.
use Rattle.std.proofs.Common.{◌≡◌, ◌∙◌, inl, inr, ℕ, List, Bool, true, false, cond, sym, subst, Option, bytes_eq}
use Rattle.std.specs.Ordering.{nat_cmp}
use Rattle.std.specs.Cmp.{eq_by_cmp_equiv}
use Rattle.std.specs.Cmp.Lexicographic.{slice_cmp, bytes_decides, nat_list_cmp_total, nat_list_eq_equiv}
use Rattle.std.specs.Map.{lookup, IsKeyTest, AreApart, KeepsOthers}
use Rattle.std.specs.BTreeMap as tree
use Rattle.std.specs.BTreeMap.{BTreeMap}
use Rattle.std.specs.Global.{Vec}
use Rattle.std.proofs.lemmas.Bool.{cases_Bool, cond-true, cond-false}
use Rattle.std.proofs.lemmas.Map.Text.{is_eq-slice_cmp}
use Rattle.obq_names.specs.PlaceAt.{place_at}

apart : (bs cs ks : List ℕ) → bytes_eq bs cs ≡ false → bytes_eq bs ks ≡ true → bytes_eq cs ks ≡ false
apart bs cs ks n y = nat_list_eq_equiv.symm cs ks ∙ sym (nat_list_eq_equiv.congr bs ks cs y) ∙ n

other_names : {X : Type 0} (eq : Vec ℕ → Vec ℕ → Bool) (test other : Vec ℕ → Bool) (old new : List (Vec ℕ × X)) → KeepsOthers eq test old new → IsKeyTest eq other → AreApart test other → lookup other new ≡ lookup other old
unfolding KeepsOthers
other_names eq test other old new h = h other

pub updated : (bs : List ℕ) (m n : BTreeMap (Vec ℕ) ℕ) (w : Option ℕ) → tree.UpdatesBy (λ x y. slice_cmp nat_cmp x.items y.items) (λ k. slice_cmp nat_cmp bs k.items) m n w
    → (cs : List ℕ) → place_at n cs ≡ cond (bytes_eq bs cs) w (place_at m cs)
updated bs m n w h cs = elim (cases_Bool (bytes_eq bs cs)) [
  | inl y ↦ subst (λ l. place_at n l ≡ w) ((bytes_decides bs cs).0 y) h.1 ∙ sym (cond-true (bytes_eq bs cs) w (place_at m cs) y)
  | inr e ↦ other_names _ _ _ m.entries n.entries h.3 (λ x y. (eq_by_cmp_equiv nat_list_cmp_total).congr cs x.items y.items) (λ k t. is_eq-slice_cmp cs k.items ∙ apart bs cs k.items e (sym (is_eq-slice_cmp bs k.items) ∙ t)) ∙ sym (cond-false (bytes_eq bs cs) w (place_at m cs) e)
]
