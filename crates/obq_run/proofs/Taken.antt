-- Entries that are taken one after the other.
use Rattle.std.proofs.Common.{List, None, Option, Some, [], ap, false, refl, subst, suc, sym, true, ℕ, ◌++◌, ◌≡◌, ◌∙◌, ◌∷◌}
use Rattle.std.specs.Prelude.{is_none, is_some}
use Rattle.obq_base.specs.Tree.{BlockTree}
use Rattle.obq_base.specs.declared.acts.Entry.{Entry}
use Rattle.obq_laws.proofs.Parts.{replay_more}
use Rattle.obq_laws.proofs.Refused.{why_not_law}
use Rattle.obq_laws.specs.Parts.{after_one}
use Rattle.obq_model.specs.Config.{Config}
use Rattle.obq_model.specs.Refusals.{Why, first_refused, why_not}
use Rattle.obq_model.specs.Replay.{TakeTurns, replay, replay_from, take_entry}

-- one entry more is taken where the journal leads
pub taken_more : (trees : List BlockTree) (turns limit : ℕ) (es : List Entry) (e : Entry) (k k2 : Config) → limit ≡ turns → replay trees turns es ≡ Some k → take_entry limit k e ≡ Some k2
    → replay trees turns (es ++ e ∷ []) ≡ Some k2
taken_more trees turns limit es e k k2 same leads takes =
    let here : take_entry turns k e ≡ Some k2 = subst (λ n. take_entry n k e ≡ Some k2) same takes in
    replay_more trees turns es e ∙ (ap (after_one turns e) leads ∙ here)

-- each entry takes a turn, the new one too
pub turns_more : (es : List Entry) (e : Entry) → TakeTurns es → TakeTurns (e ∷ []) → TakeTurns (es ++ e ∷ [])
turns_more [] e before now = now
turns_more (x ∷ es) e before now = (before.0, turns_more es e before.1 now)

true_not_false : true ≡ false → ⊥
true_not_false h = cc

-- an entry that is legal is refused for no reason
pub refused_not : (turns : ℕ) (k : Config) (e : Entry) (why : Why) (k2 : Config) → take_entry turns k e ≡ Some k2 → why_not turns k e ≡ Some why → ⊥
refused_not turns k e why k2 takes refused = true_not_false (sym (ap is_some takes) ∙ (sym (why_not_law turns k e) ∙ ap is_none refused))

no_reason : (o : Option Why) → is_none o ≡ true → o ≡ None
no_reason None h = refl
no_reason (Some why) h = absurd cc

none_refused : (turns : ℕ) (k : Config) (e : Entry) (k2 : Config) → take_entry turns k e ≡ Some k2 → why_not turns k e ≡ None
none_refused turns k e k2 takes = no_reason (why_not turns k e) (why_not_law turns k e ∙ ap is_some takes)

-- the first of the entries is taken
pub replay_one : (turns : ℕ) (k k2 : Config) (e : Entry) (es : List Entry) → take_entry turns k e ≡ Some k2 → replay_from turns k (e ∷ es) ≡ replay_from turns k2 es
replay_one turns k k2 e es takes = ap (λ o. elim o [ None ↦ None | Some k3 ↦ replay_from turns k3 es ]) takes

pub first_one : (turns : ℕ) (k k2 : Config) (n : ℕ) (e : Entry) (es : List Entry) → take_entry turns k e ≡ Some k2 → first_refused turns k n (e ∷ es) ≡ first_refused turns k2 (suc n) es
first_one turns k k2 n e es takes =
    ap (λ o. elim o [ Some why ↦ Some (n, why) | None ↦ elim (take_entry turns k e) [ None ↦ None | Some k3 ↦ first_refused turns k3 (suc n) es ] ]) (none_refused turns k e k2 takes)
    ∙ ap (λ o. elim o [ None ↦ None | Some k3 ↦ first_refused turns k3 (suc n) es ]) takes
