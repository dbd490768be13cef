-- Pure steps with sites beside them, and entries that aren't legal.
use Rattle.std.proofs.Common.{Err, List, None, Option, Some, ap, false, is_none, is_some, option_map, refl, subst, suc, sym, true≢false, ℕ, ◌∙◌, ◌≡◌}
use Rattle.obq_base.specs.declared.acts.Entry.{Entry}
use Rattle.obq_laws.proofs.Refused.{why_not_law}
use Rattle.obq_links.specs.Sited.{Sited, Trailed, turned_at, with_replies}
use Rattle.obq_links.specs.Tables.{Table}
use Rattle.obq_model.specs.Config.{Config}
use Rattle.obq_model.specs.Located.{activations_of, site_here}
use Rattle.obq_model.specs.Refusals.{Why, why_not}
use Rattle.obq_model.specs.Replay.{take_entry}
use Rattle.obq_model.specs.Step.{pure}
use Rattle.obq_model.specs.Store.{same_loc}
use Rattle.obq_model.specs.Terms.{Term}
use Rattle.obq_plain.specs.Following.{steps_on, taken}
use Rattle.obq_plain.specs.PlainStates.{PlainState, TakeCases, why_of}
use Rattle.obq_plain.specs.declared.refusals.TakeRefused.{TakeRefused}
use Rattle.obq_plain.specs.declared.refusals.Why.{Why as Refusal}

is_nothing : {A : Type 0} (o : Option A) → is_some o ≡ false → o ≡ None
is_nothing None h = refl
is_nothing (Some x) h = absurd (true≢false h)

-- an entry that is refused leads nowhere
pub not_taken : (p : PlainState) (e : Entry) (why : Why) → why_not p.turns p.config e ≡ Some why → taken p e ≡ None
not_taken p e why h =
    ap (option_map (λ (k : Config). let q : PlainState = record p { config = k } in q)) (is_nothing (take_entry p.turns p.config e) (sym (why_not_law p.turns p.config e) ∙ ap is_none h))

pub refused_not_taken : (p q : PlainState) (e : Entry) (r : TakeRefused) (why : Refusal) → r ≡ TakeRefused.NotLegal why → TakeCases {T = Unit {0}} p e (Err r) q → taken p e ≡ None
refused_not_taken p q e r why is cases = not_taken p e (why_of why) ((subst (λ x. TakeCases {T = Unit {0}} p e (Err x) q) is cases).0)

-- one step more
pub on_next : (n m : ℕ) (u v : Term ℕ) (tr tr2 whole : Trailed) → m ≡ suc n → Some v ≡ pure same_loc u → tr2 ≡ turned_at (site_here tr.0) (activations_of u) (activations_of v) tr
    → steps_on m u tr ≡ whole → steps_on n v tr2 ≡ whole
on_next n m u v tr tr2 whole many same moved before =
    ap (steps_on n v) moved
    ∙ ap (λ o. elim o as (λ (x : Option (Term ℕ)). Trailed) [ None ↦ tr | Some w ↦ steps_on n w (turned_at (site_here tr.0) (activations_of u) (activations_of w) tr) ]) same
    ∙ sym (ap (λ k. steps_on k u tr) many)
    ∙ before

-- no step is left
pub on_last : (n m : ℕ) (u : Term ℕ) (tr whole : Trailed) → m ≡ suc n → None ≡ pure same_loc u → steps_on m u tr ≡ whole → tr ≡ whole
on_last n m u tr whole many same before =
    ap (λ o. elim o as (λ (x : Option (Term ℕ)). Trailed) [ None ↦ tr | Some w ↦ steps_on n w (turned_at (site_here tr.0) (activations_of u) (activations_of w) tr) ]) same
    ∙ sym (ap (λ k. steps_on k u tr) many)
    ∙ before

-- what a turn leaves, whose site and numbers of activations are those of two terms
pub turn_moved : (u v : Term ℕ) (tr : Trailed) (site before after : ℕ) (trail : List ℕ) (old new : Sited) → site ≡ site_here tr.0 → before ≡ activations_of u → after ≡ activations_of v
    → trail ≡ (turned_at site before after tr).0 → new ≡ with_replies (turned_at site before after tr).1 old → ◌≡◌ {A = Trailed} (trail, new.replies) (turned_at (site_here tr.0) (activations_of u) (activations_of v) tr)
turn_moved u v tr site before after trail old new e f g there kept =
    ap (λ (x : List ℕ). let r : Trailed = (x, new.replies) in r) there
    ∙ ap (λ (s : Sited). let r : Trailed = ((turned_at site before after tr).0, s.replies) in r) kept
    ∙ ap (λ k. turned_at k before after tr) e
    ∙ ap (λ k. turned_at (site_here tr.0) k after tr) f
    ∙ ap (λ k. turned_at (site_here tr.0) (activations_of u) k tr) g

-- replies alone have changed
pub sited_on : (old new first : Sited) (replies : Table) → old ≡ with_replies old.replies first → new ≡ with_replies replies old → new ≡ with_replies new.replies first
sited_on old new first replies e f = f ∙ ap (with_replies replies) e ∙ ap (λ r. with_replies r first) (sym (ap (λ (s : Sited). s.replies) f))
