-- A machine with its sites goes on as a located configuration does.
use Rattle.std.proofs.Common.{Bool, List, None, Option, Some, [], ap, false, if◌then◌else◌, length, nat_lt, option_map, refl, slice_get, slice_index_or, slice_set, suc, sym, true, unwrap_or, zero, ℕ, ◌+◌, ◌∙◌, ◌∷◌, ◌≡◌}
use Rattle.obq_base.specs.declared.acts.Act.{Act}
use Rattle.obq_base.specs.declared.acts.Entry.{Entry}
use Rattle.obq_base.specs.Tree.{BlockTree}
use Rattle.obq_links.proofs.Kept.{act_kept, opening_kept, turn_kept}
use Rattle.obq_links.specs.Sited.{Sited, Trailed, acted, first_sited, numbers_of, site_in, sited_of, trailed, turned_at, with_replies, with_trail}
use Rattle.obq_links.specs.Tables.{table_of}
use Rattle.obq_model.specs.Config.{Config, Execution, Failed, Returned, Running, ThreadState}
use Rattle.obq_model.specs.Located.{AtCell, AtNames, AtThread, Here, Located, Message, Place, Trail, activations_of, after_act, after_entry, after_steps, locate_entry, locate_execution, locate_from, located_opening, place_in, site_at, site_here, thread_activations, turned}
use Rattle.obq_model.specs.Replay.{act_turns, after_pure, take_entry, take_of, take_state}
use Rattle.obq_model.specs.Step.{find, no_self, pure}
use Rattle.obq_model.specs.Store.{same_loc}
use Rattle.obq_model.specs.Terms.{Term}
use Rattle.obq_plain.specs.Following.{Followed, all_followed, followed, followed_behind, followed_from, opened_plain, running_term, sites_behind, steps_on}
use Rattle.obq_plain.specs.PlainStates.{PlainState}

-- a located configuration of so many sites
abbrev pub plain_with : ℕ → ℕ → Config → PlainState
plain_with n turns k = record { config = k; sites = n; turns = turns }

abbrev pub both_of : ℕ → ℕ → Located → Followed
both_of n turns l = (plain_with n turns l.config, sited_of n l)

-- ---- pure steps

abbrev on_from : ℕ → Term ℕ → Trailed → Option (Term ℕ) → Trailed
on_from n t tr o = elim o [ None ↦ tr | Some u ↦ steps_on n u (turned_at (site_here tr.0) (activations_of t) (activations_of u) tr) ]

abbrev after_from : ℕ → Term ℕ → Trail → Option (Term ℕ) → Trail
after_from n t tr o = elim o [ None ↦ tr | Some u ↦ after_steps n u (turned (site_here tr.0) (activations_of t) (activations_of u) tr) ]

step_kept : (n m : ℕ) (t : Term ℕ) (tr : Trail) (o : Option (Term ℕ)) → ((u : Term ℕ) (tr2 : Trail) → steps_on m u (trailed n tr2) ≡ trailed n (after_steps m u tr2))
    → on_from m t (trailed n tr) o ≡ trailed n (after_from m t tr o)
step_kept n m t tr None rest = refl
step_kept n m t tr (Some u) rest =
    ap (steps_on m u) (turn_kept n (site_here tr.0) (activations_of t) (activations_of u) tr) ∙ rest u (turned (site_here tr.0) (activations_of t) (activations_of u) tr)

steps_kept : (n m : ℕ) (t : Term ℕ) (tr : Trail) → steps_on m t (trailed n tr) ≡ trailed n (after_steps m t tr)
steps_kept n zero t tr = refl
steps_kept n (suc m) t tr = step_kept n m t tr (pure same_loc t) (λ u tr2. steps_kept n m u tr2)

-- ---- an act

site_replied : (n : ℕ) (l : Located) (ms : List Message) (here : ℕ) (p : Place) → site_in (with_replies (table_of (suc n) ms) (sited_of n l)) here p ≡ site_at n l here p
site_replied n l ms here Here = refl
site_replied n l ms here (AtCell k) = refl
site_replied n l ms here (AtThread u) = refl
site_replied n l ms here AtNames = refl

sites_kept : (n : ℕ) (l : Located) (k : Config) (t : ℕ) (u : Term ℕ) (tr : Trail)
    → sites_behind l.config k t u tr.0 (with_replies (table_of (suc n) tr.1) (sited_of n l)) ≡ sited_of n (after_act l k t u tr (site_at n l (site_here tr.0) (place_in (find same_loc 0 no_self u))))
sites_kept n l k t u tr =
    ap (λ there. acted t there (numbers_of l.config (activations_of u)) (numbers_of k (thread_activations k t)) tr.0 (with_replies (table_of (suc n) tr.1) (sited_of n l)))
    (site_replied n l tr.1 (site_here tr.0) (place_in (find same_loc 0 no_self u)))
    ∙ act_kept n l k t u tr (site_at n l (site_here tr.0) (place_in (find same_loc 0 no_self u)))

-- ---- an entry

-- what a configuration behind it comes to
abbrev located_by : (Config → Located) → Option Config → Option Located
located_by f o = elim o [ None ↦ None | Some k ↦ Some (f k) ]

abbrev entered_by : ℕ → Located → Entry → Term ℕ → Trail → Option Act → Config → Located
entered_by n l e u tr a k =
    elim a [
      | None ↦ record l { config = k; thread_sites = slice_set l.thread_sites e.thread tr.0; replies = tr.1 }
      | Some b ↦ after_act l k e.thread u tr (site_at n l (site_here tr.0) (place_in (find same_loc 0 no_self u)))
    ]

abbrev plain_by : ℕ → ℕ → Located → Option Config → Option PlainState
plain_by n turns l o = option_map (λ k. record (plain_with n turns l.config) { config = k }) o

keeps : (n turns : ℕ) (l : Located) (e : Entry) (u : Term ℕ) (tr : Trail) (o : Option Config)
    → option_map (λ (q : PlainState). let r : Followed = (q, with_trail e.thread tr.0 (with_replies (table_of (suc n) tr.1) (sited_of n l))) in r) (plain_by n turns l o) ≡ option_map (both_of n turns) (located_by (entered_by n l e u tr None) o)
keeps n turns l e u tr None = refl
keeps n turns l e u tr (Some k) = refl

acts : (n turns : ℕ) (l : Located) (e : Entry) (u : Term ℕ) (tr : Trail) (a : Act) (o : Option Config)
    → option_map (λ (q : PlainState). let r : Followed = (q, sites_behind l.config q.config e.thread u tr.0 (with_replies (table_of (suc n) tr.1) (sited_of n l))) in r) (plain_by n turns l o)
    ≡ option_map (both_of n turns) (located_by (entered_by n l e u tr (Some a)) o)
acts n turns l e u tr a None = refl
acts n turns l e u tr a (Some k) = ap (λ (s : Sited). let r : Option Followed = Some (plain_with n turns k, s) in r) (sites_kept n l k e.thread u tr)

behind_kept : (n turns : ℕ) (l : Located) (e : Entry) (u : Term ℕ) (tr : Trail) (a : Option Act)
    → followed_behind (plain_with n turns l.config) (with_replies (table_of (suc n) tr.1) (sited_of n l)) e a u tr.0 ≡ option_map (both_of n turns) (located_by (entered_by n l e u tr a) (take_entry turns l.config e))
behind_kept n turns l e u tr None = keeps n turns l e u tr (take_entry turns l.config e)
behind_kept n turns l e u tr (Some a) = acts n turns l e u tr a (take_entry turns l.config e)

-- behind pure steps that lead to this term
abbrev behind_steps : PlainState → Sited → Entry → Trailed → Option (Term ℕ) → Option Followed
behind_steps p s e tr o = elim o [ None ↦ None | Some u ↦ followed_behind p (with_replies tr.1 s) e e.act u tr.0 ]

by_pure : (n turns : ℕ) (l : Located) (e : Entry) (t : Term ℕ) (tr : Trail) (o : Option (Term ℕ)) → (o ≡ None → take_entry turns l.config e ≡ None)
    → behind_steps (plain_with n turns l.config) (sited_of n l) e (trailed n tr) o ≡ option_map (both_of n turns) (located_by (λ k. after_entry n l k e t (unwrap_or o t) tr) (take_entry turns l.config e))
by_pure n turns l e t tr None none = sym (ap (λ o. option_map (both_of n turns) (located_by (λ k. after_entry n l k e t t tr) o)) (none refl))
by_pure n turns l e t tr (Some u) none = behind_kept n turns l e u tr e.act

by_limit : (b : Bool) (k : Config) (e : Entry) (o : Option (Term ℕ)) → o ≡ None → (if b then None else take_of k e o) ≡ None
by_limit true k e o h = refl
by_limit false k e o h = ap (take_of k e) h

-- with fewer pure steps no entry is legal
too_few : (turns : ℕ) (k : Config) (e : Entry) (used : ℕ) (t : Term ℕ) → slice_get k.threads e.thread ≡ Some (record { execution = Running t; used = used }) → after_pure e.pure t ≡ None → take_entry turns k e ≡ None
too_few turns k e used t there h = ap (take_state turns k e) there ∙ by_limit (nat_lt turns (used + e.pure + act_turns e.act)) k e (after_pure e.pure t) h

abbrev of_state : ℕ → Located → Entry → Config → Option ThreadState → Option Located
of_state n l e k o = elim o [ None ↦ None | Some state ↦ Some (locate_execution n l k e state.execution) ]

abbrev of_taken : ℕ → Located → Entry → Option ThreadState → Option Config → Option Located
of_taken n l e o w = elim w [ None ↦ None | Some k ↦ of_state n l e k o ]

abbrev by_term : PlainState → Sited → Entry → Option (Term ℕ) → Option Followed
by_term p s e o = elim o [ None ↦ None | Some t ↦ followed_from p s e t ]

nothing_taken : (n turns : ℕ) (l : Located) (e : Entry) (o : Option ThreadState) (w : Option Config) → w ≡ None → None ≡ option_map (both_of n turns) (of_taken n l e o w)
nothing_taken n turns l e o w h = sym (ap (λ v. option_map (both_of n turns) (of_taken n l e o v)) h)

by_execution : (n turns : ℕ) (l : Located) (e : Entry) (used : ℕ) (x : Execution) → slice_get l.config.threads e.thread ≡ Some (record { execution = x; used = used })
    → by_term (plain_with n turns l.config) (sited_of n l) e (running_term (Some (record { execution = x; used = used })))
    ≡ option_map (both_of n turns) (of_taken n l e (Some (record { execution = x; used = used })) (take_entry turns l.config e))
by_execution n turns l e used (Running t) there =
    let tr : Trail = (slice_index_or l.thread_sites e.thread [], l.replies) in
    ap (λ on. behind_steps (plain_with n turns l.config) (sited_of n l) e on (after_pure e.pure t)) (steps_kept n e.pure t tr)
    ∙ by_pure n turns l e t (after_steps e.pure t tr) (after_pure e.pure t) (too_few turns l.config e used t there)
by_execution n turns l e used (Returned v) there = nothing_taken n turns l e (Some (record { execution = Returned v; used = used })) (take_entry turns l.config e) (ap (take_state turns l.config e) there)
by_execution n turns l e used (Failed x) there = nothing_taken n turns l e (Some (record { execution = Failed x; used = used })) (take_entry turns l.config e) (ap (take_state turns l.config e) there)

by_state : (n turns : ℕ) (l : Located) (e : Entry) (o : Option ThreadState) → slice_get l.config.threads e.thread ≡ o
    → by_term (plain_with n turns l.config) (sited_of n l) e (running_term o) ≡ option_map (both_of n turns) (of_taken n l e o (take_entry turns l.config e))
by_state n turns l e None there = nothing_taken n turns l e None (take_entry turns l.config e) (ap (take_state turns l.config e) there)
by_state n turns l e (Some state) there = by_execution n turns l e state.used state.execution there

entry_followed : (n turns : ℕ) (l : Located) (e : Entry) → followed (plain_with n turns l.config) (sited_of n l) e ≡ option_map (both_of n turns) (locate_entry n turns l e)
entry_followed n turns l e = by_state n turns l e (slice_get l.config.threads e.thread) refl

-- ---- a journal

abbrev onward_by : List Entry → Option Followed → Option Followed
onward_by es o = elim o [ None ↦ None | Some q ↦ all_followed q.0 q.1 es ]

abbrev located_onward : ℕ → ℕ → List Entry → Option Located → Option Located
located_onward n turns es o = elim o [ None ↦ None | Some l ↦ locate_from n turns l es ]

by_entry : (n turns : ℕ) (es : List Entry) (o : Option Located) → ((l : Located) → all_followed (plain_with n turns l.config) (sited_of n l) es ≡ option_map (both_of n turns) (locate_from n turns l es))
    → onward_by es (option_map (both_of n turns) o) ≡ option_map (both_of n turns) (located_onward n turns es o)
by_entry n turns es None rest = refl
by_entry n turns es (Some l) rest = rest l

entries_followed : (n turns : ℕ) (l : Located) (es : List Entry) → all_followed (plain_with n turns l.config) (sited_of n l) es ≡ option_map (both_of n turns) (locate_from n turns l es)
entries_followed n turns l [] = refl
entries_followed n turns l (e ∷ es) = ap (onward_by es) (entry_followed n turns l e) ∙ by_entry n turns es (locate_entry n turns l e) (λ l2. entries_followed n turns l2 es)

-- from a program's opening
pub run_followed : (trees : List BlockTree) (turns : ℕ) (es : List Entry)
    → all_followed (opened_plain trees turns) (first_sited (length trees)) es ≡ option_map (both_of (length trees) turns) (locate_from (length trees) turns (located_opening trees) es)
run_followed trees turns es = ap (λ s. all_followed (opened_plain trees turns) s es) (opening_kept trees) ∙ entries_followed (length trees) turns (located_opening trees) es
