-- The owner law in every configuration that a journal replays to.
use Rattle.std.specs.Prelude.{Bool, List, None, Option, Some, T, [], false, if◌then◌else◌, is_none, length, nat_lt, refl, replicate, slice_get, slice_index_or, slice_set, suc, true, zero, ℕ, ◌++◌, ◌+◌, ◌==◌, ◌∷◌, ◌≡◌}
use Rattle.std.proofs.Common.{inl, inr, subst, ap, sym, ◌∙◌}
use Rattle.std.proofs.lemmas.Bool.{eqb-true, eqb-false}
use Rattle.obq_base.specs.declared.acts.Act.{Act}
use Rattle.obq_base.specs.declared.acts.Entry.{Entry}
use Rattle.obq_base.specs.Tree.{BlockTree}
use Rattle.obq_model.specs.Terms.{Exn, ExitUp, Mode, Plain, Held, Inner, Term}
use Rattle.obq_model.specs.Exceptions.{exit_outside}
use Rattle.obq_model.specs.Store.{WriterCell, Store, same_loc}
use Rattle.obq_model.specs.Step.{no_self, Operation, Frame, plug, Found, Next, Needs, Done, Uncaught, find, pure, self_at}
use Rattle.obq_model.specs.Forms.{IsFormed, Mark, Inside, marks_of}
use Rattle.obq_model.specs.Config.{Execution, Running, Returned, Failed, ThreadState, Config, with_execution}
use Rattle.obq_model.specs.Effect.{Outcome, Waiting, Acting, Forking, perform, Effect, Does, Waits, Nothing, after_outcome, effect_of, effect_of_execution, effect_of_state, effect}
use Rattle.obq_model.specs.Opening.{block_term, opening_terms, new_threads, opening}
use Rattle.obq_model.specs.Replay.{after_pure, act_same, spend, with_turns, exactly, then_act, act_turns, take_of, take_execution, take_state, take_entry, replay_from}
use Rattle.obq_model.specs.OneCell.{owner_of}
use Rattle.obq_laws.specs.Keeping.{IsNotHeld, Keeps, IsSourceExecution, AllFit, FitExecution, IsFormedConfig, IsFormedIf, holds_now, IsOnce, is_owner, owns, execution_marks, marks_at, OwnersHold, OwnersHoldIf, OwnerLaw}
use Rattle.obq_laws.proofs.Source.{source-marks_of}
use Rattle.obq_laws.proofs.Methods.{leaving, marks_around, AreSourceFrames, IsSourceOperation, IsGood, good_find}
use Rattle.obq_laws.proofs.Acts.{IsGoodOutcome, FitsSelf, good_perform}
use Rattle.obq_laws.proofs.OwnerActs.{Owners, owners_perform}
use Rattle.obq_laws.proofs.Plugged.{marks_plug, step_keeps}
use Rattle.obq_laws.proofs.Opened.{source_block}
use Rattle.obq_laws.proofs.Flags.{fit_before, nobody_fits, self_at_fits}
use Rattle.obq_laws.proofs.Formed.{GoodThreadState, good_state, with_execution_formed, with_turns_formed, FormedAfter, one_step, more_steps, entry_formed, opening_of_formed}
use Rattle.obq_laws.proofs.OwnerTerms.{now_append, once_left, NewLaw, act_law, frames_away, self_holds}

-- ---- threads

pub marks_get : (ts : List ThreadState) (t : ℕ) (state : ThreadState) → slice_get ts t ≡ Some state → marks_at ts t ≡ execution_marks state.execution
marks_get [] t state e = absurd (no_thread e)
  where
    no_thread : None ≡ Some state → ⊥
    no_thread q = subst (λ o. T (is_none o)) q tt
marks_get (s ∷ ss) zero state e = ap state_marks e
  where
    state_marks : Option ThreadState → List (ℕ × Mark)
    state_marks None = []
    state_marks (Some s) = execution_marks s.execution
marks_get (s ∷ ss) (suc t) state e = marks_get ss t state e

marks_set_same : (ts : List ThreadState) (t : ℕ) (state old : ThreadState) → slice_get ts t ≡ Some old → marks_at (slice_set ts t state) t ≡ execution_marks state.execution
marks_set_same [] t state old e = absurd (no_thread e)
  where
    no_thread : None ≡ Some old → ⊥
    no_thread q = subst (λ o. T (is_none o)) q tt
marks_set_same (s ∷ ss) zero state old e = refl
marks_set_same (s ∷ ss) (suc t) state old e = marks_set_same ss t state old e

marks_set_other : (ts : List ThreadState) (t u : ℕ) (state : ThreadState) → (u ≡ t → ⊥) → marks_at (slice_set ts t state) u ≡ marks_at ts u
marks_set_other [] t u state ne = refl
marks_set_other (s ∷ ss) zero zero state ne = absurd (ne refl)
marks_set_other (s ∷ ss) zero (suc u) state ne = refl
marks_set_other (s ∷ ss) (suc t) zero state ne = refl
marks_set_other (s ∷ ss) (suc t) (suc u) state ne = marks_set_other ss t u state (λ e. ne (ap suc e))

marks_add : (ts : List ThreadState) (state : ThreadState) (u : ℕ) → execution_marks state.execution ≡ [] → marks_at (ts ++ state ∷ []) u ≡ marks_at ts u
marks_add [] state zero e = e
marks_add [] state (suc u) e = refl
marks_add (s ∷ ss) state zero e = refl
marks_add (s ∷ ss) state (suc u) e = marks_add ss state u e

abbrev pub LawOf : Store ℕ → ℕ → List (ℕ × Mark) → Type 0
LawOf st t ws = IsOnce ws × ((o : ℕ) → owns st o t ≡ holds_now o ws)

law_set : (st st' : Store ℕ) (ts : List ThreadState) (t : ℕ) (state old : ThreadState) → slice_get ts t ≡ Some old → OwnersHold st ts → NewLaw st st' t (execution_marks state.execution) → OwnersHold st' (slice_set ts t state)
law_set st st' ts t state old e law new u = by_thread (u == t) refl
  where
    by_thread : (b : Bool) → (u == t) ≡ b → LawOf st' u (marks_at (slice_set ts t state) u)
    by_thread true q = subst (λ v. LawOf st' v (marks_at (slice_set ts t state) v)) (sym (eqb-true u t q)) (subst (LawOf st' t) (sym (marks_set_same ts t state old e)) (new.0, new.1))
    by_thread false q = subst (LawOf st' u) (sym (marks_set_other ts t u state (eqb-false u t q))) ((law u).0, (λ o. new.2 u (eqb-false u t q) o ∙ (law u).1 o))

-- the same store, and the same marks in other words
same_marks : (st : Store ℕ) (t : ℕ) (ws ws' : List (ℕ × Mark)) → IsOnce ws' → ((o : ℕ) → holds_now o ws' ≡ holds_now o ws) → LawOf st t ws → NewLaw st st t ws'
same_marks st t ws ws' once now law = (once, (λ o. law.1 o ∙ sym (now o)), (λ u ne o. refl))

-- ---- acts

abbrev OwnedEffect : Effect → Type 0
OwnedEffect (Does a k) = OwnersHold k.store k.threads
OwnedEffect Waits = Unit {0}
OwnedEffect Nothing = Unit {0}

owned_outcome : (k : Config) (t : ℕ) (old : ThreadState) (op : Operation ℕ) (fs : List (Frame ℕ)) (x : Outcome) → slice_get k.threads t ≡ Some old → OwnersHold k.store k.threads → AreSourceFrames no_self fs → IsSourceOperation (self_at no_self fs) op → IsGoodOutcome (self_at no_self fs) op x → Owners t op k.store x → LawOf k.store t (marks_around fs ++ leaving op) → OwnedEffect (after_outcome k t fs x)
owned_outcome k t old op fs Waiting e law h i g w l = tt
owned_outcome k t old op fs (Acting kind loc st focus) e law h i g w l =
    law_set k.store st k.threads t (record { execution = Running (plug fs focus); used = (slice_index_or k.threads t (record { execution = Running (plug fs focus); used = 0 })).used }) old e law
    (subst (NewLaw k.store st t) (sym (marks_plug no_self fs focus h)) (act_law k.store st t op kind loc focus (marks_around fs) (λ o. frames_away no_self fs o h) (self_holds fs op h i) w g.2 l.0 l.1))
owned_outcome k t old op fs (Forking loc new focus) e law h i g w l =
    let state : ThreadState = record { execution = Running (plug fs focus); used = (slice_index_or k.threads t (record { execution = Running (plug fs focus); used = 0 })).used } in
    let fresh : ThreadState = record { execution = Running new; used = 0 } in
    let plain : LawOf k.store t (marks_around fs ++ []) = subst (λ ws. LawOf k.store t (marks_around fs ++ ws)) g.3 l in
    let one : OwnersHold k.store (slice_set k.threads t state) =
    law_set k.store k.store k.threads t state old e law
    (subst (NewLaw k.store k.store t) (sym (marks_plug no_self fs focus h ∙ ap (λ ws. marks_around fs ++ ws) g.2)) (same_marks k.store t (marks_around fs ++ []) (marks_around fs ++ []) plain.0 (λ o. refl) plain)) in
    λ u. subst (LawOf k.store u) (sym (marks_add (slice_set k.threads t state) fresh u (source-marks_of new g.0))) (one u)

owned_end : (k : Config) (t : ℕ) (old : ThreadState) (ws : List (ℕ × Mark)) (l : Execution) → slice_get k.threads t ≡ Some old → OwnersHold k.store k.threads → ws ≡ [] → execution_marks l ≡ [] → LawOf k.store t ws → OwnersHold k.store (with_execution k t l).threads
owned_end k t old ws l e law q n h =
    law_set k.store k.store k.threads t (record { execution = l; used = (slice_index_or k.threads t (record { execution = l; used = 0 })).used }) old e law
    (subst (NewLaw k.store k.store t) (sym n) (same_marks k.store t [] [] tt (λ o. refl) (subst (LawOf k.store t) q h)))

owned_found : (k : Config) (t : ℕ) (old : ThreadState) (ws : List (ℕ × Mark)) (x : Found ℕ) → slice_get k.threads t ≡ Some old → IsFormedConfig k → OwnersHold k.store k.threads → AllFit k.store ws → IsGood no_self ws x → LawOf k.store t ws → OwnedEffect (effect_of k t x)
owned_found k t old ws (Next u) e c law f g l = tt
owned_found k t old ws (Needs op fs) e c law f g l =
    let around : AllFit k.store (marks_around fs) = fit_before k.store (marks_around fs) (leaving op) (subst (AllFit k.store) g.0 f) in
    let self_fits : FitsSelf k.store (self_at no_self fs) = self_at_fits k.store no_self fs (nobody_fits k.store) around in
    owned_outcome k t old op fs (perform k t (self_at no_self fs) op) e law g.1 g.2
    (good_perform k t (self_at no_self fs) op self_fits c.0 g.2) (owners_perform k t (self_at no_self fs) op c.0 g.2) (subst (LawOf k.store t) g.0 l)
owned_found k t old ws (Done v) e c law f g l = owned_end k t old ws (Returned v) e law g.1 refl l
owned_found k t old ws (Uncaught (Exn x)) e c law f g l = owned_end k t old ws (Failed x) e law g refl l
owned_found k t old ws (Uncaught ExitUp) e c law f g l = owned_end k t old ws (Failed exit_outside) e law g refl l

owned_execution : (k : Config) (t : ℕ) (old : ThreadState) (l : Execution) → slice_get k.threads t ≡ Some old → IsFormedConfig k → OwnersHold k.store k.threads → IsSourceExecution l → FitExecution k.store l → LawOf k.store t (execution_marks l) → OwnedEffect (effect_of_execution k t l)
owned_execution k t old (Running u) e c law h f m = owned_found k t old (marks_of u) (find same_loc 0 no_self u) e c law f (good_find same_loc 0 no_self u h) m
owned_execution k t old (Returned v) e c law h f m = tt
owned_execution k t old (Failed x) e c law h f m = tt

owned_state : (k : Config) (t : ℕ) (o : Option ThreadState) → slice_get k.threads t ≡ o → IsFormedConfig k → OwnersHold k.store k.threads → GoodThreadState k.store o → OwnedEffect (effect_of_state k t o)
owned_state k t None e c law g = tt
owned_state k t (Some state) e c law g = owned_execution k t state state.execution e c law g.0 g.1 (subst (LawOf k.store t) (marks_get k.threads t state e) (law t))

pub owned_effect : (k : Config) (t : ℕ) → IsFormedConfig k → OwnersHold k.store k.threads → OwnedEffect (effect k t)
owned_effect k t c law = owned_state k t (slice_get k.threads t) refl c law (good_state k.store k.threads t c.0.1 c.1)

-- ---- pure steps

keeps_now : (xs ys : List (ℕ × Mark)) → Keeps xs ys → (o : ℕ) → holds_now o ys ≡ holds_now o xs
keeps_now xs ys (inl e) o = ap (holds_now o) e
keeps_now xs ys (inr d) o = sym (ap (holds_now o) d.3 ∙ dropped d.1 d.2)
  where
    dropped : (m : Mode) → IsNotHeld m → holds_now o (ys ++ (d.0, Inside m) ∷ []) ≡ holds_now o ys
    dropped Plain h = now_append o ys ((d.0, Inside Plain) ∷ []) refl refl
    dropped Held h = absurd h
    dropped Inner h = now_append o ys ((d.0, Inside Inner) ∷ []) refl refl

keeps_once : (xs ys : List (ℕ × Mark)) → Keeps xs ys → IsOnce xs → IsOnce ys
keeps_once xs ys (inl e) h = subst IsOnce (sym e) h
keeps_once xs ys (inr d) h = once_left ys ((d.0, Inside d.1) ∷ []) (subst IsOnce d.3 h)

-- after pure steps the law holds of the marks
abbrev pub LawAfter : Store ℕ → ℕ → Option (Term ℕ) → Type 0
LawAfter st t None = Unit {0}
LawAfter st t (Some u) = LawOf st t (marks_of u)

law_step : (st : Store ℕ) (t : ℕ) (u : Term ℕ) → IsFormed no_self u → LawOf st t (marks_of u) → LawAfter st t (pure same_loc u)
law_step st t u h l = by_option (pure same_loc u) refl where
  by_option : (o : Option (Term ℕ)) → pure same_loc u ≡ o → LawAfter st t o
  by_option None e = tt
  by_option (Some v) e =
      let kept : IsFormed no_self v × Keeps (marks_of u) (marks_of v) = step_keeps same_loc 0 no_self u v h e in
      (keeps_once (marks_of u) (marks_of v) kept.1 l.0, (λ o. l.1 o ∙ sym (keeps_now (marks_of u) (marks_of v) kept.1 o)))

pub law_steps : (st : Store ℕ) (t n : ℕ) (u : Term ℕ) → IsFormed no_self u → AllFit st (marks_of u) → LawOf st t (marks_of u) → LawAfter st t (after_pure n u)
law_steps st t zero u h f l = l
law_steps st t (suc n) u h f l = by_option (pure same_loc u) (one_step st u h f) (law_step st t u h l) (λ v. law_steps st t n v)
  where
    by_option : (o : Option (Term ℕ)) → FormedAfter st o → LawAfter st t o → ((v : Term ℕ) → IsFormed no_self v → AllFit st (marks_of v) → LawOf st t (marks_of v) → LawAfter st t (after_pure n v)) → LawAfter st t (elim o [ None ↦ None | Some v ↦ after_pure n v ])
    by_option None g m next = tt
    by_option (Some v) g m next = next v g.0 g.1 m

-- ---- entries

owned_turns : (k : Config) (t n : ℕ) (o : Option ThreadState) → slice_get k.threads t ≡ o → OwnersHold k.store k.threads → OwnersHold k.store (elim o [ None ↦ k.threads | Some state ↦ slice_set k.threads t (spend n state) ])
owned_turns k t n None e law = law
owned_turns k t n (Some state) e law =
    law_set k.store k.store k.threads t (spend n state) state e law
    (same_marks k.store t (execution_marks state.execution) (execution_marks state.execution) (subst (LawOf k.store t) (marks_get k.threads t state e) (law t)).0 (λ o. refl) (subst (LawOf k.store t) (marks_get k.threads t state e) (law t)))

owned_with_turns : (t n : ℕ) (k : Config) → OwnersHold k.store k.threads → OwnersHold k.store (with_turns t n k).threads
owned_with_turns t n k law = owned_turns k t n (slice_get k.threads t) refl law

owned_exactly : (a : Act) (e : Effect) → OwnedEffect e → OwnersHoldIf (exactly a e)
owned_exactly a (Does b k) h = by_case (act_same a b) where
  by_case : (c : Bool) → OwnersHoldIf (if c then Some k else None)
  by_case true = h
  by_case false = tt
owned_exactly a Waits h = tt
owned_exactly a Nothing h = tt

owned_turn : (t : ℕ) (o : Option Config) → OwnersHoldIf o → OwnersHoldIf (elim o [ None ↦ None | Some k2 ↦ Some (with_turns t 1 k2) ])
owned_turn t None h = tt
owned_turn t (Some k2) h = owned_with_turns t 1 k2 h

owned_act : (t : ℕ) (o : Option Act) (k : Config) → IsFormedConfig k → OwnersHold k.store k.threads → OwnersHoldIf (then_act t o k)
owned_act t None k c law = law
owned_act t (Some a) k c law = owned_turn t (exactly a (effect k t)) (owned_exactly a (effect k t) (owned_effect k t c law))

-- after pure steps of a thread the configuration is formed, and the law holds
pub formed_steps : (k : Config) (t n : ℕ) (u : Term ℕ) → IsFormedConfig k → IsFormed no_self u → AllFit k.store (marks_of u) → IsFormedConfig (with_turns t n (with_execution k t (Running u)))
formed_steps k t n u c h f = with_turns_formed t n (with_execution k t (Running u)) (with_execution_formed k t (Running u) c h f)

pub owned_steps : (k : Config) (t n : ℕ) (old : ThreadState) (u : Term ℕ) → slice_get k.threads t ≡ Some old → OwnersHold k.store k.threads → LawOf k.store t (marks_of u) → OwnersHold k.store (with_turns t n (with_execution k t (Running u))).threads
owned_steps k t n old u q law m =
    owned_with_turns t n (with_execution k t (Running u))
    (law_set k.store k.store k.threads t (record { execution = Running u; used = (slice_index_or k.threads t (record { execution = Running u; used = 0 })).used }) old q law (same_marks k.store t (marks_of u) (marks_of u) m.0 (λ o. refl) m))

owned_take : (k : Config) (e : Entry) (old : ThreadState) (o : Option (Term ℕ)) → slice_get k.threads e.thread ≡ Some old → IsFormedConfig k → OwnersHold k.store k.threads → FormedAfter k.store o → LawAfter k.store e.thread o → OwnersHoldIf (take_of k e o)
owned_take k e old None q c law g m = tt
owned_take k e old (Some u) q c law g m =
    owned_act e.thread e.act (with_turns e.thread e.pure (with_execution k e.thread (Running u))) (formed_steps k e.thread e.pure u c g.0 g.1) (owned_steps k e.thread e.pure old u q law m)

if_owned : (b : Bool) (o : Option Config) → OwnersHoldIf o → OwnersHoldIf (if b then None else o)
if_owned true o h = tt
if_owned false o h = h

owned_take_execution : (turns : ℕ) (k : Config) (e : Entry) (state : ThreadState) (l : Execution) → slice_get k.threads e.thread ≡ Some state → IsFormedConfig k → OwnersHold k.store k.threads → IsSourceExecution l → FitExecution k.store l → LawOf k.store e.thread (execution_marks l) → OwnersHoldIf (take_execution turns k e state l)
owned_take_execution turns k e state (Running u) q c law h f m =
    if_owned (nat_lt turns (state.used + e.pure + act_turns e.act)) (take_of k e (after_pure e.pure u))
    (owned_take k e state (after_pure e.pure u) q c law (more_steps k.store e.pure u h f) (law_steps k.store e.thread e.pure u h f m))
owned_take_execution turns k e state (Returned v) q c law h f m = tt
owned_take_execution turns k e state (Failed x) q c law h f m = tt

owned_take_state : (turns : ℕ) (k : Config) (e : Entry) (o : Option ThreadState) → slice_get k.threads e.thread ≡ o → IsFormedConfig k → OwnersHold k.store k.threads → GoodThreadState k.store o → OwnersHoldIf (take_state turns k e o)
owned_take_state turns k e None q c law g = tt
owned_take_state turns k e (Some state) q c law g = owned_take_execution turns k e state state.execution q c law g.0 g.1 (subst (LawOf k.store e.thread) (marks_get k.threads e.thread state q) (law e.thread))

pub owned_entry : (turns : ℕ) (k : Config) (e : Entry) → IsFormedConfig k → OwnersHold k.store k.threads → OwnersHoldIf (take_entry turns k e)
owned_entry turns k e c law = owned_take_state turns k e (slice_get k.threads e.thread) refl c law (good_state k.store k.threads e.thread c.0.1 c.1)

owned_from : (turns : ℕ) (k : Config) (es : List Entry) → IsFormedConfig k → OwnersHold k.store k.threads → OwnersHoldIf (replay_from turns k es)
owned_from turns k [] c law = law
owned_from turns k (e ∷ es) c law = by_option (take_entry turns k e) (entry_formed turns k e c) (owned_entry turns k e c law) (λ k2. owned_from turns k2 es)
  where
    by_option : (o : Option Config) → IsFormedIf o → OwnersHoldIf o → ((k2 : Config) → IsFormedConfig k2 → OwnersHold k2.store k2.threads → OwnersHoldIf (replay_from turns k2 es)) → OwnersHoldIf (elim o [ None ↦ None | Some k2 ↦ replay_from turns k2 es ])
    by_option None h l next = tt
    by_option (Some k2) h l next = next k2 h l

-- ---- the opening: no owner and no marks

writers_free : (n p : ℕ) → owner_of {R = ℕ} (slice_get (replicate n (WriterCell [])) p) ≡ None
writers_free zero p = refl
writers_free (suc n) zero = refl
writers_free (suc n) (suc p) = writers_free n p

opening_marks : (site : ℕ) (bs : List BlockTree) (t : ℕ) → marks_at (new_threads (opening_terms site bs)) t ≡ []
opening_marks site [] t = refl
opening_marks site (b ∷ bs) zero = source-marks_of (block_term site [] b) (source_block site [] b)
opening_marks site (b ∷ bs) (suc t) = opening_marks (suc site) bs t

pub owned_opening : (trees : List BlockTree) → OwnersHold (opening trees).store (opening trees).threads
owned_opening trees t = subst (LawOf (opening trees).store t) (sym (opening_marks 0 trees t)) (tt, (λ o. ap (is_owner t) (writers_free (length (opening_terms 0 trees)) o)))

pub owner_law : OwnerLaw
owner_law trees turns entries = owned_from turns (opening trees) entries (opening_of_formed trees) (owned_opening trees)
