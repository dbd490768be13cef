-- The located replay is the replay, with sites beside it.
use Rattle.std.specs.Prelude.{List, None, Option, Some, [], length, option_map, refl, slice_get, slice_index_or, slice_set, unwrap_or, ℕ, ◌∷◌, ◌≡◌}
use Rattle.std.proofs.Common.{ap, sym, ◌∙◌}
use Rattle.obq_base.specs.declared.acts.Act.{Act}
use Rattle.obq_base.specs.declared.acts.Entry.{Entry}
use Rattle.obq_model.specs.Terms.{Term}
use Rattle.obq_model.specs.Store.{same_loc}
use Rattle.obq_model.specs.Step.{no_self, find}
use Rattle.obq_model.specs.Config.{Execution, Running, Returned, Failed, ThreadState, Config}
use Rattle.obq_model.specs.Replay.{after_pure, take_state, take_entry, replay_from}
use Rattle.obq_model.specs.Located.{Located, site_here, Trail, after_steps, site_at, place_in, after_act, after_entry, locate_execution, locate_from, with_waiting, located_opening}
use Rattle.obq_model.proofs.Options.{none_some}
use Rattle.obq_laws.specs.LocatedReplay.{LocatedReplay}

abbrev configs : Option Located → Option Config
configs o = option_map (λ (l : Located). l.config) o

-- what an entry leaves has the configuration after it
abbrev after_of : ℕ → Located → Config → Entry → Term ℕ → Term ℕ → Trail → Option Act → Located
after_of sites l k e t u tr None = record l { config = k; thread_sites = slice_set l.thread_sites e.thread tr.0; replies = tr.1 }
after_of sites l k e t u tr (Some a) = after_act l k e.thread u tr (site_at sites l (site_here tr.0) (place_in (find same_loc 0 no_self u)))

after_is : (sites : ℕ) (l : Located) (k : Config) (e : Entry) (t u : Term ℕ) (tr : Trail) (m : Option Act) → (after_of sites l k e t u tr m).config ≡ k
after_is sites l k e t u tr None = refl
after_is sites l k e t u tr (Some a) = refl

after_same : (sites : ℕ) (l : Located) (k : Config) (e : Entry) (t u : Term ℕ) (tr : Trail) (m : Option Act) → e.act ≡ m → after_entry sites l k e t u tr ≡ after_of sites l k e t u tr m
after_same sites l k e t u tr None q = ap (λ (o : Option Act). let after : Located = elim o [ None ↦ record l { config = k; thread_sites = slice_set l.thread_sites e.thread tr.0; replies = tr.1 } | Some a ↦ after_act l k e.thread u tr (site_at sites l (site_here tr.0) (place_in (find same_loc 0 no_self u))) ] in after) q
after_same sites l k e t u tr (Some a) q = ap (λ (o : Option Act). let after : Located = elim o [ None ↦ record l { config = k; thread_sites = slice_set l.thread_sites e.thread tr.0; replies = tr.1 } | Some a ↦ after_act l k e.thread u tr (site_at sites l (site_here tr.0) (place_in (find same_loc 0 no_self u))) ] in after) q

pub located_is : (sites : ℕ) (l : Located) (k : Config) (e : Entry) (x : Execution) → (locate_execution sites l k e x).config ≡ k
located_is sites l k e (Running t) =
    let u : Term ℕ = unwrap_or (after_pure e.pure t) t in
    let tr : Trail = after_steps e.pure t (slice_index_or l.thread_sites e.thread [], l.replies) in
    ap (λ (x : Located). x.config) (after_same sites l k e t u tr e.act refl) ∙ after_is sites l k e t u tr e.act
located_is sites l k e (Returned v) = refl
located_is sites l k e (Failed x) = refl

abbrev pub thread_from : ℕ → Located → Entry → Config → Option ThreadState → Option Located
thread_from sites l e k s = elim s [ None ↦ None | Some state ↦ Some (locate_execution sites l k e state.execution) ]

abbrev pub entry_from : ℕ → Located → Entry → Option Config → Option Located
entry_from sites l e o = elim o [ None ↦ None | Some k ↦ thread_from sites l e k (slice_get l.config.threads e.thread) ]

abbrev pub rest_from : ℕ → ℕ → List Entry → Option Located → Option Located
rest_from sites turns es o = elim o [ None ↦ None | Some l2 ↦ locate_from sites turns l2 es ]

abbrev onward : ℕ → List Entry → Option Config → Option Config
onward turns es o = elim o [ None ↦ None | Some k ↦ replay_from turns k es ]

located_from : (sites turns : ℕ) (l : Located) (es : List Entry) → configs (locate_from sites turns l es) ≡ replay_from turns l.config es
located_from sites turns l [] = refl
located_from sites turns l (e ∷ es) = by_option (take_entry turns l.config e) refl (λ l2. located_from sites turns l2 es)
  where
    by_thread : (k : Config) (s : Option ThreadState) → slice_get l.config.threads e.thread ≡ s → take_entry turns l.config e ≡ Some k → ((l2 : Located) → configs (locate_from sites turns l2 es) ≡ replay_from turns l2.config es) → configs (rest_from sites turns es (thread_from sites l e k s)) ≡ replay_from turns k es
    by_thread k None r q next = absurd (none_some k (sym (ap (take_state turns l.config e) r) ∙ q))
    by_thread k (Some state) r q next = next (locate_execution sites l k e state.execution) ∙ ap (λ c. replay_from turns c es) (located_is sites l k e state.execution)

    by_option : (o : Option Config) → take_entry turns l.config e ≡ o → ((l2 : Located) → configs (locate_from sites turns l2 es) ≡ replay_from turns l2.config es) → configs (rest_from sites turns es (entry_from sites l e o)) ≡ onward turns es o
    by_option None q next = refl
    by_option (Some k) q next = by_thread k (slice_get l.config.threads e.thread) refl q next

waiting_same : (sites turns : ℕ) (o : Option Located) → configs (option_map (with_waiting sites turns) o) ≡ configs o
waiting_same sites turns None = refl
waiting_same sites turns (Some l) = refl

pub located_replay_law : LocatedReplay
located_replay_law trees turns entries =
    waiting_same (length trees) turns (locate_from (length trees) turns (located_opening trees) entries) ∙ located_from (length trees) turns (located_opening trees) entries
