-- Every event whose new cell is made where its thread is keeps that each cell is at its site.
use Rattle.std.specs.Prelude.{Bool, List, Option, Some, None, [], ◌∷◌, ◌++◌, ℕ, suc, zero, true, false, if◌then◌else◌, length, nat_lt, option_map, refl, slice_get, slice_index_or, ◌+◌, ◌<◌, ◌≡◌, ◌⊎◌}
use Rattle.std.proofs.Common.{inl, inr, ap, sym, ◌∙◌, subst, arith}
use Rattle.std.proofs.lemmas.Bool.Decides.{nat_tests}
use Rattle.obq_base.specs.declared.acts.Act.{Act}
use Rattle.obq_base.specs.declared.acts.ActKind.{ActKind}
use Rattle.obq_base.specs.declared.acts.Entry.{Entry}
use Rattle.obq_base.specs.Tree.{BlockTree}
use Rattle.obq_model.specs.Terms.{Term}
use Rattle.obq_model.specs.Store.{Cell}
use Rattle.obq_model.specs.Step.{Self, Operation}
use Rattle.obq_model.specs.Config.{Execution, Running, Returned, Failed, ThreadState, Config, act}
use Rattle.obq_model.specs.Located.{Located, site_here, after_steps, locate_execution, locate_entry, with_waiting, first_sites, located_opening, located_run}
use Rattle.obq_model.specs.Replay.{take_entry, replay}
use Rattle.obq_model.proofs.Slices.{get_below, push_same, push_other}
use Rattle.obq_laws.specs.Determinism.{entry_of}
use Rattle.obq_laws.specs.Parts.{located_one}
use Rattle.obq_laws.proofs.LocatedReplay.{located_is, located_replay_law}
use Rattle.obq_laws.proofs.Parts.{located_more}
use Rattle.obq_laws.proofs.Sites.{sited_run}
use Rattle.obq_stands.specs.World.{Ref, Born, with_ref, Memory, with_left, with_made, MayAsk, Request, Reply, Ending, World}
use Rattle.obq_stands.specs.Stands.{StandsFor, Does, OnCell, Makes, Retakes, Joins, Exports, Imports, TooMany}
use Rattle.obq_stands.specs.Events.{Step, Steps, Acted, Forks, Finishes, Asks, Serves, Enters, Holds, Returns, Resumes, windows, world_at}
use Rattle.obq_stands.specs.CellSites.{AreAt, trail_of_execution, trail_of_state, site_behind}
use Rattle.obq_stands.proofs.Refs.{ref_or, with_ref_same, with_ref_other}
use Rattle.obq_stands.proofs.Memory.{born_as}
use Rattle.obq_stands.proofs.Moves.{out_running, out_packet}
use Rattle.obq_stands.proofs.Turns.{state_of}
use Rattle.obq_stands.proofs.Wired.{call_may}
use Rattle.obq_stands.proofs.Opening.{first}

-- ---- new cells

-- the new cell of an act, if it makes one, is at this site
abbrev pub IsMadeAt : {m : Memory} {en : ℕ → ℕ → Option Ending} {threads t : ℕ} {s : Self Ref} {op : Operation Ref} {kind : ActKind} {loc : ℕ} {m2 : Memory} {x : Term Ref} → ℕ → Does m en threads t s op kind loc m2 x → Type 0
IsMadeAt site (Makes r cell after free) = r.site ≡ site
IsMadeAt site does = Unit {0}

-- the new cell of an event is where its thread is
abbrev pub IsMadeThere : {turns : ℕ} {w x : World} → Located → Step turns w x → Type 0
IsMadeThere l (Acted w s t n slot u op hs kind loc m y is few e needs does) = IsMadeAt (site_behind l t n) does
IsMadeThere l s = Unit {0}

-- ---- heaps

-- a cell that is left changed
left_at : (m : Memory) (r : Ref) (y : Born) (left : Option (Cell Ref)) (sites : List ℕ) → m.heap r ≡ Some y → AreAt m sites → AreAt (with_left m r y.born left) sites
left_at m r y None sites here h = λ q x e. h q x e
left_at m r y (Some cell) sites here h = λ q x e. by q x e (ref_or q r)
  where
    by : (q : Ref) (x : Born) → with_ref m.heap r (Some (born_as y.born cell)) q ≡ Some x → ((q ≡ r) ⊎ (q ≡ r → ⊥)) → slice_get sites x.born ≡ Some q.site
    by q x e (inl p) =
        let there : with_ref m.heap r (Some (born_as y.born cell)) q ≡ Some (born_as y.born cell) = rw p (with_ref_same m.heap r (Some (born_as y.born cell))) in
        let same : born_as y.born cell ≡ x = cc (there, e) in
        ap (λ (b : Born). slice_get sites b.born) (sym same) ∙ h r y here ∙ ap (λ (z : Ref). Some z.site) (sym p)
    by q x e (inr ne) = h q x (sym (with_ref_other m.heap r (Some (born_as y.born cell)) q ne) ∙ e)

left_count : (m : Memory) (r : Ref) (born : ℕ) (left : Option (Cell Ref)) → (with_left m r born left).count ≡ m.count
left_count m r born None = refl
left_count m r born (Some cell) = refl

-- a new cell
made_at : (m : Memory) (r : Ref) (cell : Cell Ref) (sites : List ℕ) → length sites ≡ m.count → AreAt m sites → AreAt (with_made m r cell) (sites ++ r.site ∷ [])
made_at m r cell sites long h q x e = by (ref_or q r)
  where
    other : x.born < length sites → x.born ≡ length sites → ⊥
    other l k = absurd (omega arith)

    by : ((q ≡ r) ⊎ (q ≡ r → ⊥)) → slice_get (sites ++ r.site ∷ []) x.born ≡ Some q.site
    by (inl p) =
        let there : with_ref m.heap r (Some (born_as m.count cell)) q ≡ Some (born_as m.count cell) = rw p (with_ref_same m.heap r (Some (born_as m.count cell))) in
        let same : born_as m.count cell ≡ x = cc (there, e) in
        ap (λ (b : Born). slice_get (sites ++ r.site ∷ []) b.born) (sym same) ∙ ap (slice_get (sites ++ r.site ∷ [])) (sym long) ∙ push_same sites r.site ∙ ap (λ (z : Ref). Some z.site) (sym p)
    by (inr ne) =
        let old : slice_get sites x.born ≡ Some q.site = h q x (sym (with_ref_other m.heap r (Some (born_as m.count cell)) q ne) ∙ e) in
        push_other sites r.site x.born (other (get_below sites x.born q.site old)) ∙ old

-- an act, where the sites grow as the cells do
does_at : (m : Memory) (en : ℕ → ℕ → Option Ending) (threads t : ℕ) (s : Self Ref) (op : Operation Ref) (kind : ActKind) (loc : ℕ) (m2 : Memory) (x : Term Ref) (sites sites2 : List ℕ) (here : ℕ) → length sites ≡ m.count → AreAt m sites
    → (m2.count ≡ m.count → sites2 ≡ sites) → (m2.count ≡ suc m.count → sites2 ≡ sites ++ here ∷ []) → (does : Does m en threads t s op kind loc m2 x) → IsMadeAt here does → AreAt m2 sites2
does_at m en threads t s _ kind _ _ x sites sites2 here long h same more (OnCell op r y _ c _ is there row) made = subst (AreAt (with_left m r y.born c)) (sym (same (left_count m r y.born c))) (left_at m r y c sites there h)
does_at m en threads t s _ _ _ _ _ sites sites2 here long h same more (Makes r cell after free) made = subst (AreAt (with_made m r cell)) (ap (λ (k : ℕ). sites ++ k ∷ []) made ∙ sym (more refl)) (made_at m r cell sites long h)
does_at m en threads t s _ kind _ _ x sites sites2 here long h same more (Retakes p q guard y z _ c _ is there row) made = subst (AreAt (with_left m p y.born c)) (sym (same (left_count m p y.born c))) (left_at m p y c sites is h)
does_at m en threads t s _ _ _ _ _ sites sites2 here long h same more (Joins u b ending is) made = subst (AreAt m) (sym (same refl)) h
does_at m en threads t s _ _ _ _ _ sites sites2 here long h same more (Exports y v) made = subst (AreAt m) (sym (same refl)) h
does_at m en threads t s _ kind _ _ x sites sites2 here long h same more (Imports y engine _ _ row) made = subst (AreAt m) (sym (same refl)) h
does_at m en threads t s _ _ _ _ _ sites sites2 here long h same more (TooMany v many) made = subst (AreAt m) (sym (same refl)) h

-- an operation that is asked for makes no cell
asked : (m : Memory) (en : ℕ → ℕ → Option Ending) (threads t : ℕ) (s : Self Ref) (op : Operation Ref) (kind : ActKind) (loc : ℕ) (m2 : Memory) (x : Term Ref) (here : ℕ) → MayAsk op → (does : Does m en threads t s op kind loc m2 x) → (m2.count ≡ m.count) × IsMadeAt here does
asked m en threads t s _ kind _ _ x here may (OnCell op r y _ c _ is there row) = (left_count m r y.born c, tt)
asked m en threads t s _ _ _ _ _ here may (Makes r cell after free) = absurd may
asked m en threads t s _ kind _ _ x here may (Retakes p q guard y z _ c _ is there row) = (left_count m p y.born c, tt)
asked m en threads t s _ _ _ _ _ here may (Joins u b ending is) = (refl, tt)
asked m en threads t s _ _ _ _ _ here may (Exports y v) = (refl, tt)
asked m en threads t s _ kind _ _ x here may (Imports y engine _ _ row) = (refl, tt)
asked m en threads t s _ _ _ _ _ here may (TooMany v many) = (refl, tt)

-- ---- the located fold

no_more : (m n : ℕ) → n ≡ m → nat_lt m n ≡ false
no_more m n e = grind (arith, nat_tests)

one_above : (m n : ℕ) → n ≡ suc m → nat_lt m n ≡ true
one_above m n e = grind (arith, nat_tests)

-- the sites behind an entry, where there are as many cells
same_sites : (sites : ℕ) (l : Located) (k : Config) (t n : ℕ) (a : Option Act) (x : Execution) → length k.store.cells ≡ length l.config.store.cells → (locate_execution sites l k (entry_of t n a) x).cell_sites ≡ l.cell_sites
same_sites sites l k t n None (Running u) e = refl
same_sites sites l k t n (Some a) (Running u) e =
    ap (λ (b : Bool). if b then l.cell_sites ++ site_here (after_steps n u (slice_index_or l.thread_sites t [], l.replies)).0 ∷ [] else l.cell_sites) (no_more (length l.config.store.cells) (length k.store.cells) e)
same_sites sites l k t n a (Returned v) e = refl
same_sites sites l k t n a (Failed x) e = refl

-- and where there is one more
more_sites : (sites : ℕ) (l : Located) (k : Config) (t n : ℕ) (a : Act) (u : Term ℕ) → length k.store.cells ≡ suc (length l.config.store.cells)
    → (locate_execution sites l k (entry_of t n (Some a)) (Running u)).cell_sites ≡ l.cell_sites ++ site_here (trail_of_execution l t n (Running u)) ∷ []
more_sites sites l k t n a u e =
    ap (λ (b : Bool). if b then l.cell_sites ++ site_here (after_steps n u (slice_index_or l.thread_sites t [], l.replies)).0 ∷ [] else l.cell_sites) (one_above (length l.config.store.cells) (length k.store.cells) e)

-- the configuration of the located fold is that of the replay
pub located_config : (trees : List BlockTree) (turns : ℕ) (es : List Entry) (l : Located) → located_run trees turns es ≡ Some l → replay trees turns es ≡ Some l.config
located_config trees turns es l r = sym (located_replay_law trees turns es) ∙ ap (λ (o : Option Located). option_map (λ (z : Located). z.config) (option_map (with_waiting (length trees) turns) o)) r

-- what one entry more comes to
pub record Onward (sites turns : ℕ) (l l2 : Located) (e : Entry) : Type 0 where
  pub config : Config
  pub state : ThreadState
  pub takes : take_entry turns l.config e ≡ Some config
  pub here : slice_get l.config.threads e.thread ≡ Some state
  pub is : locate_execution sites l config e state.execution ≡ l2

onward_by : (sites turns : ℕ) (l l2 : Located) (e : Entry) → locate_entry sites turns l e ≡ Some l2 → Onward sites turns l l2 e
onward_by sites turns l l2 e r = by_option (take_entry turns l.config e) refl r
  where
    by_thread : (k : Config) (s : Option ThreadState) → take_entry turns l.config e ≡ Some k → slice_get l.config.threads e.thread ≡ s → elim s [ None ↦ None | Some state ↦ Some (locate_execution sites l k e state.execution) ] ≡ Some l2 → Onward sites turns l l2 e
    by_thread k None q here x = absurd (cc x)
    by_thread k (Some state) q here x = record { config = k; state = state; takes = q; here = here; is = cc x }

    by_option : (o : Option Config) → take_entry turns l.config e ≡ o → elim o [ None ↦ None | Some k ↦ elim (slice_get l.config.threads e.thread) [ None ↦ None | Some state ↦ Some (locate_execution sites l k e state.execution) ] ] ≡ Some l2 → Onward sites turns l l2 e
    by_option None q x = absurd (cc x)
    by_option (Some k) q x = by_thread k (slice_get l.config.threads e.thread) q refl x

pub onward : (trees : List BlockTree) (turns : ℕ) (es : List Entry) (e : Entry) (l l2 : Located) → located_run trees turns es ≡ Some l → located_run trees turns (es ++ e ∷ []) ≡ Some l2 → Onward (length trees) turns l l2 e
onward trees turns es e l l2 r r2 = onward_by (length trees) turns l l2 e (ap (located_one (length trees) turns e) (sym r) ∙ sym (located_more trees turns es e) ∙ r2)

-- the configuration that the World stands for
pub config_of : (trees : List BlockTree) (turns : ℕ) (x : World) (l : Located) (inv : StandsFor trees turns x) → located_run trees turns x.journal ≡ Some l → inv.config ≡ l.config
config_of trees turns x l inv r = let p = inv.replays in let q = located_config trees turns x.journal l r in cc (p, q)

-- there are as many cells as the World has
cells_of : (trees : List BlockTree) (turns : ℕ) (x : World) (l : Located) → StandsFor trees turns x → located_run trees turns x.journal ≡ Some l → length l.config.store.cells ≡ x.memory.count
cells_of trees turns x l inv r = ap (λ (c : Config). length c.store.cells) (sym (config_of trees turns x l inv r)) ∙ inv.stands.memory.counted

-- ---- events

-- the sites behind an event with an entry, where no cell is made
entry_same : (trees : List BlockTree) (turns : ℕ) (w x : World) (l l2 : Located) (t n : ℕ) (a : Option Act) → StandsFor trees turns w → StandsFor trees turns x → located_run trees turns w.journal ≡ Some l → located_run trees turns x.journal ≡ Some l2
    → x.journal ≡ w.journal ++ entry_of t n a ∷ [] → x.memory.count ≡ w.memory.count → l2.cell_sites ≡ l.cell_sites
entry_same trees turns w x l l2 t n a inv inv2 r r2 j c =
    let o = onward trees turns w.journal (entry_of t n a) l l2 r (ap (located_run trees turns) (sym j) ∙ r2) in
    let same : o.config ≡ l2.config = sym (located_is (length trees) l o.config (entry_of t n a) o.state.execution) ∙ ap (λ (z : Located). z.config) o.is in
    ap (λ (z : Located). z.cell_sites) (sym o.is)
    ∙ same_sites (length trees) l o.config t n a o.state.execution (ap (λ (k : Config). length k.store.cells) same ∙ cells_of trees turns x l2 inv2 r2 ∙ c ∙ sym (cells_of trees turns w l inv r))

-- and where one is
entry_more : (trees : List BlockTree) (turns : ℕ) (w x : World) (l l2 : Located) (t n used : ℕ) (a : Act) (u : Term ℕ) → StandsFor trees turns w → StandsFor trees turns x → located_run trees turns w.journal ≡ Some l → located_run trees turns x.journal ≡ Some l2
    → x.journal ≡ w.journal ++ entry_of t n (Some a) ∷ [] → slice_get l.config.threads t ≡ Some (state_of (Running u) used) → x.memory.count ≡ suc w.memory.count → l2.cell_sites ≡ l.cell_sites ++ site_behind l t n ∷ []
entry_more trees turns w x l l2 t n used a u inv inv2 r r2 j here c =
    let e : Entry = entry_of t n (Some a) in
    let o = onward trees turns w.journal e l l2 r (ap (located_run trees turns) (sym j) ∙ r2) in
    let same : o.config ≡ l2.config = sym (located_is (length trees) l o.config e o.state.execution) ∙ ap (λ (z : Located). z.config) o.is in
    let state : o.state ≡ state_of (Running u) used = let p = o.here in cc (p, here) in
    ap (λ (z : Located). z.cell_sites) (sym o.is)
    ∙ ap (λ (s : ThreadState). (locate_execution (length trees) l o.config e s.execution).cell_sites) state
    ∙ more_sites (length trees) l o.config t n a u (ap (λ (k : Config). length k.store.cells) same ∙ cells_of trees turns x l2 inv2 r2 ∙ c ∙ ap suc (sym (cells_of trees turns w l inv r)))
    ∙ ap (λ (z : Option ThreadState). l.cell_sites ++ site_here (trail_of_state l t n z) ∷ []) (sym here)

-- an event that leaves the memory and notes an entry, and one that notes none
noted_at : (trees : List BlockTree) (turns : ℕ) (w x : World) (l l2 : Located) (t n : ℕ) (a : Option Act) → StandsFor trees turns w → StandsFor trees turns x → located_run trees turns w.journal ≡ Some l → located_run trees turns x.journal ≡ Some l2
    → x.journal ≡ w.journal ++ entry_of t n a ∷ [] → x.memory ≡ w.memory → AreAt w.memory l.cell_sites → AreAt x.memory l2.cell_sites
noted_at trees turns w x l l2 t n a inv inv2 r r2 j m h =
    subst (λ z. AreAt z l2.cell_sites) (sym m) (subst (AreAt w.memory) (sym (entry_same trees turns w x l l2 t n a inv inv2 r r2 j (ap (λ (z : Memory). z.count) m))) h)

silent_at : (trees : List BlockTree) (turns : ℕ) (w x : World) (l l2 : Located) → located_run trees turns w.journal ≡ Some l → located_run trees turns x.journal ≡ Some l2 → x.journal ≡ w.journal → x.memory ≡ w.memory → AreAt w.memory l.cell_sites → AreAt x.memory l2.cell_sites
silent_at trees turns w x l l2 r r2 j m h =
    let there : located_run trees turns w.journal ≡ Some l2 = ap (located_run trees turns) (sym j) ∙ r2 in
    let same : l ≡ l2 = cc (r, there) in
    subst (λ z. AreAt z l2.cell_sites) (sym m) (subst (λ (z : Located). AreAt w.memory z.cell_sites) same h)

-- a request that does its act
served_at : (trees : List BlockTree) (turns : ℕ) (w x : World) (l l2 : Located) (t : ℕ) (s : Self Ref) (op : Operation Ref) (kind : ActKind) (loc : ℕ) (y : Term Ref) → StandsFor trees turns w → StandsFor trees turns x → located_run trees turns w.journal ≡ Some l
    → located_run trees turns x.journal ≡ Some l2 → x.journal ≡ w.journal ++ entry_of t 0 (Some (act kind loc)) ∷ [] → AreAt w.memory l.cell_sites → MayAsk op → Does w.memory w.ended w.threads t s op kind loc x.memory y → AreAt x.memory l2.cell_sites
served_at trees turns w x l l2 t s op kind loc y inv inv2 r r2 j h may does =
    let none = asked w.memory w.ended w.threads t s op kind loc x.memory y 0 may does in
    does_at w.memory w.ended w.threads t s op kind loc x.memory y l.cell_sites l2.cell_sites 0 ((sited_run trees turns w.journal l r).sites.0 ∙ cells_of trees turns w l inv r) h
    (entry_same trees turns w x l l2 t 0 (Some (act kind loc)) inv inv2 r r2 j) (λ e. absurd (never x.memory.count w.memory.count none.0 e)) does none.1
  where
    never : (m n : ℕ) → m ≡ n → m ≡ suc n → ⊥
    never m n e f = absurd (omega arith)

-- an event whose new cell is where its thread is
pub cells_kept : (trees : List BlockTree) (turns : ℕ) (w x : World) (l l2 : Located) → StandsFor trees turns w → StandsFor trees turns x → located_run trees turns w.journal ≡ Some l → AreAt w.memory l.cell_sites
    → (e : Step turns w x) → IsMadeThere l e → located_run trees turns x.journal ≡ Some l2 → AreAt x.memory l2.cell_sites
cells_kept trees turns w x l l2 inv inv2 r h (Steps _ s t n slot u is few e) made r2 = noted_at trees turns w x l l2 t n None inv inv2 r r2 refl refl h
cells_kept trees turns w x l l2 inv inv2 r h (Acted _ s t n slot u op hs kind loc m y is few e needs does) made r2 =
    let goes = (out_running turns w inv.config s t slot inv.stands is).1 in
    let here : slice_get l.config.threads t ≡ Some (state_of (Running goes.term) slot.used) = ap (λ (c : Config). slice_get c.threads t) (sym (config_of trees turns w l inv r)) ∙ goes.here in
    does_at w.memory w.ended w.threads t _ op kind loc m y l.cell_sites l2.cell_sites (site_behind l t n) ((sited_run trees turns w.journal l r).sites.0 ∙ cells_of trees turns w l inv r) h
    (entry_same trees turns w x l l2 t n (Some (act kind loc)) inv inv2 r r2 refl) (entry_more trees turns w x l l2 t n slot.used (act kind loc) goes.term inv inv2 r r2 refl here) does made
cells_kept trees turns w x l l2 inv inv2 r h (Forks _ s t n slot u v hs is few e needs room) made r2 = noted_at trees turns w x l l2 t n (Some (act ActKind.Fork w.threads)) inv inv2 r r2 refl refl h
cells_kept trees turns w x l l2 inv inv2 r h (Finishes _ s t n slot u e is none few steps ends) made r2 = noted_at trees turns w x l l2 t n (Some (act ActKind.End t)) inv inv2 r r2 refl refl h
cells_kept trees turns w x l l2 inv inv2 r h (Asks _ s t to k slot op hs is few needs free) made r2 = silent_at trees turns w x l l2 r r2 refl refl h
cells_kept trees turns w x l l2 inv inv2 r h (Serves _ w1 a b t k used depth self op kind loc m y o takes may does gives) made r2 =
    let q = out_packet turns w inv.config a b (Request t k used depth self op) w1 inv.stands takes in
    served_at trees turns w x l l2 t self op kind loc y inv inv2 r r2 (ap (λ (es : List Entry). es ++ entry_of t 0 (Some (act kind loc)) ∷ []) q.journal) h may does
cells_kept trees turns w x l l2 inv inv2 r h (Enters _ w1 a b t k used depth self op kind loc m y z takes call does enters) made r2 =
    let q = out_packet turns w inv.config a b (Request t k used depth self op) w1 inv.stands takes in
    served_at trees turns w x l l2 t self op kind loc y inv inv2 r r2 (ap (λ (es : List Entry). es ++ entry_of t 0 (Some (act kind loc)) ∷ []) q.journal) h (call_may op call) does
cells_kept trees turns w x l l2 inv inv2 r h (Holds _ w1 a b t k used depth self op takes) made r2 =
    let q = out_packet turns w inv.config a b (Request t k used depth self op) w1 inv.stands takes in
    silent_at trees turns w x l l2 r r2 q.journal q.memory h
cells_kept trees turns w x l l2 inv inv2 r h (Returns _ s t slot call o is answers out) made r2 = silent_at trees turns w x l l2 r r2 refl refl h
cells_kept trees turns w x l l2 inv inv2 r h (Resumes _ w1 a b t k used o e op hs takes here needs) made r2 =
    let q = out_packet turns w inv.config a b (Reply t k used o) w1 inv.stands takes in
    silent_at trees turns w x l l2 r r2 q.journal q.memory h

-- ---- from the start

-- the fold is there where the replay is
pub located_there : (trees : List BlockTree) (turns : ℕ) (es : List Entry) (c : Config) → replay trees turns es ≡ Some c → (l : Located) × (located_run trees turns es ≡ Some l)
located_there trees turns es c e = by (located_run trees turns es) refl
  where
    by : (o : Option Located) → located_run trees turns es ≡ o → (l : Located) × (located_run trees turns es ≡ Some l)
    by (Some l) q = (l, q)
    by None q = absurd (let none : None ≡ Some c = ap (λ (z : Option Located). option_map (λ (y : Located). y.config) (option_map (with_waiting (length trees) turns) z)) (sym q) ∙ located_replay_law trees turns es ∙ e in cc none)

first_there : (k n i : ℕ) → i < n → slice_get (first_sites k n) i ≡ Some (k + i)
first_there k zero i l = absurd (omega arith)
first_there k (suc n) zero l = ap Some (omega arith)
first_there k (suc n) (suc i) l = first_there (suc k) n i (omega arith) ∙ ap Some (omega arith)

pub windows_length : (k : ℕ) (bs : List BlockTree) → length (windows k bs) ≡ length bs
windows_length k [] = refl
windows_length k (b ∷ bs) = ap suc (windows_length (suc k) bs)

pub at_first : (trees : List BlockTree) → AreAt (world_at (windows 0 trees)).memory (located_opening trees).cell_sites
at_first trees r x e =
    let f = first (length (windows 0 trees)) r x e in
    ap (λ (b : Born). slice_get (first_sites 0 (length trees)) b.born) f.cell
    ∙ first_there 0 (length trees) r.site (subst (λ n. r.site < n) (windows_length 0 trees) f.site)
    ∙ ap Some (from_zero r.site)
  where
    from_zero : (n : ℕ) → 0 + n ≡ n
    from_zero n = omega arith
