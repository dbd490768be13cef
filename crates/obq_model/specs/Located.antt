-- A replay with a site beside each cell, thread and activation, and the requests and replies between sites.
use Rattle.std.specs.Prelude.{List, None, Option, Some, [], drop, if◌then◌else◌, length, map, nat_lt, option_map, slice_get, slice_index_or, slice_set, suc, unwrap_or, zero, ℕ, ◌&&◌, ◌++◌, ◌+◌, ◌==◌, ◌∷◌}
use Rattle.obq_base.specs.declared.acts.Entry.{Entry}
use Rattle.obq_base.specs.Tree.{BlockTree}
use Rattle.obq_model.specs.Terms.{Term, Const, Name, Under, Form, Parts, End, Part}
use Rattle.obq_model.specs.Store.{same_loc}
use Rattle.obq_model.specs.Step.{no_self, Operation, New, Get, CallMethod, Leave, Set, Copy, RedirectTo, GetItem, GetSize, EachSize, EachItem, SetItem, ReadVariable, SetVariable, Write, ForkOff, JoinWith, LineUp, GiveUp, Again, Signal, Broadcast, Export, Import, RunEngine, activations_in, Found, Needs, find, pure}
use Rattle.obq_model.specs.Config.{Execution, Running, Returned, Failed, ThreadState, Config}
use Rattle.obq_model.specs.Effect.{Does, Waits, Nothing, effect}
use Rattle.obq_model.specs.Opening.{opening}
use Rattle.obq_model.specs.Replay.{after_pure, take_entry}

-- where an operation is done: at the activation's site, at a cell's, at a thread's home, or at the name server
pub data Place : Type 0 where
  Here : Place
  AtCell : ℕ → Place
  AtThread : ℕ → Place
  AtNames : Place

-- the place of each operation
abbrev pub place_of : Operation ℕ → Place
place_of (New cell after) = Here
place_of (Get o x) = AtCell o
place_of (CallMethod o x vs) = AtCell o
place_of (Leave o out) = AtCell o
place_of (Set o x body) = AtCell o
place_of (Copy o flags copied rest) = AtCell o
place_of (RedirectTo o target) = AtCell o
place_of (GetItem a i) = AtCell a
place_of (GetSize a) = AtCell a
place_of (EachSize a scope) = AtCell a
place_of (EachItem a i n scope) = AtCell a
place_of (SetItem a i v) = AtCell a
place_of (ReadVariable l) = AtCell l
place_of (SetVariable l v) = AtCell l
place_of (Write w text) = AtCell w
place_of (ForkOff f) = Here
place_of (JoinWith u) = AtThread u
place_of (LineUp o c guard) = AtCell c
place_of (GiveUp o c guard) = AtCell o
place_of (Again o c guard) = AtCell o
place_of (Signal c) = AtCell c
place_of (Broadcast c) = AtCell c
place_of (Export x v) = AtNames
place_of (Import x engine) = AtNames
place_of (RunEngine e f) = AtCell e

-- a message from a site to a site; the name server is the site after the last
abbrev pub Message : Type 0
Message = ℕ × ℕ

-- a configuration with sites, and the messages so far
pub record Located : Type 0 where
  pub config : Config
  pub cell_sites : List ℕ  -- the site of each cell
  pub thread_sites : List (List ℕ)  -- of each thread, the sites of its activations, innermost first, and its home
  pub requests : List Message
  pub replies : List Message

-- the activations in a term
abbrev mutual
  pub activations_of : {R : Type 0} → Term R → ℕ
  activations_of (Const v) = 0
  activations_of (Name x) = 0
  activations_of (Under names t) = 0
  activations_of (Form k parts) = activations_in (activations_of_parts parts) k

  pub activations_of_parts : {R : Type 0} → Parts R → ℕ
  activations_of_parts End = 0
  activations_of_parts (Part t parts) = activations_of t + activations_of_parts parts

-- the innermost site
abbrev pub site_here : List ℕ → ℕ
site_here [] = 0
site_here (s ∷ ss) = s

-- the outermost site, the home of a thread
abbrev pub home_of : List ℕ → ℕ
home_of [] = 0
home_of (s ∷ []) = s
home_of (s ∷ ss) = home_of ss

-- one message where the sites differ
abbrev pub message : ℕ → ℕ → List Message
message from to = if from == to then [] else (from, to) ∷ []

-- the sites of a thread, and the replies so far
abbrev pub Trail : Type 0
Trail = List ℕ × List Message

-- an activation at this site is entered
abbrev pub entered_at : ℕ → Trail → Trail
entered_at site tr = (site ∷ tr.0, tr.1)

-- the innermost activation is left, which sends a reply to the site around it
abbrev pub left_from : Trail → Trail
left_from tr = (drop 1 tr.0, message (site_here tr.0) (site_here (drop 1 tr.0)) ++ tr.1)

-- a turn that takes so many activations to so many; a new one is at this site
abbrev pub turned : ℕ → ℕ → ℕ → Trail → Trail
turned site before after tr =
    if nat_lt before after then entered_at site tr else (if nat_lt after before then left_from tr else tr)

-- n pure steps: a closure that is called is where its caller is
abbrev pub after_steps : ℕ → Term ℕ → Trail → Trail
after_steps zero t tr = tr
after_steps (suc n) t tr = elim (pure same_loc t) [ None ↦ tr | Some u ↦ after_steps n u (turned (site_here tr.0) (activations_of t) (activations_of u) tr) ]

-- the site of a place
abbrev pub site_at : ℕ → Located → ℕ → Place → ℕ
site_at sites l here Here = here
site_at sites l here (AtCell k) = slice_index_or l.cell_sites k 0
site_at sites l here (AtThread u) = home_of (slice_index_or l.thread_sites u [])
site_at sites l here AtNames = sites

-- what a thread's term needs is done at this place
abbrev pub place_in : Found ℕ → Place
place_in (Needs op fs) = place_of op
place_in found = Here

-- the activations of a thread that is here
abbrev pub execution_activations : Execution → ℕ
execution_activations (Running t) = activations_of t
execution_activations (Returned v) = 0
execution_activations (Failed e) = 0

-- the activations of a thread
abbrev pub thread_activations : Config → ℕ → ℕ
thread_activations k t = elim (slice_get k.threads t) [ None ↦ 0 | Some state ↦ execution_activations state.execution ]

-- the sites of new cells and new threads
abbrev pub with_more : {A : Type 0} → ℕ → ℕ → A → List A → List A
with_more before after site xs = if nat_lt before after then xs ++ site ∷ [] else xs

-- after the pure steps of thread t, which lead to the term u, and its act, which is done at the site `there`
abbrev pub after_act : Located → Config → ℕ → Term ℕ → Trail → (there : ℕ) → Located
after_act l k t u tr there =
    let here : ℕ = site_here tr.0 in
    let before : ℕ = activations_of u in
    let after : ℕ = thread_activations k t in
    let tr2 : Trail = turned there before after tr in
    record {
      config = k;
      cell_sites = with_more (length l.config.store.cells) (length k.store.cells) here l.cell_sites;
      thread_sites = with_more (length l.config.threads) (length k.threads) (here ∷ []) (slice_set l.thread_sites t tr2.0);
      requests = message here there ++ l.requests;
      replies = (if before == after then message there here else []) ++ tr2.1;
    }

-- after an entry of thread t, whose term before the act is u
abbrev pub after_entry : ℕ → Located → Config → Entry → Term ℕ → Term ℕ → Trail → Located
after_entry sites l k e t u tr =
    elim e.act [
      | None ↦ record l { config = k; thread_sites = slice_set l.thread_sites e.thread tr.0; replies = tr.1 }
      | Some a ↦ after_act l k e.thread u tr (site_at sites l (site_here tr.0) (place_in (find same_loc 0 no_self u)))
    ]

-- after an entry of a thread that is here
abbrev pub locate_execution : ℕ → Located → Config → Entry → Execution → Located
locate_execution sites l k e (Running t) =
    after_entry sites l k e t (unwrap_or (after_pure e.pure t) t) (after_steps e.pure t (slice_index_or l.thread_sites e.thread [], l.replies))
locate_execution sites l k e execution = record l { config = k }

-- after an entry, where it is legal
abbrev pub locate_entry : ℕ → ℕ → Located → Entry → Option Located
locate_entry sites turns l e =
    elim (take_entry turns l.config e) [
      | None ↦ None
      | Some k ↦ elim (slice_get l.config.threads e.thread) [ None ↦ None | Some state ↦ Some (locate_execution sites l k e state.execution) ]
    ]

-- the fold of a journal's entries
abbrev pub locate_from : ℕ → ℕ → Located → List Entry → Option Located
locate_from sites turns l [] = Some l
locate_from sites turns l (e ∷ es) = elim (locate_entry sites turns l e) [ None ↦ None | Some l2 ↦ locate_from sites turns l2 es ]

-- ---- at the end: a thread with a turn left that waits at another site has sent its request

-- a thread's request that waits at the end
abbrev pub waiting_request : ℕ → ℕ → Located → ℕ → ThreadState → Execution → List Message
waiting_request sites turns l t state (Running u) =
    if nat_lt state.used turns
    then elim (effect l.config t) [
      | Does a k ↦ []
      | Waits ↦ message (site_here (slice_index_or l.thread_sites t [])) (site_at sites l (site_here (slice_index_or l.thread_sites t [])) (place_in (find same_loc 0 no_self u)))
      | Nothing ↦ []
    ]
    else []
waiting_request sites turns l t state execution = []

-- the requests of all threads that wait at the end
abbrev pub waiting_requests : ℕ → ℕ → Located → ℕ → List ThreadState → List Message
waiting_requests sites turns l t [] = []
waiting_requests sites turns l t (s ∷ ss) = waiting_request sites turns l t s s.execution ++ waiting_requests sites turns l (suc t) ss

-- the messages with the requests that wait at the end
abbrev pub with_waiting : ℕ → ℕ → Located → Located
with_waiting sites turns l = record l { requests = waiting_requests sites turns l 0 l.config.threads ++ l.requests }

-- writer k is at site k, and thread k begins there
abbrev pub first_sites : ℕ → ℕ → List ℕ
first_sites k zero = []
first_sites k (suc n) = k ∷ first_sites (suc k) n

-- the opening configuration with its sites
abbrev pub located_opening : List BlockTree → Located
located_opening trees =
    record {
      config = opening trees;
      cell_sites = first_sites 0 (length trees);
      thread_sites = map (λ s. s ∷ []) (first_sites 0 (length trees));
      requests = [];
      replies = [];
    }

-- the fold of a program's journal, from its opening with sites
abbrev pub located_run : List BlockTree → (turns : ℕ) → List Entry → Option Located
located_run trees turns entries = locate_from (length trees) turns (located_opening trees) entries

-- the requests and replies of a program's journal: those of the fold, and the requests that wait at the end
abbrev pub located_replay : List BlockTree → (turns : ℕ) → List Entry → Option Located
located_replay trees turns entries = option_map (with_waiting (length trees) turns) (located_run trees turns entries)

-- ---- the table of links

-- how many messages went from this site to that one
abbrev pub sent : ℕ → ℕ → List Message → ℕ
sent from to [] = 0
sent from to (m ∷ ms) = if m.0 == from && m.1 == to then suc (sent from to ms) else sent from to ms

-- from, to, requests and replies
pub data Link : Type 0 where
  Sent : (from : ℕ) → (to : ℕ) → (requests : ℕ) → (replies : ℕ) → Link

-- the row of two sites, where there is a message
abbrev pub link : Located → ℕ → ℕ → List Link
link l from to =
    if sent from to l.requests == 0 && sent from to l.replies == 0 then []
    else Sent from to (sent from to l.requests) (sent from to l.replies) ∷ []

-- the rows from one site
abbrev pub links_from : Located → ℕ → List ℕ → List Link
links_from l from [] = []
links_from l from (to ∷ tos) = link l from to ++ links_from l from tos

-- the rows from several sites
abbrev pub links_of : Located → List ℕ → List ℕ → List Link
links_of l [] tos = []
links_of l (from ∷ froms) tos = links_from l from tos ++ links_of l froms tos

-- each ordered pair with a request or a reply, the name server last
abbrev pub links : ℕ → Located → List Link
links sites l = links_of l (first_sites 0 (suc sites)) (first_sites 0 (suc sites))
