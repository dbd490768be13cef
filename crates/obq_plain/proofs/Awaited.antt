-- Requests of threads that wait at the end, and the table of links then.
use Rattle.std.proofs.Common.{Bool, List, None, Option, Some, [], ap, append_assoc, arith, false, if◌then◌else◌, length, map, nat_lt, option_map, refl, slice_get, suc, sym, true, ℕ, ◌+◌, ◌++◌, ◌∙◌, ◌∷◌, ◌≡◌}
use Rattle.std.proofs.lemmas.List.{length-map}
use Rattle.obq_base.specs.declared.acts.Entry.{Entry}
use Rattle.obq_base.specs.Tree.{BlockTree}
use Rattle.obq_base.specs.View.{block_tree}
use Rattle.obq_base.specs.declared.trees.Block.{Block}
use Rattle.obq_links.proofs.Kept.{ask_kept, waiting_at}
use Rattle.obq_links.proofs.Linked.{links_kept}
use Rattle.obq_links.specs.Rows.{rows_in}
use Rattle.obq_links.specs.Sited.{Sited, first_sited, sited_of}
use Rattle.obq_model.specs.Config.{Config, Execution, Failed, Returned, Running, ThreadState}
use Rattle.obq_model.specs.Effect as f
use Rattle.obq_model.specs.Effect.{Effect, Outcome, effect, effect_of, effect_of_state, perform}
use Rattle.obq_model.specs.Located.{Link, Located, Message, Place, links, locate_from, located_opening, located_replay, place_in, place_of, waiting_request, waiting_requests, with_waiting}
use Rattle.obq_model.specs.Step.{Done, Found, Frame, Needs, Next, Operation, Uncaught, find, no_self, self_at}
use Rattle.obq_model.specs.Store.{same_loc}
use Rattle.obq_plain.proofs.Followed.{both_of, run_followed}
use Rattle.obq_plain.specs.Ahead.{act_of}
use Rattle.obq_plain.specs.PlainStates.{PlainState}
use Rattle.obq_plain.specs.Following.{Followed, all_asked, all_followed, asked_at, opened_plain, place_waiting, waits_at}

-- the request of a thread that waits at this place, if it waits
abbrev asks : ℕ → Located → ℕ → Option Place → List Message
asks n l t None = []
asks n l t (Some p) = waiting_at n l t p

abbrev waiting_by : ℕ → Located → ℕ → Found ℕ → Effect → List Message
waiting_by n l t found effect = elim effect [ f.Does a k ↦ [] | f.Waits ↦ waiting_at n l t (place_in found) | f.Nothing ↦ [] ]

abbrev waiting_for : Operation ℕ → Outcome → Option Place
waiting_for op o = elim (act_of o) [ None ↦ Some (place_of op) | Some a ↦ None ]

by_outcome : (n : ℕ) (l : Located) (t : ℕ) (op : Operation ℕ) (fs : List (Frame ℕ)) (o : Outcome) → asks n l t (waiting_for op o) ≡ waiting_by n l t (Needs op fs) (f.after_outcome l.config t fs o)
by_outcome n l t op fs f.Waiting = refl
by_outcome n l t op fs (f.Acting kind at st focus) = refl
by_outcome n l t op fs (f.Forking at new focus) = refl

by_found : (n : ℕ) (l : Located) (t : ℕ) (found : Found ℕ) → asks n l t (place_waiting l.config t found) ≡ waiting_by n l t found (effect_of l.config t found)
by_found n l t (Next u) = refl
by_found n l t (Needs op fs) = by_outcome n l t op fs (perform l.config t (self_at no_self fs) op)
by_found n l t (Done v) = refl
by_found n l t (Uncaught r) = refl

by_turns : (n : ℕ) (l : Located) (t : ℕ) (found : Found ℕ) (b : Bool) (effect : Effect) → effect_of l.config t found ≡ effect
    → asks n l t (if b then place_waiting l.config t found else None) ≡ (if b then waiting_by n l t found effect else [])
by_turns n l t found true effect e = by_found n l t found ∙ ap (waiting_by n l t found) e
by_turns n l t found false effect e = refl

request_asked : (n turns : ℕ) (l : Located) (t used : ℕ) (x : Execution) → slice_get l.config.threads t ≡ Some (record { execution = x; used = used })
    → asks n l t (waits_at turns l.config t used x) ≡ waiting_request n turns l t (record { execution = x; used = used }) x
request_asked n turns l t used (Running u) there =
    by_turns n l t (find same_loc 0 no_self u) (nat_lt used turns) (effect l.config t) (sym (ap (effect_of_state l.config t) there))
request_asked n turns l t used (Returned v) there = refl
request_asked n turns l t used (Failed e) there = refl

-- these requests in the place of others
abbrev asking : ℕ → Located → List Message → Sited
asking n l ms = sited_of n (record l { requests = ms })

one_asked : (n : ℕ) (l : Located) (t : ℕ) (o : Option Place) (ms : List Message) → asked_at t o (asking n l ms) ≡ asking n l (asks n l t o ++ ms)
one_asked n l t None ms = refl
one_asked n l t (Some p) ms = ask_kept n l t p ms

-- the threads from this one on are these
abbrev AreFrom : Config → ℕ → List ThreadState → Type 0
AreFrom k t states = (i : ℕ) (state : ThreadState) → slice_get states i ≡ Some state → slice_get k.threads (t + i) ≡ Some state

first_from : (k : Config) (t : ℕ) (state : ThreadState) (states : List ThreadState) → AreFrom k t (state ∷ states) → slice_get k.threads t ≡ Some state
first_from k t state states all = let e : t ≡ t + 0 = omega arith in ap (slice_get k.threads) e ∙ all 0 state refl

rest_from : (k : Config) (t : ℕ) (state : ThreadState) (states : List ThreadState) → AreFrom k t (state ∷ states) → AreFrom k (suc t) states
rest_from k t state states all i other h = let e : suc t + i ≡ t + suc i = omega arith in ap (slice_get k.threads) e ∙ all (suc i) other h

requests_asked : (n turns : ℕ) (l : Located) (t : ℕ) (states : List ThreadState) (ms : List Message) → AreFrom l.config t states
    → all_asked turns l.config t states (asking n l ms) ≡ asking n l (waiting_requests n turns l t states ++ ms)
requests_asked n turns l t [] ms all = refl
requests_asked n turns l t (state ∷ states) ms all =
    let rest : List Message = waiting_requests n turns l (suc t) states in
    ap (asked_at t (waits_at turns l.config t state.used state.execution)) (requests_asked n turns l (suc t) states ms (rest_from l.config t state states all))
    ∙ one_asked n l t (waits_at turns l.config t state.used state.execution) (rest ++ ms)
    ∙ ap (λ one. asking n l (one ++ (rest ++ ms))) (request_asked n turns l t state.used state.execution (first_from l.config t state states all))
    ∙ ap (asking n l) (sym (append_assoc (waiting_request n turns l t state state.execution) rest ms))

all_from : (k : Config) → AreFrom k 0 k.threads
all_from k i state h = let e : 0 + i ≡ i = omega arith in ap (slice_get k.threads) e ∙ h

-- the table of links at the end
abbrev pub rows_at : Followed → List Link
rows_at q = rows_in (all_asked q.0.turns q.0.config 0 q.0.config.threads q.1)

rows_kept : (n turns : ℕ) (l : Located) → rows_at (both_of n turns l) ≡ links n (with_waiting n turns l)
rows_kept n turns l = ap rows_in (requests_asked n turns l 0 l.config.threads l.requests (all_from l.config)) ∙ links_kept n (with_waiting n turns l)

by_run : (n turns : ℕ) (o : Option Located) → option_map rows_at (option_map (both_of n turns) o) ≡ option_map (links n) (option_map (with_waiting n turns) o)
by_run n turns None = refl
by_run n turns (Some l) = ap (λ (rows : List Link). let r : Option (List Link) = Some rows in r) (rows_kept n turns l)

pub journal_linked : (trees : List BlockTree) (turns : ℕ) (es : List Entry)
    → option_map rows_at (all_followed (opened_plain trees turns) (first_sited (length trees)) es) ≡ option_map (links (length trees)) (located_replay trees turns es)
journal_linked trees turns es = ap (option_map rows_at) (run_followed trees turns es) ∙ by_run (length trees) turns (locate_from (length trees) turns (located_opening trees) es)

-- the same of a program's blocks
pub blocks_linked : (blocks : List Block) (turns : ℕ) (es : List Entry) (p : PlainState) (s : Sited) (o : Option Followed) → p ≡ opened_plain (map block_tree blocks) turns → s ≡ first_sited (length blocks)
    → all_followed p s es ≡ o → option_map rows_at o ≡ option_map (links (length blocks)) (located_replay (map block_tree blocks) turns es)
blocks_linked blocks turns es p s o e f h =
    let trees : List BlockTree = map block_tree blocks in
    let n : length trees ≡ length blocks = length-map blocks block_tree in
    ap (option_map rows_at) (sym h ∙ ap (λ q. all_followed q s es) e ∙ ap (λ z. all_followed (opened_plain trees turns) z es) (f ∙ ap first_sited (sym n)))
    ∙ journal_linked trees turns es
    ∙ ap (λ k. option_map (links k) (located_replay trees turns es)) n
