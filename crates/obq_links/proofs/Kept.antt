-- What is kept of a located configuration goes on as the configuration does.
use Rattle.std.proofs.Common.{Bool, List, [], ap, if◌then◌else◌, false, drop, length, nat_lt, refl, slice_index_or, suc, true, ℕ, ◌++◌, ◌==◌, ◌∙◌, ◌∷◌, ◌≡◌}
use Rattle.obq_base.specs.Tree.{BlockTree}
use Rattle.obq_model.specs.Config.{Config}
use Rattle.obq_model.specs.Located.{Located, Message, Place, Here, AtCell, AtThread, AtNames, Trail, activations_of, after_act, entered_at, left_from, located_opening, message, site_at, site_here, thread_activations, turned}
use Rattle.obq_model.specs.Terms.{Term}
use Rattle.obq_links.specs.Tables.{Table, table_of, with_message}
use Rattle.obq_links.specs.Sited.{Sited, Trailed, acted, asked, first_sited, numbers_of, site_in, sited_of, trailed, turned_at, with_messages, with_new, with_replies, with_trail}
use Rattle.obq_links.specs.declared.numbers.Numbers.{Numbers}
use Rattle.obq_links.proofs.Tallied.{table_empty, table_with}

-- ---- the opening

pub opening_kept : (trees : List BlockTree) → first_sited (length trees) ≡ sited_of (length trees) (located_opening trees)
opening_kept trees = ap (λ (table : Table). record (first_sited (length trees)) { requests = table; replies = table }) (table_empty (suc (length trees)))

-- ---- trails

left_kept : (n : ℕ) (tr : Trail) → (drop 1 tr.0, with_message (site_here tr.0) (site_here (drop 1 tr.0)) (table_of (suc n) tr.1)) ≡ trailed n (left_from tr)
left_kept n tr = ap (λ (table : Table). let r : Trailed = (drop 1 tr.0, table) in r) (table_with (suc n) (site_here tr.0) (site_here (drop 1 tr.0)) tr.1)

by_fewer : (n : ℕ) (tr : Trail) (b : Bool) (x : Trailed) → x ≡ trailed n (left_from tr) → (if b then x else trailed n tr) ≡ trailed n (if b then left_from tr else tr)
by_fewer n tr true x e = e
by_fewer n tr false x e = refl

by_more : (n site : ℕ) (tr : Trail) (b : Bool) (x : Trailed) (y : Trail) → x ≡ trailed n y → (if b then (site ∷ tr.0, table_of (suc n) tr.1) else x) ≡ trailed n (if b then entered_at site tr else y)
by_more n site tr true x y e = refl
by_more n site tr false x y e = e

pub turn_kept : (n site before after : ℕ) (tr : Trail) → turned_at site before after (trailed n tr) ≡ trailed n (turned site before after tr)
turn_kept n site before after tr =
    by_more n site tr (nat_lt before after) _ (if nat_lt after before then left_from tr else tr) (by_fewer n tr (nat_lt after before) _ (left_kept n tr))

-- ---- acts

-- the site of a place
pub site_kept : (n : ℕ) (l : Located) (here : ℕ) (p : Place) → site_in (sited_of n l) here p ≡ site_at n l here p
site_kept n l here Here = refl
site_kept n l here (AtCell k) = refl
site_kept n l here (AtThread u) = refl
site_kept n l here AtNames = refl

by_stay : (n there here : ℕ) (ms : List Message) (b : Bool) → (if b then with_message there here (table_of n ms) else table_of n ms) ≡ table_of n ((if b then message there here else []) ++ ms)
by_stay n there here ms true = table_with n there here ms
by_stay n there here ms false = refl

-- an act whose turn leaves this trail and these replies
abbrev after_turn : ℕ → ℕ → ℕ → Numbers → Numbers → Sited → Trailed → Sited
after_turn t here there before after s tr = with_messages here there before.activations after.activations (with_new here before after (with_trail t tr.0 (with_replies tr.1 s)))

-- two tables in the place of others
abbrev with_tables : Sited → Table → Table → Sited
with_tables s requests replies = record s { requests = requests; replies = replies }

pub act_kept : (n : ℕ) (l : Located) (k : Config) (t : ℕ) (u : Term ℕ) (tr : Trail) (there : ℕ)
    → acted t there (numbers_of l.config (activations_of u)) (numbers_of k (thread_activations k t)) tr.0 (with_replies (table_of (suc n) tr.1) (sited_of n l)) ≡ sited_of n (after_act l k t u tr there)
act_kept n l k t u tr there =
    let before : Numbers = numbers_of l.config (activations_of u) in
    let after : Numbers = numbers_of k (thread_activations k t) in
    let here : ℕ = site_here tr.0 in
    let tr2 : Trail = turned there before.activations after.activations tr in
    let s : Sited = with_new here before after (with_trail t tr2.0 (sited_of n l)) in
    ap (after_turn t here there before after (sited_of n l)) (turn_kept n there before.activations after.activations tr)
    ∙ ap (λ requests. with_tables s requests (if before.activations == after.activations then with_message there here (table_of (suc n) tr2.1) else table_of (suc n) tr2.1)) (table_with (suc n) here there l.requests)
    ∙ ap (λ replies. with_tables s (table_of (suc n) (message here there ++ l.requests)) replies) (by_stay (suc n) there here tr2.1 (before.activations == after.activations))

-- ---- requests that wait

-- these requests in the place of others
abbrev with_requests : List Message → Located → Located
with_requests ms l = record l { requests = ms }

-- the site of a place doesn't depend on messages
site_asked : (n : ℕ) (l : Located) (ms : List Message) (here : ℕ) (p : Place) → site_in (sited_of n (with_requests ms l)) here p ≡ site_at n l here p
site_asked n l ms here Here = refl
site_asked n l ms here (AtCell k) = refl
site_asked n l ms here (AtThread u) = refl
site_asked n l ms here AtNames = refl

-- the request of a thread that waits at this place
abbrev pub waiting_at : ℕ → Located → ℕ → Place → List Message
waiting_at n l t p = message (site_here (slice_index_or l.thread_sites t [])) (site_at n l (site_here (slice_index_or l.thread_sites t [])) p)

pub ask_kept : (n : ℕ) (l : Located) (t : ℕ) (p : Place) (ms : List Message)
    → asked t p (sited_of n (record l { requests = ms })) ≡ sited_of n (record l { requests = waiting_at n l t p ++ ms })
ask_kept n l t p ms =
    let here : ℕ = site_here (slice_index_or l.thread_sites t []) in
    ap (λ there. with_tables (sited_of n l) (with_message here there (table_of (suc n) ms)) (table_of (suc n) l.replies)) (site_asked n l ms here p)
    ∙ ap (λ requests. with_tables (sited_of n l) requests (table_of (suc n) l.replies)) (table_with (suc n) here (site_at n l here p) ms)
