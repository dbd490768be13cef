-- A located configuration without its configuration, and with its messages counted.
use Rattle.std.specs.Prelude.{List, [], drop, if◌then◌else◌, length, map, nat_lt, refl, slice_index_or, slice_set, suc, ℕ, ◌==◌, ◌∷◌}
use Rattle.std.specs.Coded.{Coded, code_by, coded_list, coded_ℕ, coded×}
use Rattle.obq_model.specs.Config.{Config}
use Rattle.obq_model.specs.Located.{Located, Trail, Place, Here, AtCell, AtThread, AtNames, first_sites, home_of, site_here, with_more}
use Rattle.obq_links.specs.declared.numbers.Numbers.{Numbers}
use Rattle.obq_links.specs.Tables.{Table, no_messages, table_of, with_message}

-- the sites of cells and threads, and the messages so far between so many sites and the name server
pub record Sited : Type 0 where
  pub sites : ℕ
  pub cell_sites : List ℕ
  pub thread_sites : List (List ℕ)
  pub requests : Table
  pub replies : Table

abbrev pub sited_code : Coded Sited
sited_code =
    code_by (ℕ × (List ℕ × (List (List ℕ) × (Table × Table))))
    (coded× coded_ℕ (coded× (coded_list coded_ℕ) (coded× (coded_list (coded_list coded_ℕ)) (coded× (coded_list (coded_list coded_ℕ)) (coded_list (coded_list coded_ℕ))))))
    (λ s. (s.sites, (s.cell_sites, (s.thread_sites, (s.requests, s.replies)))))
    (λ p. record { sites = p.0; cell_sites = p.1.0; thread_sites = p.1.1.0; requests = p.1.1.1.0; replies = p.1.1.1.1 })
    (λ _. refl)

-- what is kept of a located configuration
abbrev pub sited_of : ℕ → Located → Sited
sited_of n l =
    record {
      sites = n;
      cell_sites = l.cell_sites;
      thread_sites = l.thread_sites;
      requests = table_of (suc n) l.requests;
      replies = table_of (suc n) l.replies;
    }

-- what a program of so many sites opens with
abbrev pub first_sited : ℕ → Sited
first_sited n =
    record {
      sites = n;
      cell_sites = first_sites 0 n;
      thread_sites = map (λ s. s ∷ []) (first_sites 0 n);
      requests = no_messages (suc n);
      replies = no_messages (suc n);
    }

-- the sites of a thread
abbrev pub trail_in : Sited → ℕ → List ℕ
trail_in s t = slice_index_or s.thread_sites t []

-- the site of a place
abbrev pub site_in : Sited → ℕ → Place → ℕ
site_in s here Here = here
site_in s here (AtCell k) = slice_index_or s.cell_sites k 0
site_in s here (AtThread u) = home_of (slice_index_or s.thread_sites u [])
site_in s here AtNames = s.sites

-- the sites of a thread, and the table of replies so far
abbrev pub Trailed : Type 0
Trailed = List ℕ × Table

-- what is kept of a trail and its replies
abbrev pub trailed : ℕ → Trail → Trailed
trailed n tr = (tr.0, table_of (suc n) tr.1)

-- an activation at this site is entered
abbrev pub entered : ℕ → Trailed → Trailed
entered site tr = (site ∷ tr.0, tr.1)

-- the innermost activation is left, which sends a reply to the site around it
abbrev pub left : Trailed → Trailed
left tr = (drop 1 tr.0, with_message (site_here tr.0) (site_here (drop 1 tr.0)) tr.1)

-- a turn that takes so many activations to so many; a new one is at this site
abbrev pub turned_at : ℕ → ℕ → ℕ → Trailed → Trailed
turned_at site before after tr = if nat_lt before after then entered site tr else (if nat_lt after before then left tr else tr)

-- a thread has these sites
abbrev pub with_trail : ℕ → List ℕ → Sited → Sited
with_trail t trail s = record s { thread_sites = slice_set s.thread_sites t trail }

-- the replies so far are these
abbrev pub with_replies : Table → Sited → Sited
with_replies table s = record s { replies = table }

-- the numbers of a configuration, one of whose threads has so many activations
abbrev pub numbers_of : Config → ℕ → Numbers
numbers_of k a = record { cells = length k.store.cells; threads = length k.threads; activations = a }

-- an act that is asked for here and done there, which takes so many activations to so many
abbrev pub with_messages : ℕ → ℕ → (before : ℕ) → (after : ℕ) → Sited → Sited
with_messages here there before after s =
    record s { requests = with_message here there s.requests; replies = if before == after then with_message there here s.replies else s.replies }

-- new cells and threads are at this site
abbrev pub with_new : ℕ → Numbers → Numbers → Sited → Sited
with_new here before after s =
    record s {
      cell_sites = with_more before.cells after.cells here s.cell_sites;
      thread_sites = with_more before.threads after.threads (here ∷ []) s.thread_sites;
    }

-- after an act of thread t, whose sites before it these are, and which is done at the site `there`
abbrev pub acted : (t : ℕ) → (there : ℕ) → Numbers → Numbers → List ℕ → Sited → Sited
acted t there before after trail s =
    let turned : Trailed = turned_at there before.activations after.activations (trail, s.replies) in
    with_messages (site_here trail) there before.activations after.activations
    (with_new (site_here trail) before after (with_trail t turned.0 (with_replies turned.1 s)))

-- a request of thread t waits at this place
abbrev pub asked : ℕ → Place → Sited → Sited
asked t place s = record s { requests = with_message (site_here (trail_in s t)) (site_in s (site_here (trail_in s t)) place) s.requests }
