-- Requests and replies of the located fold, for each ordered pair of sites.
use Rattle.std.specs.Prelude.{List, Some, [], length, ℕ, ◌++◌, ◌+◌, ◌∷◌, ◌≡◌}
use Rattle.obq_base.specs.declared.acts.Entry.{Entry}
use Rattle.obq_base.specs.Tree.{BlockTree}
use Rattle.obq_model.specs.Located.{Located, Message, message, waiting_requests, with_waiting, located_run, located_replay, sent}

-- the requests that the activations of a trail came by, where an activation's site isn't that of the one around it
abbrev pub open_calls : List ℕ → List Message
open_calls [] = []
open_calls (s ∷ []) = []
open_calls (s ∷ r ∷ ss) = message r s ++ open_calls (r ∷ ss)

-- those of all threads
abbrev pub all_open : List (List ℕ) → List Message
all_open [] = []
all_open (tr ∷ trs) = open_calls tr ++ all_open trs

-- for each pair of sites there are as many requests as replies, and one more for each activation that was called so and isn't left
abbrev pub Balanced : Located → Type 0
Balanced l = (a b : ℕ) → sent a b l.requests ≡ sent b a l.replies + sent a b (all_open l.thread_sites)

-- so in every located fold
abbrev pub RunBalanced : Type 0
RunBalanced = (trees : List BlockTree) (turns : ℕ) (es : List Entry) (l : Located) → located_run trees turns es ≡ Some l → Balanced l

-- so at the end of a located replay, with one more for each thread that waits in an act at the other site; and these are the only ones that it adds
abbrev pub ReplayBalanced : Type 0
ReplayBalanced =
    (trees : List BlockTree) (turns : ℕ) (es : List Entry) (l : Located) → located_run trees turns es ≡ Some l
    → (located_replay trees turns es ≡ Some (with_waiting (length trees) turns l))
    × ((a b : ℕ) → sent a b (with_waiting (length trees) turns l).requests ≡ sent b a l.replies + sent a b (all_open l.thread_sites) + sent a b (waiting_requests (length trees) turns l 0 l.config.threads))
