-- Aliases and threads that are seen from another site.
use Rattle.std.specs.Prelude.{List, Some, [], codes, false, refl, ◌∷◌, ◌≡◌}
use Rattle.std.specs.Fmt.{digits}
use Rattle.obq_base.specs.Tree.{BlockTree}
use Rattle.obq_model.specs.Located.{Sent}
use Rattle.obq_rows.specs.Sources.{block, then_run, bind_let, int, text, okay, named, procedure, flags, object, value_field, alias_field, call_named, select, print}
use Rattle.obq_rows.specs.Schedule.{LowestFirst, HighestFirst, Printed, run, links_of_run}

-- A: let q = net_import("q", "n"); wr_putText(stdout, fmt_int(q.x));
-- E: let p = {y => 5}; net_export("q", "n", {x => alias y of p end});
abbrev pub alias_abroad : List BlockTree
alias_abroad =
    block (
    bind_let "q" (call_named "net_import" (text "q" ∷ text "n" ∷ []))
    ∷ then_run (print (call_named "fmt_int" (select (named "q") "x" ∷ [])))
    ∷ []
    )
    ∷ block (
    bind_let "p" (object (flags false false) (value_field "y" (int 5) ∷ []))
    ∷ then_run (call_named "net_export" (text "q" ∷ text "n" ∷ object (flags false false) (alias_field "x" "y" (named "p") ∷ []) ∷ []))
    ∷ []
    )
    ∷ []

alias_abroad_prints : run LowestFirst 300 100000 alias_abroad ≡ Printed (codes "5" ∷ [] ∷ []) 2 0 0 0 0
unfolding digits
alias_abroad_prints = refl

alias_abroad_prints_other_schedule : run HighestFirst 300 100000 alias_abroad ≡ Printed (codes "5" ∷ [] ∷ []) 2 0 0 0 0
unfolding digits
alias_abroad_prints_other_schedule = refl

-- the hop and then the selection at its target are each a request and a reply
alias_abroad_links : links_of_run LowestFirst 300 100000 alias_abroad ≡ Some (Sent 0 1 2 0 ∷ Sent 0 2 1 0 ∷ Sent 1 0 0 2 ∷ Sent 1 2 1 0 ∷ Sent 2 0 0 1 ∷ Sent 2 1 0 1 ∷ [])
unfolding digits
alias_abroad_links = refl

-- A: let t = net_import("t", "n"); join(t); wr_putText(stdout, "j");
-- E: net_export("t", "n", fork(proc() ok end));
abbrev pub join_abroad : List BlockTree
join_abroad =
    block (
    bind_let "t" (call_named "net_import" (text "t" ∷ text "n" ∷ []))
    ∷ then_run (call_named "join" (named "t" ∷ []))
    ∷ then_run (print (text "j"))
    ∷ []
    )
    ∷ block (
    then_run (call_named "net_export" (text "t" ∷ text "n" ∷ call_named "fork" (procedure [] (then_run okay ∷ []) ∷ []) ∷ []))
    ∷ []
    )
    ∷ []

join_abroad_prints : run LowestFirst 300 100000 join_abroad ≡ Printed (codes "j" ∷ [] ∷ []) 3 0 0 0 0
unfolding digits
join_abroad_prints = refl

-- a thread's home is where it was forked
join_abroad_links : links_of_run LowestFirst 300 100000 join_abroad ≡ Some (Sent 0 1 1 0 ∷ Sent 0 2 1 0 ∷ Sent 1 0 0 1 ∷ Sent 1 2 1 0 ∷ Sent 2 0 0 1 ∷ Sent 2 1 0 1 ∷ [])
unfolding digits
join_abroad_links = refl
