-- Programs that only print texts: what their journal is, and what it prints.
use Rattle.std.specs.Prelude.{List, Some, [], codes, length, true, ℕ, ◌*◌, ◌++◌, ◌+◌, ◌∷◌, ◌≡◌, ◌≤◌}
use Rattle.obq_base.specs.declared.acts.ActKind.{ActKind}
use Rattle.obq_base.specs.declared.acts.Entry.{Entry}
use Rattle.obq_base.specs.Tree.{BlockTree, BlockOf, ItemTrees, NoItems, AnItem, ItemTree, PlainItem, TextTree, NameTree, SuffixedTree, NoExprs, AnExpr, ApplySuffix, NoSuffixes, ASuffix}
use Rattle.obq_model.specs.Terms.{Bytes, Okay}
use Rattle.obq_model.specs.Store.{WriterCell}
use Rattle.obq_model.specs.Config.{Returned, Config, act}
use Rattle.obq_model.specs.Replay.{replay, TakeTurns, report, output, is_over, IsOver}

-- an item `wr_putText(stdout, "text")`, with the places of its nodes
pub record Print : Type 0 where
  pub text : Bytes
  pub name_place : ℕ
  pub stdout_place : ℕ
  pub text_place : ℕ
  pub call_place : ℕ

abbrev pub print_item : Print → ItemTree
print_item p =
    PlainItem (SuffixedTree (NameTree (codes "wr_putText") p.name_place)
    (ASuffix (ApplySuffix (AnExpr (NameTree (codes "stdout") p.stdout_place) (AnExpr (TextTree p.text p.text_place) NoExprs)) p.call_place) NoSuffixes))

abbrev pub print_items : List Print → ItemTrees
print_items [] = NoItems
print_items (p ∷ ps) = AnItem (print_item p) (print_items ps)

abbrev pub printing : List Print → (place : ℕ) → List BlockTree
printing ps place = BlockOf (print_items ps) place ∷ []

-- the texts, one after the other
abbrev pub joined_after : Bytes → List Print → Bytes
joined_after bytes [] = bytes
joined_after bytes (p ∷ ps) = joined_after (bytes ++ p.text) ps

-- ---- its journal: a Put for each item, behind one pure step but for the first, and End

abbrev pub put_entry : ℕ → Entry
put_entry n = record { thread = 0; pure = n; act = Some (act ActKind.Put 0) }

abbrev pub end_entry : ℕ → Entry
end_entry n = record { thread = 0; pure = n; act = Some (act ActKind.End 0) }

abbrev pub later_entries : List Print → List Entry
later_entries [] = end_entry 0 ∷ []
later_entries (p ∷ ps) = put_entry 1 ∷ later_entries ps

abbrev pub print_entries : List Print → List Entry
print_entries [] = end_entry 1 ∷ []
print_entries (p ∷ ps) = put_entry 0 ∷ later_entries ps

-- the turns of one item after another, and of the end
abbrev pub turns_after : ℕ → List Print → ℕ
turns_after used [] = used + 0 + 1
turns_after used (p ∷ ps) = turns_after (used + 1 + 1) ps

abbrev pub print_turns : List Print → ℕ
print_turns [] = 2
print_turns (p ∷ ps) = turns_after 1 ps

-- the one thread has ended by `ok`, and the writer has these bytes
abbrev pub printed_config : Bytes → (used : ℕ) → Config
printed_config bytes used =
    record { store = record { cells = WriterCell bytes ∷ []; names = [] }; threads = record { execution = Returned Okay; used = used } ∷ [] }

-- under a turn limit that allows its turns, the journal replays to such a configuration, which is over and prints the joined texts
abbrev pub PrintsTexts : Type 0
PrintsTexts =
    (ps : List Print) (place turns : ℕ) → print_turns ps ≤ turns
    → (replay (printing ps place) turns (print_entries ps) ≡ Some (printed_config (joined_after [] ps) (print_turns ps)))
    × TakeTurns (print_entries ps)
    × IsOver turns (printed_config (joined_after [] ps) (print_turns ps))
    × (is_over turns (printed_config (joined_after [] ps) (print_turns ps)) ≡ true)
    × (output 1 (printed_config (joined_after [] ps) (print_turns ps)) ≡ joined_after [] ps ∷ [])
    × (report turns (printed_config (joined_after [] ps) (print_turns ps)) ≡ record { ended = 1; raised = 0; waiting = 0; spent = 0 })

-- two turns for each text and two more are enough
abbrev pub PrintTurns : Type 0
PrintTurns = (ps : List Print) → print_turns ps ≤ 2 * length ps + 2

-- the joined texts are all of the texts in order
abbrev pub texts_of : List Print → Bytes
texts_of [] = []
texts_of (p ∷ ps) = p.text ++ texts_of ps

abbrev pub JoinedTexts : Type 0
JoinedTexts = (ps : List Print) → joined_after [] ps ≡ texts_of ps
