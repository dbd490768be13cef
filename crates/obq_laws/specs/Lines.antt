-- Which threads stand in the lines of conditions.
use Rattle.std.specs.Prelude.{List, None, Option, Some, [], if◌then◌else◌, slice_get, suc, true, ℕ, ◌==◌, ◌∷◌, ◌≡◌}
use Rattle.obq_base.specs.declared.acts.Entry.{Entry}
use Rattle.obq_base.specs.Tree.{BlockTree}
use Rattle.obq_model.specs.Terms.{Term}
use Rattle.obq_model.specs.Store.{Store, same_loc}
use Rattle.obq_model.specs.Step.{no_self, Operation, GiveUp, Again, Frame, Needs, find}
use Rattle.obq_model.specs.Config.{Running, ThreadState, Config, cell_at}
use Rattle.obq_model.specs.Effect.{line_of, in_line}
use Rattle.obq_model.specs.Replay.{replay}
use Rattle.obq_laws.specs.Turns.{state_of}

-- how often thread t stands in a line
abbrev pub count_in : ℕ → List ℕ → ℕ
count_in t [] = 0
count_in t (u ∷ us) = if t == u then suc (count_in t us) else count_in t us

-- the line of the condition with this number
abbrev pub line_at : Store ℕ → ℕ → List ℕ
line_at st c = line_of (cell_at st c)

-- the condition of a watch that lined up, by its next operation
abbrev pub lined_at : Operation ℕ → Option ℕ
lined_at (GiveUp o c guard) = Some c
lined_at (Again o c guard) = Some c
lined_at op = None

-- the thread is behind lining up at condition c: it gives the mutex up next, or takes it again
abbrev pub IsLinedAt : Option ThreadState → ℕ → Type 0
IsLinedAt o c =
    (u : Term ℕ) × (used : ℕ) × (op : Operation ℕ) × (fs : List (Frame ℕ))
    × (o ≡ Some (state_of (Running u) used)) × (find same_loc 0 no_self u ≡ Needs op fs) × (lined_at op ≡ Some c)

-- each thread in a line stands there once, and is behind lining up there
abbrev pub LinesHold : Config → Type 0
LinesHold k = (c t : ℕ) → in_line t (line_at k.store c) ≡ true → (count_in t (line_at k.store c) ≡ 1) × IsLinedAt (slice_get k.threads t) c

-- so in every configuration that a journal of a program replays to
abbrev pub LinesLaw : Type 0
LinesLaw = (trees : List BlockTree) (turns : ℕ) (es : List Entry) (k : Config) → replay trees turns es ≡ Some k → LinesHold k

-- a thread is in one line at most
abbrev pub OneLine : Type 0
OneLine =
    (trees : List BlockTree) (turns : ℕ) (es : List Entry) (k : Config) (c d t : ℕ) → replay trees turns es ≡ Some k
    → in_line t (line_at k.store c) ≡ true → in_line t (line_at k.store d) ≡ true → c ≡ d
