-- What an act at a site is, told of that site alone.
use Rattle.std.specs.Prelude.{List, [], Option, Some, None, Bool, true, false, if◌then◌else◌, ◌==◌, ℕ, suc, ◌≤◌, ◌≡◌, ◌⊎◌, nat_le}
use Rattle.obq_base.specs.declared.acts.Act.{Act}
use Rattle.obq_base.specs.declared.acts.ActKind.{ActKind}
use Rattle.obq_base.specs.declared.limits.TheConstants.{THREAD_LIMIT}
use Rattle.obq_base.specs.Tree.{BlockTree}
use Rattle.obq_laws.specs.Known.{Numbered, IsKnownOperation}
use Rattle.obq_laws.specs.Locality.{needs_owner}
use Rattle.obq_model.specs.Terms.{Bytes, Okay, Value, Thread, Call, Term, Const, Form, Part, End}
use Rattle.obq_model.specs.Exceptions.{fork_limit}
use Rattle.obq_model.specs.Step.{Self, no_self, Operation, ForkOff, JoinWith, LineUp, Again, Export, Import, Frame, plug, Needs, find, self_at}
use Rattle.obq_model.specs.Config.{act}
use Rattle.obq_model.specs.Effect.{in_line, line_of}
use Rattle.obq_model.specs.Cells.{cell_row, again_row, import_row, written}
use Rattle.obq_model.specs.Store.{export, exported}
use Rattle.obq_model.specs.OneCell.{cell_of, owner_of}
use Rattle.obq_stands.specs.World as world
use Rattle.obq_stands.specs.World.{Ref, same_ref, with_at, Born, Heap, Ending, ending_term, Idle, Ends}
use Rattle.obq_stands.specs.Events.{ends_as, first_cell, LooksAt, writer_at}
use Rattle.obq_stands.specs.Facts.{IsCellOf}
use Rattle.obq_stands.specs.Sites.{Did}
use Rattle.obq_world.specs.declared.machine.HowEnded.{HowEnded}
use Rattle.obq_world.specs.declared.machine.HowEnded.TheVariants as how
use Rattle.obq_world.specs.declared.machine.Made.{Made}
use Rattle.obq_world.specs.declared.machine.Tried.{Tried}
use Rattle.obq_world.specs.declared.machine.Tried.TheVariants as tried
use Rattle.obq_world.specs.declared.machine.Slice.{Slice}
use Rattle.obq_world.specs.Meaning.{IsBottom, Meaning, NeedsAct, Opens, Runs, StopsAs}

-- an act is due in the window: an operation, or the end
abbrev pub IsDue : {C W S : Type 0} → Meaning C W S → W → Type 0
IsDue m w = (depth : ℕ) (self : Self Ref) (u : Term Ref) → m.reads w depth self u → NeedsAct (find same_ref depth self u) ⊎ IsBottom (find same_ref depth self u)

-- ---- what a site may rely on

-- in these cells thread t may do the operation: what it looks at is there, its references name cells of their kinds, and it owns the object whose mutex it frees
pub record MayDo (blocks : List BlockTree) (threads : ℕ) (h : Heap) (t : ℕ) (op : Operation Ref) : Type 0 where
  pub present : (r : Ref) → LooksAt op r → (x : Born) × (h r ≡ Some x)
  pub known : IsKnownOperation (IsCellOf h) (Numbered blocks threads) op
  pub owner : (o : Ref) → needs_owner op ≡ Some o → (x : Born) × (h o ≡ Some x) × (owner_of (Some x.cell) ≡ Some t)
  -- a thread that lines up stands in no line
  pub unlined : (o c : Ref) (guard : Term Ref) → op ≡ LineUp o c guard → (q : Ref) (y : Born) → h q ≡ Some y → in_line t (line_of (Some y.cell)) ≡ false

-- The site and the window read back, among the cells of all sites, so that thread t may do what stands next.
pub record CanAct {C W S : Type 0} (m : Meaning C W S) (blocks : List BlockTree) (threads : ℕ) (s : S) (t : ℕ) (w : W) : Type 0 where
  pub here : Heap
  pub all : Heap
  pub depth : ℕ
  pub self : Self Ref
  pub term : Term Ref
  pub heap : m.heap s here
  pub same : (r : Ref) → r.site ≡ 0 → all r ≡ here r
  pub reads : m.reads w depth self term
  pub may : (op : Operation Ref) (hs : List (Frame Ref)) → find same_ref depth self term ≡ Needs op hs → MayDo blocks threads all t op

-- ---- what a site does

-- only thread t's window is another
pub record Rewinds {C W S : Type 0} (m : Meaning C W S) (old : S) (t : ℕ) (w : W) (new : S) : Type 0 where
  pub heap : (h : Heap) → m.heap old h → m.heap new h
  pub size : m.size new ≡ m.size old
  pub windows : (u : ℕ) → m.windows new u ≡ with_at (m.windows old) t (Some w) u
  pub ended : (v : ℕ) (o : Option Ending) → m.ended old v o → m.ended new v o
  pub names : (exports : List (Bytes × Value Ref)) → m.names old exports → m.names new exports

-- thread t goes at most so many pure steps on; nothing else changes
pub record IsRunOn {C W S : Type 0} (m : Meaning C W S) (old : S) (t most : ℕ) (slice : Slice) (new : S) : Type 0 where
  pub few : slice.steps ≤ most
  pub window : W
  pub runs : (w : W) → m.windows old t ≡ Some w → Runs m w slice.steps window
  pub stops : StopsAs m slice.stop window
  pub rewinds : Rewinds m old t window new

-- the site with its writer and thread 0
pub record BeginsWith {C W S : Type 0} (m : Meaning C W S) (w : W) (s : S) : Type 0 where
  pub heap : m.heap s (first_cell 1)
  pub size : m.size s ≤ 1
  pub windows : (u : ℕ) → m.windows s u ≡ (if u == 0 then Some w else None)
  pub ended : (v : ℕ) → m.ended s v None
  pub names : m.names s []

-- its window is that of block 0
abbrev pub Begins : {C W S : Type 0} → Meaning C W S → List BlockTree → S → Type 0
Begins {C} {W} m blocks s = (w : W) × Opens m blocks 0 w × BeginsWith m w s

-- the endings behind an act that ends no thread, and behind the end of thread t
abbrev pub same_endings : ℕ → Option Ending → Option Ending
same_endings v o = o

abbrev pub with_ending : ℕ → Ending → ℕ → Option Ending → Option Ending
with_ending t e v o = if v == t then Some e else o

-- the exported names behind an act on none of them
abbrev pub same_names : List (Bytes × Value Ref) → List (Bytes × Value Ref)
same_names exports = exports

-- behind an act: these cells, these windows, these endings, and these names
pub record Leaves {C W S : Type 0} (m : Meaning C W S) (old : S) (h : Heap) (ws : ℕ → Option W) (endings : ℕ → Option Ending → Option Ending) (exports : List (Bytes × Value Ref) → List (Bytes × Value Ref)) (new : S) : Type 0 where
  pub heap : m.heap new h
  pub windows : (u : ℕ) → m.windows new u ≡ ws u
  pub ended : (v : ℕ) (o : Option Ending) → m.ended old v o → m.ended new v (endings v o)
  pub names : (es : List (Bytes × Value Ref)) → m.names old es → m.names new (exports es)

-- The act of thread t, whose window reads back as u with this depth and current self, in a site whose cells read back as h; so many cells and threads were made before it.
pub data DidAct {C W S : Type 0} (m : Meaning C W S) (old : S) (t cells threads : ℕ) (h : Heap) (depth : ℕ) (self : Self Ref) (u : Term Ref) : Act → Made → S → Type 0 where
  -- on the cells of the heap
  DoesRow : (op : Operation Ref) (hs : List (Frame Ref)) (kind : ActKind) (loc : ℕ) (h2 : Heap) (x : Term Ref) (w : W) (new : S)
      → find same_ref depth self u ≡ Needs op hs → Did 0 h cells t (self_at self hs) op kind loc h2 cells x → m.reads w depth self (plug hs x)
      → Leaves m old h2 (with_at (m.windows old) t (Some w)) same_endings same_names new
      → DidAct m old t cells threads h depth self u (act kind loc) Made.Nothing new
  -- with a new one
  MakesCell : (op : Operation Ref) (hs : List (Frame Ref)) (kind : ActKind) (loc : ℕ) (h2 : Heap) (x : Term Ref) (w : W) (new : S)
      → find same_ref depth self u ≡ Needs op hs → Did 0 h cells t (self_at self hs) op kind loc h2 (suc cells) x → m.reads w depth self (plug hs x)
      → Leaves m old h2 (with_at (m.windows old) t (Some w)) same_endings same_names new
      → DidAct m old t cells threads h depth self u (act kind loc) Made.Cell new
  ForksOff : (v : Value Ref) (hs : List (Frame Ref)) (w begun : W) (new : S)
      → find same_ref depth self u ≡ Needs (ForkOff v) hs → nat_le THREAD_LIMIT threads ≡ false → m.reads w depth self (plug hs (Const (Thread threads))) → m.reads begun 0 no_self (Form Call (Part (Const v) End))
      → Leaves m old h (with_at (with_at (m.windows old) t (Some w)) threads (Some begun)) same_endings same_names new
      → DidAct m old t cells threads h depth self u (act ActKind.Fork threads) Made.Thread new
  HasTooMany : (v : Value Ref) (hs : List (Frame Ref)) (w : W) (new : S)
      → find same_ref depth self u ≡ Needs (ForkOff v) hs → nat_le THREAD_LIMIT threads ≡ true → m.reads w depth self (plug hs fork_limit)
      → Leaves m old h (with_at (m.windows old) t (Some w)) same_endings same_names new
      → DidAct m old t cells threads h depth self u (act ActKind.Fork THREAD_LIMIT) Made.Nothing new
  -- the ending of thread v is kept here
  JoinsWith : (v : ℕ) (hs : List (Frame Ref)) (w : W) (new : S)
      → find same_ref depth self u ≡ Needs (JoinWith v) hs → (m.ended old v None → ⊥) → ((e : Ending) → m.ended old v (Some e) → m.reads w depth self (plug hs (ending_term e)))
      → Leaves m old h (with_at (m.windows old) t (Some w)) same_endings same_names new
      → DidAct m old t cells threads h depth self u (act ActKind.Join v) Made.Nothing new
  EndsHere : (e : Ending) (new : S)
      → ends_as (find same_ref depth self u) ≡ Some e → Leaves m old h (with_at (m.windows old) t None) (with_ending t e) same_names new
      → DidAct m old t cells threads h depth self u (act ActKind.End t) Made.Nothing new
  -- the name has this value
  Exports : (x : Bytes) (v : Value Ref) (hs : List (Frame Ref)) (w : W) (new : S)
      → find same_ref depth self u ≡ Needs (Export x v) hs → m.reads w depth self (plug hs (Const Okay))
      → Leaves m old h (with_at (m.windows old) t (Some w)) same_endings (export x v) new
      → DidAct m old t cells threads h depth self u (act ActKind.Export 0) Made.Nothing new
  -- the name is there
  Imports : (x : Bytes) (engine : Bool) (hs : List (Frame Ref)) (w : W) (new : S)
      → find same_ref depth self u ≡ Needs (Import x engine) hs
      → ((exports : List (Bytes × Value Ref)) → m.names old exports → (focus : Term Ref) × (import_row Ends Idle engine (exported x exports) ≡ Ends ActKind.Import None focus) × m.reads w depth self (plug hs focus))
      → Leaves m old h (with_at (m.windows old) t (Some w)) same_endings same_names new
      → DidAct m old t cells threads h depth self u (act ActKind.Import 0) Made.Nothing new

abbrev pub DidIn : {C W S : Type 0} → Meaning C W S → S → ℕ → W → (cells threads : ℕ) → Act → Made → S → Type 0
DidIn m old t w cells threads a made new = (h : Heap) (depth : ℕ) (self : Self Ref) (u : Term Ref) → m.heap old h → m.reads w depth self u → DidAct m old t cells threads h depth self u a made new

abbrev pub cells_made : Made → ℕ → ℕ
cells_made Made.Cell n = suc n
cells_made made n = n

-- the operation of thread t with the current self z waits
pub data WaitsIn {C W S : Type 0} (m : Meaning C W S) (s : S) (h : Heap) (t : ℕ) (z : Self Ref) : Operation Ref → Type 0 where
  AtCellWaits : (op : Operation Ref) (r : Ref) (x : Born) → r.site ≡ 0 → cell_of op ≡ Some r → h r ≡ Some x → cell_row same_ref Ends Idle t z op (Some x.cell) ≡ Idle → WaitsIn m s h t z op
  AgainWaits : (o c : Ref) (guard : Term Ref) (x y : Born) → o.site ≡ 0 → c.site ≡ 0 → h o ≡ Some x → h c ≡ Some y
      → again_row Ends Idle t (in_line t (line_of (Some y.cell))) o c guard (Some x.cell) ≡ Idle → WaitsIn m s h t z (Again o c guard)
  -- no ending of thread v is kept here
  JoiningWaits : (v : ℕ) → ((e : Ending) → m.ended s v (Some e) → ⊥) → WaitsIn m s h t z (JoinWith v)
  -- no such name is kept here
  ImportingWaits : (x : Bytes) (engine : Bool) → ((exports : List (Bytes × Value Ref)) → m.names s exports → exported x exports ≡ None) → WaitsIn m s h t z (Import x engine)

abbrev pub WaitsHere : {C W S : Type 0} → Meaning C W S → S → ℕ → Type 0
WaitsHere {C} {W} m s t =
    (h : Heap) (w : W) (depth : ℕ) (self : Self Ref) (u : Term Ref) → m.heap s h → m.windows s t ≡ Some w → m.reads w depth self u
    → (op : Operation Ref) × (hs : List (Frame Ref)) × (find same_ref depth self u ≡ Needs op hs) × WaitsIn m s h t (self_at self hs) op

-- what trying the act of thread t comes to
abbrev pub TriedCases : {C W S : Type 0} → Meaning C W S → S → ℕ → (cells threads : ℕ) → Tried → S → Type 0
TriedCases {C} {W} m old t cells threads (tried.Did a made) new = ((w : W) → m.windows old t ≡ Some w → DidIn m old t w cells threads a made new) × (m.size new ≤ cells_made made cells)
TriedCases {C} {W} m old t cells threads tried.Waits new = ((w : W) → m.windows old t ≡ Some w → Rewinds m old t w new) × WaitsHere m new t

-- ---- what a site tells

-- the ending that is kept is of this kind, if there is one
abbrev pub IsEndedSo : Option HowEnded → Option Ending → Type 0
IsEndedSo None None = Unit {0}
IsEndedSo (Some how.ByValue) (Some (world.ByValue v)) = Unit {0}
IsEndedSo (Some how.ByException) (Some (world.ByException e)) = Unit {0}
IsEndedSo h o = ⊥

abbrev pub TellsEnding : {C W S : Type 0} → Meaning C W S → S → ℕ → Option HowEnded → Type 0
TellsEnding m s t h = (o : Option Ending) → m.ended s t o → IsEndedSo h o

-- the text of the site's writer, where that is there
abbrev pub TellsText : {C W S : Type 0} → Meaning C W S → S → Bytes → Type 0
TellsText m s text = (h : Heap) (x : Born) → m.heap s h → h (writer_at 0) ≡ Some x → text ≡ written (Some x.cell)
