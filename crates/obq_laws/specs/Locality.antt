-- What an entry changes, and what the acts of owners need and keep.
use Rattle.std.specs.Prelude.{List, None, Option, Some, [], length, slice_get, slice_set, ℕ, ◌++◌, ◌<◌, ◌∷◌, ◌≡◌}
use Rattle.obq_base.specs.declared.acts.Entry.{Entry}
use Rattle.obq_base.specs.Tree.{BlockTree}
use Rattle.obq_model.specs.Terms.{Bytes, Value, Term}
use Rattle.obq_model.specs.Store.{Cell, Store, same_loc, export}
use Rattle.obq_model.specs.Step.{no_self, Operation, Leave, LineUp, GiveUp, Frame, Needs, find}
use Rattle.obq_model.specs.Config.{Running, ThreadState, Config, cell_at, with_cell, with_new_cell}
use Rattle.obq_model.specs.OneCell.{SameKind}
use Rattle.obq_model.specs.Replay.{take_entry, replay}
use Rattle.obq_laws.specs.Keeping.{owner_at, IsFormedConfig, OwnersHold}
use Rattle.obq_laws.specs.Turns.{state_of}

-- the same store, or with one cell left as another of its kind, or with one name set, or with one cell more
pub data IsLocalStore (st : Store ℕ) : Store ℕ → Type 0 where
  SameStore : IsLocalStore st st
  OneCell : (l : ℕ) (c d : Cell ℕ) → cell_at st l ≡ Some c → SameKind (Some c) (Some d) → IsLocalStore st (with_cell st l d)
  OneName : (x : Bytes) (v : Value ℕ) → IsLocalStore st (record st { names = export x v st.names })
  OneMore : (c : Cell ℕ) → IsLocalStore st (with_new_cell st c)

-- the same configuration, or with thread t changed and the store so, or with one thread more, and then the store stays
pub data IsLocal (t : ℕ) (k : Config) : Config → Type 0 where
  Same : IsLocal t k k
  OneThread : (state : ThreadState) (st : Store ℕ) → IsLocalStore k.store st → IsLocal t k (record { store = st; threads = slice_set k.threads t state })
  OneBegins : (state new : ThreadState) → IsLocal t k (record { store = k.store; threads = slice_set k.threads t state ++ new ∷ [] })

-- an entry changes its own thread, at most one cell or one name, and adds at most one cell or one thread
abbrev pub Locality : Type 0
Locality = (turns : ℕ) (k k2 : Config) (e : Entry) → take_entry turns k e ≡ Some k2 → IsLocal e.thread k k2

-- an entry keeps that a configuration is formed and that threads own what they hold, from any such configuration
abbrev pub OwnersKept : Type 0
OwnersKept = (turns : ℕ) (k k2 : Config) (e : Entry) → IsFormedConfig k → OwnersHold k.store k.threads → take_entry turns k e ≡ Some k2 → IsFormedConfig k2 × OwnersHold k2.store k2.threads

-- the object whose mutex its thread has to own
abbrev pub needs_owner : {R : Type 0} → Operation R → Option R
needs_owner (Leave o out) = Some o
needs_owner (LineUp o c guard) = Some o
needs_owner (GiveUp o c guard) = Some o
needs_owner op = None

-- where a method that holds a mutex is left next, or a watch lines up or gives the mutex up, the thread owns the object
abbrev pub OwnerAtAct : Type 0
OwnerAtAct =
    (trees : List BlockTree) (turns : ℕ) (es : List Entry) (k : Config) (t used : ℕ) (u : Term ℕ) (op : Operation ℕ) (fs : List (Frame ℕ)) (o : ℕ)
    → replay trees turns es ≡ Some k → slice_get k.threads t ≡ Some (state_of (Running u) used) → find same_loc 0 no_self u ≡ Needs op fs → needs_owner op ≡ Some o → owner_at k.store o ≡ Some t

-- the owner of an object is the number of a thread
abbrev pub OwnerIsThread : Type 0
OwnerIsThread = (trees : List BlockTree) (turns : ℕ) (es : List Entry) (k : Config) (o t : ℕ) → replay trees turns es ≡ Some k → owner_at k.store o ≡ Some t → t < length k.threads
