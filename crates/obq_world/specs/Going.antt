-- What a thread does in one go at its site.
use Rattle.std.specs.Prelude.{Bool, IsTrue, List, Some, nat_lt, slice_get, slice_set, ℕ, ◌&&◌, ◌++◌, ◌≡◌, ◌≤◌}
use Rattle.obq_base.specs.Tree.{BlockTree}
use Rattle.obq_base.specs.declared.acts.Entry.{Entry}
use Rattle.obq_world.specs.Acts.{CanAct, DidIn, Rewinds, WaitsHere, cells_made}
use Rattle.obq_world.specs.Entries.{act_in, entries_of, made_in, slots_made, spent, stops_at_act, turns_of}
use Rattle.obq_world.specs.Meaning.{Meaning, Runs}
use Rattle.obq_world.specs.declared.going.Gone.{Gone}
use Rattle.obq_world.specs.declared.machine.Tried.{Tried}
use Rattle.obq_world.specs.declared.machine.Tried.TheVariants as tried
use Rattle.obq_world.specs.declared.slots.ThreadSlot.{ThreadSlot}

-- at most so many steps ahead, thread t may do what stands next
abbrev pub MayGo : {C W S : Type 0} → Meaning C W S → List BlockTree → (threads : ℕ) → S → (t left : ℕ) → Type 0
MayGo {C} {W} m blocks threads s t left = (n : ℕ) (start window : W) → m.windows s t ≡ Some start → Runs m start n window → n ≤ left → CanAct m blocks threads s t window

-- what comes of an act that is tried if it is wanted
abbrev pub AskedCases : {C W S : Type 0} → Meaning C W S → S → ℕ → (cells threads : ℕ) → (wanted : Bool) → Tried → S → Type 0
AskedCases {C} {W} m old t cells threads wanted (tried.Did a made) new = IsTrue wanted × ((w : W) → m.windows old t ≡ Some w → DidIn m old t w cells threads a made new) × (m.size new ≤ cells_made made cells)
AskedCases {C} {W} m old t cells threads wanted tried.Waits new = ((w : W) → m.windows old t ≡ Some w → Rewinds m old t w new) × (IsTrue wanted → WaitsHere m new t)

-- what comes of it where thread t has this window
abbrev pub ComesOf : {C W S : Type 0} → Meaning C W S → S → ℕ → W → (cells threads : ℕ) → (wanted : Bool) → Tried → S → Type 0
ComesOf m old t w cells threads wanted (tried.Did a made) new = IsTrue wanted × DidIn m old t w cells threads a made new × (m.size new ≤ cells_made made cells)
ComesOf m old t w cells threads wanted tried.Waits new = Rewinds m old t w new × (IsTrue wanted → WaitsHere m new t)

-- Thread t did so many pure steps, of so many turns that are left, and the act behind them if one was due, a turn was left, and it doesn't wait.
pub record GoesOn {C W S : Type 0} (m : Meaning C W S) (old : S) (t left cells threads : ℕ) (gone : Gone) (new : S) : Type 0 where
  pub few : gone.steps ≤ left
  pub window : W
  pub runs : (w : W) → m.windows old t ≡ Some w → Runs m w gone.steps window
  pub comes : ComesOf m old t window cells threads (nat_lt gone.steps left && stops_at_act gone.stop) gone.tried new

-- the slots, the journal and the count of cells behind it
pub record IsNoted (slots : List ThreadSlot) (journal : List Entry) (cells t : ℕ) (gone : Gone) (slots2 : List ThreadSlot) (journal2 : List Entry) (count : ℕ) : Type 0 where
  pub slots_are : (x : ThreadSlot) → slice_get slots t ≡ Some x → slots2 ≡ slice_set slots t (spent x (turns_of gone)) ++ slots_made (made_in gone.tried)
  pub journal_is : journal2 ≡ journal ++ entries_of t gone.steps (act_in gone.tried)
  pub count_is : count ≡ cells_made (made_in gone.tried) cells
