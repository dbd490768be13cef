-- Facts on entries and slots, over plain values.
use Rattle.std.specs.Prelude.{List, None, [], ◌∷◌, ◌++◌, ℕ, refl, ◌≡◌}
use Rattle.std.proofs.Common.{sym}
use Rattle.std.proofs.lemmas.List.{append-nil}
use Rattle.obq_base.specs.declared.acts.Entry.{Entry}
use Rattle.obq_laws.specs.Determinism.{entry_of}
use Rattle.obq_stands.proofs.Update.{test_no}
use Rattle.obq_world.specs.Entries.{entries_of}

pub no_steps : (j : List Entry) (t n : ℕ) → n ≡ 0 → j ≡ j ++ entries_of t n None
no_steps j t n none = let e : entries_of t n None ≡ [] = rw none refl in rw e (sym (append-nil j))

pub some_steps : (t n : ℕ) → (n ≡ 0 → ⊥) → entry_of t n None ∷ [] ≡ entries_of t n None
some_steps t n some = rw (test_no n 0 some) refl
