-- A World that begins.
use Rattle.std.specs.Prelude.{List, [], length, ℕ, ◌∷◌, ◌≡◌, ◌≤◌}
use Rattle.std.proofs.Common.{subst, ◌∙◌}
use Rattle.obq_base.specs.Tree.{BlockTree}
use Rattle.obq_base.specs.declared.acts.Entry.{Entry}
use Rattle.obq_base.specs.declared.limits.TheConstants.{TURN_LIMIT}
use Rattle.obq_world.specs.Acts.{Begins}
use Rattle.obq_world.specs.Entries.{new_slot}
use Rattle.obq_world.specs.Meaning.{Meaning}
use Rattle.obq_world.specs.State.{WorldStands}
use Rattle.obq_world.specs.declared.slots.ThreadSlot.{ThreadSlot}
use Rattle.obq_world.proofs.Keeps.{begins}

pub on_begin : {C W S : Type 0} (m : Meaning C W S) (blocks : List BlockTree) (sites turns limit : ℕ) (site : S) (slots : List ThreadSlot) (journal : List Entry)
    → length blocks ≡ sites → sites ≡ 1 → limit ≡ turns → limit ≤ 1000000 → Begins m blocks site → slots ≡ new_slot ∷ [] → journal ≡ []
    → WorldStands m blocks turns (record { site = site; slots = slots; cells = 1; journal = journal })
on_begin m blocks sites turns limit site slots journal many one same few b sl jn = rw (sl, jn) (begins m blocks turns b.0 site (many ∙ one) (subst (λ n. n ≤ TURN_LIMIT) same few) b.1 b.2)
