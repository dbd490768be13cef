use Rattle.std.proofs.Common.{ℕ, List, Some, subst}
use Rattle.std.specs.Ordering.{nat_cmp}
use Rattle.std.specs.Cmp.Lexicographic.{slice_cmp}
use Rattle.std.specs.BTreeMap as tree
use Rattle.obq_names.proofs.PlaceUpdates.{updated}
use Rattle.obq_names.proofs.places.Places.insert.Goals as goal

pub returns-clause-now : goal.returns-clause-now
returns-clause-now c = updated c.args.name.now c.args.self.now.map c.insert.new.self (Some c.args.place)
    (subst (λ (b : List ℕ). tree.UpdatesBy (λ x y. slice_cmp nat_cmp x.items y.items) (λ k. slice_cmp nat_cmp b k.items) c.args.self.now.map c.insert.new.self (Some c.args.place)) c.in_ok-key.ensures.items c.in_ok-insert.ensures.updates)
