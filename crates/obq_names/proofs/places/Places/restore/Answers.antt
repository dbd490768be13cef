use Rattle.std.proofs.Common.{◌≡◌, ℕ, None, Option, Some, bytes_eq, cond, sym, subst, rules}
use Rattle.obq_names.specs.PlaceAt.{place_at}
use Rattle.obq_names.proofs.PlaceUpdates.{updated}
use Rattle.obq_names.proofs.places.Places.restore.Goals as goal

pub returns-in-None-clause-restored : goal.returns-in-None-clause-restored
returns-in-None-clause-restored c = λ _ q. subst (λ (w : Option ℕ). place_at c.remove.new.self q ≡ cond (bytes_eq c.args.name.now q) w (place_at c.args.self.now.map q)) (sym c.in-None.is)
    (updated c.args.name.now c.args.self.now.map c.remove.new.self None c.remove.ensures.updates q)

pub returns-in-Some-get_mut-clause-restored : goal.returns-in-Some-get_mut-clause-restored
returns-in-Some-get_mut-clause-restored c = λ _ q. subst (λ (w : Option ℕ). place_at (c.get_mut.follows.lender c.in-Some.place) q ≡ cond (bytes_eq c.args.name.now q) w (place_at c.args.self.now.map q)) (sym c.in-Some.is)
    (updated c.args.name.now c.args.self.now.map (c.get_mut.follows.lender c.in-Some.place) (Some c.in-Some.place) ((c.get_mut.follows.holds c.in-Some.place).3 (search rules)) q)
