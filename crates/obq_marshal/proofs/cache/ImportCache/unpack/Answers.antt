use Rattle.std.proofs.Common.{rules, ◌≡◌, ◌∙◌, ap, ℕ, take}
use Rattle.obq_marshal.specs.Groups.{Unpacked, unpacked}
use Rattle.obq_marshal.proofs.cache.ImportCache.unpack.Goals as goal

pub returns-in_err-enter-clause-err : goal.returns-in_err-enter-clause-err
returns-in_err-enter-clause-err c =
    let there : (n : ℕ) × (c.enter.new.cache ≡ (unpacked c.args.self.now (take n c.args.carried.now.table)).cache) =
    (c.loop-entry.entry-index, c.in_err-enter.ensures.err ∙ ap (λ u. Unpacked.cache u) c.loop-entry.invariant) in
    search rules
