use Rattle.std.proofs.Common.{List, None, Some, ap, map, subst, sym, ◌≡◌, ◌∙◌}
use Rattle.std.proofs.lemmas.List.{length-map}
use Rattle.obq_base.specs.Tree.{BlockTree}
use Rattle.obq_base.specs.View.{block_tree}
use Rattle.obq_base.specs.declared.acts.Entry.{Entry}
use Rattle.std.specs.Prelude.{is_none}
use Rattle.obq_laws.proofs.Over.{over_law}
use Rattle.obq_model.specs.Replay.{IsOver, first_able, replay_from}
use Rattle.obq_model.specs.Opening.{opening}
use Rattle.obq_journal.specs.Recording.{shown}
use Rattle.obq_run.specs.Played.{TakesAll}
use Rattle.obq_run.proofs.Histories.{machine_played}
use Rattle.obq_run.proofs.replaying.replay_text.Goals as goal

pub returns-in-Ok-outcome_of : goal.returns-in-Ok-outcome_of
returns-in-Ok-outcome_of c =
    let blocks = c.args.blocks.now in
    let trees : List BlockTree = map block_tree blocks in
    let j = c.in-Ok.journal in
    let first = c.in-Ok-begin.machine in
    let new = c.take_entries.new.machine in
    let all = subst (λ r. TakesAll first c.entries.result.now r new) c.in-Ok-take_entries.is c.take_entries.ensures in
    let turns : new.turns ≡ j.turns = all.2 ∙ (c.in-Ok-begin.ensures.turns ∙ c.turns.ensures) in
    let start : first.turns ≡ j.turns = c.in-Ok-begin.ensures.turns ∙ c.turns.ensures in
    let leads : replay_from j.turns (opening trees) j.entries ≡ Some new.config =
    subst (λ n. replay_from n (opening trees) j.entries ≡ Some new.config) start
    (subst (λ (es : List Entry). replay_from first.turns (opening trees) es ≡ Some new.config) c.entries.ensures (subst (λ k. replay_from first.turns k c.entries.result.now ≡ Some new.config) c.in-Ok-begin.ensures.config all.0)) in
    let none : first_able new.turns new.config ≡ None = sym (c.in-Ok-None.ensures) ∙ c.in-Ok-None.field-0-is in (
      c.in-Ok.ensures,
      machine_played trees new c.in-Ok-outcome_of.outcome (shown j) (all.1 ∙ (c.in-Ok-begin.ensures.sites ∙ sym (length-map blocks block_tree))) turns leads
          (subst (λ n. IsOver n new.config) turns ((over_law new.turns new.config).0 (ap is_none none))) c.in-Ok-outcome_of.ensures.texts c.in-Ok-outcome_of.ensures.report,
    )
