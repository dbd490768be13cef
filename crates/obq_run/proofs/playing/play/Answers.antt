use Rattle.std.proofs.Common.{List, None, Some, ap, map, subst, sym, ◌≡◌, ◌∙◌}
use Rattle.std.proofs.lemmas.List.{length-map}
use Rattle.obq_base.specs.Tree.{BlockTree}
use Rattle.obq_base.specs.View.{block_tree}
use Rattle.obq_base.specs.declared.acts.Entry.{Entry}
use Rattle.obq_model.specs.Journal.{Journal}
use Rattle.obq_model.specs.Replay.{IsOver, TakeTurns, replay}
use Rattle.obq_plain.specs.PlainStates.{NextCases}
use Rattle.obq_journal.specs.Recording.{shown}
use Rattle.obq_run.proofs.Histories.{machine_played}
use Rattle.obq_run.proofs.Taken.{taken_more, turns_more}
use Rattle.obq_run.proofs.playing.play.Goals as goal

pub returns-in-None : goal.returns-in-None
returns-in-None c =
    let blocks = c.args.blocks.now in
    let trees : List BlockTree = map block_tree blocks in
    let m = c.loop.machine in
    let stands = c.loop.invariant in
    let none : NextCases m None = subst (λ o. NextCases m o) c.in-None.is c.in_ok-entry.ensures in
    record {
      is_played = machine_played trees m c.in_ok-outcome-in-None.outcome (shown c.loop.journal) (stands.sites ∙ sym (length-map blocks block_tree)) (stands.limit ∙ sym stands.kept)
          (subst (λ n. replay trees n c.loop.journal.entries ≡ Some m.config) (sym stands.kept) stands.leads) (subst (λ n. IsOver n m.config) (stands.limit ∙ sym stands.kept) none)
          c.in_ok-outcome-in-None.ensures.texts c.in_ok-outcome-in-None.ensures.report;
      turn_limit = stands.kept;
      each = stands.each;
    }

pub do_entry-requires : goal.do_entry-requires
do_entry-requires c =
    let next : NextCases c.loop.machine (Some c.in-Some.entry) = subst (λ o. NextCases c.loop.machine o) c.in-Some.is c.in_ok-entry.ensures in
    next.0

pub loop-preserved : goal.loop-preserved
loop-preserved c =
    let trees : List BlockTree = map block_tree c.args.blocks.now in
    let m = c.loop.machine in
    let e = c.in-Some.entry in
    let stands = c.loop.invariant in
    let done = c.in_ok-do_entry-in-Some.ensures in
    let next : NextCases m (Some e) = subst (λ o. NextCases m o) c.in-Some.is c.in_ok-entry.ensures in
    let entries = ap (λ (j : Journal). j.entries) done.noted in
    let kept = ap (λ (j : Journal). j.turns) done.noted in
    record {
      sites = done.sites ∙ stands.sites;
      limit = done.turns ∙ stands.limit;
      kept = kept ∙ stands.kept;
      leads = subst (λ (es : List Entry). replay trees c.args.turns es ≡ Some c.do_entry.new.machine.config) (sym entries)
          (taken_more trees c.args.turns m.turns c.loop.journal.entries e m.config c.do_entry.new.machine.config stands.limit stands.leads done.took);
      each = subst TakeTurns (sym entries) (turns_more c.loop.journal.entries e stands.each next.1);
    }
