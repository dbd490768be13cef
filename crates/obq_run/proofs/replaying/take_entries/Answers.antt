use Rattle.std.proofs.Common.{List, None, Some, [], ap, arith, drop, get_or, length, subst, suc, ◌+◌, ◌<◌, ◌≡◌, ◌≤◌, ◌∙◌, ◌∷◌}
use Rattle.std.proofs.Math.ListN.{drop_of_length-le}
use Rattle.std.proofs.Math.Seq.{drop-cons}
use Rattle.obq_base.specs.declared.acts.Entry.{Entry}
use Rattle.obq_model.specs.Refusals.{first_refused}
use Rattle.obq_model.specs.Replay.{replay_from, take_entry}
use Rattle.obq_plain.specs.PlainStates.{TakeCases}
use Rattle.obq_run.proofs.Taken.{first_one, replay_one}
use Rattle.obq_run.proofs.replaying.take_entries.Goals as goal

pub loop-i-preserved : goal.loop-i-preserved
loop-i-preserved c =
    let limit = c.args.machine.now.turns in
    let es : List Entry = c.args.entries.now in
    let i = c.loop-i.i in
    let m = c.loop-i.machine in
    let nothing : Entry = record { thread = 0; pure = 0; act = None } in
    let e : Entry = get_or es i nothing in
    let new = c.take.new.self in
    let lt : i < length es = omega arith in
    let stands = c.loop-i.invariant in
    let taken = subst (λ r. TakeCases {T = Unit} m e r new) c.in-Ok.is c.take.ensures in
    let here : take_entry limit m.config e ≡ Some new.config = subst (λ n. take_entry n m.config e ≡ Some new.config) stands.limit taken.0 in
    let left : drop i es ≡ e ∷ drop (suc i) es = drop-cons es i nothing lt in
    let one : suc i ≡ i + 1 = omega arith in
    record {
      sites = taken.1 ∙ stands.sites;
      limit = taken.2 ∙ stands.limit;
      leads = subst (λ n. replay_from limit c.args.machine.now.config es ≡ replay_from limit new.config (drop n es)) one
          (stands.leads ∙ (ap (λ (xs : List Entry). replay_from limit m.config xs) left ∙ replay_one limit m.config new.config e (drop (suc i) es) here));
      refused = subst (λ n. first_refused limit c.args.machine.now.config 0 es ≡ first_refused limit new.config n (drop n es)) one
          (stands.refused ∙ (ap (λ (xs : List Entry). first_refused limit m.config i xs) left ∙ first_one limit m.config new.config i e (drop (suc i) es) here));
    }

pub returns : goal.returns
returns c =
    let es : List Entry = c.args.entries.now in
    let past : length es ≤ c.loop-i.i = omega arith in
    let none : drop c.loop-i.i es ≡ [] = drop_of_length-le es past in
    let stands = c.loop-i.invariant in
    (stands.leads ∙ ap (λ (xs : List Entry). replay_from c.args.machine.now.turns c.loop-i.machine.config xs) none, stands.sites, stands.limit)
