use Rattle.std.proofs.Common.{List, [], ap, arith, suc, sym, take, ℕ, ◌+◌, ◌++◌, ◌≡◌, ◌≤◌, ◌∙◌, ◌∷◌}
use Rattle.std.proofs.lemmas.List.{map-append}
use Rattle.obq_model.specs.Replay.{output}
use Rattle.obq_run.specs.Played.{texts_of}
use Rattle.obq_run.proofs.Zipped.{past_end, past_none, take_more}
use Rattle.obq_run.proofs.outcome.texts_of.Goals as goal

pub returns-in-None : goal.returns-in-None
returns-in-None c =
    let m = c.args.machine.now in
    c.loop-site.invariant.copied ∙ past_none (output m.sites m.config) c.loop-site.site c.in-None.ensures

pub returns : goal.returns
returns c =
    let m = c.args.machine.now in
    let past : m.sites ≤ c.loop-site.site = omega arith in
    c.loop-site.invariant.copied ∙ past_end m.sites m.config c.loop-site.site past

pub loop-site-preserved : goal.loop-site-preserved
loop-site-preserved c =
    let m = c.args.machine.now in
    let outs = output m.sites m.config in
    let site = c.loop-site.site in
    let one : suc site ≡ site + 1 = omega arith in
    let more = c.in_ok-push-in-Some.ensures.items in
    let text = c.in_ok-from_slice-in-Some.ensures.items in
    record {
      copied = ap texts_of more ∙ (map-append (λ t. t.items) c.loop-site.texts.items (c.in_ok-from_slice-in-Some.field-0 ∷ [])
          ∙ (ap (λ (xs : List (List ℕ)). xs ++ c.in_ok-from_slice-in-Some.field-0.items ∷ []) c.loop-site.invariant.copied
          ∙ (ap (λ (x : List ℕ). take site outs ++ x ∷ []) text ∙ (sym (take_more outs site c.in-Some.text.now c.in-Some.ensures) ∙ ap (λ n. take n outs) one))));
    }
