use Rattle.std.proofs.Common.{List, None, Option, Some, ap, false, rules, true, ◌∙◌, ◌≡◌}
use Rattle.obq_model.specs.Located.{Link}
use Rattle.obq_plain.proofs.Awaited.{blocks_linked}
use Rattle.obq_plain.specs.Following.{Followed, when}
use Rattle.obq_plain.proofs.linking.links_of.Goals as goal

pub returns-then-not-branch : goal.returns-then-not-branch
returns-then-not-branch c =
    let old = c.in_ok-following.following in
    let new : Followed = (c.take_all.new.self.run, c.take_all.new.self.sites) in
    let illegal : c.in_ok-take_all.field-0 ≡ false = search rules in
    blocks_linked c.args.blocks.now c.args.turns c.args.entries.now old.run old.sites None c.in_ok-following.ensures.run c.in_ok-following.ensures.sites (c.in_ok-take_all.ensures ∙ ap (λ b. when b new) illegal)

pub returns : goal.returns
returns c =
    let old = c.in_ok-following.following in
    let new : Followed = (c.take_all.new.self.run, c.take_all.new.self.sites) in
    let legal : c.in_ok-take_all.field-0 ≡ true = search rules in
    ap (λ (rows : List Link). let r : Option (List Link) = Some rows in r) c.in_ok-rows.ensures
    ∙ blocks_linked c.args.blocks.now c.args.turns c.args.entries.now old.run old.sites (Some new) c.in_ok-following.ensures.run c.in_ok-following.ensures.sites (c.in_ok-take_all.ensures ∙ ap (λ b. when b new) legal)
