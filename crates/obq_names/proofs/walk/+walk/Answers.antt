use Rattle.std.proofs.Common.{◌≡◌, ◌∙◌, ap, length}
use Rattle.obq_base.specs.View.{procedure_tree, rec_bind_trees}
use Rattle.obq_model.specs.Occurrences.{member_names}
use Rattle.obq_names.specs.declared.walker.Outer.{Outer}
use Rattle.obq_names.specs.declared.walker.Walker.{Walker}
use Rattle.obq_names.specs.Walked.{entered, walk_body, walk_members, with_binders}
use Rattle.obq_names.proofs.Longer.{below, body_kept, members_kept}
use Rattle.obq_names.proofs.walk.+walk.Goals as goal

pub walk_group-leave-requires : goal.walk_group-leave-requires
walk_group-leave-requires t c =
    let w : Walker = c.args.walker.now in
    let bs = rec_bind_trees c.args.binds.now in
    let last : c.walk_members.new.walker ≡ walk_members bs (with_binders (member_names bs) (entered w))
    = c.in_ok-walk_members.ensures ∙ ap (walk_members bs) c.in_ok-bind_members.ensures ∙ ap (λ (v : Walker). walk_members bs (with_binders (member_names bs) v)) c.in_ok-outer.ensures.inside in
    below _ _ _ _ (ap (λ (o : Outer). o.place) c.in_ok-outer.ensures.outside) (ap (λ (v : Walker). length v.captures) last) (members_kept bs w)

pub walk_procedure-leave-requires : goal.walk_procedure-leave-requires
walk_procedure-leave-requires t c =
    let w : Walker = c.args.walker.now in
    let p = procedure_tree c.args.procedure.now in
    let last : c.walk_body.new.walker ≡ walk_body p (entered w) = c.in_ok-walk_body.ensures ∙ ap (walk_body p) c.in_ok-outer.ensures.inside in
    below _ _ _ _ (ap (λ (o : Outer). o.place) c.in_ok-outer.ensures.outside) (ap (λ (v : Walker). length v.captures) last) (body_kept p w)
