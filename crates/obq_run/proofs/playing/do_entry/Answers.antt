use Rattle.std.proofs.Common.{Err, ap, subst, ◌∙◌}
use Rattle.obq_plain.specs.PlainStates.{TakeCases, why_of}
use Rattle.obq_plain.specs.declared.refusals.TakeRefused.TheVariants.{NotLegal}
use Rattle.obq_run.proofs.Taken.{refused_not}
use Rattle.obq_run.proofs.playing.do_entry.Goals as goal

pub unreachable-requires : goal.unreachable-requires
unreachable-requires c =
    let m = c.args.machine.now in
    let why = c.in-Err-NotLegal.field-0-0 in
    let refused : TakeCases {T = Unit} m c.args.entry (Err (NotLegal why)) c.take.new.self =
    subst (λ r. TakeCases {T = Unit} m c.args.entry r c.take.new.self) (c.in-Err-NotLegal.is ∙ ap Err c.in-Err-NotLegal.field-0-is) c.take.ensures in
    refused_not m.turns m.config c.args.entry (why_of why) c.requires.0 c.requires.1 refused.0
