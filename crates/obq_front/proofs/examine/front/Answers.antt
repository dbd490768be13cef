use Rattle.std.proofs.Common.{List, [], arith, drop, length, subst, sym, ◌++◌, ◌+◌, ◌≡◌, ◌≤◌, ◌∷◌}
use Rattle.std.proofs.Math.ListN.{drop_of_length-le}
use Rattle.obq_base.specs.declared.limits.TheConstants.{SOURCE_LIMIT}
use Rattle.obq_model.specs.Sources.{IsFirstRefused}
use Rattle.obq_front.specs.Contents.{AllWithin, contents, names_of}
use Rattle.obq_front.specs.Refusals.{IfRefused}
use Rattle.obq_front.specs.declared.program.Source.{Source}
use Rattle.obq_front.proofs.Examined.{Completes, Refuses, names_behind, one_left, program_behind, program_of, refused_here, refuses_behind, within_behind}
use Rattle.obq_front.proofs.examine.front.Goals as goal

pub add-requires : goal.add-requires
add-requires c =
    let sources : List Source = c.args.sources.now in
    let i = c.loop-i.i in
    let source : Source = c.index-sources-i.result in
    let left : drop i sources ≡ source ∷ drop (i + 1) sources = one_left sources i source c.loop-i-test.true c.index-sources-i.is in
    let within : AllWithin SOURCE_LIMIT (contents (source ∷ drop (i + 1) sources)) = subst (λ ss. AllWithin SOURCE_LIMIT (contents ss)) left (within_behind SOURCE_LIMIT i sources c.requires.within) in
    within.0

pub returns-in-Err-clause-refused : goal.returns-in-Err-clause-refused
returns-in-Err-clause-refused c =
    let sources : List Source = c.args.sources.now in
    let i = c.loop-i.i in
    let source : Source = c.index-sources-i.result in
    let rest : List Source = drop (i + 1) sources in
    let left : drop i sources ≡ source ∷ rest = one_left sources i source c.loop-i-test.true c.index-sources-i.is in
    let more : Refuses i (contents (source ∷ rest)) (contents sources) = subst (λ ss. Refuses i (contents ss) (contents sources)) left c.loop-i.invariant.refused in
    subst (λ r. IfRefused r (IsFirstRefused (contents sources))) (sym c.refused.ensures)
    (refused_here i source.bytes.items (contents rest) (contents sources) c.in-Err.why c.in-Err.ensures.fault more)

pub loop-i-preserved : goal.loop-i-preserved
loop-i-preserved c =
    let sources : List Source = c.args.sources.now in
    let i = c.loop-i.i in
    let source : Source = c.index-sources-i.result in
    let rest : List Source = drop (i + 1) sources in
    let left : drop i sources ≡ source ∷ rest = one_left sources i source c.loop-i-test.true c.index-sources-i.is in
    let old = c.loop-i.gathered in
    let new = c.add.new.self in
    let named : old.names.items ++ names_of (source ∷ rest) ≡ names_of sources = subst (λ ss. old.names.items ++ names_of ss ≡ names_of sources) left c.loop-i.invariant.names in
    let completes : Completes i (contents (source ∷ rest)) (contents sources) old.blocks.items old.parts.items =
    subst (λ ss. Completes i (contents ss) (contents sources) old.blocks.items old.parts.items) left c.loop-i.invariant.completes in
    let refuses : Refuses i (contents (source ∷ rest)) (contents sources) = subst (λ ss. Refuses i (contents ss) (contents sources)) left c.loop-i.invariant.refused in
    record {
      names = names_behind i source rest (names_of sources) old new c.in-Ok.ensures.added named;
      completes = program_behind i source rest (contents sources) old new c.in-Ok.ensures.added completes;
      refused = refuses_behind i source rest (contents sources) old new c.in-Ok.ensures.added refuses;
    }

pub returns-in-Ok-into_program-clause-accepted : goal.returns-in-Ok-into_program-clause-accepted
returns-in-Ok-into_program-clause-accepted c =
    let sources : List Source = c.args.sources.now in
    let i = c.loop-i.i in
    let past : length sources ≤ i = omega arith in
    let none : drop i sources ≡ [] = drop_of_length-le sources past in
    let found = c.in-Ok-into_program.ensures in
    program_of i sources c.loop-i.gathered c.in-Ok-into_program.program none found.names found.blocks found.codes c.loop-i.invariant.names c.loop-i.invariant.completes c.requires.within
