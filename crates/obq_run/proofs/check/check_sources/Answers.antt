use Rattle.std.proofs.Common.{List, subst, sym, ℕ}
use Rattle.obq_base.specs.declared.limits.TheConstants.{SOURCE_LIMIT}
use Rattle.obq_io.specs.Causes.{Rose}
use Rattle.obq_run.specs.Ends.{IsCheckedOrNoMemory}
use Rattle.obq_run.specs.Runs.{CheckCompletes, IsCheckOf, RefusalCompletes, TooLongCompletes}
use Rattle.obq_words.specs.Words.{paths_of}
use Rattle.obq_run.proofs.Complete.{source_refused}
use Rattle.obq_run.proofs.Refusals.{refusal_finished, refusal_refused, too_long_finished, too_long_refused}
use Rattle.obq_run.proofs.check.check_sources.Goals as goal

pub returns-in-Err-clause-completes : goal.returns-in-Err-clause-completes
returns-in-Err-clause-completes g c =
    let files = g.F.Files in
    let holds = files.holds c.args.files.now in
    let paths = paths_of c.args.sites.now in
    let Rises : List ℕ → Type 0 = λ p. Rose (files.faults c.args.files.now p) (files.faults c.check_files.new.files p) in
    let output : Type 0 = Rose (g.O.Sink.faults c.args.out.now) (g.O.Sink.faults c.args.out.now) in
    let why = c.in-Err.ensures in
    let done : CheckCompletes holds SOURCE_LIMIT paths Rises output c.in-Err.cause = source_refused IsCheckedOrNoMemory holds SOURCE_LIMIT paths Rises output c.in-Err.cause tt why.only why.read_fault why.too_long why.refused in
    subst (λ cause. CheckCompletes holds SOURCE_LIMIT paths Rises output cause) (sym c.refuse.ensures.cause) done

pub returns-in-Err-clause-completes_refused : goal.returns-in-Err-clause-completes_refused
returns-in-Err-clause-completes_refused g c =
    let files = g.F.Files in
    let holds = files.holds c.args.files.now in
    let paths = paths_of c.args.sites.now in
    let Rises : List ℕ → Type 0 = λ p. Rose (files.faults c.args.files.now p) (files.faults c.check_files.new.files p) in
    let why = c.in-Err.ensures in
    let cause = c.in-Err.cause in
    let done : RefusalCompletes holds SOURCE_LIMIT paths Rises cause =
    refusal_refused holds SOURCE_LIMIT paths Rises cause why.only why.read_fault why.too_long why.refused in
    subst (λ cause. RefusalCompletes holds SOURCE_LIMIT paths Rises cause) (sym c.refuse.ensures.cause) done

pub returns-in-Err-clause-completes_too_long : goal.returns-in-Err-clause-completes_too_long
returns-in-Err-clause-completes_too_long g c =
    let files = g.F.Files in
    let holds = files.holds c.args.files.now in
    let paths = paths_of c.args.sites.now in
    let Rises : List ℕ → Type 0 = λ p. Rose (files.faults c.args.files.now p) (files.faults c.check_files.new.files p) in
    let why = c.in-Err.ensures in
    let cause = c.in-Err.cause in
    let done : TooLongCompletes holds SOURCE_LIMIT paths Rises cause =
    too_long_refused holds SOURCE_LIMIT paths Rises cause why.only why.read_fault why.too_long why.refused in
    subst (λ cause. TooLongCompletes holds SOURCE_LIMIT paths Rises cause) (sym c.refuse.ensures.cause) done

pub returns-in-Ok-clause-completes_refused : goal.returns-in-Ok-clause-completes_refused
returns-in-Ok-clause-completes_refused g c =
    let files = g.F.Files in
    let holds = files.holds c.args.files.now in
    let paths = paths_of c.args.sites.now in
    let Rises : List ℕ → Type 0 = λ p. Rose (files.faults c.args.files.now p) (files.faults c.check_files.new.files p) in
    let checked : IsCheckOf holds SOURCE_LIMIT paths = c.in-Ok.ensures.accepted in
    refusal_finished holds SOURCE_LIMIT paths checked.sources checked.trees Rises c.finish.result.cause checked.held checked.accepted

pub returns-in-Ok-clause-completes_too_long : goal.returns-in-Ok-clause-completes_too_long
returns-in-Ok-clause-completes_too_long g c =
    let files = g.F.Files in
    let holds = files.holds c.args.files.now in
    let paths = paths_of c.args.sites.now in
    let Rises : List ℕ → Type 0 = λ p. Rose (files.faults c.args.files.now p) (files.faults c.check_files.new.files p) in
    let checked : IsCheckOf holds SOURCE_LIMIT paths = c.in-Ok.ensures.accepted in
    too_long_finished holds SOURCE_LIMIT paths checked.sources Rises c.finish.result.cause checked.held
