use Rattle.std.proofs.Common.{List, [], ap, append_assoc, subst, ℕ, ◌++◌, ◌∙◌, ◌≡◌}
use Rattle.std.proofs.lemmas.List.{append-nil}
use Rattle.std.specs.List.{zip}
use Rattle.obq_io.specs.Known.{GetsPrefix}
use Rattle.obq_io.proofs.Told.{appends_more, prefix_behind}
use Rattle.obq_model.specs.Output.{report_line}
use Rattle.obq_run.specs.Played.{sites_text, texts_of}
use Rattle.obq_words.specs.Words.{names_of}
use Rattle.obq_run.proofs.Histories.{on_ok}
use Rattle.obq_run.proofs.texts.write_output.Goals as goal

pub returns-in_err-write_report-clause-prefix : goal.returns-in_err-write_report-clause-prefix
returns-in_err-write_report-clause-prefix g c =
    let sites : List ℕ = sites_text (zip (names_of c.args.sites.now) (texts_of c.deref.result.now)) in
    rw (← c.deref.ensures.value) (prefix_behind _ _ _ sites (report_line c.args.outcome.now.report) c.args.journal.now c.in_ok-write_sites.ensures.whole c.write_report.ensures.prefix)

pub returns-clause-whole : goal.returns-clause-whole
returns-clause-whole g c =
    let sites : List ℕ = sites_text (zip (names_of c.args.sites.now) (texts_of c.deref.result.now)) in
    rw (← c.deref.ensures.value) (on_ok c.write_text.result _ _
    (λ h. appends_more _ _ _ sites (report_line c.args.outcome.now.report ++ c.args.journal.now) c.in_ok-write_sites.ensures.whole (appends_more _ _ _ (report_line c.args.outcome.now.report) c.args.journal.now c.in_ok-write_report.ensures.whole h))
    c.write_text.ensures.whole)

pub returns-clause-prefix : goal.returns-clause-prefix
returns-clause-prefix g c =
    let sink = g.S.Sink in
    let sites : List ℕ = sites_text (zip (names_of c.args.sites.now) (texts_of c.deref.result.now)) in
    let report : List ℕ = report_line c.args.outcome.now.report in
    let front = appends_more _ _ _ sites report c.in_ok-write_sites.ensures.whole c.in_ok-write_report.ensures.whole in
    let is : (sites ++ report) ++ (c.args.journal.now ++ []) ≡ sites ++ (report ++ c.args.journal.now) = append_assoc sites report (c.args.journal.now ++ []) ∙ ap (λ t. sites ++ (report ++ t)) (append-nil c.args.journal.now) in
    rw (← c.deref.ensures.value) (subst (λ t. GetsPrefix (sink.written c.args.out.now) (sink.written c.write_text.new.sink) t) is (prefix_behind _ _ _ (sites ++ report) c.args.journal.now [] front c.write_text.ensures.prefix))
