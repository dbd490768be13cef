use Rattle.std.proofs.Common.{List, ap, arith, drop, get_or, length, subst, suc, sym, take, ℕ, ◌++◌, ◌<◌, ◌≡◌, ◌∙◌}
use Rattle.std.proofs.Math.Seq.{drop-cons}
use Rattle.std.proofs.lemmas.Grind.{flat_map-append}
use Rattle.std.proofs.lemmas.List.{map-append, take-append-drop}
use Rattle.obq_model.specs.Output.{check_text, ok_line}
use Rattle.obq_words.specs.declared.words.SiteWord.{SiteWord}
use Rattle.obq_io.specs.Known.{GetsPrefix}
use Rattle.obq_words.specs.Words.{names_of}
use Rattle.obq_io.proofs.Told.{prefix_behind}
use Rattle.obq_run.proofs.texts.write_checked.Goals as goal

-- the lines before that of one site, that line, and those behind it
cut_at : (sites : List SiteWord) (i : ℕ) (d : SiteWord) → i < length sites
    → check_text (names_of sites) ≡ check_text (names_of (take i sites)) ++ (ok_line (get_or sites i d).name ++ check_text (names_of (drop (suc i) sites)))
cut_at sites i d lt =
    ap (λ ss. check_text (names_of ss)) (sym (take-append-drop i sites))
    ∙ (ap check_text (map-append (λ s. s.name) (take i sites) (drop i sites))
    ∙ (flat_map-append ok_line (names_of (take i sites)) (names_of (drop i sites)) ∙ ap (λ ss. check_text (names_of (take i sites)) ++ check_text (names_of ss)) (drop-cons sites i d lt)))

pub returns-in_err-write_ok-clause-prefix : goal.returns-in_err-write_ok-clause-prefix
returns-in_err-write_ok-clause-prefix g c =
    let sink = g.S.Sink in
    let sites = c.args.sites.now in
    let i = c.loop-site.site-index in
    let site : SiteWord = c.site-item.result in
    let lt : i < length sites = omega arith in
    let name : c.as_bytes.result.now ≡ (get_or sites i site).name = c.as_bytes.ensures ∙ ap (λ s. s.name) c.site-item.is in
    let part : GetsPrefix (sink.written c.loop-site.out) (sink.written c.write_ok.new.out) (ok_line (get_or sites i site).name) =
    subst (λ n. GetsPrefix (sink.written c.loop-site.out) (sink.written c.write_ok.new.out) (ok_line n)) name c.write_ok.ensures.prefix in
    rw (cut_at sites i site lt) (prefix_behind _ _ _ (check_text (names_of (take i sites))) (ok_line (get_or sites i site).name) (check_text (names_of (drop (suc i) sites))) c.loop-site.invariant.got part)
