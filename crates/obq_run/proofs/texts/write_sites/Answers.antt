use Rattle.std.proofs.Common.{List, Some, ap, arith, drop, get_or, length, slice_get, subst, suc, sym, take, ℕ, ◌+◌, ◌<◌, ◌≡◌, ◌≤◌, ◌∙◌}
use Rattle.std.specs.Io.KnownBytes.{Appends}
use Rattle.std.specs.List.{zip}
use Rattle.std.specs.Option.{option_map}
use Rattle.std.proofs.lemmas.List.{length-map}
use Rattle.std.proofs.lemmas.Option.{slice_get-get_or, slice_get-map}
use Rattle.obq_io.proofs.Told.{appends_more, prefix_behind}
use Rattle.obq_model.specs.Output.{site_text}
use Rattle.obq_run.specs.Played.{sites_text, texts_of}
use Rattle.obq_words.specs.Words.{names_of}
use Rattle.obq_words.specs.declared.words.SiteWord.{SiteWord}
use Rattle.obq_run.proofs.Zipped.{both_at, pair, past_names, past_outs, text_cut, text_next, whole_prefix}
use Rattle.obq_run.proofs.texts.write_sites.Goals as goal

-- the site with this number and what it wrote
pair_at : (sites : List SiteWord) (outs : List (List ℕ)) (k : ℕ) (site : SiteWord) (name bytes : List ℕ) → k < length sites → site ≡ get_or sites k site → name ≡ site.name
    → slice_get outs k ≡ Some bytes → slice_get (zip (names_of sites) outs) k ≡ Some (pair name bytes)
pair_at sites outs k site name bytes lt is named wrote =
    let found : slice_get sites k ≡ Some site = slice_get-get_or sites k site lt ∙ ap Some (sym is) in
    let there : slice_get (names_of sites) k ≡ Some site.name = slice_get-map (λ s. s.name) sites k ∙ ap (option_map (λ s. s.name)) found in
    both_at (names_of sites) outs k name bytes (there ∙ ap Some (sym named)) wrote

pub returns-in-None-clause-whole : goal.returns-in-None-clause-whole
returns-in-None-clause-whole g c =
    let sink = g.S.Sink in
    subst (λ t. Appends (sink.written c.args.out.now) (sink.written c.loop-k.out) t) (ap sites_text (past_outs (names_of c.args.sites.now) (texts_of c.args.texts.now) c.loop-k.k c.in-None.ensures)) c.loop-k.invariant.got

pub returns-in-None-clause-prefix : goal.returns-in-None-clause-prefix
returns-in-None-clause-prefix g c =
    let sink = g.S.Sink in
    whole_prefix (sink.written c.args.out.now) (sink.written c.loop-k.out) _
    (subst (λ t. Appends (sink.written c.args.out.now) (sink.written c.loop-k.out) t) (ap sites_text (past_outs (names_of c.args.sites.now) (texts_of c.args.texts.now) c.loop-k.k c.in-None.ensures)) c.loop-k.invariant.got)

pub returns-clause-whole : goal.returns-clause-whole
returns-clause-whole g c =
    let sink = g.S.Sink in
    let sites = c.args.sites.now in
    let past : length (names_of sites) ≤ c.loop-k.k = omega (arith, length-map sites (λ s. s.name)) in
    subst (λ t. Appends (sink.written c.args.out.now) (sink.written c.loop-k.out) t) (ap sites_text (past_names (names_of sites) (texts_of c.args.texts.now) c.loop-k.k past)) c.loop-k.invariant.got

pub returns-clause-prefix : goal.returns-clause-prefix
returns-clause-prefix g c =
    let sink = g.S.Sink in
    let sites = c.args.sites.now in
    let past : length (names_of sites) ≤ c.loop-k.k = omega (arith, length-map sites (λ s. s.name)) in
    whole_prefix (sink.written c.args.out.now) (sink.written c.loop-k.out) _
    (subst (λ t. Appends (sink.written c.args.out.now) (sink.written c.loop-k.out) t) (ap sites_text (past_names (names_of sites) (texts_of c.args.texts.now) c.loop-k.k past)) c.loop-k.invariant.got)

pub returns-in_err-write_site-in-Some-clause-prefix : goal.returns-in_err-write_site-in-Some-clause-prefix
returns-in_err-write_site-in-Some-clause-prefix g c =
    let sites = c.args.sites.now in
    let outs = texts_of c.args.texts.now in
    let k = c.loop-k.k in
    let lt : k < length sites = omega arith in
    let here = pair_at sites outs k c.index-sites-k.result c.as_bytes.result.now c.in-Some.bytes.now lt c.index-sites-k.is c.as_bytes.ensures c.in-Some.ensures in
    rw (text_cut (zip (names_of sites) outs) k c.as_bytes.result.now c.in-Some.bytes.now here) (prefix_behind _ _ _ (sites_text (take k (zip (names_of sites) outs))) (site_text c.as_bytes.result.now c.in-Some.bytes.now) (sites_text (drop (suc k) (zip (names_of sites) outs))) c.loop-k.invariant.got c.write_site.ensures.prefix)

pub loop-k-preserved : goal.loop-k-preserved
loop-k-preserved g c =
    let sink = g.S.Sink in
    let sites = c.args.sites.now in
    let outs = texts_of c.args.texts.now in
    let k = c.loop-k.k in
    let lt : k < length sites = omega arith in
    let here = pair_at sites outs k c.index-sites-k.result c.as_bytes.result.now c.in-Some.bytes.now lt c.index-sites-k.is c.as_bytes.ensures c.in-Some.ensures in
    let one : suc k ≡ k + 1 = omega arith in
    let more = appends_more _ _ _ (sites_text (take k (zip (names_of sites) outs))) (site_text c.as_bytes.result.now c.in-Some.bytes.now) c.loop-k.invariant.got c.in_ok-write_site-in-Some.ensures.whole in
    record {
      got = subst (λ n. Appends (sink.written c.args.out.now) (sink.written c.write_site.new.out) (sites_text (take n (zip (names_of sites) outs)))) one
          (subst (λ t. Appends (sink.written c.args.out.now) (sink.written c.write_site.new.out) t) (sym (text_next (zip (names_of sites) outs) k c.as_bytes.result.now c.in-Some.bytes.now here)) more);
      later = omega (arith, c.loop-k.invariant.later, c.write_site.ensures.cause.later);
    }
