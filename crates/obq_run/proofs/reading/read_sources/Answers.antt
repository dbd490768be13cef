use Rattle.std.proofs.Common.{List, [], ap, ap₂, append_assoc, arith, drop, is_ok, length, string_bytes, subst, sym, take, true, ℕ, ◌+◌, ◌++◌, ◌<◌, ◌∙◌, ◌∷◌, ◌≡◌, ◌≤◌}
use Rattle.obq_io.specs.Known.{IsIt}
use Rattle.obq_front.specs.Contents as front
use Rattle.obq_run.proofs.Held.{left_next, taken_next, unread_at, within_next}
use Rattle.std.proofs.Math.ListN.{drop_of_length-le}
use Rattle.std.proofs.lemmas.List.{append-nil, map-append}
use Rattle.obq_base.specs.declared.limits.TheConstants.{SOURCE_LIMIT}
use Rattle.obq_run.specs.Held.{AreHeld}
use Rattle.obq_words.specs.Words.{names_of, paths_of}
use Rattle.obq_run.proofs.reading.read_sources.Goals as goal

pub returns-clause-held : goal.returns-clause-held
returns-clause-held g c =
    let holds = g.F.Files.holds c.args.files.now in
    let sites = c.args.sites.now in
    let i = c.loop-i.i in
    let past : length sites ≤ i = omega arith in
    let none : drop i sites ≡ [] = drop_of_length-le sites past in
    let nothing : AreHeld holds SOURCE_LIMIT (paths_of (drop i sites)) [] = rw none tt in
    rw append-nil at (c.loop-i.invariant.held [] nothing)

pub returns-in-Err-clause-unread : goal.returns-in-Err-clause-unread
returns-in-Err-clause-unread g c =
    let files = g.F.Files in
    let sites = c.args.sites.now in
    unread_at (files.holds c.args.files.now) (files.holds c.loop-i.files) SOURCE_LIMIT (files.faults c.args.files.now) (files.faults c.loop-i.files) (files.faults c.read_source.new.files) sites c.loop-i.i
    c.index-sites-i.result c.in-Err.why (omega arith) c.index-sites-i.is c.loop-i.invariant.within c.loop-i.invariant.same c.loop-i.invariant.later c.in-Err.ensures.unread

pub loop-i-preserved : goal.loop-i-preserved
loop-i-preserved g c =
    let files = g.F.Files in
    let holds = files.holds c.args.files.now in
    let sites = c.args.sites.now in
    let i = c.loop-i.i in
    let path = string_bytes c.index-sites-i.result.path in
    let site = c.index-sites-i.result in
    let source = c.in-Ok.source in
    let items = c.loop-i.sources.items in
    let lt : i < length sites = omega arith in
    let done : is_ok c.push.result ≡ true = cc (c.is_err.ensures.negation, c.if-is_err.false) in
    let more : c.push.new.self.items ≡ items ++ source ∷ [] = rw done at c.push.ensures.items in
    let next : take (i + 1) sites ≡ take i sites ++ site ∷ [] = taken_next sites i site lt c.index-sites-i.is in
    let here : drop i sites ≡ site ∷ drop (i + 1) sites = left_next sites i site lt c.index-sites-i.is in
    let is : IsIt (holds path) source.bytes.items = subst (λ o. IsIt o source.bytes.items) (c.loop-i.invariant.same path) c.in-Ok.ensures.unread in
    let read : front.contents c.push.new.self.items ≡ front.contents items ++ source.bytes.items ∷ [] = ap front.contents more ∙ map-append (λ s. s.bytes.items) items (source ∷ []) in
    let held : (others : List (List ℕ)) → AreHeld holds SOURCE_LIMIT (paths_of (drop (i + 1) sites)) others → AreHeld holds SOURCE_LIMIT (paths_of sites) (front.contents c.push.new.self.items ++ others) =
    λ others h. subst (AreHeld holds SOURCE_LIMIT (paths_of sites)) (sym (ap (λ xs. xs ++ others) read ∙ append_assoc (front.contents items) (source.bytes.items ∷ []) others))
    (c.loop-i.invariant.held (source.bytes.items ∷ others) (subst (λ ss. AreHeld holds SOURCE_LIMIT (paths_of ss) (source.bytes.items ∷ others)) (sym here) (is, c.in-Ok.ensures.bound, h))) in
    let named : front.names_of c.push.new.self.items ≡ names_of (take (i + 1) sites) =
    ap front.names_of more ∙ (map-append (λ s. s.name) items (source ∷ []) ∙ (ap₂ (λ xs y. xs ++ y ∷ []) c.loop-i.invariant.named c.in-Ok.ensures.named ∙ sym (ap names_of next ∙ map-append (λ s. s.name) (take i sites) (site ∷ [])))) in
    record {
      same = λ n. c.read_source.ensures.same n ∙ c.loop-i.invariant.same n;
      later = λ n. omega (arith, c.read_source.ensures.later n, c.loop-i.invariant.later n);
      held = held;
      within = within_next holds SOURCE_LIMIT sites i c.index-sites-i.result (files.holds c.loop-i.files path) c.in-Ok.source.bytes.items (omega arith) c.index-sites-i.is c.loop-i.invariant.within (c.loop-i.invariant.same path)
          c.in-Ok.ensures.unread c.in-Ok.ensures.bound;
      named = named;
    }
