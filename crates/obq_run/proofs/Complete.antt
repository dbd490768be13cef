-- A call on sources that are accepted, and on a journal that is legal and over, is not refused where no count of faults rose.
use Rattle.std.proofs.Common.{Err, List, None, Ok, Option, Some, [], ap, arith, false, length, map, refl, slice_get, subst, suc, sym, true, zero, ℕ, ◌++◌, ◌<◌, ◌≡◌, ◌≤◌, ◌∙◌, ◌∷◌}
use Rattle.std.specs.Prelude.{Result, is_none, is_some}
use Rattle.std.specs.Prelude.{IsSomeAnd}
use Rattle.obq_base.specs.declared.faults.SourceFault.{SourceFault}
use Rattle.obq_base.specs.declared.limits.TheConstants.{JOURNAL_LIMIT, SOURCE_LIMIT}
use Rattle.obq_base.specs.declared.faults.SourceFault.TheVariants.{Lexical, Syntax, Unbound}
use Rattle.obq_base.specs.declared.tokens.Token.{Token}
use Rattle.obq_base.specs.declared.trees.Block.{Block}
use Rattle.obq_base.specs.View.{block_tree}
use Rattle.obq_front.specs.Contents.{AllWithin}
use Rattle.obq_grammar.proofs.Prefixes.{tree_and_fault}
use Rattle.obq_grammar.proofs.Unique.{unique_block}
use Rattle.obq_io.specs.Known.{IsIt, WhereTold}
use Rattle.obq_model.proofs.Uniqueness.{no_fault_of_a_reading, one_reading}
use Rattle.obq_base.specs.Tree.{BlockTree}
use Rattle.obq_model.specs.Grammar.{Derives}
use Rattle.obq_model.specs.Occurrences.{IsFirstUnbound, unbound}
use Rattle.obq_model.specs.Sources.{AreAccepted, IsAccepted, IsFault, IsFirstRefused, here, later}
use Rattle.obq_model.specs.Config.{Config}
use Rattle.obq_model.specs.Journal.{Journal}
use Rattle.obq_model.specs.JournalText.{journal_in}
use Rattle.obq_model.specs.Refusals.{first_illegal}
use Rattle.obq_model.specs.Replay.{IsOver, first_able, replay}
use Rattle.obq_run.specs.declared.ends.Cause.{Cause}
use Rattle.obq_run.specs.declared.ends.Cause.TheVariants.{BadJournal, Checked, JournalTooLong, NoMemory, NotLegal, Ran, ReadFault, Refused, Replayed, SourceTooLong, TooManySites, Unfinished, Usage, WriteFault}
use Rattle.obq_run.specs.Ends.{IfReadFault, IfRefused, IfTooLong, IsSourceRefusal}
use Rattle.obq_run.specs.Held.{AreHeld, AreTold, IsFaultAt, IsTooLongAt}
use Rattle.obq_run.specs.Runs.{Completes, HasBadLine, HasIllegal, IsRefusalOf, LeavesAble, NoneRose, ReplayCompletes, ReplayRefusal, WithJournal}
use Rattle.obq_laws.proofs.Refused.{first_able_law, illegal_or_replays}

-- ---- what is told is what was read

same_source : (held : Option (List ℕ)) (source other : List ℕ) → held ≡ Some source → IsIt held other → other ≡ source
same_source held source other e h = subst (λ o. IsIt o other) e h

pub same_sources : (holds : List ℕ → Option (List ℕ)) (limit : ℕ) (paths sources others : List (List ℕ)) → AreTold holds paths sources → AreHeld holds limit paths others → others ≡ sources
same_sources holds limit [] [] [] told held = refl
same_sources holds limit (p ∷ ps) (s ∷ ss) (o ∷ os) told held = cons_same o s os ss (same_source (holds p) s o told.0 held.0) (same_sources holds limit ps ss os told.1 held.2)
  where
    cons_same : (o s : List ℕ) (os ss : List (List ℕ)) → o ≡ s → os ≡ ss → o ∷ os ≡ s ∷ ss
    cons_same o s os ss e f = cc
same_sources holds limit [] (s ∷ ss) others told held = absurd told
same_sources holds limit (p ∷ ps) [] others told held = absurd told
same_sources holds limit [] [] (o ∷ os) told held = absurd held
same_sources holds limit (p ∷ ps) (s ∷ ss) [] told held = absurd held

-- ---- no count rose, no source is too long

pub none_at : (Rises : List ℕ → Type 0) (paths : List (List ℕ)) (k : ℕ) → NoneRose Rises paths → IsSomeAnd (slice_get paths k) Rises → ⊥
none_at Rises [] k none h = absurd h
none_at Rises (p ∷ ps) zero none h = none.0 h
none_at Rises (p ∷ ps) (suc k) none h = none_at Rises ps k none.1 h

pub too_long_at : (holds : List ℕ → Option (List ℕ)) (limit : ℕ) (paths sources : List (List ℕ)) (k : ℕ) → AreTold holds paths sources → AllWithin limit sources
    → IsSomeAnd (slice_get paths k) (λ p. WhereTold (holds p) (λ xs. limit < length xs)) → ⊥
too_long_at holds limit [] sources k told within h = absurd h
too_long_at holds limit (p ∷ ps) [] k told within h = absurd told
too_long_at holds limit (p ∷ ps) (s ∷ ss) zero told within h =
    let over : limit < length s = subst (λ o. WhereTold o (λ xs. limit < length xs)) told.0 h in
    absurd (let le : length s ≤ limit = within.0 in omega arith)
too_long_at holds limit (p ∷ ps) (s ∷ ss) (suc k) told within h = too_long_at holds limit ps ss k told.1 within.1 h

-- ---- what is accepted has no fault

-- tokens derive one tree
pub same_tree : (tokens : List Token) (a b : Block) → Derives tokens a → Derives tokens b → a ≡ b
same_tree tokens a b p q = let u = unique_block p.1 tt b _ q.1 tt in u.0

-- a tree without an unbound name has no first one
none_unbound : (tree : BlockTree) (name : List ℕ) (place : ℕ) → unbound tree ≡ [] → IsFirstUnbound tree name place → ⊥
none_unbound tree name place none first = let lt : first.found.0 < length (unbound tree) = first.found.1 in absurd (omega (arith, lt, ap length none))

pub not_faulty : (source : List ℕ) (tokens : List Token) (tree : Block) (fault : SourceFault) → IsAccepted source tokens tree → IsFault source fault → ⊥
not_faulty source tokens tree (Lexical kind place) accepted fault = no_fault_of_a_reading source tokens kind place accepted.reading fault
not_faulty source tokens tree (Syntax k) accepted (others, is_read, fault) =
    tree_and_fault others tree k (subst (λ ts. Derives ts tree) (one_reading source tokens others accepted.reading is_read) accepted.derived) fault
not_faulty source tokens tree (Unbound name place) accepted (others, other, is_read, derived, first) =
    let same : others ≡ tokens = one_reading source others tokens is_read accepted.reading in
    let is : other ≡ tree = same_tree tokens other tree (subst (λ ts. Derives ts other) same derived) accepted.derived in
    none_unbound (block_tree tree) name place accepted.bound (subst (λ t. IsFirstUnbound (block_tree t) name place) is first)

pub not_refused : {sources : List (List ℕ)} {k : ℕ} {fault : SourceFault} → (trees : List Block) → AreAccepted sources trees → IsFirstRefused sources k fault → ⊥
not_refused [] accepted (here h) = absurd accepted
not_refused [] accepted (later one h) = absurd accepted
not_refused {fault = fault} (tree ∷ trees) accepted (here {source} h) = not_faulty source accepted.0.0 tree fault accepted.0.1 h
not_refused (tree ∷ trees) accepted (later one h) = not_refused trees accepted.1 h

refusal_not : (holds : List ℕ → Option (List ℕ)) (limit : ℕ) (paths sources : List (List ℕ)) (trees : List Block) (k : ℕ) (fault : SourceFault) → AreTold holds paths sources → AreAccepted sources trees
    → IsRefusalOf holds limit paths k fault → ⊥
refusal_not holds limit paths sources trees k fault told accepted h =
    not_refused trees accepted (subst (λ ss. IsFirstRefused ss k fault) (same_sources holds limit paths sources h.sources told h.held) h.refused)

-- ---- sources that are accepted

pub source_refused : (Ends : Cause → Type 0) (holds : List ℕ → Option (List ℕ)) (limit : ℕ) (paths : List (List ℕ)) (Rises : List ℕ → Type 0) (output_rose : Type 0) (cause : Cause) → Ends NoMemory
    → IsSourceRefusal cause → IfReadFault cause (IsFaultAt holds limit Rises paths) → IfTooLong cause (IsTooLongAt holds limit paths)
    → IfRefused cause (IsRefusalOf holds limit paths) → Completes Ends holds limit paths Rises output_rose cause
source_refused Ends holds limit paths Rises out NoMemory end only read long faulty = λ sources trees told within accepted none calm. end
source_refused Ends holds limit paths Rises out (ReadFault file) end only read long faulty = λ sources trees told within accepted none calm. absurd (none_at Rises paths file none read.1)
source_refused Ends holds limit paths Rises out (SourceTooLong s) end only read long faulty =
    λ sources trees told within accepted none calm. absurd (too_long_at holds limit paths sources s told within long.1)
source_refused Ends holds limit paths Rises out (Refused s fault) end only read long faulty =
    λ sources trees told within accepted none calm. absurd (refusal_not holds limit paths sources trees s fault told accepted faulty)
source_refused Ends holds limit paths Rises out Ran end only read long faulty = absurd only
source_refused Ends holds limit paths Rises out Checked end only read long faulty = absurd only
source_refused Ends holds limit paths Rises out Replayed end only read long faulty = absurd only
source_refused Ends holds limit paths Rises out (Usage word) end only read long faulty = absurd only
source_refused Ends holds limit paths Rises out (TooManySites word) end only read long faulty = absurd only
source_refused Ends holds limit paths Rises out WriteFault end only read long faulty = absurd only
source_refused Ends holds limit paths Rises out JournalTooLong end only read long faulty = absurd only
source_refused Ends holds limit paths Rises out (BadJournal line) end only read long faulty = absurd only
source_refused Ends holds limit paths Rises out (NotLegal entry) end only read long faulty = absurd only
source_refused Ends holds limit paths Rises out (Unfinished thread) end only read long faulty = absurd only

-- ---- a journal that is told

-- trees of the same sources are the same
pub same_trees : (sources : List (List ℕ)) (trees others : List Block) → AreAccepted sources trees → AreAccepted sources others → others ≡ trees
same_trees [] [] [] a b = refl
same_trees [] [] (o ∷ os) a b = absurd b
same_trees [] (t ∷ ts) others a b = absurd a
same_trees (s ∷ ss) [] others a b = absurd a
same_trees (s ∷ ss) (t ∷ ts) [] a b = absurd b
same_trees (s ∷ ss) (t ∷ ts) (o ∷ os) a b = same_cons o t os ts (one_tree a.0 b.0) (same_trees ss ts os a.1 b.1)
  where
    same_cons : (o t : Block) (os ts : List Block) → o ≡ t → os ≡ ts → o ∷ os ≡ t ∷ ts
    same_cons o t os ts e f = cc

    one_tree : ((tokens : List Token) × IsAccepted s tokens t) → ((tokens : List Token) × IsAccepted s tokens o) → o ≡ t
    one_tree (tokens, is) (more, other) =
        let same : more ≡ tokens = one_reading s more tokens other.reading is.reading in
        same_tree tokens o t (subst (λ ts. Derives ts o) same other.derived) is.derived

-- what holds of the journal that was read holds of the one that is told
pub journal_told : (holds : List ℕ → Option (List ℕ)) (paths : List (List ℕ)) (from : List ℕ) (P : List BlockTree → List ℕ → Type 0) (sources : List (List ℕ)) (trees : List Block) (bytes : List ℕ)
    → AreTold holds paths sources → AreAccepted sources trees → holds from ≡ Some bytes → WithJournal holds paths from P → P (map block_tree trees) bytes
journal_told holds paths from P sources trees bytes told accepted held w =
    let same : w.sources ≡ sources = same_sources holds SOURCE_LIMIT paths sources w.sources told w.held in
    let those : w.trees ≡ trees = same_trees sources trees w.trees accepted (subst (λ ss. AreAccepted ss w.trees) same w.accepted) in
    let it : w.bytes ≡ bytes = same_source (holds from) bytes w.bytes held w.told in
    subst (λ bs. P (map block_tree trees) bs) it (subst (λ ts. P (map block_tree ts) w.bytes) those w.is_so)

-- the journal's path is the last of all
journal_rose : (Rises : List ℕ → Type 0) (paths : List (List ℕ)) (from : List ℕ) → NoneRose Rises (paths ++ from ∷ []) → NoneRose Rises paths
journal_rose Rises [] from none = tt
journal_rose Rises (p ∷ ps) from none = (none.0, journal_rose Rises ps from none.1)

journal_short : (held : Option (List ℕ)) (bytes : List ℕ) → held ≡ Some bytes → length bytes ≤ JOURNAL_LIMIT → WhereTold held (λ xs. JOURNAL_LIMIT < length xs) → ⊥
journal_short held bytes e short long = absurd (let over : JOURNAL_LIMIT < length bytes = subst (λ o. WhereTold o (λ xs. JOURNAL_LIMIT < length xs)) e long in omega (arith, over, short))

-- a bad line, an entry that isn't legal and an able thread are in no journal that is read and over
line_not : (bytes : List ℕ) (j : Journal) (line : ℕ) → journal_in bytes ≡ Ok j → journal_in bytes ≡ Err line → ⊥
line_not bytes j line e f = ok_err (sym e ∙ f)
  where
    ok_err : Ok j ≡ Err line → ⊥
    ok_err h = cc

ok_same : (r : Result Journal ℕ) (a b : Journal) → r ≡ Ok a → r ≡ Ok b → b ≡ a
ok_same r a b e f = cc

some_none : (last : Config) → Some last ≡ None → ⊥
some_none last h = cc

true_false : true ≡ false → ⊥
true_false h = cc

illegal_not : (trees : List BlockTree) (bytes : List ℕ) (j : Journal) (last : Config) (entry : ℕ) → journal_in bytes ≡ Ok j → replay trees j.turns j.entries ≡ Some last → HasIllegal entry trees bytes → ⊥
illegal_not trees bytes j last entry e replays (other, why, f, first) =
    let same : other ≡ j = ok_same (journal_in bytes) j other e f in
    let there : first_illegal trees j.turns j.entries ≡ Some (entry, why) = subst (λ (k : Journal). first_illegal trees k.turns k.entries ≡ Some (entry, why)) same first in
    true_false (sym (ap is_some replays) ∙ (sym (illegal_or_replays trees j.turns j.entries) ∙ ap is_none there))

able_not : (trees : List BlockTree) (bytes : List ℕ) (j : Journal) (last : Config) (thread : ℕ) → journal_in bytes ≡ Ok j → replay trees j.turns j.entries ≡ Some last → IsOver j.turns last
    → LeavesAble thread trees bytes → ⊥
able_not trees bytes j last thread e replays over (other, end, f, leads, able) =
    let same : other ≡ j = ok_same (journal_in bytes) j other e f in
    let there : replay trees j.turns j.entries ≡ Some end = subst (λ (k : Journal). replay trees k.turns k.entries ≡ Some end) same leads in
    let is : Some end ≡ Some last = sym there ∙ replays in
    let it : first_able j.turns last ≡ Some thread = subst (λ k. first_able j.turns k ≡ Some thread) (some_same end last is) (subst (λ (k : Journal). first_able k.turns end ≡ Some thread) same able) in
    true_false (sym (first_able_law j.turns last thread it).0 ∙ over thread)
  where
    some_same : (a b : Config) → Some a ≡ Some b → a ≡ b
    some_same a b h = cc

pub replay_refused : (holds : List ℕ → Option (List ℕ)) (paths : List (List ℕ)) (from : List ℕ) (Rises : List ℕ → Type 0) (output_rose : Type 0) (cause : Cause) → ReplayRefusal holds Rises paths from cause
    → ReplayCompletes holds paths from Rises output_rose cause
replay_refused holds paths from Rises out NoMemory h = λ sources trees bytes j last told within accepted held short is_read replays over none calm. tt
replay_refused holds paths from Rises out (ReadFault file) h =
    λ sources trees bytes j last told within accepted held short is_read replays over none calm. absurd (none_at Rises (paths ++ from ∷ []) file none h.1)
replay_refused holds paths from Rises out (SourceTooLong s) h =
    λ sources trees bytes j last told within accepted held short is_read replays over none calm. absurd (too_long_at holds SOURCE_LIMIT paths sources s told within h.1)
replay_refused holds paths from Rises out JournalTooLong h =
    λ sources trees bytes j last told within accepted held short is_read replays over none calm. absurd (journal_short (holds from) bytes held short h.1)
replay_refused holds paths from Rises out (Refused s fault) h =
    λ sources trees bytes j last told within accepted held short is_read replays over none calm. absurd (refusal_not holds SOURCE_LIMIT paths sources trees s fault told accepted h)
replay_refused holds paths from Rises out (BadJournal line) h =
    λ sources trees bytes j last told within accepted held short is_read replays over none calm. absurd (line_not bytes j line is_read (journal_told holds paths from (HasBadLine line) sources trees bytes told accepted held h))
replay_refused holds paths from Rises out (NotLegal entry) h =
    λ sources trees bytes j last told within accepted held short is_read replays over none calm. absurd (illegal_not (map block_tree trees) bytes j last entry is_read replays (journal_told holds paths from (HasIllegal entry) sources trees bytes told accepted held h))
replay_refused holds paths from Rises out (Unfinished thread) h =
    λ sources trees bytes j last told within accepted held short is_read replays over none calm. absurd (able_not (map block_tree trees) bytes j last thread is_read replays over (journal_told holds paths from (LeavesAble thread) sources trees bytes told accepted held h))
replay_refused holds paths from Rises out Ran h = absurd h
replay_refused holds paths from Rises out Checked h = absurd h
replay_refused holds paths from Rises out Replayed h = absurd h
replay_refused holds paths from Rises out (Usage word) h = absurd h
replay_refused holds paths from Rises out (TooManySites word) h = absurd h
replay_refused holds paths from Rises out WriteFault h = absurd h
