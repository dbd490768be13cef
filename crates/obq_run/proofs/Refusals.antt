-- A call whose sources have a first fault, or of which one is too long, is refused for it.
use Rattle.std.proofs.Common.{List, None, Option, Some, [], ap, arith, inl, inr, length, refl, slice_get, subst, suc, take, zero, ℕ, ◌<◌, ◌≡◌, ◌≤◌, ◌∷◌}
use Rattle.std.proofs.lemmas.Bool.{cases_order}
use Rattle.std.specs.Prelude.{IsSomeAnd}
use Rattle.obq_base.specs.declared.faults.LexKind.{LexKind}
use Rattle.obq_base.specs.declared.faults.SourceFault.{SourceFault}
use Rattle.obq_base.specs.declared.faults.SourceFault.TheVariants.{Lexical, Syntax, Unbound}
use Rattle.obq_base.specs.declared.tokens.Token.{Token}
use Rattle.obq_base.specs.declared.trees.Block.{Block}
use Rattle.obq_base.specs.View.{block_tree}
use Rattle.obq_grammar.proofs.Named.{one_first}
use Rattle.obq_grammar.proofs.Prefixes.{same_fault, tree_and_fault}
use Rattle.obq_io.specs.Known.{IsIt, WhereTold}
use Rattle.obq_model.proofs.Uniqueness.{ascending, no_fault_of_a_reading, one_first_fault, one_reading}
use Rattle.obq_model.specs.Grammar.{Derives}
use Rattle.obq_model.specs.Occurrences.{IsFirstUnbound}
use Rattle.obq_model.specs.Sources.{AreAccepted, IsFault, IsFirstRefused, here, later}
use Rattle.obq_model.specs.Syntax as syntax
use Rattle.obq_model.specs.Tokens.{IsAscending}
use Rattle.obq_run.specs.declared.ends.Cause.{Cause}
use Rattle.obq_run.specs.declared.ends.Cause.TheVariants.{BadJournal, Checked, JournalTooLong, NoMemory, NotLegal, Ran, ReadFault, Refused, Replayed, SourceTooLong, TooManySites, Unfinished, Usage, WriteFault}
use Rattle.obq_run.specs.Ends.{IfReadFault, IfRefused, IfTooLong, IsSourceRefusal}
use Rattle.obq_run.specs.Held.{AreHeld, AreTold, AreWithinLimit, IsFaultAt, IsFirstTooLong, IsTooLongAt}
use Rattle.obq_run.specs.Runs.{IsRefusalOf, NoneRose, RefusalCompletes, TooLongCompletes}
use Rattle.obq_run.proofs.Complete.{none_at, not_faulty, not_refused, same_sources, same_tree, too_long_at}

-- ---- one first fault

lexical_same : (i j : LexKind) (p q : ℕ) → i ≡ j → p ≡ q → Lexical i p ≡ Lexical j q
lexical_same i j p q e f = cc

unbound_same : (a b : List ℕ) (p q : ℕ) → a ≡ b → p ≡ q → Unbound a p ≡ Unbound b q
unbound_same a b p q e f = cc

same_unbound : (tokens : List Token) (tree other : Block) (a b : List ℕ) (p q : ℕ) → IsAscending 0 tokens → Derives tokens tree → Derives tokens other → IsFirstUnbound (block_tree tree) a p
    → IsFirstUnbound (block_tree other) b q → Unbound a p ≡ Unbound b q
same_unbound tokens tree other a b p q up derived another first second =
    let is : other ≡ tree = same_tree tokens other tree another derived in
    let found = one_first tokens tree a b p q up derived first (subst (λ t. IsFirstUnbound (block_tree t) b q) is second) in
    unbound_same a b p q found.0 found.1

-- a source has one first fault
one_fault_of : (source : List ℕ) (a b : SourceFault) → IsFault source a → IsFault source b → a ≡ b
one_fault_of source (Lexical i p) (Lexical j q) x y = let same = one_first_fault source i j p q x y in lexical_same i j p q same.0 same.1
one_fault_of source (Lexical i p) (Syntax k) x (tokens, is_read, fault) = absurd (no_fault_of_a_reading source tokens i p is_read x)
one_fault_of source (Lexical i p) (Unbound b q) x (tokens, tree, is_read, derived, first) = absurd (no_fault_of_a_reading source tokens i p is_read x)
one_fault_of source (Syntax k) (Lexical j q) (tokens, is_read, fault) y = absurd (no_fault_of_a_reading source tokens j q is_read y)
one_fault_of source (Syntax j) (Syntax k) (tokens, is_read, fault) (others, other, second) =
    ap Syntax (same_fault tokens j k fault (subst (λ (ts : List Token). syntax.IsFirstFault ts k) (one_reading source others tokens other is_read) second))
one_fault_of source (Syntax k) (Unbound b q) (tokens, is_read, fault) (others, tree, other, derived, first) =
    absurd (tree_and_fault tokens tree k (subst (λ (ts : List Token). Derives ts tree) (one_reading source others tokens other is_read) derived) fault)
one_fault_of source (Unbound a p) (Lexical j q) (tokens, tree, is_read, derived, first) y = absurd (no_fault_of_a_reading source tokens j q is_read y)
one_fault_of source (Unbound a p) (Syntax k) (tokens, tree, is_read, derived, first) (others, other, fault) =
    absurd (tree_and_fault others tree k (subst (λ (ts : List Token). Derives ts tree) (one_reading source tokens others is_read other) derived) fault)
one_fault_of source (Unbound a p) (Unbound b q) (tokens, tree, is_read, derived, first) (others, another, other, again, second) =
    same_unbound tokens tree another a b p q (ascending source tokens is_read) derived (subst (λ (ts : List Token). Derives ts another) (one_reading source others tokens other is_read) again) first second

-- sources have one first that is refused, with one fault
one_first_refused : {sources : List (List ℕ)} {j k : ℕ} {a b : SourceFault} → IsFirstRefused sources j a → IsFirstRefused sources k b → (j ≡ k) × (a ≡ b)
one_first_refused (here {source} {fault = a} x) (here {fault = b} y) = (refl, one_fault_of source a b x y)
one_first_refused (here {source} {fault = a} x) (later {tokens = tokens} {tree = tree} accepted y) = absurd (not_faulty source tokens tree a accepted x)
one_first_refused (later {tokens = tokens} {tree = tree} accepted x) (here {source} {fault = b} y) = absurd (not_faulty source tokens tree b accepted y)
one_first_refused (later accepted x) (later other y) = let same = one_first_refused x y in (ap suc same.0, same.1)

same_refusal : (holds : List ℕ → Option (List ℕ)) (limit : ℕ) (paths sources : List (List ℕ)) (j k : ℕ) (a b : SourceFault) → AreTold holds paths sources → IsRefusalOf holds limit paths j a
    → IsFirstRefused sources k b → (j ≡ k) × (a ≡ b)
same_refusal holds limit paths sources j k a b told h first = one_first_refused (subst (λ ss. IsFirstRefused ss j a) (same_sources holds limit paths sources h.sources told h.held) h.refused) first

-- sources that were accepted have none
accepted_not : (holds : List ℕ → Option (List ℕ)) (limit : ℕ) (paths sources others : List (List ℕ)) (trees : List Block) (k : ℕ) (fault : SourceFault) → AreTold holds paths sources
    → AreHeld holds limit paths others → AreAccepted others trees → IsFirstRefused sources k fault → ⊥
accepted_not holds limit paths sources others trees k fault told held accepted first =
    not_refused trees (subst (λ ss. AreAccepted ss trees) (same_sources holds limit paths sources others told held) accepted) first

pub refusal_refused : (holds : List ℕ → Option (List ℕ)) (limit : ℕ) (paths : List (List ℕ)) (Rises : List ℕ → Type 0) (cause : Cause) → IsSourceRefusal cause
    → IfReadFault cause (IsFaultAt holds limit Rises paths) → IfTooLong cause (IsTooLongAt holds limit paths)
    → IfRefused cause (IsRefusalOf holds limit paths) → RefusalCompletes holds limit paths Rises cause
refusal_refused holds limit paths Rises NoMemory only read long faulty = λ sources k fault told within first none. tt
refusal_refused holds limit paths Rises (ReadFault file) only read long faulty = λ sources k fault told within first none. absurd (none_at Rises paths file none read.1)
refusal_refused holds limit paths Rises (SourceTooLong s) only read long faulty = λ sources k fault told within first none. absurd (too_long_at holds limit paths sources s told within long.1)
refusal_refused holds limit paths Rises (Refused s other) only read long faulty = λ sources k fault told within first none. same_refusal holds limit paths sources s k other fault told faulty first
refusal_refused holds limit paths Rises Ran only read long faulty = absurd only
refusal_refused holds limit paths Rises Checked only read long faulty = absurd only
refusal_refused holds limit paths Rises (Usage word) only read long faulty = absurd only
refusal_refused holds limit paths Rises (TooManySites word) only read long faulty = absurd only
refusal_refused holds limit paths Rises WriteFault only read long faulty = absurd only
refusal_refused holds limit paths Rises Replayed only read long faulty = absurd only
refusal_refused holds limit paths Rises JournalTooLong only read long faulty = absurd only
refusal_refused holds limit paths Rises (BadJournal line) only read long faulty = absurd only
refusal_refused holds limit paths Rises (NotLegal entry) only read long faulty = absurd only
refusal_refused holds limit paths Rises (Unfinished thread) only read long faulty = absurd only

pub refusal_finished : (holds : List ℕ → Option (List ℕ)) (limit : ℕ) (paths others : List (List ℕ)) (trees : List Block) (Rises : List ℕ → Type 0) (cause : Cause) → AreHeld holds limit paths others
    → AreAccepted others trees → RefusalCompletes holds limit paths Rises cause
refusal_finished holds limit paths others trees Rises cause held accepted =
    λ sources k fault told within first none. absurd (accepted_not holds limit paths sources others trees k fault told held accepted first)

-- ---- the first source that is too long

long_not : (held : Option (List ℕ)) (source : List ℕ) (limit : ℕ) → IsIt held source → length source ≤ limit → IsSomeAnd held (λ xs. limit < length xs) → ⊥
long_not None source limit is short long = absurd long
long_not (Some xs) source limit is short long = absurd (let le : length xs ≤ limit = subst (λ (ys : List ℕ). length ys ≤ limit) is short in omega (arith, le, long))

long_told : (held : Option (List ℕ)) (limit : ℕ) → IsSomeAnd held (λ xs. limit < length xs) → WhereTold held (λ xs. length xs ≤ limit) → ⊥
long_told None limit long short = absurd long
long_told (Some xs) limit long short = absurd (omega (arith, long, short))

short_told : (held : Option (List ℕ)) (limit : ℕ) → IsSomeAnd held (λ xs. length xs ≤ limit) → WhereTold held (λ xs. limit < length xs) → ⊥
short_told None limit short long = absurd short
short_told (Some xs) limit short long = absurd (omega (arith, long, short))

-- sources that were read are all within the limit
held_not : (holds : List ℕ → Option (List ℕ)) (limit : ℕ) (paths sources : List (List ℕ)) (k : ℕ) → AreHeld holds limit paths sources → IsFirstTooLong holds limit paths k → ⊥
held_not holds limit [] sources k held long = absurd long
held_not holds limit (p ∷ ps) [] k held long = absurd held
held_not holds limit (p ∷ ps) (s ∷ ss) zero held long = long_not (holds p) s limit held.0 held.1 long
held_not holds limit (p ∷ ps) (s ∷ ss) (suc k) held long = held_not holds limit ps ss k held.2 long.1

-- reading doesn't come past it
not_past : (holds : List ℕ → Option (List ℕ)) (limit : ℕ) (paths : List (List ℕ)) (k file : ℕ) → IsFirstTooLong holds limit paths k → k < file → AreWithinLimit holds limit (take file paths) → ⊥
not_past holds limit [] k file long lt within = absurd long
not_past holds limit (p ∷ ps) k zero long lt within = absurd (omega (arith, lt))
not_past holds limit (p ∷ ps) zero (suc file) long lt within = long_told (holds p) limit long within.0
not_past holds limit (p ∷ ps) (suc k) (suc file) long lt within = not_past holds limit ps k file long.1 (omega (arith, lt)) within.1

-- no count rose up to it
not_risen : (Rises : List ℕ → Type 0) (paths : List (List ℕ)) (k file : ℕ) → NoneRose Rises (take (suc k) paths) → file ≤ k → IsSomeAnd (slice_get paths file) Rises → ⊥
not_risen Rises [] k file none le rose = absurd rose
not_risen Rises (p ∷ ps) k zero none le rose = none.0 rose
not_risen Rises (p ∷ ps) zero (suc file) none le rose = absurd (omega (arith, le))
not_risen Rises (p ∷ ps) (suc k) (suc file) none le rose = not_risen Rises ps k file none.1 (omega (arith, le)) rose

-- none before it is too long
not_sooner : (holds : List ℕ → Option (List ℕ)) (limit : ℕ) (paths : List (List ℕ)) (k s : ℕ) → IsFirstTooLong holds limit paths k → s < k
    → IsSomeAnd (slice_get paths s) (λ p. WhereTold (holds p) (λ xs. limit < length xs)) → ⊥
not_sooner holds limit [] k s long lt at = absurd long
not_sooner holds limit (p ∷ ps) zero s long lt at = absurd (omega (arith, lt))
not_sooner holds limit (p ∷ ps) (suc k) zero long lt at = short_told (holds p) limit long.0 at
not_sooner holds limit (p ∷ ps) (suc k) (suc s) long lt at = not_sooner holds limit ps k s long.1 (omega (arith, lt)) at

fault_not : (holds : List ℕ → Option (List ℕ)) (limit : ℕ) (paths : List (List ℕ)) (Rises : List ℕ → Type 0) (k file : ℕ) → IsFaultAt holds limit Rises paths file → IsFirstTooLong holds limit paths k
    → NoneRose Rises (take (suc k) paths) → ⊥
fault_not holds limit paths Rises k file fault long none = elim (cases_order file k) as (λ _. ⊥) [
  | inl is ↦ not_risen Rises paths k file none (omega (arith, is)) fault.1
  | inr apart ↦ elim apart as (λ _. ⊥) [
    | inl lt ↦ not_risen Rises paths k file none (omega (arith, lt)) fault.1
    | inr gt ↦ not_past holds limit paths k file long gt fault.0
  ]
]

same_long : (holds : List ℕ → Option (List ℕ)) (limit : ℕ) (paths : List (List ℕ)) (k s : ℕ) → IsTooLongAt holds limit paths s → IsFirstTooLong holds limit paths k → s ≡ k
same_long holds limit paths k s at long = elim (cases_order s k) as (λ _. s ≡ k) [
  | inl is ↦ is
  | inr apart ↦ elim apart as (λ _. s ≡ k) [
    | inl lt ↦ absurd (not_sooner holds limit paths k s long lt at.1)
    | inr gt ↦ absurd (not_past holds limit paths k s long gt at.0)
  ]
]

pub too_long_refused : (holds : List ℕ → Option (List ℕ)) (limit : ℕ) (paths : List (List ℕ)) (Rises : List ℕ → Type 0) (cause : Cause) → IsSourceRefusal cause
    → IfReadFault cause (IsFaultAt holds limit Rises paths) → IfTooLong cause (IsTooLongAt holds limit paths)
    → IfRefused cause (IsRefusalOf holds limit paths) → TooLongCompletes holds limit paths Rises cause
too_long_refused holds limit paths Rises NoMemory only read long faulty = λ k first none. tt
too_long_refused holds limit paths Rises (ReadFault file) only read long faulty = λ k first none. absurd (fault_not holds limit paths Rises k file read first none)
too_long_refused holds limit paths Rises (SourceTooLong s) only read long faulty = λ k first none. same_long holds limit paths k s long first
too_long_refused holds limit paths Rises (Refused s fault) only read long faulty = λ k first none. absurd (held_not holds limit paths faulty.sources k faulty.held first)
too_long_refused holds limit paths Rises Ran only read long faulty = absurd only
too_long_refused holds limit paths Rises Checked only read long faulty = absurd only
too_long_refused holds limit paths Rises (Usage word) only read long faulty = absurd only
too_long_refused holds limit paths Rises (TooManySites word) only read long faulty = absurd only
too_long_refused holds limit paths Rises WriteFault only read long faulty = absurd only
too_long_refused holds limit paths Rises Replayed only read long faulty = absurd only
too_long_refused holds limit paths Rises JournalTooLong only read long faulty = absurd only
too_long_refused holds limit paths Rises (BadJournal line) only read long faulty = absurd only
too_long_refused holds limit paths Rises (NotLegal entry) only read long faulty = absurd only
too_long_refused holds limit paths Rises (Unfinished thread) only read long faulty = absurd only

pub too_long_finished : (holds : List ℕ → Option (List ℕ)) (limit : ℕ) (paths others : List (List ℕ)) (Rises : List ℕ → Type 0) (cause : Cause) → AreHeld holds limit paths others
    → TooLongCompletes holds limit paths Rises cause
too_long_finished holds limit paths others Rises cause held = λ k first none. absurd (held_not holds limit paths others k held first)
