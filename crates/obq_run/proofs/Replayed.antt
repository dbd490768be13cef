-- Why a journal wasn't read, or not replayed.
use Rattle.std.proofs.Common.{List, None, Option, Some, [], ap, arith, length, refl, slice_get, subst, suc, sym, take, zero, ℕ, ◌++◌, ◌<◌, ◌≡◌, ◌≤◌, ◌∷◌}
use Rattle.std.specs.Prelude.{Err, IfErr, IfOk, IsSomeAnd, Ok, Result}
use Rattle.obq_base.specs.declared.limits.TheConstants.{JOURNAL_LIMIT, SOURCE_LIMIT}
use Rattle.obq_base.specs.declared.trees.Block.{Block}
use Rattle.obq_io.specs.Causes.{Rose}
use Rattle.obq_io.specs.Known.{IsIt, WhereTold}
use Rattle.obq_io.specs.Reads.{MatchReadRefused}
use Rattle.obq_io.specs.declared.reading.ReadRefused.{ReadRefused}
use Rattle.obq_io.specs.declared.reading.ReadRefused.TheVariants.{Fault, NoMemory, TooLong}
use Rattle.obq_front.specs.declared.program.FrontRefused.{FrontRefused}
use Rattle.obq_front.specs.declared.program.FrontRefused.TheVariants as front
use Rattle.obq_front.specs.Refusals.{IfRefused}
use Rattle.obq_model.specs.Sources.{AreAccepted, IsFirstRefused}
use Rattle.obq_run.specs.declared.ends.Cause.{Cause}
use Rattle.obq_run.specs.declared.ends.Cause.TheVariants as cause
use Rattle.obq_run.specs.declared.playing.Played.{Played}
use Rattle.obq_run.specs.Ends.{refusal_cause, unread_cause, unread_journal_cause}
use Rattle.obq_run.specs.Played.{ReplaysOf, SourcesReplay}
use Rattle.obq_run.specs.Held.{AreHeld, AreWithinLimit, IsFaultAt, IsTooLongAt}
use Rattle.obq_run.specs.Runs.{ReplayRefusal}

-- a path behind the others
taken_before : (P : List ℕ → Type 0) (paths : List (List ℕ)) (from : List ℕ) (file : ℕ) → IsSomeAnd (slice_get paths file) P → take file (paths ++ from ∷ []) ≡ take file paths
taken_before P [] from file h = absurd h
taken_before P (p ∷ ps) from zero h = refl
taken_before P (p ∷ ps) from (suc file) h = ap (λ xs. p ∷ xs) (taken_before P ps from file h)

found_before : (P : List ℕ → Type 0) (paths : List (List ℕ)) (from : List ℕ) (file : ℕ) → IsSomeAnd (slice_get paths file) P → IsSomeAnd (slice_get (paths ++ from ∷ []) file) P
found_before P [] from file h = absurd h
found_before P (p ∷ ps) from zero h = h
found_before P (p ∷ ps) from (suc file) h = found_before P ps from file h

fault_before : (holds : List ℕ → Option (List ℕ)) (limit : ℕ) (Rises : List ℕ → Type 0) (paths : List (List ℕ)) (from : List ℕ) (file : ℕ) → IsFaultAt holds limit Rises paths file
    → IsFaultAt holds limit Rises (paths ++ from ∷ []) file
fault_before holds limit Rises paths from file h = (
  subst (AreWithinLimit holds limit) (sym (taken_before Rises paths from file h.1)) h.0,
  found_before Rises paths from file h.1,
)

pub unread_source : (holds : List ℕ → Option (List ℕ)) (Rises : List ℕ → Type 0) (paths : List (List ℕ)) (from : List ℕ) (file : ℕ) (why : ReadRefused)
    → MatchReadRefused why (IsFaultAt holds SOURCE_LIMIT Rises paths file) (IsTooLongAt holds SOURCE_LIMIT paths file) → ReplayRefusal holds Rises paths from (unread_cause file why)
unread_source holds Rises paths from file Fault h = fault_before holds SOURCE_LIMIT Rises paths from file h
unread_source holds Rises paths from file TooLong h = h
unread_source holds Rises paths from file NoMemory h = tt

-- ---- the journal's file

all_taken : (paths : List (List ℕ)) (from : List ℕ) → take (length paths) (paths ++ from ∷ []) ≡ paths
all_taken [] from = refl
all_taken (p ∷ ps) from = ap (λ xs. p ∷ xs) (all_taken ps from)

last_found : (P : List ℕ → Type 0) (paths : List (List ℕ)) (from : List ℕ) → P from → IsSomeAnd (slice_get (paths ++ from ∷ []) (length paths)) P
last_found P [] from h = h
last_found P (p ∷ ps) from h = last_found P ps from h

within_told : (held : Option (List ℕ)) (bytes : List ℕ) (limit : ℕ) → IsIt held bytes → length bytes ≤ limit → WhereTold held (λ xs. length xs ≤ limit)
within_told None bytes limit is h = tt
within_told (Some xs) bytes limit is h = subst (λ ys. length ys ≤ limit) is h

pub held_within : (holds : List ℕ → Option (List ℕ)) (limit : ℕ) (paths sources : List (List ℕ)) → AreHeld holds limit paths sources → AreWithinLimit holds limit paths
held_within holds limit [] [] held = tt
held_within holds limit (p ∷ ps) (s ∷ ss) held = (within_told (holds p) s limit held.0 held.1, held_within holds limit ps ss held.2)
held_within holds limit [] (s ∷ ss) held = absurd held
held_within holds limit (p ∷ ps) [] held = absurd held

pub unread_journal : (holds : List ℕ → Option (List ℕ)) (Rises : List ℕ → Type 0) (paths : List (List ℕ)) (from : List ℕ) (file : ℕ) (why : ReadRefused) → file ≡ length paths
    → AreWithinLimit holds SOURCE_LIMIT paths → MatchReadRefused why (Rises from) (WhereTold (holds from) (λ xs. JOURNAL_LIMIT < length xs))
    → ReplayRefusal holds Rises paths from (unread_journal_cause file why)
unread_journal holds Rises paths from file Fault is within h =
    subst (λ n. IsFaultAt holds SOURCE_LIMIT Rises (paths ++ from ∷ []) n) (sym is) (subst (AreWithinLimit holds SOURCE_LIMIT) (sym (all_taken paths from)) within, last_found Rises paths from h)
unread_journal holds Rises paths from file TooLong is within h = (within, h)
unread_journal holds Rises paths from file NoMemory is within h = tt

-- the premises of that, as reading a file tells them
pub rises_since : (start mid now : ℕ) (why : ReadRefused) (before holds : Option (List ℕ)) → start ≤ mid → before ≡ holds
    → MatchReadRefused why (Rose mid now) (WhereTold before (λ xs. JOURNAL_LIMIT < length xs)) → MatchReadRefused why (Rose start now) (WhereTold holds (λ xs. JOURNAL_LIMIT < length xs))
rises_since start mid now Fault before holds le same h = omega (arith, le, h)
rises_since start mid now TooLong before holds le same h = subst (λ o. WhereTold o (λ xs. JOURNAL_LIMIT < length xs)) same h
rises_since start mid now NoMemory before holds le same h = tt

-- there are as many trees as sources
pub trees_as_many : (sources : List (List ℕ)) (trees : List Block) → AreAccepted sources trees → length trees ≡ length sources
trees_as_many [] [] h = refl
trees_as_many (s ∷ ss) (t ∷ ts) h = ap suc (trees_as_many ss ts h.1)
trees_as_many [] (t ∷ ts) h = absurd h
trees_as_many (s ∷ ss) [] h = absurd h

-- ---- what a replay of sources that were read comes to

pub replays_held : (holds : List ℕ → Option (List ℕ)) (paths sources : List (List ℕ)) (from bytes : List ℕ) (r : Result Played Cause) → AreHeld holds SOURCE_LIMIT paths sources → IsIt (holds from) bytes
    → length bytes ≤ JOURNAL_LIMIT → SourcesReplay sources bytes r → IfOk r (ReplaysOf holds paths from)
replays_held holds paths sources from bytes (Ok played) held told within h = record { sources = sources; held = held; trees = h.0; accepted = h.1; bytes = bytes; told = told; within = within; is_so = h.2 }
replays_held holds paths sources from bytes (Err why) held told within h = tt

pub refusal_held : (holds : List ℕ → Option (List ℕ)) (Rises : List ℕ → Type 0) (paths sources : List (List ℕ)) (from bytes : List ℕ) (r : Result Played Cause) → AreHeld holds SOURCE_LIMIT paths sources
    → IsIt (holds from) bytes → length bytes ≤ JOURNAL_LIMIT → SourcesReplay sources bytes r → IfErr r (ReplayRefusal holds Rises paths from)
refusal_held holds Rises paths sources from bytes (Ok played) held told within h = tt
refusal_held holds Rises paths sources from bytes (Err (cause.Refused s fault)) held told within h = record { sources = sources; held = held; refused = h }
refusal_held holds Rises paths sources from bytes (Err cause.NoMemory) held told within h = tt
refusal_held holds Rises paths sources from bytes (Err (cause.BadJournal line)) held told within h =
    record { sources = sources; held = held; trees = h.0; accepted = h.1; bytes = bytes; told = told; within = within; is_so = h.2 }
refusal_held holds Rises paths sources from bytes (Err (cause.NotLegal entry)) held told within h =
    record { sources = sources; held = held; trees = h.0; accepted = h.1; bytes = bytes; told = told; within = within; is_so = h.2 }
refusal_held holds Rises paths sources from bytes (Err (cause.Unfinished thread)) held told within h =
    record { sources = sources; held = held; trees = h.0; accepted = h.1; bytes = bytes; told = told; within = within; is_so = h.2 }
refusal_held holds Rises paths sources from bytes (Err (cause.ReadFault file)) held told within h = absurd h.2
refusal_held holds Rises paths sources from bytes (Err (cause.SourceTooLong s)) held told within h = absurd h.2
refusal_held holds Rises paths sources from bytes (Err cause.JournalTooLong) held told within h = absurd h.2
refusal_held holds Rises paths sources from bytes (Err cause.Ran) held told within h = absurd h.2
refusal_held holds Rises paths sources from bytes (Err cause.Checked) held told within h = absurd h.2
refusal_held holds Rises paths sources from bytes (Err cause.Replayed) held told within h = absurd h.2
refusal_held holds Rises paths sources from bytes (Err (cause.Usage word)) held told within h = absurd h.2
refusal_held holds Rises paths sources from bytes (Err (cause.TooManySites word)) held told within h = absurd h.2
refusal_held holds Rises paths sources from bytes (Err cause.WriteFault) held told within h = absurd h.2

pub refused_sources : (sources : List (List ℕ)) (bytes : List ℕ) (why : FrontRefused) → IfRefused why (IsFirstRefused sources) → SourcesReplay sources bytes (Err (refusal_cause why))
refused_sources sources bytes (front.Refused s fault) h = h
refused_sources sources bytes front.NoMemory h = tt
