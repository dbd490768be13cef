-- Words on the cause of an end.
use Rattle.std.specs.Prelude.{Bool, List, Option, [], false, slice_index_or, true, ℕ, ⊤, ◌≡◌, ◌⊎◌}
use Rattle.std.specs.Io.KnownBytes.{Appends}
use Rattle.obq_base.specs.declared.faults.SourceFault.{SourceFault}
use Rattle.obq_front.specs.declared.program.FrontRefused.{FrontRefused}
use Rattle.obq_front.specs.declared.program.FrontRefused.TheVariants as front
use Rattle.obq_io.specs.Known.{GetsPrefix}
use Rattle.obq_io.specs.declared.reading.ReadRefused.{ReadRefused}
use Rattle.obq_io.specs.declared.reading.ReadRefused.TheVariants as unread
use Rattle.obq_model.specs.Output.{bad_journal_line, journal_too_long_line, no_memory_line, not_legal_line, read_fault_line, refused_line, too_long_line, too_many_line, unfinished_line, usage_line, write_fault_line}
use Rattle.obq_run.specs.declared.ends.Cause.{Cause}
use Rattle.obq_run.specs.declared.ends.Cause.TheVariants.{BadJournal, Checked, JournalTooLong, NoMemory, NotLegal, Ran, ReadFault, Refused, Replayed, SourceTooLong, TooManySites, Unfinished, Usage, WriteFault}
use Rattle.obq_run.specs.declared.reading.SourcesRefused.{SourcesRefused}

-- the status of a call that ended so; that of a run and of a replay is its report's
abbrev pub HasStatus : Cause → ℕ → Type 0
HasStatus Ran s = ⊤
HasStatus Replayed s = ⊤
HasStatus Checked s = s ≡ 0
HasStatus (Usage word) s = s ≡ 2
HasStatus (TooManySites word) s = s ≡ 7
HasStatus (SourceTooLong source) s = s ≡ 7
HasStatus JournalTooLong s = s ≡ 7
HasStatus (Refused source fault) s = s ≡ 3
HasStatus (ReadFault file) s = s ≡ 4
HasStatus WriteFault s = s ≡ 5
HasStatus (BadJournal line) s = s ≡ 8
HasStatus (NotLegal entry) s = s ≡ 8
HasStatus (Unfinished thread) s = s ≡ 8
HasStatus NoMemory s = s ≡ 6

-- the line that tells the cause of a call on sites of these names; nothing where its work was done
abbrev pub line_of : List (List ℕ) → Cause → List ℕ
line_of names Ran = []
line_of names Checked = []
line_of names Replayed = []
line_of names (Usage word) = usage_line word
line_of names (TooManySites word) = too_many_line word
line_of names (SourceTooLong source) = too_long_line (slice_index_or names source [])
line_of names JournalTooLong = journal_too_long_line
line_of names (Refused source fault) = refused_line (slice_index_or names source []) fault
line_of names (ReadFault file) = read_fault_line file
line_of names WriteFault = write_fault_line
line_of names (BadJournal line) = bad_journal_line line
line_of names (NotLegal entry) = not_legal_line entry
line_of names (Unfinished thread) = unfinished_line thread
line_of names NoMemory = no_memory_line

-- a sink got the line, or a prefix of it and its count of faults rose
abbrev pub GetsLine : (old new : Option (List ℕ)) → Type 0 → List ℕ → Type 0
GetsLine old new rose line = GetsPrefix old new line × (Appends old new line ⊎ rose)

-- the call ended before it wrote
abbrev pub IsRefusal : Cause → Type 0
IsRefusal Ran = ⊥
IsRefusal Checked = ⊥
IsRefusal Replayed = ⊥
IsRefusal WriteFault = ⊥
IsRefusal cause = ⊤

-- the words were refused at this one, or for too many sites at this one, or were in form, as P, T and Q say
abbrev pub MatchWords : Cause → (ℕ → Type 0) → (ℕ → Type 0) → Type 0 → Type 0
MatchWords (Usage word) P T Q = P word
MatchWords (TooManySites word) P T Q = T word
MatchWords cause P T Q = Q

-- P holds of the source that is too long
abbrev pub IfTooLong : Cause → (ℕ → Type 0) → Type 0
IfTooLong (SourceTooLong source) P = P source
IfTooLong cause P = ⊤

-- P holds of the source that is refused, and of its fault
abbrev pub IfRefused : Cause → (ℕ → SourceFault → Type 0) → Type 0
IfRefused (Refused source fault) P = P source fault
IfRefused cause P = ⊤

-- P holds of the file that wasn't read
abbrev pub IfReadFault : Cause → (ℕ → Type 0) → Type 0
IfReadFault (ReadFault file) P = P file
IfReadFault cause P = ⊤

-- P holds where writing failed
abbrev pub OnWriteFault : Cause → Type 0 → Type 0
OnWriteFault WriteFault P = P
OnWriteFault cause P = ⊤

-- P holds where it ran
abbrev pub OnRan : Cause → Type 0 → Type 0
OnRan Ran P = P
OnRan cause P = ⊤

-- P holds where each source is accepted
abbrev pub OnChecked : Cause → Type 0 → Type 0
OnChecked Checked P = P
OnChecked cause P = ⊤

-- P holds where the journal was replayed
abbrev pub OnReplayed : Cause → Type 0 → Type 0
OnReplayed Replayed P = P
OnReplayed cause P = ⊤

-- sources were not read, or not accepted
abbrev pub IsSourceRefusal : Cause → Type 0
IsSourceRefusal (SourceTooLong source) = ⊤
IsSourceRefusal (Refused source fault) = ⊤
IsSourceRefusal (ReadFault file) = ⊤
IsSourceRefusal NoMemory = ⊤
IsSourceRefusal cause = ⊥

-- the end of a run of words in form
abbrev pub IsRunEnd : Cause → Type 0
IsRunEnd Ran = ⊤
IsRunEnd WriteFault = ⊤
IsRunEnd cause = IsSourceRefusal cause

-- the end of a check
abbrev pub IsCheckEnd : Cause → Type 0
IsCheckEnd Checked = ⊤
IsCheckEnd WriteFault = ⊤
IsCheckEnd cause = IsSourceRefusal cause

-- the end of a replay
abbrev pub IsReplayEnd : Cause → Type 0
IsReplayEnd Ran = ⊥
IsReplayEnd Checked = ⊥
IsReplayEnd (Usage word) = ⊥
IsReplayEnd (TooManySites word) = ⊥
IsReplayEnd cause = ⊤

-- the end of a check, of a replay, or else of a run
abbrev pub IsEndOf : (checking replaying : Bool) → Cause → Type 0
IsEndOf true replaying cause = IsCheckEnd cause
IsEndOf false true cause = IsReplayEnd cause
IsEndOf false false cause = IsRunEnd cause

-- it ran, and its output was written whole or not
abbrev pub IsRunFinish : Cause → Type 0
IsRunFinish Ran = ⊤
IsRunFinish WriteFault = ⊤
IsRunFinish cause = ⊥

-- each source was accepted, and that was written whole or not
abbrev pub IsCheckFinish : Cause → Type 0
IsCheckFinish Checked = ⊤
IsCheckFinish WriteFault = ⊤
IsCheckFinish cause = ⊥

-- the journal was replayed, and its output was written whole or not
abbrev pub IsReplayFinish : Cause → Type 0
IsReplayFinish Replayed = ⊤
IsReplayFinish WriteFault = ⊤
IsReplayFinish cause = ⊥

-- each source is accepted, or no memory was left
abbrev pub IsCheckedOrNoMemory : Cause → Type 0
IsCheckedOrNoMemory Checked = ⊤
IsCheckedOrNoMemory NoMemory = ⊤
IsCheckedOrNoMemory cause = ⊥

-- it ran, or no memory was left
abbrev pub IsRanOrNoMemory : Cause → Type 0
IsRanOrNoMemory Ran = ⊤
IsRanOrNoMemory NoMemory = ⊤
IsRanOrNoMemory cause = ⊥

-- the journal was replayed, or no memory was left
abbrev pub IsReplayedOrNoMemory : Cause → Type 0
IsReplayedOrNoMemory Replayed = ⊤
IsReplayedOrNoMemory NoMemory = ⊤
IsReplayedOrNoMemory cause = ⊥

-- this source is refused with this fault, or no memory was left
abbrev pub IsRefusedOrNoMemory : ℕ → SourceFault → Cause → Type 0
IsRefusedOrNoMemory k fault (Refused source told) = (source ≡ k) × (told ≡ fault)
IsRefusedOrNoMemory k fault NoMemory = ⊤
IsRefusedOrNoMemory k fault cause = ⊥

-- this source is too long, or no memory was left
abbrev pub IsTooLongOrNoMemory : ℕ → Cause → Type 0
IsTooLongOrNoMemory k (SourceTooLong source) = source ≡ k
IsTooLongOrNoMemory k NoMemory = ⊤
IsTooLongOrNoMemory k cause = ⊥

-- the cause where a file wasn't read
abbrev pub unread_cause : ℕ → ReadRefused → Cause
unread_cause file unread.Fault = ReadFault file
unread_cause file unread.TooLong = SourceTooLong file
unread_cause file unread.NoMemory = NoMemory

abbrev pub read_refusal_cause : SourcesRefused → Cause
read_refusal_cause s = unread_cause s.file s.why

-- the cause where the journal, which is this file, wasn't read
abbrev pub unread_journal_cause : ℕ → ReadRefused → Cause
unread_journal_cause file unread.Fault = ReadFault file
unread_journal_cause file unread.TooLong = JournalTooLong
unread_journal_cause file unread.NoMemory = NoMemory

-- the cause where sources aren't accepted
abbrev pub refusal_cause : FrontRefused → Cause
refusal_cause (front.Refused source fault) = Refused source fault
refusal_cause front.NoMemory = NoMemory
