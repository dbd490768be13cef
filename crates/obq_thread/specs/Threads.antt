-- What the threads of a site show.
use Rattle.std.specs.Prelude.{ℕ, Option}
use Rattle.obq_thread.specs.declared.segments.Ended.{Ended}
use Rattle.obq_thread.specs.declared.segments.Segment.{Segment}
use Rattle.obq_thread.specs.declared.segments.Suspended.{Suspended}
use Rattle.obq_thread.specs.declared.threads.Threads.{Threads}
use Rattle.obq_thread.specs.Rows.{row_at}

module _ {W : Type 0} where
  -- the running segment of a thread
  abbrev pub running_at : Threads W → ℕ → Option (Segment W)
  running_at h t = row_at h.running.items t

  -- the segment that waits for the reply to a call
  abbrev pub pending_at : Threads W → ℕ → Option (Suspended W)
  pending_at h call = row_at h.pending.slots call

  -- how a thread ended here
  abbrev pub ended_at : Threads W → ℕ → Option Ended
  ended_at h t = row_at h.ended.items t
