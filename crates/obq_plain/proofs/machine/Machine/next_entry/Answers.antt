use Rattle.std.proofs.Common.{MatchOption, arith, false, length, ℕ, ◌<◌, ◌≡◌, ◌≤◌}
use Rattle.std.proofs.lemmas.List.{length-map}
use Rattle.std.proofs.lemmas.Result.{IfOk-weaker}
use Rattle.obq_model.specs.Replay.{is_able}
use Rattle.obq_plain.proofs.Scheduled.{at_none, next_found, over}
use Rattle.obq_plain.specs.PlainStates.{IsNextOf}
use Rattle.obq_plain.specs.Scheduling.{IsNext}
use Rattle.obq_plain.specs.Threads.{machine_of, thread_of}
use Rattle.obq_plain.proofs.machine.Machine.next_entry.Goals as goal

pub returns-in-None : goal.returns-in-None
returns-in-None c =
    let k = machine_of c.args.self.now in
    let n = length-map c.args.self.now.threads.items thread_of in
    let all : c.len-count.result ≡ length k.threads = omega (arith, n, c.len-count.ensures) in
    IfOk-weaker c.next_among-in-None.result
    (λ o. MatchOption o ((t : ℕ) → 0 ≤ t → t < c.min-from.result → is_able c.args.turns k t ≡ false) (λ e. IsNext c.args.turns k e))
    (λ o. IsNextOf c.args.turns k o)
    (λ o h. over c.args.turns k c.min-from.result c.len-count.result o all (at_none c.in_ok-behind.behind _ (λ e. IsNext c.args.turns k e) c.in-None.is c.in_ok-behind.ensures) h)
    c.next_among-in-None.ensures

pub returns-in-Some : goal.returns-in-Some
returns-in-Some c =
    let k = machine_of c.args.self.now in
    next_found c.args.turns k c.in_ok-behind.behind c.in-Some.entry _ c.in-Some.is c.in_ok-behind.ensures
