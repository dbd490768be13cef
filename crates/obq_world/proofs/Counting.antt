-- The report of the threads of a site, over plain values.
use Rattle.std.specs.Prelude.{Bool, List, None, Option, Some, false, length, nat_lt, refl, slice_get, suc, true, ℕ, ◌+◌, ◌-◌, ◌<◌, ◌≡◌, ◌≤◌}
use Rattle.std.proofs.Common.{ap, arith, get_or, sym, ◌∙◌}
use Rattle.std.proofs.lemmas.Option.{slice_get-get_or}
use Rattle.obq_base.specs.declared.acts.Report.{Report}
use Rattle.obq_stands.specs.Facts.{count_place, report_from}
use Rattle.obq_stands.specs.Stands.{Absent, At, EndedAt, InLine, Nowhere, Place, WaitsAt}
use Rattle.obq_model.specs.Terms.{Bytes, Value}
use Rattle.obq_stands.specs.World.{ByException, ByValue, Ref}
use Rattle.obq_world.specs.Acts.{IsEndedSo, TellsEnding}
use Rattle.obq_world.specs.Meaning.{Meaning}
use Rattle.obq_world.specs.Reports.{IsShown, counted}
use Rattle.obq_world.specs.State.{used_in}
use Rattle.obq_world.specs.declared.machine.HowEnded.{HowEnded}
use Rattle.obq_world.specs.declared.machine.HowEnded.TheVariants as how
use Rattle.obq_world.specs.declared.slots.ThreadSlot.{ThreadSlot}

abbrev total : Report → ℕ
total r = r.ended + (r.raised + (r.waiting + r.spent))

one_more : (h : Option HowEnded) (left : Bool) (r : Report) → total (counted h left r) ≡ suc (total r)
one_more (Some how.ByValue) left r = omega arith
one_more (Some how.ByException) left r = omega arith
one_more None true r = omega arith
one_more None false r = omega arith

-- how the thread at this place ended, if it has
abbrev ended_at : Place → Option HowEnded
ended_at (EndedAt k (ByValue v)) = Some how.ByValue
ended_at (EndedAt k (ByException e)) = Some how.ByException
ended_at place = None

not_ended : (h : Option HowEnded) → IsEndedSo h None → h ≡ None
not_ended None told = refl
not_ended (Some how.ByValue) told = absurd told
not_ended (Some how.ByException) told = absurd told

by_value : (h : Option HowEnded) (v : Value Ref) → IsEndedSo h (Some (ByValue v)) → h ≡ Some how.ByValue
by_value None v told = absurd told
by_value (Some how.ByValue) v told = refl
by_value (Some how.ByException) v told = absurd told

by_exception : (h : Option HowEnded) (e : Bytes) → IsEndedSo h (Some (ByException e)) → h ≡ Some how.ByException
by_exception None e told = absurd told
by_exception (Some how.ByValue) e told = absurd told
by_exception (Some how.ByException) e told = refl

counts_place : {C W S : Type 0} (m : Meaning C W S) (s : S) (slots : List ThreadSlot) (turns t : ℕ) (h : Option HowEnded) (left : Bool) (place : Place) (r : Report)
    → TellsEnding m s t h → left ≡ nat_lt (used_in (slice_get slots t)) turns → IsShown m s slots t place → counted h left r ≡ count_place turns place r
counts_place m s slots turns t h left (At k slot) r tells is shown =
    let none = not_ended h (tells None shown.0) in
    let same : left ≡ nat_lt slot.used turns = is ∙ sym (ap (λ n. nat_lt n turns) shown.1) in
    rw (none, same) refl
counts_place m s slots turns t h left (EndedAt k (ByValue v)) r tells is shown = rw (by_value h v (tells (Some (ByValue v)) shown)) refl
counts_place m s slots turns t h left (EndedAt k (ByException e)) r tells is shown = rw (by_exception h e (tells (Some (ByException e)) shown)) refl
counts_place m s slots turns t h left Nowhere r tells is shown = absurd shown
counts_place m s slots turns t h left Absent r tells is shown = absurd shown
counts_place m s slots turns t h left (InLine a b p) r tells is shown = absurd shown
counts_place m s slots turns t h left (WaitsAt b x) r tells is shown = absurd shown

from_before : (turns : ℕ) (place : ℕ → Place) (t n : ℕ) → 1 ≤ t → t ≤ n → report_from turns place (t - 1) (n - (t - 1)) ≡ count_place turns (place (t - 1)) (report_from turns place t (n - t))
from_before turns place t n some le =
    let more : n - (t - 1) ≡ suc (n - t) = omega (arith, some, le) in
    let next : suc (t - 1) ≡ t = omega (arith, some) in
    ap (report_from turns place (t - 1)) more ∙ ap (λ k. count_place turns (place (t - 1)) (report_from turns place k (n - t))) next

pub record Counts {C W S : Type 0} (m : Meaning C W S) (s : S) (slots : List ThreadSlot) (turns t : ℕ) (r : Report) : Type 0 where
  pub few : total r + t ≡ length slots
  pub told : (place : ℕ → Place) → ((u : ℕ) → u < length slots → IsShown m s slots u (place u)) → r ≡ report_from turns place t (length slots - t)

-- one thread more is counted
pub counts_on : {C W S : Type 0} (m : Meaning C W S) (s : S) (slots : List ThreadSlot) (turns t : ℕ) (r r2 : Report) (h : Option HowEnded) (d : ThreadSlot)
    → Counts m s slots turns t r → 1 ≤ t → TellsEnding m s (t - 1) h → r2 ≡ counted h (nat_lt (get_or slots (t - 1) d).used turns) r → Counts m s slots turns (t - 1) r2
counts_on m s slots turns t r r2 h d k some tells counts =
    let x : ThreadSlot = get_or slots (t - 1) d in
    let left : Bool = nat_lt x.used turns in
    let below : t ≤ length slots = let f = k.few in omega (arith, f) in
    let lt : t - 1 < length slots = omega (arith, some, below) in
    let here : slice_get slots (t - 1) ≡ Some x = slice_get-get_or slots (t - 1) d lt in
    let same : left ≡ nat_lt (used_in (slice_get slots (t - 1))) turns = sym (ap (λ o. nat_lt (used_in o) turns) here) in
    let more : total r2 ≡ suc (total r) = ap total counts ∙ one_more h left r in
    record {
      few = let f = k.few in omega (arith, more, f, some);
      told = λ place shown.
          counts ∙ counts_place m s slots turns (t - 1) h left (place (t - 1)) r tells same (shown (t - 1) lt) ∙ ap (count_place turns (place (t - 1))) (k.told place shown)
          ∙ sym (from_before turns place t (length slots) some below);
    }

pub all_counted : {C W S : Type 0} (m : Meaning C W S) (s : S) (slots : List ThreadSlot) (turns t : ℕ) (r : Report) → Counts m s slots turns t r → t ≡ 0
    → (place : ℕ → Place) → ((u : ℕ) → u < length slots → IsShown m s slots u (place u)) → r ≡ report_from turns place 0 (length slots)
all_counted m s slots turns t r k none place shown =
    let all : length slots - t ≡ length slots = omega (arith, none) in
    k.told place shown ∙ ap (report_from turns place t) all ∙ ap (λ n. report_from turns place n (length slots)) none
