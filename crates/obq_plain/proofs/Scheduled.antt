-- What a thread does next is legal, and where it does nothing it isn't able.
use Prim.Native.Nat.{zero}
use Rattle.std.proofs.Common.{inl, inr, ◌⊎◌, Bool, List, MatchOption, None, Option, Some, [], ap, arith, drop, false, if◌then◌else◌, is_some, length, min, nat_lt, refl, slice_get, subst, suc, sym, true, true≢false, ℕ, ◌&&◌, ◌+◌, ◌-◌, ◌<◌, ◌≤◌, ◌∙◌, ◌||◌, ◌∷◌, ◌≡◌}
use Rattle.std.proofs.lemmas.Bool.Decides.{nat_tests}
use Rattle.obq_base.specs.declared.acts.ActKind.{ActKind}
use Rattle.obq_base.specs.declared.acts.Act.{Act}
use Rattle.obq_base.specs.declared.acts.Entry.{Entry}
use Rattle.obq_model.proofs.Options.{none_some, some_none, some_same}
use Rattle.obq_model.proofs.Slices.{get_below}
use Rattle.obq_model.specs.Config.{Config, Execution, Failed, Returned, Running, ThreadState, act}
use Rattle.obq_model.specs.Effect.{Acting, Does, Forking, Outcome, Waiting, after_outcome, effect, effect_of, effect_of_state, perform}
use Rattle.obq_model.specs.Replay.{act_turns, acts, after_pure, exactly, first_able_of, is_able, is_able_execution, take_entry, then_act, with_turns}
use Rattle.obq_model.specs.Step.{Done, Frame, Found, Needs, Next, Uncaught, find, next_of, no_self, self_at}
use Rattle.obq_model.specs.Store.{same_loc}
use Rattle.obq_model.specs.Terms.{Term}
use Rattle.obq_plain.proofs.SameActs.{same_act}
use Rattle.obq_plain.proofs.Taken.{next_effect, same_perform, take_then}
use Rattle.std.proofs.lemmas.Option.{slice_get_past}
use Rattle.obq_plain.specs.Ahead.{act_of}
use Rattle.obq_plain.specs.PlainStates.{IsNextOf}
use Rattle.obq_plain.specs.Scheduling.{IsNext, act_found, entry_behind, entry_of_execution, entry_of_state, entry_with, steps_found}
use Rattle.obq_plain.specs.Taking.{put_thread, runs}

abbrev found_in : Term ℕ → Found ℕ
found_in u = find same_loc 0 no_self u

-- ---- pure steps

-- behind j pure steps this stands next
record IsBehind (u : Term ℕ) (j : ℕ) (f : Found ℕ) : Type 0 where
  last : Term ℕ
  steps : after_pure j u ≡ Some last
  stands : found_in last ≡ f

record Steps (u : Term ℕ) (k n : ℕ) (p : ℕ × Found ℕ) : Type 0 where
  count : ℕ
  total : p.0 ≡ k + count
  most : count ≤ n
  behind : IsBehind u count p.1

no_step : (u : Term ℕ) (k n : ℕ) (f : Found ℕ) → found_in u ≡ f → Steps u k n (k, f)
no_step u k n f e = record { count = 0; total = omega arith; most = omega arith; behind = record { last = u; steps = refl; stands = e } }

one_step : (u v : Term ℕ) (k n : ℕ) (p : ℕ × Found ℕ) → found_in u ≡ Next v → Steps v (suc k) n p → Steps u k (suc n) p
one_step u v k n p e h = record {
  count = suc h.count;
  total = omega (arith, h.total);
  most = omega (arith, h.most);
  behind = record { last = h.behind.last; steps = ap (λ f. elim (next_of f) [ None ↦ None | Some w ↦ after_pure h.count w ]) e ∙ h.behind.steps; stands = h.behind.stands };
}

steps_are : (n k : ℕ) (u : Term ℕ) (f : Found ℕ) → found_in u ≡ f → Steps u k n (steps_found k n f)
steps_are zero k u f e = no_step u k zero f e
steps_are (suc n) k u (Next v) e = one_step u v k n _ e (steps_are n (suc k) v (found_in v) refl)
steps_are (suc n) k u (Needs op fs) e = no_step u k (suc n) (Needs op fs) e
steps_are (suc n) k u (Done v) e = no_step u k (suc n) (Done v) e
steps_are (suc n) k u (Uncaught r) e = no_step u k (suc n) (Uncaught r) e

grows : (n k : ℕ) (f : Found ℕ) → k ≤ (steps_found k n f).0
grows zero k f = omega arith
grows (suc n) k (Next v) = let more : suc k ≤ (steps_found (suc k) n (found_in v)).0 = grows n (suc k) (found_in v) in omega (arith, more)
grows (suc n) k (Needs op fs) = omega arith
grows (suc n) k (Done v) = omega arith
grows (suc n) k (Uncaught r) = omega arith

-- where no step was done none stands next
none_done : (n k : ℕ) (f : Found ℕ) → (steps_found k (suc n) f).0 ≡ k → (is_some (next_of f) ≡ false) × ((steps_found k (suc n) f).1 ≡ f)
none_done n k (Next v) e = let more : suc k ≤ (steps_found (suc k) n (found_in v)).0 = grows n (suc k) (found_in v) in absurd (omega (arith, more, e))
none_done n k (Needs op fs) e = (refl, refl)
none_done n k (Done v) e = (refl, refl)
none_done n k (Uncaught r) e = (refl, refl)

-- ---- acts

is_exactly : (a b : Act) (k : Config) → Some a ≡ Some b → is_some (exactly b (Does a k)) ≡ true
is_exactly a b k e = subst (λ c. is_some (exactly c (Does a k)) ≡ true) (some_same a b e) (ap (λ same. is_some (if same then Some k else None)) (same_act a))

exact_outcome : (k : Config) (t : ℕ) (fs : List (Frame ℕ)) (o : Outcome) (b : Act) → act_of o ≡ Some b → is_some (exactly b (after_outcome k t fs o)) ≡ true
exact_outcome k t fs Waiting b e = absurd (none_some b e)
exact_outcome k t fs (Acting kind l st focus) b e = is_exactly (act kind l) b _ e
exact_outcome k t fs (Forking l new focus) b e = is_exactly (act ActKind.Fork l) b _ e

-- the act that is found is the one that is done
exact_found : (k : Config) (t n : ℕ) (u : Term ℕ) (f : Found ℕ) (b : Act) → runs (slice_get k.threads t) ≡ true → act_found k t f ≡ Some b → is_some (exactly b (effect_of (put_thread k t (Running u) n) t f)) ≡ true
exact_found k t n u (Next v) b h e = absurd (none_some b e)
exact_found k t n u (Needs op fs) b h e =
    exact_outcome (put_thread k t (Running u) n) t fs (perform (put_thread k t (Running u) n) t (self_at no_self fs) op) b (ap act_of (same_perform k t n u (self_at no_self fs) op h) ∙ e)
exact_found k t n u (Done v) b h e = is_exactly (act ActKind.End t) b _ e
exact_found k t n u (Uncaught r) b h e = is_exactly (act ActKind.End t) b _ e

acts_outcome : (k : Config) (t : ℕ) (fs : List (Frame ℕ)) (o : Outcome) → acts (after_outcome k t fs o) ≡ is_some (act_of o)
acts_outcome k t fs Waiting = refl
acts_outcome k t fs (Acting kind l st focus) = refl
acts_outcome k t fs (Forking l new focus) = refl

acts_found : (k : Config) (t : ℕ) (f : Found ℕ) → acts (effect_of k t f) ≡ is_some (act_found k t f)
acts_found k t (Next v) = refl
acts_found k t (Needs op fs) = acts_outcome k t fs (perform k t (self_at no_self fs) op)
acts_found k t (Done v) = refl
acts_found k t (Uncaught r) = refl

-- ---- entries

record EntryIs (t n : ℕ) (a : Option Act) (e : Entry) : Type 0 where
  same : e ≡ record { thread = t; pure = n; act = a }
  turn : n + act_turns a ≡ 0 → ⊥

entry_is : (t n : ℕ) (a : Option Act) (e : Entry) → entry_with t n a ≡ Some e → EntryIs t n a e
entry_is t zero None e h = absurd (none_some e h)
entry_is t zero (Some b) e h = record { same = sym (some_same _ e h); turn = λ z. omega (arith, z) }
entry_is t (suc n) None e h = record { same = sym (some_same _ e h); turn = λ z. omega (arith, z) }
entry_is t (suc n) (Some b) e h = record { same = sym (some_same _ e h); turn = λ z. omega (arith, z) }

no_entry : (t n : ℕ) (a : Option Act) → entry_with t n a ≡ None → (n ≡ 0) × (a ≡ None)
no_entry t zero None h = (refl, refl)
no_entry t zero (Some b) h = absurd (some_none _ h)
no_entry t (suc n) None h = absurd (some_none _ h)
no_entry t (suc n) (Some b) h = absurd (some_none _ h)

-- a legal entry of pure steps, and the act that is found behind them if it is named
taken : (turns : ℕ) (k : Config) (t n used : ℕ) (u : Term ℕ) (f : Found ℕ) (a : Option Act) → slice_get k.threads t ≡ Some (record { execution = Running u; used = used })
    → IsBehind u n f → used + n + act_turns a ≤ turns → (a ≡ None) ⊎ (a ≡ act_found k t f) → is_some (take_entry turns k (record { thread = t; pure = n; act = a })) ≡ true
taken turns k t n used u f a there behind room which =
    let e : Entry = record { thread = t; pure = n; act = a } in
    let low : nat_lt turns (used + n + act_turns a) ≡ false = below (used + n + act_turns a) room in
    ap is_some (take_then turns k e u used there behind.last low behind.steps) ∙ by_act a which
  where
    below : (m : ℕ) → m ≤ turns → nat_lt turns m ≡ false
    below m h = grind (arith, nat_tests)

    kk : Config
    kk = put_thread k t (Running behind.last) (used + n)

    its_effect : effect kk t ≡ effect_of kk t f
    its_effect = next_effect k t (used + n) behind.last (get_below k.threads t _ there) ∙ ap (effect_of kk t) behind.stands

    done : (b : Act) → act_found k t f ≡ Some b → is_some (then_act t (Some b) kk) ≡ true
    done b h = by_option (exactly b (effect kk t)) (ap (λ x. is_some (exactly b x)) its_effect ∙ exact_found k t (used + n) behind.last f b (ap runs there) h) where
      by_option : (o : Option Config) → is_some o ≡ true → is_some (elim o [ None ↦ None | Some k2 ↦ Some (with_turns t 1 k2) ]) ≡ true
      by_option None h = h
      by_option (Some k2) h = refl

    by_act : (a : Option Act) → (a ≡ None) ⊎ (a ≡ act_found k t f) → is_some (then_act t a kk) ≡ true
    by_act None which = refl
    by_act (Some b) (inl e) = absurd (some_none b e)
    by_act (Some b) (inr e) = done b (sym e)

-- the turns of the act that is named
room_for : (turns used n : ℕ) (a : Option Act) → used + n ≤ turns → used + n + act_turns (if nat_lt (used + n) turns then a else None) ≤ turns
room_for turns used n a h = by_case (nat_lt (used + n) turns) refl where
  by_case : (b : Bool) → nat_lt (used + n) turns ≡ b → used + n + act_turns (if b then a else None) ≤ turns
  by_case true e = by_act a where
    less : used + n < turns
    less = grind (arith, nat_tests)

    by_act : (a : Option Act) → used + n + act_turns a ≤ turns
    by_act None = omega (arith, h)
    by_act (Some b) = omega (arith, less)
  by_case false e = omega (arith, h)

which_act : (b : Bool) (a : Option Act) → ((if b then a else None) ≡ None) ⊎ ((if b then a else None) ≡ a)
which_act true a = inr refl
which_act false a = inl refl

legal_behind : (turns : ℕ) (k : Config) (t used : ℕ) (u : Term ℕ) (most : ℕ) (p : ℕ × Found ℕ) (e : Entry) → slice_get k.threads t ≡ Some (record { execution = Running u; used = used })
    → used + most ≤ turns → Steps u 0 most p → entry_behind turns k t used p.0 p.1 ≡ Some e → IsNext turns k e
legal_behind turns k t used u most p e there low steps h =
    let a : Option Act = if nat_lt (used + p.0) turns then act_found k t p.1 else None in
    let its : EntryIs t p.0 a e = entry_is t p.0 a e h in
    let same : p.0 ≡ steps.count = omega (arith, steps.total) in
    let room : used + p.0 ≤ turns = omega (arith, same, low, steps.most) in
    let behind : IsBehind u p.0 p.1 = subst (λ j. IsBehind u j p.1) (sym same) steps.behind in
    let legal : is_some (take_entry turns k (record { thread = t; pure = p.0; act = a })) ≡ true = taken turns k t p.0 used u p.1 a there behind (room_for turns used p.0 (act_found k t p.1) room) (which_act (nat_lt (used + p.0) turns) (act_found k t p.1)) in
    subst (IsNext turns k) (sym its.same) (legal, its.turn)

legal : (turns : ℕ) (k : Config) (most t used : ℕ) (u : Term ℕ) (e : Entry) → slice_get k.threads t ≡ Some (record { execution = Running u; used = used })
    → entry_of_execution turns k most t used (Running u) ≡ Some e → IsNext turns k e
legal turns k most t used u e there h = by_case (nat_lt used turns) refl h where
  p : ℕ × Found ℕ
  p = steps_found 0 (min most (turns - used)) (found_in u)

  by_case : (b : Bool) → nat_lt used turns ≡ b → (if b then entry_behind turns k t used p.0 p.1 else None) ≡ Some e → IsNext turns k e
  by_case true less h =
      let low : used < turns = grind (arith, nat_tests) in
      let room : used + min most (turns - used) ≤ turns = omega (arith, low) in
      legal_behind turns k t used u (min most (turns - used)) p e there room (steps_are (min most (turns - used)) 0 u (found_in u) refl) h
  by_case false less h = absurd (none_some e h)

-- a thread without such an entry does nothing
still : (turns : ℕ) (k : Config) (t used m : ℕ) (f : Found ℕ) → 1 ≤ m → nat_lt used turns ≡ true → entry_behind turns k t used (steps_found 0 m f).0 (steps_found 0 m f).1 ≡ None
    → (is_some (next_of f) || acts (effect_of k t f)) ≡ false
still turns k t used zero f h less e = absurd (omega (arith, h))
still turns k t used (suc m) f h less e =
    let p : ℕ × Found ℕ = steps_found 0 (suc m) f in
    let none : (p.0 ≡ 0) × ((if nat_lt (used + p.0) turns then act_found k t p.1 else None) ≡ None) = no_entry t p.0 _ e in
    let stays : (is_some (next_of f) ≡ false) × (p.1 ≡ f) = none_done m 0 f none.0 in
    let no_more : used + 0 ≡ used = omega arith in
    let lower : nat_lt (used + p.0) turns ≡ true = ap (λ n. nat_lt (used + n) turns) none.0 ∙ ap (λ n. nat_lt n turns) no_more ∙ less in
    let waits : act_found k t f ≡ None = ap (act_found k t) (sym stays.1) ∙ sym (ap (λ b. if b then act_found k t p.1 else None) lower) ∙ none.1 in
    ap (λ b. b || acts (effect_of k t f)) stays.0 ∙ acts_found k t f ∙ ap is_some waits

idle : (turns : ℕ) (k : Config) (most t used : ℕ) (u : Term ℕ) → 1 ≤ most → slice_get k.threads t ≡ Some (record { execution = Running u; used = used })
    → entry_of_execution turns k most t used (Running u) ≡ None → is_able_execution turns k t used (Running u) ≡ false
idle turns k most t used u h there e = by_case (nat_lt used turns) refl e where
  p : ℕ × Found ℕ
  p = steps_found 0 (min most (turns - used)) (found_in u)

  its_effect : effect k t ≡ effect_of k t (found_in u)
  its_effect = ap (effect_of_state k t) there

  by_case : (b : Bool) → nat_lt used turns ≡ b → (if b then entry_behind turns k t used p.0 p.1 else None) ≡ None → (b && (is_some (next_of (found_in u)) || acts (effect k t))) ≡ false
  by_case true less e =
      let low : used < turns = grind (arith, nat_tests) in
      ap (λ x. is_some (next_of (found_in u)) || acts x) its_effect ∙ still turns k t used (min most (turns - used)) (found_in u) (omega (arith, low, h)) less e
  by_case false less e = refl

-- what is said of a thread's next entry, if it has one
abbrev pub NextOf : ℕ → Config → ℕ → Option Entry → Type 0
NextOf turns k t None = is_able turns k t ≡ false
NextOf turns k t (Some e) = IsNext turns k e

abbrev able_of : ℕ → Config → ℕ → Option ThreadState → Bool
able_of turns k t o = elim o [ None ↦ false | Some state ↦ is_able_execution turns k t state.used state.execution ]

-- a thread's next entry is legal, and where it has none it isn't able
pub next_or_idle : (turns : ℕ) (k : Config) (most t : ℕ) (e : Option Entry) → 1 ≤ most → e ≡ entry_of_state turns k most t (slice_get k.threads t) → NextOf turns k t e
next_or_idle turns k most t e h same = by_state (slice_get k.threads t) refl e same where
  by_execution : (x : Execution) (used : ℕ) → slice_get k.threads t ≡ Some (record { execution = x; used = used }) → (e : Option Entry) → e ≡ entry_of_execution turns k most t used x → NextOf turns k t e
  by_execution (Running u) used there None same = ap (able_of turns k t) there ∙ idle turns k most t used u h there (sym same)
  by_execution (Running u) used there (Some e) same = legal turns k most t used u e there (sym same)
  by_execution (Returned v) used there None same = ap (able_of turns k t) there
  by_execution (Returned v) used there (Some e) same = absurd (some_none e same)
  by_execution (Failed x) used there None same = ap (able_of turns k t) there
  by_execution (Failed x) used there (Some e) same = absurd (some_none e same)

  by_state : (o : Option ThreadState) → slice_get k.threads t ≡ o → (e : Option Entry) → e ≡ entry_of_state turns k most t o → NextOf turns k t e
  by_state None there None same = ap (able_of turns k t) there
  by_state None there (Some e) same = absurd (some_none e same)
  by_state (Some state) there e same = by_execution state.execution state.used there e same

-- a thread is able where a pure step or an act stands next in it
pub able_found : (turns : ℕ) (k : Config) (t used : ℕ) (u : Term ℕ) → slice_get k.threads t ≡ Some (record { execution = Running u; used = used }) → nat_lt used turns ≡ true
    → is_able turns k t ≡ (is_some (next_of (found_in u)) || is_some (act_found k t (found_in u)))
able_found turns k t used u there less =
    ap (able_of turns k t) there
    ∙ ap (λ b. b && (is_some (next_of (found_in u)) || acts (effect k t))) less
    ∙ ap (λ x. is_some (next_of (found_in u)) || acts x) (ap (effect_of_state k t) there)
    ∙ ap (λ b. is_some (next_of (found_in u)) || b) (acts_found k t (found_in u))

-- one step of so many is done
pub step_next : (k n m : ℕ) (f g : Found ℕ) (whole : ℕ × Found ℕ) → m ≡ suc n → steps_found k (suc n) f ≡ steps_found (suc k) n g → steps_found k m f ≡ whole → steps_found (k + 1) n g ≡ whole
step_next k n m f g whole many same before = let one : k + 1 ≡ suc k = omega arith in ap (λ j. steps_found j n g) one ∙ sym same ∙ ap (λ x. steps_found k x f) (sym many) ∙ before

-- ---- threads one after another

-- what is said of a thread's next entry, as a caller reads it
pub as_match : (turns : ℕ) (k : Config) (t : ℕ) (e : Option Entry) → NextOf turns k t e → MatchOption e (is_able turns k t ≡ false) (λ e. IsNext turns k e)
as_match turns k t None h = h
as_match turns k t (Some e) h = h

-- one thread more of those from here on
pub one_more : (P : ℕ → Type 0) (from n : ℕ) → ((t : ℕ) → from ≤ t → t < n → P t) → P n → (t : ℕ) → from ≤ t → t < n + 1 → P t
one_more P from n before here t low high = by_case (nat_lt t n) refl where
  by_case : (b : Bool) → nat_lt t n ≡ b → P t
  by_case true e = let less : t < n = grind (arith, nat_tests) in before t low less
  by_case false e = let same : n ≡ t = grind (arith, nat_tests) in subst P same here

no_thread : (turns : ℕ) (k : Config) (t : ℕ) → length k.threads ≤ t → is_able turns k t ≡ false
no_thread turns k t h = ap (able_of turns k t) (slice_get_past k.threads t h)

taken_to : (o : Option Config) → is_some o ≡ true → (k : Config) × (o ≡ Some k)
taken_to None e = absurd (true≢false (sym e))
taken_to (Some k) e = (k, refl)

pub legal_next : (turns : ℕ) (k : Config) (e : Entry) → IsNext turns k e → IsNextOf turns k (Some e)
legal_next turns k e h = (taken_to (take_entry turns k e) h.0, (h.1, tt))

-- what isn't there is as it is said to be
pub at_none : {A : Type 0} (o : Option A) (P : Type 0) (Q : A → Type 0) → o ≡ None → MatchOption o P Q → P
at_none None P Q e h = h
at_none (Some a) P Q e h = absurd (some_none a e)

-- what is there is a legal entry
pub next_found : (turns : ℕ) (k : Config) (o : Option Entry) (e : Entry) (P : Type 0) → o ≡ Some e → MatchOption o P (λ e. IsNext turns k e) → IsNextOf turns k (Some e)
next_found turns k None e P h m = absurd (none_some e h)
next_found turns k (Some x) e P h m = subst (λ y. IsNextOf turns k (Some y)) (some_same x e h) (legal_next turns k x m)

-- no thread is able where none from one on is, and none before it
pub over : (turns : ℕ) (k : Config) (from count : ℕ) (o : Option Entry) → count ≡ length k.threads → ((t : ℕ) → from ≤ t → t < count → is_able turns k t ≡ false)
    → MatchOption o ((t : ℕ) → 0 ≤ t → t < from → is_able turns k t ≡ false) (λ e. IsNext turns k e) → IsNextOf turns k o
over turns k from count None all behind before = λ t. by_case t (nat_lt t from) (nat_lt t count) refl refl where
  by_case : (t : ℕ) (b c : Bool) → nat_lt t from ≡ b → nat_lt t count ≡ c → is_able turns k t ≡ false
  by_case t true c e f = let less : t < from = grind (arith, nat_tests) in before t (omega arith) less
  by_case t false true e f =
      let low : from ≤ t = grind (arith, nat_tests) in
      let high : t < count = grind (arith, nat_tests) in
      behind t low high
  by_case t false false e f = let past : count ≤ t = grind (arith, nat_tests) in no_thread turns k t (omega (arith, past, all))
over turns k from count (Some e) all behind h = legal_next turns k e h

get_drop : (threads : List ThreadState) (t : ℕ) (s : ThreadState) → slice_get threads t ≡ Some s → drop t threads ≡ s ∷ drop (suc t) threads
get_drop [] t s e = absurd (none_some s e)
get_drop (x ∷ xs) zero s e = ap (λ y. y ∷ xs) (some_same x s e)
get_drop (x ∷ xs) (suc t) s e = get_drop xs t s e

abbrev first_from : ℕ → Config → ℕ → Option ThreadState → List ThreadState → Option ℕ
first_from turns k t o rest = if able_of turns k t o then Some t else first_able_of turns k (suc t) rest

cut : (turns : ℕ) (k : Config) (t : ℕ) → t < length k.threads → first_able_of turns k t (drop t k.threads) ≡ first_from turns k t (slice_get k.threads t) (drop (suc t) k.threads)
cut turns k t h = by_state (slice_get k.threads t) refl where
  by_state : (o : Option ThreadState) → slice_get k.threads t ≡ o → first_able_of turns k t (drop t k.threads) ≡ first_from turns k t o (drop (suc t) k.threads)
  by_state None e = absurd (past_end (length k.threads) h (get_past k.threads t e)) where
    past_end : (n : ℕ) → t < n → n ≤ t → ⊥
    past_end n low high = omega (arith, low, high)

    get_past : (xs : List ThreadState) (j : ℕ) → slice_get xs j ≡ None → length xs ≤ j
    get_past [] j e = omega arith
    get_past (x ∷ xs) zero e = absurd (some_none x e)
    get_past (x ∷ xs) (suc j) e = let less : length xs ≤ j = get_past xs j e in omega (arith, less)
  by_state (Some s) e = ap (first_able_of turns k t) (get_drop k.threads t s e)

-- the first thread that is able is found
pub first_here : (turns : ℕ) (k : Config) (t : ℕ) (whole : Option ℕ) → t < length k.threads → is_able turns k t ≡ true → first_able_of turns k t (drop t k.threads) ≡ whole → Some t ≡ whole
first_here turns k t whole h able before = sym (ap (λ b. if b then Some t else first_able_of turns k (suc t) (drop (suc t) k.threads)) able) ∙ sym (cut turns k t h) ∙ before

-- a thread that isn't able isn't the first one
pub first_past : (turns : ℕ) (k : Config) (t : ℕ) (whole : Option ℕ) → t < length k.threads → is_able turns k t ≡ false → first_able_of turns k t (drop t k.threads) ≡ whole
    → first_able_of turns k (t + 1) (drop (t + 1) k.threads) ≡ whole
first_past turns k t whole h able before =
    let one : t + 1 ≡ suc t = omega arith in
    ap (λ n. first_able_of turns k n (drop n k.threads)) one
    ∙ sym (ap (λ b. if b then Some t else first_able_of turns k (suc t) (drop (suc t) k.threads)) able) ∙ sym (cut turns k t h) ∙ before
