-- A program that only prints texts prints them joined.
use Rattle.std.specs.Prelude.{List, None, Some, [], false, if◌then◌else◌, length, nat_lt, refl, suc, zero, ℕ, ◌*◌, ◌++◌, ◌+◌, ◌<◌, ◌∷◌, ◌≡◌, ◌≤◌}
use Rattle.std.proofs.lemmas.List.{append-nil, append_assoc}
use Rattle.std.proofs.Common.{ap, sym, ◌∙◌, arith}
use Rattle.std.proofs.lemmas.Bool.{ltb-true}
use Rattle.obq_base.specs.declared.acts.Entry.{Entry}
use Rattle.obq_model.specs.Terms.{Bytes, Writer, PutText, Okay, Text, Loc, Then, Apply, Term, Const, Form, End, Part}
use Rattle.obq_model.specs.Store.{WriterCell}
use Rattle.obq_model.specs.Config.{Running, Config}
use Rattle.obq_model.specs.Opening.{items_term, opening}
use Rattle.obq_model.specs.Replay.{take_entry, replay_from, replay, TakeTurns, is_able}
use Rattle.obq_laws.specs.Printing.{Print, print_items, printing, joined_after, put_entry, end_entry, later_entries, print_entries, turns_after, print_turns, printed_config, PrintsTexts, PrintTurns, texts_of, JoinedTexts}
use Rattle.obq_laws.proofs.HeldActs.{refuted}

-- the one thread's configuration, with the bytes written so far
abbrev at : Bytes → Term ℕ → ℕ → Config
at bytes u used = record { store = record { cells = WriterCell bytes ∷ []; names = [] }; threads = record { execution = Running u; used = used } ∷ [] }

-- a call of the built-in
abbrev print_term : Bytes → Term ℕ
print_term t = Form (Apply PutText) (Part (Const (Loc Writer 0)) (Part (Const (Text t)) End))

-- the items from the first on
abbrev rest_term : Print → List Print → Term ℕ
rest_term p [] = print_term p.text
rest_term p (q ∷ qs) = Form Then (Part (print_term p.text) (Part (rest_term q qs) End))

opens : (p : Print) (ps : List Print) → items_term 0 [] (print_items (p ∷ ps)) ≡ rest_term p ps
opens p [] = refl
opens p (q ∷ qs) = ap (λ t. Form Then (Part (print_term p.text) (Part t End))) (opens q qs)

within : (turns n : ℕ) → n ≤ turns → nat_lt turns n ≡ false
within turns n h = refuted (nat_lt turns n) (λ e. less (ltb-true turns n e))
  where
    less : turns < n → ⊥
    less q = omega arith

-- after the texts before it the thread stands at the last one's `ok`, or at `ok` and the rest
abbrev after_put : Print → List Print → Term ℕ
after_put p [] = Const Okay
after_put p (q ∷ qs) = Form Then (Part (Const Okay) (Part (rest_term q qs) End))

put_first : (turns : ℕ) (bytes : Bytes) (p : Print) (ps : List Print) (used : ℕ) → nat_lt turns (used + 0 + 1) ≡ false → take_entry turns (at bytes (rest_term p ps) used) (put_entry 0) ≡ Some (at (bytes ++ p.text) (after_put p ps) (used + 0 + 1))
put_first turns bytes p [] used h = ap (λ b. if b then None else Some (at (bytes ++ p.text) (Const Okay) (used + 0 + 1))) h
put_first turns bytes p (q ∷ qs) used h = ap (λ b. if b then None else Some (at (bytes ++ p.text) (after_put p (q ∷ qs)) (used + 0 + 1))) h

put_next : (turns : ℕ) (bytes : Bytes) (p : Print) (ps : List Print) (used : ℕ) → nat_lt turns (used + 1 + 1) ≡ false → take_entry turns (at bytes (Form Then (Part (Const Okay) (Part (rest_term p ps) End))) used) (put_entry 1) ≡ Some (at (bytes ++ p.text) (after_put p ps) (used + 1 + 1))
put_next turns bytes p [] used h = ap (λ b. if b then None else Some (at (bytes ++ p.text) (Const Okay) (used + 1 + 1))) h
put_next turns bytes p (q ∷ qs) used h = ap (λ b. if b then None else Some (at (bytes ++ p.text) (after_put p (q ∷ qs)) (used + 1 + 1))) h

ends : (turns : ℕ) (bytes : Bytes) (used : ℕ) → nat_lt turns (used + 0 + 1) ≡ false → take_entry turns (at bytes (Const Okay) used) (end_entry 0) ≡ Some (printed_config bytes (used + 0 + 1))
ends turns bytes used h = ap (λ b. if b then None else Some (printed_config bytes (used + 0 + 1))) h

-- what the turns are at least
grows : (used : ℕ) (ps : List Print) → used + 0 + 1 ≤ turns_after used ps
grows used [] = omega arith
grows used (p ∷ ps) = more (grows (used + 1 + 1) ps)
  where
    more : used + 1 + 1 + 0 + 1 ≤ turns_after (used + 1 + 1) ps → used + 0 + 1 ≤ turns_after (used + 1 + 1) ps
    more h = omega arith

grows_next : (used : ℕ) (ps : List Print) → used + 1 + 1 ≤ turns_after (used + 1 + 1) ps
grows_next used ps = more (grows (used + 1 + 1) ps)
  where
    more : used + 1 + 1 + 0 + 1 ≤ turns_after (used + 1 + 1) ps → used + 1 + 1 ≤ turns_after (used + 1 + 1) ps
    more h = omega arith

at_most : (a b c : ℕ) → a ≤ b → b ≤ c → a ≤ c
at_most a b c h k = omega arith

then_from : (turns : ℕ) (e : Entry) (es : List Entry) (k k2 : Config) → take_entry turns k e ≡ Some k2 → replay_from turns k (e ∷ es) ≡ replay_from turns k2 es
then_from turns e es k k2 h = ap (λ o. elim o [ None ↦ None | Some k3 ↦ replay_from turns k3 es ]) h

-- the rest of the journal after a text
goes_on : (turns : ℕ) (bytes : Bytes) (p : Print) (ps : List Print) (used : ℕ) → turns_after used ps ≤ turns → replay_from turns (at bytes (after_put p ps) used) (later_entries ps) ≡ Some (printed_config (joined_after bytes ps) (turns_after used ps))
goes_on turns bytes p [] used h = then_from turns (end_entry 0) [] (at bytes (Const Okay) used) (printed_config bytes (used + 0 + 1)) (ends turns bytes used (within turns (used + 0 + 1) h))
goes_on turns bytes p (q ∷ qs) used h =
    then_from turns (put_entry 1) (later_entries qs) (at bytes (after_put p (q ∷ qs)) used) (at (bytes ++ q.text) (after_put q qs) (used + 1 + 1))
    (put_next turns bytes q qs used (within turns (used + 1 + 1) (at_most (used + 1 + 1) (turns_after (used + 1 + 1) qs) turns (grows_next used qs) h)))
    ∙ goes_on turns (bytes ++ q.text) q qs (used + 1 + 1) h

opened : (p : Print) (ps : List Print) (place : ℕ) → opening (printing (p ∷ ps) place) ≡ at [] (rest_term p ps) 0
opened p ps place = ap (λ t. at [] t 0) (opens p ps)

one_turn : (ps : List Print) → 1 ≤ turns_after 1 ps
one_turn ps = more (grows 1 ps)
  where
    more : 1 + 0 + 1 ≤ turns_after 1 ps → 1 ≤ turns_after 1 ps
    more h = omega arith

prints : (ps : List Print) (place turns : ℕ) → print_turns ps ≤ turns → replay (printing ps place) turns (print_entries ps) ≡ Some (printed_config (joined_after [] ps) (print_turns ps))
prints [] place turns h = ap (λ b. elim (if b then None else Some (printed_config [] 2)) [ None ↦ None | Some k ↦ Some k ]) (within turns 2 h)
prints (p ∷ ps) place turns h =
    ap (λ k. replay_from turns k (print_entries (p ∷ ps))) (opened p ps place)
    ∙ then_from turns (put_entry 0) (later_entries ps) (at [] (rest_term p ps) 0) (at p.text (after_put p ps) 1) (put_first turns [] p ps 0 (within turns 1 (at_most 1 (turns_after 1 ps) turns (one_turn ps) h)))
    ∙ goes_on turns p.text p ps 1 h

some_turns : (n : ℕ) → suc n ≡ 0 → ⊥
some_turns n e = omega arith

later_turns : (ps : List Print) → TakeTurns (later_entries ps)
later_turns [] = (some_turns 0, tt)
later_turns (p ∷ ps) = (some_turns 1, later_turns ps)

take_turns : (ps : List Print) → TakeTurns (print_entries ps)
take_turns [] = (some_turns 1, tt)
take_turns (p ∷ ps) = (some_turns 0, later_turns ps)

-- the one thread has ended, and there is no other
over_printed : (turns used : ℕ) (bytes : Bytes) (t : ℕ) → is_able turns (printed_config bytes used) t ≡ false
over_printed turns used bytes zero = refl
over_printed turns used bytes (suc t) = refl

pub prints_texts : PrintsTexts
prints_texts ps place turns h = (prints ps place turns h, take_turns ps, over_printed turns (print_turns ps) (joined_after [] ps), refl, refl, refl)

turns_exactly : (used : ℕ) (ps : List Print) → turns_after used ps ≡ used + 2 * length ps + 1
turns_exactly used [] = omega arith
turns_exactly used (p ∷ ps) = turns_exactly (used + 1 + 1) ps ∙ two_more used (length ps)
  where
    two_more : (used n : ℕ) → used + 1 + 1 + 2 * n + 1 ≡ used + 2 * suc n + 1
    two_more used n = omega arith

pub print_turns_enough : PrintTurns
print_turns_enough [] = omega arith
print_turns_enough (p ∷ ps) = enough (turns_after 1 ps) (length ps) (turns_exactly 1 ps)
  where
    enough : (m n : ℕ) → m ≡ 1 + 2 * n + 1 → m ≤ 2 * suc n + 2
    enough m n e = omega arith

joins : (bytes : Bytes) (ps : List Print) → joined_after bytes ps ≡ bytes ++ texts_of ps
joins bytes [] = sym (append-nil bytes)
joins bytes (p ∷ ps) = joins (bytes ++ p.text) ps ∙ append_assoc bytes p.text (texts_of ps)

pub joined_texts : JoinedTexts
joined_texts ps = joins [] ps
