-- A World at rest: thread 0 at site 0 asks for a name that nobody exports, so its request waits at the name server, site 1. The definitions compute.
use Rattle.std.specs.Prelude.{Bool, option_map, slice_get, Some, None, [], true, false, ◌∷◌, ℕ, zero, suc, refl, if◌then◌else◌, ◌<◌, ◌+◌, ◌≡◌, ◌⊎◌}
use Rattle.std.proofs.Common.{inl, inr, sym, ap, ◌∙◌, subst, arith, eqb}
use Rattle.obq_model.specs.Terms.{NetImport, Text, Apply, Term, Const, Form, Part, End}
use Rattle.obq_model.specs.Step.{no_self, Operation, Import}
use Rattle.obq_model.specs.Store.{WriterCell}
use Rattle.obq_model.specs.Config.{Running}
use Rattle.obq_model.specs.Located.{Located, with_waiting}
use Rattle.obq_model.proofs.Options.{not_both}
use Rattle.obq_stands.specs.World.{Ref, Slot, Packet, Request, Parked, World, without, post, with_line, park, pend}
use Rattle.obq_stands.specs.Events.{first_slot, first_running, world_at, OffLine, Asks, Holds, Run, Begin, Then}
use Rattle.obq_stands.specs.Over.{ImportWaits}
use Rattle.obq_stands.specs.AtSites.{AreSited}
use Rattle.obq_stands.specs.Counts.{left_in, no_tally, tally_run, IsHeldAt, located_home, IsAtRest}
use Rattle.obq_stands.proofs.ReplyEvents.{first_left}
use Rattle.obq_stands.proofs.Update.{same_or, test_no, at2_cases}

abbrev term : {R : Type 0} → Term R
term = Form (Apply NetImport) (Part (Const (Text (120 ∷ []))) (Part (Const (Text (110 ∷ []))) End))

abbrev op : Operation Ref
op = Import (120 ∷ []) false

abbrev slot : Slot
slot = first_slot term

abbrev w0 : World
w0 = world_at (term ∷ [])

abbrev asked : Packet
asked = Request 0 0 0 0 no_self op

abbrev w1 : World
w1 = post (pend (without w0 0 0) 0 0 (Some (record { thread = 0; segment = slot.segment }))) 0 1 asked

abbrev w2 : World
w2 = with_line w1 0 1 []

abbrev held : Parked
held = record { from = 0; packet = asked }

abbrev w3 : World
w3 = park w2 1 0 (Some held)

pub few0 : 0 < 10
few0 = omega arith

abbrev pub runs : Run 10 w0 w3
runs = Then (Then Begin (Asks w0 0 0 1 0 slot op [] refl few0 refl refl)) (Holds w1 w2 0 1 0 0 0 0 no_self op (OffLine [] refl))

pub sited : AreSited 1 runs
sited = ((tt, tt), tt)

-- the fold of the journal, which is empty
abbrev first : Located
first =
    record {
      config = record { store = record { cells = WriterCell [] ∷ []; names = [] }; threads = record { execution = Running term; used = 0 } ∷ [] };
      cell_sites = 0 ∷ [];
      thread_sites = (0 ∷ []) ∷ [];
      requests = [];
      replies = [];
    }

-- no segment runs
none_runs : (s t : ℕ) (z : Slot) → w3.running s t ≡ Some z → ⊥
none_runs s t z is = by (at2_cases w0.running 0 0 None s t)
  where
    first_alone : (t : ℕ) → (s ≡ 0 → t ≡ 0 → ⊥) → first_running (term ∷ []) s t ≡ Some z → ⊥
    first_alone (suc t) ne e = not_both (first_running (term ∷ []) s (suc t)) z (none_else (eqb s (suc t))) e
      where
        none_else : (b : Bool) → (if b then option_map first_slot (slice_get (term {R = Ref} ∷ []) (suc t)) else None) ≡ None
        none_else true = refl
        none_else false = refl
    first_alone zero ne e = by_site (same_or s 0) e
      where
        by_site : (s ≡ 0) ⊎ (s ≡ 0 → ⊥) → first_running (term ∷ []) s 0 ≡ Some z → ⊥
        by_site (inl q) f = ne q refl
        by_site (inr q) f = not_both (first_running (term ∷ []) s 0) z (ap (λ b. if b then Some slot else None) (test_no s 0 q)) f

    by : (((s ≡ 0) × (t ≡ 0) × (w3.running s t ≡ None)) ⊎ ((s ≡ 0 → t ≡ 0 → ⊥) × (w3.running s t ≡ w0.running s t))) → ⊥
    by (inl q) = not_both (w3.running s t) z q.2 is
    by (inr q) = first_alone t q.0 (sym q.1 ∙ is)

left_none : (a b : ℕ) → left_in a (w3.running b 0) ≡ 0
left_none a b = by (at2_cases w0.running 0 0 None b 0)
  where
    by : (((b ≡ 0) × ◌≡◌ {A = ℕ} 0 0 × (w3.running b 0 ≡ None)) ⊎ ((b ≡ 0 → ◌≡◌ {A = ℕ} 0 0 → ⊥) × (w3.running b 0 ≡ w0.running b 0))) → left_in a (w3.running b 0) ≡ 0
    by (inl q) = ap (left_in a) q.2
    by (inr q) = ap (left_in a) q.1 ∙ first_left (term ∷ []) a b 0

-- no line holds the request any longer
none_posted : (a b : ℕ) → w3.lines a b ≡ []
none_posted a b = by (at2_cases w1.lines 0 1 [] a b) (at2_cases w0.lines 0 1 (asked ∷ []) a b)
  where
    by : (((a ≡ 0) × (b ≡ 1) × (w3.lines a b ≡ [])) ⊎ ((a ≡ 0 → b ≡ 1 → ⊥) × (w3.lines a b ≡ w1.lines a b))) → (((a ≡ 0) × (b ≡ 1) × (w1.lines a b ≡ asked ∷ [])) ⊎ ((a ≡ 0 → b ≡ 1 → ⊥) × (w1.lines a b ≡ []))) → w3.lines a b ≡ []
    by (inl q) r = q.2
    by (inr q) (inl r) = absurd (q.0 r.0 r.1)
    by (inr q) (inr r) = q.1 ∙ r.1

-- the request waits at the name server
waits_there : (s t : ℕ) (x : Parked) → w3.waiting s t ≡ Some x → IsHeldAt 1 (located_home first) s w3.memory w3.ended x.packet
waits_there s t x is = by (at2_cases w2.waiting 1 0 (Some held) s t)
  where
    by : (((s ≡ 1) × (t ≡ 0) × (w3.waiting s t ≡ Some held)) ⊎ ((s ≡ 1 → t ≡ 0 → ⊥) × (w3.waiting s t ≡ None))) → IsHeldAt 1 (located_home first) s w3.memory w3.ended x.packet
    by (inl q) =
        let there = q.2 in
        let same : held ≡ x = cc (there, is) in
        subst (λ (z : Parked). IsHeldAt 1 (located_home first) s w3.memory w3.ended z.packet) same (tt, (ImportWaits (120 ∷ []) false refl, sym q.0))
    by (inr q) = absurd (not_both (w3.waiting s t) x q.1 is)

pub rests : IsAtRest 1 10 w3 first
rests =
    record {
      lines = none_posted;
      answered = λ a b. plus_none (left_in a (w3.running b 0)) (left_none a b);
      runs = λ s t z is left. absurd (none_runs s t z is);
      waits = waits_there;
    }
  where
    plus_none : (n : ℕ) → n ≡ 0 → n + 0 ≡ 0
    plus_none n e = omega arith

-- the site has posted one request, and the located replay adds one
pub counted : ((tally_run runs no_tally).posted 0 1 ≡ 1) × ((with_waiting 1 10 first).requests ≡ (0, 1) ∷ [])
counted = (refl, refl)
