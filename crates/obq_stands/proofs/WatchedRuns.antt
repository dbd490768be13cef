-- A list of events with watches is a list of the World's events, done at the same sites and with the same counts.
use Rattle.std.specs.Prelude.{List, Some, length, refl, ℕ, ◌≡◌}
use Rattle.std.proofs.Common.{inl, inr, ap, sym, ◌∙◌, subst}
use Rattle.obq_stands.specs.Events.{Run, Begin, Then, windows, world_at}
use Rattle.obq_base.specs.Tree.{BlockTree}
use Rattle.obq_model.specs.Located.{Located}
use Rattle.obq_stands.specs.World.{Parked, Packet, Request, Reply, World}
use Rattle.obq_stands.specs.Watch.{Watch}
use Rattle.obq_stands.specs.Joined.{WatchStands, BeginWatch, ThenWatch}
use Rattle.obq_stands.specs.AtSites.{AreSited}
use Rattle.obq_stands.specs.Counts.{Tally, tally_of, no_tally, tally_run, IsHeldAt, located_home, IsAtRest}
use Rattle.obq_stands.specs.WatchRuns.{tally_beside, tally_watch, WatchRunIs, IsHeldBeside, IsAtRestBeside, WatchRestCountsAsLocated}
use Rattle.obq_stands.proofs.Joined.{IsOne, watch_step_sited}
use Rattle.obq_stands.proofs.Rest.{every_watch_run_stands, segment_in_store, request_in_store, held_by}
use Rattle.obq_stands.proofs.WaitingRequests.{rest_counts_as_located}

pub watch_run_is : WatchRunIs
watch_run_is trees turns w e BeginWatch sited = (Begin, tt, refl)
watch_run_is trees turns w e (ThenWatch {v = v} {d = d} r s) sited = by (watch_run_is trees turns v d r sited.0) (watch_step_sited trees turns (length trees) v w d e (every_watch_run_stands trees turns v d r) s sited.1)
  where
    T : Tally
    T = tally_watch r no_tally

    by : (p : Run turns (world_at (windows 0 trees)) v) × AreSited (length trees) p × (tally_run p no_tally ≡ T) → IsOne (length trees) s → (p : Run turns (world_at (windows 0 trees)) w) × AreSited (length trees) p × (tally_run p no_tally ≡ tally_beside s T)
    by (p, h, same) (inl (q, g, eq)) = (Then p q, (h, g), ap (tally_of q) same ∙ eq T)
    by (p, h, same) (inr (stays, eq)) = subst (λ u. (p : Run turns (world_at (windows 0 trees)) u) × AreSited (length trees) p × (tally_run p no_tally ≡ tally_beside s T)) (sym stays) (p, h, same ∙ sym (eq T))

-- ---- at rest

rests : (trees : List BlockTree) (turns : ℕ) (w : World) (e : Watch) (l : Located) → WatchStands trees turns w e → IsAtRestBeside (length trees) turns w e l → IsAtRest (length trees) turns w l
rests trees turns w e l i h =
    record {
      lines = h.lines;
      answered = h.answered;
      runs = λ s t slot is left.
          let q = h.runs s t slot is left in
          let k = segment_in_store trees turns w e i h.wakes s t slot is q.0 q.1 q.2 q.3.0 in (q.0, q.1, q.2, (k.0, k.1 (length trees) (located_home l) s q.3.1));
      waits = λ s t x is. by s t x is x.packet refl (h.waits s t x is);
    }
  where
    by : (b t : ℕ) (x : Parked) → w.waiting b t ≡ Some x → (p : Packet) → x.packet ≡ p → IsHeldBeside (length trees) (located_home l) b w.memory w.ended e x.packet → IsHeldAt (length trees) (located_home l) b w.memory w.ended x.packet
    by b t x is (Request t2 k used depth self op) e2 held =
        let q : IsHeldBeside (length trees) (located_home l) b w.memory w.ended e (Request t2 k used depth self op) = subst (IsHeldBeside (length trees) (located_home l) b w.memory w.ended e) e2 held in
        let here = request_in_store trees turns w e i h.wakes x.from b t2 k used depth self op (held_by turns w i.stands.config i.stands.stands b t x t2 k used depth self op is e2) q.1.0 in
        subst (IsHeldAt (length trees) (located_home l) b w.memory w.ended) (sym e2) (q.0, (here.0, here.1 (length trees) (located_home l) b q.1.1))
    by b t x is (Reply t2 k used o) e2 held = absurd (subst (IsHeldBeside (length trees) (located_home l) b w.memory w.ended e) e2 held)

pub watch_rest_counts_as_located : WatchRestCountsAsLocated
watch_rest_counts_as_located trees turns w e l r sited located rest a b apart =
    let p = watch_run_is trees turns w e r sited in
    let k = rest_counts_as_located trees turns w l p.0 p.1 located (rests trees turns w e l (every_watch_run_stands trees turns w e r) rest) a b apart in
    (ap (λ (z : Tally). z.posted a b) (sym p.2) ∙ k.0, ap (λ (z : Tally). z.replied b a) (sym p.2) ∙ k.1)
