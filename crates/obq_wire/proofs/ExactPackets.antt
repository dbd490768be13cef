-- Packets are read as they are spelled.
use Rattle.std.proofs.Common.{◌≡◌, ℕ, List, ◌∷◌, ◌++◌, length, Ok, refl, ap, subst, ◌∙◌, append_assoc}
use Rattle.std.specs.List.{flat_map, AllByRecursion}
use Rattle.std.proofs.lemmas.List.{append-nil}
use Rattle.obq_wire.specs.declared.packets.Packet.{Packet}
use Rattle.obq_wire.specs.declared.packets.Packet.TheVariants as p
use Rattle.obq_wire.specs.declared.packets.Reply.{Reply}
use Rattle.obq_wire.specs.declared.packets.Request.{Request}
use Rattle.obq_wire.specs.declared.packets.Wake.{Wake}
use Rattle.obq_wire.specs.Spelling.{u16, u32, thread, operation, outcome, current, head, list, entry, spelling}
use Rattle.obq_wire.specs.Fits.{HasFields}
use Rattle.obq_wire.specs.Reading.{◌>>=◌, operation_at, outcome_at, current_at, depth_at, head_at, table_at, request_at, reply_at, wake_at, packet_arms, packet_at}
use Rattle.obq_wire.proofs.Exact.{bind_ok, ok_is, Takes, Takes-then, Exact, ArmTakes, tagged_takes, one_again, exact_two, arm_one}
use Rattle.obq_wire.proofs.Fields.{exact_u32}
use Rattle.obq_wire.proofs.ExactParts.{exact_thread}
use Rattle.obq_wire.proofs.ExactValues.{exact_table}
use Rattle.obq_wire.proofs.ExactOperations.{exact_operation, exact_outcome, exact_current, exact_depth, exact_head}

abbrev head_of_request : Request → List ℕ
head_of_request r = head r.thread r.call r.used r.made

abbrev request : Request → List ℕ
request r = head_of_request r ++ (u16 r.depth ++ (current r.current ++ (list entry r.table ++ operation r.operation)))

abbrev head_of_reply : Reply → List ℕ
head_of_reply r = head r.thread r.call r.used r.made

abbrev reply : Reply → List ℕ
reply r = head_of_reply r ++ (list entry r.table ++ outcome r.outcome)

-- the parts of a request and of a reply, grouped as a reader takes them
regroup : (h d c n es o : List ℕ) → ((h ++ (d ++ (c ++ n))) ++ (es ++ o)) ≡ h ++ (d ++ (c ++ ((n ++ es) ++ o)))
regroup h d c n es o = simp append_assoc

regroup_reply : (h n es o : List ℕ) → ((h ++ n) ++ (es ++ o)) ≡ h ++ ((n ++ es) ++ o)
regroup_reply h n es o = simp append_assoc

apart_5 : (h d c t o rest : List ℕ) → (h ++ (d ++ (c ++ (t ++ o)))) ++ rest ≡ h ++ (d ++ (c ++ (t ++ (o ++ rest))))
apart_5 h d c t o rest = simp append_assoc

apart_3 : (h t o rest : List ℕ) → (h ++ (t ++ o)) ++ rest ≡ h ++ (t ++ (o ++ rest))
apart_3 h t o rest = simp append_assoc

exact_request : Exact request_at request (λ r. HasFields (p.Request r))
unfolding request_at
exact_request = record {
  takes = λ bytes r rest fits e.
      let h = bind_ok (head_at bytes) (λ h. depth_at h.1 >>= λ d. current_at d.1 >>= λ c. table_at c.1 >>= λ t. operation_at t.0 t.1 >>= λ o. Ok (record { thread = h.0.0; call = h.0.1.0; used = h.0.1.1.0; made = h.0.1.1.1; depth = d.0; current = c.0; table = t.0; operation = o.0 }, o.1)) (r, rest) e in
      let d = bind_ok (depth_at h.0.1) (λ d. current_at d.1 >>= λ c. table_at c.1 >>= λ t. operation_at t.0 t.1 >>= λ o. Ok (record { thread = h.0.0.0; call = h.0.0.1.0; used = h.0.0.1.1.0; made = h.0.0.1.1.1; depth = d.0; current = c.0; table = t.0; operation = o.0 }, o.1)) (r, rest) h.2 in
      let c = bind_ok (current_at d.0.1) (λ c. table_at c.1 >>= λ t. operation_at t.0 t.1 >>= λ o. Ok (record { thread = h.0.0.0; call = h.0.0.1.0; used = h.0.0.1.1.0; made = h.0.0.1.1.1; depth = d.0.0; current = c.0; table = t.0; operation = o.0 }, o.1)) (r, rest) d.2 in
      let t = bind_ok (table_at c.0.1) (λ t. operation_at t.0 t.1 >>= λ o. Ok (record { thread = h.0.0.0; call = h.0.0.1.0; used = h.0.0.1.1.0; made = h.0.0.1.1.1; depth = d.0.0; current = c.0.0; table = t.0; operation = o.0 }, o.1)) (r, rest) c.2 in
      let o = bind_ok (operation_at t.0.0 t.0.1) (λ o. Ok (record { thread = h.0.0.0; call = h.0.0.1.0; used = h.0.0.1.1.0; made = h.0.0.1.1.1; depth = d.0.0; current = c.0.0; table = t.0.0; operation = o.0 }, o.1)) (r, rest) t.2 in
      let ht = exact_head.takes bytes h.0.0 h.0.1 fits h.1 in
      let dt = exact_depth.takes h.0.1 d.0.0 d.0.1 ht.0.rest_fits d.1 in
      let ct = exact_current.takes d.0.1 c.0.0 c.0.1 dt.0.rest_fits c.1 in
      let tt1 = exact_table.takes c.0.1 t.0.0 t.0.1 ct.0.rest_fits t.1 in
      let ot = (exact_operation t.0.0).takes t.0.1 o.0.0 o.0.1 tt1.0.rest_fits o.1 in
      subst (λ (z : Request × List ℕ). Takes bytes (request z.0) z.1 × HasFields (p.Request z.0))
      (ok_is (record { thread = h.0.0.0; call = h.0.0.1.0; used = h.0.0.1.1.0; made = h.0.0.1.1.1; depth = d.0.0; current = c.0.0; table = t.0.0; operation = o.0.0 }, o.0.1) (r, rest) o.2)
      (Takes-then ht.0 (Takes-then dt.0 (Takes-then ct.0 (Takes-then tt1.0 ot.0))), (ht.1, (dt.1, (ct.1, (tt1.1, ot.1)))));
  again = λ r rest fits.
      ap request_at (apart_5 (head_of_request r) (u16 r.depth) (current r.current) (list entry r.table) (operation r.operation) rest) ∙
      rw (
        exact_head.again (r.thread, (r.call, (r.used, r.made))) (u16 r.depth ++ (current r.current ++ (list entry r.table ++ (operation r.operation ++ rest)))) fits.0,
        exact_depth.again r.depth (current r.current ++ (list entry r.table ++ (operation r.operation ++ rest))) fits.1.0,
        exact_current.again r.current (list entry r.table ++ (operation r.operation ++ rest)) fits.1.1.0,
        exact_table.again r.table (operation r.operation ++ rest) fits.1.1.1.0,
        (exact_operation r.table).again r.operation rest fits.1.1.1.1,
      ) refl;
}

exact_reply : Exact reply_at reply (λ r. HasFields (p.Reply r))
unfolding reply_at
exact_reply = record {
  takes = λ bytes r rest fits e.
      let h = bind_ok (head_at bytes) (λ h. table_at h.1 >>= λ t. outcome_at t.0 t.1 >>= λ o. Ok (record { thread = h.0.0; call = h.0.1.0; used = h.0.1.1.0; made = h.0.1.1.1; table = t.0; outcome = o.0 }, o.1)) (r, rest) e in
      let t = bind_ok (table_at h.0.1) (λ t. outcome_at t.0 t.1 >>= λ o. Ok (record { thread = h.0.0.0; call = h.0.0.1.0; used = h.0.0.1.1.0; made = h.0.0.1.1.1; table = t.0; outcome = o.0 }, o.1)) (r, rest) h.2 in
      let o = bind_ok (outcome_at t.0.0 t.0.1) (λ o. Ok (record { thread = h.0.0.0; call = h.0.0.1.0; used = h.0.0.1.1.0; made = h.0.0.1.1.1; table = t.0.0; outcome = o.0 }, o.1)) (r, rest) t.2 in
      let ht = exact_head.takes bytes h.0.0 h.0.1 fits h.1 in
      let tt1 = exact_table.takes h.0.1 t.0.0 t.0.1 ht.0.rest_fits t.1 in
      let ot = (exact_outcome t.0.0).takes t.0.1 o.0.0 o.0.1 tt1.0.rest_fits o.1 in
      subst (λ (z : Reply × List ℕ). Takes bytes (reply z.0) z.1 × HasFields (p.Reply z.0))
      (ok_is (record { thread = h.0.0.0; call = h.0.0.1.0; used = h.0.0.1.1.0; made = h.0.0.1.1.1; table = t.0.0; outcome = o.0.0 }, o.0.1) (r, rest) o.2)
      (Takes-then ht.0 (Takes-then tt1.0 ot.0), (ht.1, (tt1.1, ot.1)));
  again = λ r rest fits.
      ap reply_at (apart_3 (head_of_reply r) (list entry r.table) (outcome r.outcome) rest) ∙
      rw (
        exact_head.again (r.thread, (r.call, (r.used, r.made))) (list entry r.table ++ (outcome r.outcome ++ rest)) fits.0,
        exact_table.again r.table (outcome r.outcome ++ rest) fits.1.0,
        (exact_outcome r.table).again r.outcome rest fits.1.1,
      ) refl;
}

exact_wake : Exact wake_at (λ w. thread w.thread ++ u32 w.object) (λ w. HasFields (p.Wake w))
unfolding wake_at
exact_wake = exact_two exact_thread exact_u32 (λ thread object. record { thread = thread; object = object }) (λ (w : Wake). w.thread) (λ w. w.object) (λ _. refl) (λ _ _. refl) (λ _ _. refl)

spelled_request : (r : Request) → spelling (p.Request r) ≡ 1 ∷ request r
spelled_request r = ap (λ (x : List ℕ). 1 ∷ x) (regroup (head_of_request r) (u16 r.depth) (current r.current) (u32 (length r.table)) (flat_map entry r.table) (operation r.operation))

spelled_reply : (r : Reply) → spelling (p.Reply r) ≡ 2 ∷ reply r
spelled_reply r = ap (λ (x : List ℕ). 2 ∷ x) (regroup_reply (head_of_reply r) (u32 (length r.table)) (flat_map entry r.table) (outcome r.outcome))

spelled_wake : (w : Wake) → spelling (p.Wake w) ≡ 3 ∷ (thread w.thread ++ u32 w.object)
spelled_wake w = append-nil (3 ∷ (thread w.thread ++ u32 w.object))

packet_arms_take : AllByRecursion (ArmTakes spelling HasFields) packet_arms
packet_arms_take = (
  arm_one spelling HasFields exact_request 1 p.Request spelled_request (λ _ f. f),
  (
    arm_one spelling HasFields exact_reply 2 p.Reply spelled_reply (λ _ f. f),
    (
      arm_one spelling HasFields exact_wake 3 p.Wake spelled_wake (λ _ f. f),
      tt,
    ),
  ),
)

packet_again : (x : Packet) (rest : List ℕ) → HasFields x → packet_at (spelling x ++ rest) ≡ Ok (x, rest)
unfolding packet_at
packet_again (p.Request r) rest fits = ap (λ (x : List ℕ). packet_at (x ++ rest)) (spelled_request r) ∙ one_again exact_request p.Request r rest fits
packet_again (p.Reply r) rest fits = ap (λ (x : List ℕ). packet_at (x ++ rest)) (spelled_reply r) ∙ one_again exact_reply p.Reply r rest fits
packet_again (p.Wake w) rest fits = ap (λ (x : List ℕ). packet_at (x ++ rest)) (spelled_wake w) ∙ one_again exact_wake p.Wake w rest fits

pub exact_packet : Exact packet_at spelling HasFields
unfolding packet_at
exact_packet = record { takes = tagged_takes spelling HasFields packet_arms packet_arms_take; again = packet_again }
