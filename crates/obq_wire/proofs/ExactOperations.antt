-- Operations, outcomes and packets are read as they are spelled.
use Rattle.std.proofs.Common.{◌≡◌, ℕ, ◌≤◌, List, [], ◌∷◌, ◌++◌, Ok, refl, ap, subst, ◌∙◌, append_assoc, arith}
use Rattle.std.specs.List.{AllByRecursion}
use Rattle.std.specs.Int.{w32, w64}
use Rattle.obq_base.specs.declared.places.Kind.TheVariants as kind
use Rattle.obq_wire.specs.declared.packets.Current.{Current}
use Rattle.obq_wire.specs.declared.packets.Current.TheVariants as c
use Rattle.obq_wire.specs.declared.packets.Operation.{Operation}
use Rattle.obq_wire.specs.declared.packets.Operation.TheVariants as op
use Rattle.obq_wire.specs.declared.packets.Outcome.{Outcome}
use Rattle.obq_wire.specs.declared.packets.Outcome.TheVariants as o
use Rattle.obq_wire.specs.declared.tags.TheConstants.{AGAIN, ARRAY_ITEM, ARRAY_SET, ARRAY_SIZE, BROADCAST, CALL, COPY, ENGINE, EXPORT, GET, GIVE_UP, IMPORT, JOIN, LINE, PUT, REDIRECT, SET, SIGNAL, VAR_GET, VAR_SET}
use Rattle.obq_wire.specs.declared.values.TableEntry.{TableEntry}
use Rattle.obq_wire.specs.declared.values.TableMember.{TableMember}
use Rattle.obq_wire.specs.Spelling.{u16, u32, u64, thread, closure, operation, outcome, current, head}
use Rattle.obq_wire.specs.Fits.{IsClosure, IsOperation, IsOutcome, IsCurrent, IsHead}
use Rattle.obq_wire.specs.Reading.{◌>>=◌, number_at, procedure_at, operation_arms, operation_at, outcome_arms, outcome_at, current_arms, current_at, depth_at, Head, thread_at, head_at, closure_at}
use Rattle.obq_wire.proofs.Exact.{bind_ok, ok_is, Takes, Takes-then, Exact, ArmTakes, tagged_takes, one_again, two_again, three_again, arm_none, arm_one, arm_two, arm_three}
use Rattle.obq_wire.proofs.Fields.{exact_u16, exact_u32, exact_u64, exact_below}
use Rattle.obq_wire.proofs.Lists.{exact_list}
use Rattle.obq_wire.proofs.ExactParts.{exact_text, exact_name, exact_integer, exact_truth, exact_flags, exact_thread, exact_reference, exact_cell, exact_closure}
use Rattle.obq_wire.proofs.ExactValues.{exact_value, exact_values, exact_body, exact_field}

module _ (table : List TableEntry) where
  exact_procedure : Exact (procedure_at table) (λ m. 5 ∷ closure m) (IsClosure table)
  unfolding procedure_at
  exact_procedure = record {
    takes = tagged_takes (λ m. 5 ∷ closure m) (IsClosure table) ((5, closure_at table) ∷ []) (only_arm, tt);
    again = λ m rest fits. (exact_closure table).again m rest fits;
  }
    where
      only_arm : ArmTakes (λ (m : TableMember). 5 ∷ closure m) (IsClosure table) (5, closure_at table)
      only_arm bytes m rest fits e =
          let t = (exact_closure table).takes bytes m rest fits e in
          (record { parts = ap (λ (x : List ℕ). 5 ∷ x) t.0.parts; rest_fits = t.0.rest_fits }, t.1)

  operation_arms_take : AllByRecursion (ArmTakes operation (IsOperation table)) (operation_arms table)
  operation_arms_take = (
    arm_two operation (IsOperation table) (exact_cell kind.Object) exact_name GET op.Get (λ _ _. refl) (λ _ _ f g. (f, g)),
    (
      arm_three operation (IsOperation table) (exact_cell kind.Object) exact_name (exact_values table) CALL op.Call (λ _ _ _. refl) (λ _ _ _ f g h. (f, (g, h))),
      (
        arm_three operation (IsOperation table) (exact_cell kind.Object) exact_name (exact_body table) SET op.Set (λ _ _ _. refl) (λ _ _ _ f g h. (f, (g, h))),
        (
          arm_one operation (IsOperation table) (exact_cell kind.Object) COPY op.Copy (λ _. refl) (λ _ f. f),
          (
            arm_two operation (IsOperation table) (exact_cell kind.Object) (exact_cell kind.Object) REDIRECT op.Redirect (λ _ _. refl) (λ _ _ f g. (f, g)),
            (
              arm_two operation (IsOperation table) (exact_cell kind.Array) exact_integer ARRAY_ITEM op.ArrayItem (λ _ _. refl) (λ _ _ f g. (f, g)),
              (
                arm_one operation (IsOperation table) (exact_cell kind.Array) ARRAY_SIZE op.ArraySize (λ _. refl) (λ _ f. f),
                (
                  arm_three operation (IsOperation table) (exact_cell kind.Array) exact_integer (exact_value table) ARRAY_SET op.ArraySet (λ _ _ _. refl) (λ _ _ _ f g h. (f, (g, h))),
                  (
                    arm_one operation (IsOperation table) (exact_cell kind.Variable) VAR_GET op.VarGet (λ _. refl) (λ _ f. f),
                    (
                      arm_two operation (IsOperation table) (exact_cell kind.Variable) (exact_value table) VAR_SET op.VarSet (λ _ _. refl) (λ _ _ f g. (f, g)),
                      (
                        arm_two operation (IsOperation table) (exact_cell kind.Writer) exact_text PUT op.Put (λ _ _. refl) (λ _ _ f g. (f, g)),
                        (
                          arm_one operation (IsOperation table) exact_thread JOIN op.Join (λ _. refl) (λ _ f. f),
                          (
                            arm_two operation (IsOperation table) (exact_cell kind.Condition) (exact_cell kind.Object) LINE op.Line (λ _ _. refl) (λ _ _ f g. (f, g)),
                            (
                              arm_one operation (IsOperation table) (exact_cell kind.Object) GIVE_UP op.GiveUp (λ _. refl) (λ _ f. f),
                              (
                                arm_two operation (IsOperation table) (exact_cell kind.Object) (exact_cell kind.Condition) AGAIN op.Again (λ _ _. refl) (λ _ _ f g. (f, g)),
                                (
                                  arm_one operation (IsOperation table) (exact_cell kind.Condition) SIGNAL op.Signal (λ _. refl) (λ _ f. f),
                                  (
                                    arm_one operation (IsOperation table) (exact_cell kind.Condition) BROADCAST op.Broadcast (λ _. refl) (λ _ f. f),
                                    (
                                      arm_two operation (IsOperation table) exact_text (exact_value table) EXPORT op.Export (λ _ _. refl) (λ _ _ f g. (f, g)),
                                      (
                                        arm_two operation (IsOperation table) exact_text exact_truth IMPORT op.Import (λ _ _. refl) (λ _ _ f g. f),
                                        (
                                          arm_two operation (IsOperation table) (exact_cell kind.Engine) exact_procedure ENGINE op.Engine (λ _ _. refl) (λ _ _ f g. (f, g)),
                                          tt,
                                        ),
                                      ),
                                    ),
                                  ),
                                ),
                              ),
                            ),
                          ),
                        ),
                      ),
                    ),
                  ),
                ),
              ),
            ),
          ),
        ),
      ),
    ),
  )

  operation_again : (x : Operation) (rest : List ℕ) → IsOperation table x → operation_at table (operation x ++ rest) ≡ Ok (x, rest)
  unfolding operation_at
  operation_again (op.Get object name) rest fits = two_again (exact_cell kind.Object) exact_name op.Get object name rest fits.0 fits.1
  operation_again (op.Call object name arguments) rest fits = three_again (exact_cell kind.Object) exact_name (exact_values table) op.Call object name arguments rest fits.0 fits.1.0 fits.1.1
  operation_again (op.Set object name new) rest fits = three_again (exact_cell kind.Object) exact_name (exact_body table) op.Set object name new rest fits.0 fits.1.0 fits.1.1
  operation_again (op.Copy object) rest fits = one_again (exact_cell kind.Object) op.Copy object rest fits
  operation_again (op.Redirect object target) rest fits = two_again (exact_cell kind.Object) (exact_cell kind.Object) op.Redirect object target rest fits.0 fits.1
  operation_again (op.ArrayItem array index) rest fits = two_again (exact_cell kind.Array) exact_integer op.ArrayItem array index rest fits.0 fits.1
  operation_again (op.ArraySize array) rest fits = one_again (exact_cell kind.Array) op.ArraySize array rest fits
  operation_again (op.ArraySet array index new) rest fits = three_again (exact_cell kind.Array) exact_integer (exact_value table) op.ArraySet array index new rest fits.0 fits.1.0 fits.1.1
  operation_again (op.VarGet variable) rest fits = one_again (exact_cell kind.Variable) op.VarGet variable rest fits
  operation_again (op.VarSet variable new) rest fits = two_again (exact_cell kind.Variable) (exact_value table) op.VarSet variable new rest fits.0 fits.1
  operation_again (op.Put writer text) rest fits = two_again (exact_cell kind.Writer) exact_text op.Put writer text rest fits.0 fits.1
  operation_again (op.Join t) rest fits = one_again exact_thread op.Join t rest fits
  operation_again (op.Line condition object) rest fits = two_again (exact_cell kind.Condition) (exact_cell kind.Object) op.Line condition object rest fits.0 fits.1
  operation_again (op.GiveUp object) rest fits = one_again (exact_cell kind.Object) op.GiveUp object rest fits
  operation_again (op.Again object condition) rest fits = two_again (exact_cell kind.Object) (exact_cell kind.Condition) op.Again object condition rest fits.0 fits.1
  operation_again (op.Signal condition) rest fits = one_again (exact_cell kind.Condition) op.Signal condition rest fits
  operation_again (op.Broadcast condition) rest fits = one_again (exact_cell kind.Condition) op.Broadcast condition rest fits
  operation_again (op.Export name new) rest fits = two_again exact_text (exact_value table) op.Export name new rest fits.0 fits.1
  operation_again (op.Import name engine) rest fits = two_again exact_text exact_truth op.Import name engine rest fits tt
  operation_again (op.Engine engine procedure) rest fits = two_again (exact_cell kind.Engine) exact_procedure op.Engine engine procedure rest fits.0 fits.1

  pub exact_operation : Exact (operation_at table) operation (IsOperation table)
  unfolding operation_at
  exact_operation = record { takes = tagged_takes operation (IsOperation table) (operation_arms table) operation_arms_take; again = operation_again }

  outcome_arms_take : AllByRecursion (ArmTakes outcome (IsOutcome table)) (outcome_arms table)
  outcome_arms_take = (
    arm_one outcome (IsOutcome table) (exact_value table) 0 o.Value (λ _. refl) (λ _ f. f),
    (
      arm_one outcome (IsOutcome table) exact_text 1 o.Raised (λ _. refl) (λ _ f. f),
      (
        arm_none outcome (IsOutcome table) 2 o.Exit refl tt,
        (
          arm_two outcome (IsOutcome table) exact_reference exact_name 3 o.Hop (λ _ _. refl) (λ _ _ f g. (f, g)),
          (
            arm_two outcome (IsOutcome table) exact_flags (exact_list (exact_field table)) 4 o.Object (λ _ _. refl) (λ _ _ f g. g),
            tt,
          ),
        ),
      ),
    ),
  )

  outcome_again : (x : Outcome) (rest : List ℕ) → IsOutcome table x → outcome_at table (outcome x ++ rest) ≡ Ok (x, rest)
  unfolding outcome_at
  outcome_again (o.Value x) rest fits = one_again (exact_value table) o.Value x rest fits
  outcome_again (o.Raised text) rest fits = one_again exact_text o.Raised text rest fits
  outcome_again o.Exit rest fits = refl
  outcome_again (o.Hop to name) rest fits = two_again exact_reference exact_name o.Hop to name rest fits.0 fits.1
  outcome_again (o.Object flags fields) rest fits = two_again exact_flags (exact_list (exact_field table)) o.Object flags fields rest tt fits

  pub exact_outcome : Exact (outcome_at table) outcome (IsOutcome table)
  unfolding outcome_at
  exact_outcome = record { takes = tagged_takes outcome (IsOutcome table) (outcome_arms table) outcome_arms_take; again = outcome_again }

current_arms_take : AllByRecursion (ArmTakes current IsCurrent) current_arms
current_arms_take = (
  arm_none current IsCurrent 0 c.Nothing refl tt,
  (
    arm_one current IsCurrent (exact_cell kind.Object) 1 c.Plain (λ _. refl) (λ _ f. f),
    (
      arm_one current IsCurrent (exact_cell kind.Object) 2 c.Held (λ _. refl) (λ _ f. f),
      tt,
    ),
  ),
)

current_again : (x : Current) (rest : List ℕ) → IsCurrent x → current_at (current x ++ rest) ≡ Ok (x, rest)
unfolding current_at
current_again c.Nothing rest fits = refl
current_again (c.Plain object) rest fits = one_again (exact_cell kind.Object) c.Plain object rest fits
current_again (c.Held object) rest fits = one_again (exact_cell kind.Object) c.Held object rest fits

pub exact_current : Exact current_at current IsCurrent
unfolding current_at
exact_current = record { takes = tagged_takes current IsCurrent current_arms current_arms_take; again = current_again }

pub exact_depth : Exact depth_at u16 (λ n. n ≤ 1000)
unfolding depth_at
exact_depth =
    let parts = exact_below exact_u16 1001 in
    record {
      takes = λ bytes n rest fits e. let t = parts.takes bytes n rest fits e in (t.0, omega (arith, t.1.0));
      again = λ n rest le. parts.again n rest (omega (arith, le), omega (arith, le));
    }

pub exact_head : Exact head_at (λ h. head h.0 h.1.0 h.1.1.0 h.1.1.1) (λ h. IsHead h.0 h.1.0 h.1.1.0 h.1.1.1)
unfolding head_at
exact_head = record {
  takes = λ bytes h rest fits e.
      let t = bind_ok (thread_at bytes) (λ t. number_at w64 t.1 >>= λ c. number_at w32 c.1 >>= λ u. number_at w64 u.1 >>= λ m. Ok ((t.0, (c.0, (u.0, m.0))), m.1)) (h, rest) e in
      let c = bind_ok (number_at w64 t.0.1) (λ c. number_at w32 c.1 >>= λ u. number_at w64 u.1 >>= λ m. Ok ((t.0.0, (c.0, (u.0, m.0))), m.1)) (h, rest) t.2 in
      let u = bind_ok (number_at w32 c.0.1) (λ u. number_at w64 u.1 >>= λ m. Ok ((t.0.0, (c.0.0, (u.0, m.0))), m.1)) (h, rest) c.2 in
      let m = bind_ok (number_at w64 u.0.1) (λ m. Ok ((t.0.0, (c.0.0, (u.0.0, m.0))), m.1)) (h, rest) u.2 in
      let tt1 = exact_thread.takes bytes t.0.0 t.0.1 fits t.1 in
      let ct = exact_u64.takes t.0.1 c.0.0 c.0.1 tt1.0.rest_fits c.1 in
      let ut = exact_u32.takes c.0.1 u.0.0 u.0.1 ct.0.rest_fits u.1 in
      let mt = exact_u64.takes u.0.1 m.0.0 m.0.1 ut.0.rest_fits m.1 in
      subst (λ (z : Head × List ℕ). Takes bytes (head z.0.0 z.0.1.0 z.0.1.1.0 z.0.1.1.1) z.1 × IsHead z.0.0 z.0.1.0 z.0.1.1.0 z.0.1.1.1) (ok_is ((t.0.0, (c.0.0, (u.0.0, m.0.0))), m.0.1) (h, rest) m.2)
      (Takes-then tt1.0 (Takes-then ct.0 (Takes-then ut.0 mt.0)), (tt1.1, (ct.1, (ut.1, mt.1))));
  again = λ h rest fits.
      let grouped : head h.0 h.1.0 h.1.1.0 h.1.1.1 ++ rest ≡ thread h.0 ++ (u64 h.1.0 ++ (u32 h.1.1.0 ++ (u64 h.1.1.1 ++ rest))) =
      append_assoc (thread h.0) (u64 h.1.0 ++ (u32 h.1.1.0 ++ u64 h.1.1.1)) rest
      ∙ ap (λ (x : List ℕ). thread h.0 ++ x) (append_assoc (u64 h.1.0) (u32 h.1.1.0 ++ u64 h.1.1.1) rest
      ∙ ap (λ (x : List ℕ). u64 h.1.0 ++ x) (append_assoc (u32 h.1.1.0) (u64 h.1.1.1) rest)) in
      ap head_at grouped ∙ rw (
        exact_thread.again h.0 (u64 h.1.0 ++ (u32 h.1.1.0 ++ (u64 h.1.1.1 ++ rest))) fits.0,
        exact_u64.again h.1.0 (u32 h.1.1.0 ++ (u64 h.1.1.1 ++ rest)) fits.1.0,
        exact_u32.again h.1.1.0 (u64 h.1.1.1 ++ rest) fits.1.1.0,
        exact_u64.again h.1.1.1 rest fits.1.1.1,
      ) refl;
}
