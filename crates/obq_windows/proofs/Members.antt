-- What the table's procedures say of the group that each belongs to.
use Rattle.std.specs.Prelude.{List, Option, Some, [], length, refl, slice_get, suc, zero, ℕ, ◌+◌, ◌<◌, ◌∷◌, ◌≡◌}
use Rattle.std.proofs.Common.{ap, arith, inl, inr, subst, ◌∙◌}
use Rattle.obq_base.specs.Tree.{ARecBind, NoRecBinds, ProcedureTree, RecBindTrees}
use Rattle.obq_base.specs.declared.code.CodeNo.{CodeNo}
use Rattle.obq_model.specs.Occurrences.{member_names}
use Rattle.obq_model.specs.Procedures.{AreMembers, IsMade, Proc, proc_in}
use Rattle.obq_model.specs.Scopes.{Outside}

-- the member k of a group, as any member sees it
pub record IsMember (procs : CodeNo → Option Proc) (p : Proc) (k : ℕ) (number : CodeNo) (q : Proc) : Type 0 where
  pub there : slice_get p.group k ≡ Some number
  pub proc : procs number ≡ Some q
  pub outside : q.outside ≡ p.outside
  pub group : q.group ≡ p.group
  pub index : q.index ≡ k

none_below : {A : Type 0} → (k n : ℕ) → k < n → n ≡ 0 → A
none_below k n l e = absurd (impossible e) where
  impossible : n ≡ 0 → ⊥
  impossible e = omega (arith, e, l)

pub record HasMember (procs : CodeNo → Option Proc) (u : Outside) (group numbers : List CodeNo) (i k : ℕ) : Type 0 where
  pub number : CodeNo
  pub procedure : ProcedureTree
  pub there : slice_get numbers k ≡ Some number
  pub proc : procs number ≡ Some (proc_in u procedure group (i + k))

-- the members with these codes, from the one with index i on
has_member : (procs : CodeNo → Option Proc) (u : Outside) (group numbers : List CodeNo) (i : ℕ) (bs : RecBindTrees) → AreMembers procs u group numbers i bs → (k : ℕ) → k < length (member_names bs) → HasMember procs u group numbers i k
has_member procs u group [] i NoRecBinds h k l = none_below k 0 l refl
has_member procs u group [] i (ARecBind x p place bs) h k l = absurd h
has_member procs u group (m ∷ numbers) i NoRecBinds h k l = absurd h
has_member procs u group (m ∷ numbers) i (ARecBind x p place bs) h zero l = record { number = m; procedure = p; there = refl; proc = h.0 ∙ ap (λ j. Some (proc_in u p group j)) (no_more i) } where
  no_more : (n : ℕ) → n ≡ n + 0
  no_more n = omega arith
has_member procs u group (m ∷ numbers) i (ARecBind x p place bs) h (suc k) l =
    let r : HasMember procs u group numbers (suc i) k = has_member procs u group numbers (suc i) bs h.1 k (omega (arith, l)) in
    record { number = r.number; procedure = r.procedure; there = r.there; proc = r.proc ∙ ap (λ j. Some (proc_in u r.procedure group j)) (one_further i k) } where
      one_further : (n k : ℕ) → suc n + k ≡ n + suc k
      one_further n k = omega arith

pub member_of : (procs : CodeNo → Option Proc) (number : CodeNo) (p : Proc) → IsMade procs number p → (k : ℕ) → k < length p.outside.members → (m : CodeNo) × (q : Proc) × IsMember procs p k m q
member_of procs number p (inl o) k l = none_below k (length p.outside.members) l (ap (λ (u : Outside). length u.members) o.outside)
member_of procs number p (inr (inl o)) k l = none_below k (length p.outside.members) l (ap (λ (u : Outside). length u.members) o.outside)
member_of procs number p (inr (inr o)) k l =
    let r : HasMember procs p.outside p.group p.group 0 k = has_member procs p.outside p.group p.group 0 o.binds o.members k (subst (λ (u : Outside). k < length u.members) o.outside l) in
    (r.number, proc_in p.outside r.procedure p.group k, record { there = r.there; proc = r.proc ∙ ap (λ j. Some (proc_in p.outside r.procedure p.group j)) (bare k); outside = refl; group = refl; index = refl }) where
      bare : (n : ℕ) → 0 + n ≡ n
      bare n = omega arith

-- a procedure that has a group stands in it under its own number
pub own_of : (procs : CodeNo → Option Proc) (number : CodeNo) (p : Proc) → IsMade procs number p → 0 < length p.group → slice_get p.group p.index ≡ Some number
own_of procs number p (inl o) l = none_below 0 (length p.group) l (ap length o.group)
own_of procs number p (inr (inl o)) l = none_below 0 (length p.group) l (ap length o.group)
own_of procs number p (inr (inr o)) l = o.own
