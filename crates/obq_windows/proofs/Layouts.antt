-- Layouts of object literals: how many operands they have, and how deep their methods lie.
use Rattle.std.specs.Prelude.{Bool, List, None, Option, Some, [], false, length, max, nat_lt, refl, suc, true, ℕ, ◌++◌, ◌+◌, ◌<◌, ◌||◌, ◌∷◌, ◌≡◌, ◌≤◌}
use Rattle.std.proofs.Common.{ap, arith, ◌∙◌}
use Rattle.std.proofs.lemmas.Bool.{le-ltb, lt-ltb, ltb-false, ltb-true}
use Rattle.obq_base.specs.Tree.{ProcedureTree}
use Rattle.obq_base.specs.declared.trees.Flags.{Flags}
use Rattle.obq_model.specs.Draft.{captured_by}
use Rattle.obq_model.specs.Frames.{IsFrame}
use Rattle.obq_model.specs.Opened.{open_body}
use Rattle.obq_model.specs.Scopes.{Outside, inside}
use Rattle.obq_model.specs.Step.{Pending, operands_of}
use Rattle.obq_model.specs.Terms.{AliasField, Bytes, Layout, MakeObject, MethodField, NoLayout, Part, Parts, ValueField}
use Rattle.obq_windows.specs.Literals.{DoneAlias, DoneField, DoneMethod, DoneValue, done_layout, done_values, done_with, open_done, operand_layout}
use Rattle.obq_windows.specs.Values.{PlainValue, Table, read_all}

-- ---- more fields behind these

pub layout_more : {R M : Type 0} → (done more : List (DoneField R M)) (l : Layout) → done_layout (done ++ more) l ≡ done_layout done (done_layout more l)
layout_more [] more l = refl
layout_more (DoneValue x v ∷ done) more l = ap (ValueField x) (layout_more done more l)
layout_more (DoneMethod x m ∷ done) more l = ap (MethodField x) (layout_more done more l)
layout_more (DoneAlias x y v ∷ done) more l = ap (AliasField x y) (layout_more done more l)

pub values_more : {R M : Type 0} → (done more : List (DoneField R M)) → done_values (done ++ more) ≡ done_values done ++ done_values more
values_more [] more = refl
values_more (DoneValue x v ∷ done) more = ap (λ l. v ∷ l) (values_more done more)
values_more (DoneMethod x m ∷ done) more = values_more done more
values_more (DoneAlias x y v ∷ done) more = ap (λ l. v ∷ l) (values_more done more)

pub opened_more : {R : Type 0} → (w : R) (u : Outside) (names : List Bytes) (done more : List (DoneField R ProcedureTree)) (ts : Parts R) → open_done w u names (done ++ more) ts ≡ open_done w u names done (open_done w u names more ts)
opened_more w u names [] more ts = refl
opened_more w u names (DoneValue x v ∷ done) more ts = opened_more w u names done more ts
opened_more w u names (DoneMethod x q ∷ done) more ts = ap (Part (open_body w (inside u [] (captured_by u names q)) q)) (opened_more w u names done more ts)
opened_more w u names (DoneAlias x y v ∷ done) more ts = opened_more w u names done more ts

-- a field with an operand
pub layout_with : {R : Type 0} → (x : Bytes) (other : Option Bytes) (v : PlainValue R) (l : Layout) → done_layout {R = R} {M = ProcedureTree} (done_with x other v ∷ []) l ≡ operand_layout x other l
layout_with x None v l = refl
layout_with x (Some y) v l = refl

pub values_with : {R : Type 0} → (x : Bytes) (other : Option Bytes) (v : PlainValue R) → done_values {R = R} {M = ProcedureTree} (done_with x other v ∷ []) ≡ v ∷ []
values_with x None v = refl
values_with x (Some y) v = refl

pub opened_with : {R : Type 0} → (w : R) (u : Outside) (names : List Bytes) (x : Bytes) (other : Option Bytes) (v : PlainValue R) (ts : Parts R) → open_done w u names (done_with x other v ∷ []) ts ≡ ts
opened_with w u names x None v ts = refl
opened_with w u names x (Some y) v ts = refl

-- ---- operands

zero_more : (n : ℕ) → n ≡ 0 + n
zero_more n = omega arith

one_more : (k m n : ℕ) → k ≡ m + n → suc k ≡ suc m + n
one_more k m n e = omega (arith, e)

pub operands_done : {R M : Type 0} → (T : Table R) (done : List (DoneField R M)) (l : Layout) → operands_of (done_layout done l) ≡ length (read_all T (done_values done)) + operands_of l
operands_done T [] l = zero_more (operands_of l)
operands_done T (DoneValue x v ∷ done) l = one_more (operands_of (done_layout done l)) (length (read_all T (done_values done))) (operands_of l) (operands_done T done l)
operands_done T (DoneMethod x m ∷ done) l = operands_done T done l
operands_done T (DoneAlias x y v ∷ done) l = one_more (operands_of (done_layout done l)) (length (read_all T (done_values done))) (operands_of l) (operands_done T done l)

one_operand : (x : Bytes) (other : Option Bytes) (l : Layout) → operands_of (operand_layout x other l) ≡ suc (operands_of l)
one_operand x None l = refl
one_operand x (Some y) l = refl

pub literal_frame : {R M : Type 0} → (T : Table R) (done : List (DoneField R M)) (flags : Flags) (x : Bytes) (other : Option Bytes) (l : Layout) (after : Parts R)
    → IsFrame (Pending (MakeObject flags (done_layout done (operand_layout x other l))) (read_all T (done_values done)) after)
literal_frame T done flags x other l after = λ i h. lt-ltb i (operands_of (done_layout done (operand_layout x other l)))
    (below i (length (read_all T (done_values done))) (operands_of l) (operands_of (done_layout done (operand_layout x other l))) h (operands_done T done (operand_layout x other l) ∙ ap (λ n. length (read_all T (done_values done)) + n) (one_operand x other l))) where
      below : (i m n k : ℕ) → i ≤ m → k ≡ m + suc n → i < k
      below i m n k h e = omega (arith, h, e)

-- where all operands are values: each of them is one, and there is no more
pub is_operand_done : {R M : Type 0} → (T : Table R) (done : List (DoneField R M)) (i : ℕ) → i < length (read_all T (done_values done)) → nat_lt i (operands_of (done_layout done NoLayout)) ≡ true
is_operand_done T done i h = lt-ltb i (operands_of (done_layout done NoLayout)) (below i (length (read_all T (done_values done))) (operands_of (done_layout done NoLayout)) h (operands_done T done NoLayout)) where
  below : (i m k : ℕ) → i < m → k ≡ m + 0 → i < k
  below i m k h e = omega (arith, h, e)

pub no_operand_left : {R M : Type 0} → (T : Table R) (done : List (DoneField R M)) → nat_lt (length (read_all T (done_values done))) (operands_of (done_layout done NoLayout)) ≡ false
no_operand_left T done = le-ltb (length (read_all T (done_values done))) (operands_of (done_layout done NoLayout)) (none (length (read_all T (done_values done))) (operands_of (done_layout done NoLayout)) (operands_done T done NoLayout)) where
  none : (m k : ℕ) → k ≡ m + 0 → k ≤ m
  none m k e = omega (arith, e)

-- ---- depth

pub deeper : (limit m n : ℕ) → nat_lt limit (max m n) ≡ (nat_lt limit m || nat_lt limit n)
deeper limit m n = at (nat_lt limit m) (nat_lt limit n) refl refl where
  first : (l a b : ℕ) → l < a → l < max a b
  first l a b h = omega (arith, h)

  second : (l a b : ℕ) → l < b → l < max a b
  second l a b h = omega (arith, h)

  neither : (l a b : ℕ) → a ≤ l → b ≤ l → max a b ≤ l
  neither l a b h k = omega (arith, h, k)

  at : (c d : Bool) → nat_lt limit m ≡ c → nat_lt limit n ≡ d → nat_lt limit (max m n) ≡ (c || d)
  at true d e f = lt-ltb limit (max m n) (first limit m n (ltb-true limit m e))
  at false true e f = lt-ltb limit (max m n) (second limit m n (ltb-true limit n f))
  at false false e f = le-ltb limit (max m n) (neither limit m n (ltb-false limit m e) (ltb-false limit n f))
