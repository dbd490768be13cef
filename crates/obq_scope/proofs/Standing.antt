-- What is emitted for a draft is code of that draft, wherever its procedures stand under the numbers that they got.
use Rattle.std.proofs.Common.{◌≡◌, ◌∙◌, ℕ, suc, List, [], ◌∷◌, ◌++◌, ◌+◌, Option, Some, refl, ap, sym, subst, inl, inr, length, slice_get, append_assoc, arith}
use Rattle.std.proofs.lemmas.List.{append-nil, length-append, length_push}
use Rattle.obq_base.specs.declared.code.Node.{Node}
use Rattle.obq_base.specs.declared.code.Node.TheVariants as n
use Rattle.obq_base.specs.declared.code.Code.{Code}
use Rattle.obq_base.specs.declared.code.CodeNo.{CodeNo}
use Rattle.obq_base.specs.declared.code.Slot.{Slot}
use Rattle.obq_base.specs.Tree.{RecBindTrees, NoRecBinds, ARecBind, ProcedureTree, AProc}
use Rattle.obq_model.specs.Draft.{Draft, Done, Plain, Both, Closure, Method, Group, Members, NoMembers, AMember, body_of, count_params, draft_block, draft_body, params_of}
use Rattle.obq_model.specs.Procedures.{AreMembers, IsGrouped, IsLiteral, Proc, proc_in}
use Rattle.obq_model.specs.Resolved.{AreCodes, IsCode, IsCodeOf, IsNumbered}
use Rattle.obq_model.specs.Scopes.{Outside}
use Rattle.obq_model.proofs.Drafted.{AreDrafted, IsCaptured, IsDrafted}
use Rattle.obq_scope.specs.declared.output.Output.{Output}
use Rattle.obq_scope.specs.Emitted.{closed, emitted, member_numbers, next_number, opened, with_members, with_node}
use Rattle.obq_scope.specs.Tabled.{tabled, tabled_members}

-- these procedures stand under the numbers from this one on
abbrev pub Knows : (CodeNo → Option Proc) → (source first : ℕ) → List Proc → Type 0
Knows procs source first [] = Unit {0}
Knows procs source first (p ∷ ps) = (procs (record { source = source; n = first }) ≡ Some p) × Knows procs source (suc first) ps

pub knows_left : (procs : CodeNo → Option Proc) (source first : ℕ) (ps qs : List Proc) → Knows procs source first (ps ++ qs) → Knows procs source first ps
knows_left procs source first [] qs k = tt
knows_left procs source first (p ∷ ps) qs k = (k.0, knows_left procs source (suc first) ps qs k.1)

pub knows_right : (procs : CodeNo → Option Proc) (source first : ℕ) (ps qs : List Proc) (m : ℕ) → m ≡ first + length ps → Knows procs source first (ps ++ qs) → Knows procs source m qs
knows_right procs source first [] qs m e k = subst (λ j. Knows procs source j qs) (back first m e) k where
  back : (first m : ℕ) → m ≡ first + 0 → first ≡ m
  back first m e = omega (arith, e)
knows_right procs source first (p ∷ ps) qs m e k = knows_right procs source (suc first) ps qs m (over first (length ps) m e) k.1 where
  over : (first l m : ℕ) → m ≡ first + suc l → m ≡ suc first + l
  over first l m e = omega (arith, e)

pub codes_append : (procs : CodeNo → Option Proc) (source first : ℕ) (cs ds : List Code) (ps qs : List Proc) (m : ℕ) → m ≡ first + length cs
    → AreCodes procs source first cs ps → AreCodes procs source m ds qs → AreCodes procs source first (cs ++ ds) (ps ++ qs)
codes_append procs source first [] ds [] qs m e h k = subst (λ j. AreCodes procs source j ds qs) (same first m e) k where
  same : (first m : ℕ) → m ≡ first + 0 → m ≡ first
  same first m e = omega (arith, e)
codes_append procs source first (c ∷ cs) ds (p ∷ ps) qs m e h k = (h.0, codes_append procs source (suc first) cs ds ps qs m (over first (length cs) m e) h.1 k) where
  over : (first l m : ℕ) → m ≡ first + suc l → m ≡ suc first + l
  over first l m e = omega (arith, e)
codes_append procs source first [] ds (p ∷ ps) qs m e h k = absurd h
codes_append procs source first (c ∷ cs) ds [] qs m e h k = absurd h

-- nodes, codes and procedures are added; the nodes are the draft's, and the codes those of the procedures, wherever these are known
pub record Stands (source : ℕ) (d : Draft) (before after : Output) : Type 0 where
  pub nodes : List Node
  pub codes : List Code
  pub procs : List Proc
  pub nodes_are : after.nodes ≡ before.nodes ++ nodes
  pub codes_are : after.codes ≡ before.codes ++ codes
  pub procs_are : procs ≡ tabled source d before
  pub many : length codes ≡ length procs
  pub reads : (f : CodeNo → Option Proc) → Knows f source (length before.codes) procs → (rest : List Node) → IsCode f d (nodes ++ rest) rest
  pub stand : (f : CodeNo → Option Proc) → Knows f source (length before.codes) procs → AreCodes f source (length before.codes) codes procs

-- the members of a group, from the one with this index on
record Stand (source captures : ℕ) (u : Outside) (bs : RecBindTrees) (bodies : Members) (group : List CodeNo) (index : ℕ) (before after : Output) (numbers : List CodeNo) : Type 0 where
  codes : List Code
  procs : List Proc
  nodes_are : after.nodes ≡ before.nodes
  codes_are : after.codes ≡ before.codes ++ codes
  procs_are : procs ≡ tabled_members source captures u bs group index bodies before
  many : length codes ≡ length procs
  tells : (f : CodeNo → Option Proc) → Knows f source (length before.codes) procs → AreMembers f u group numbers index bs
  stand : (f : CodeNo → Option Proc) → Knows f source (length before.codes) procs
      → ((number : CodeNo) (p : ProcedureTree) (i : ℕ) → slice_get group i ≡ Some number → IsGrouped f number (proc_in u p group i))
      → ((k : ℕ) (number : CodeNo) → slice_get numbers k ≡ Some number → slice_get group (index + k) ≡ Some number)
      → AreCodes f source (length before.codes) codes procs

-- ---- a code that is whole, behind those of its body

module _ {source : ℕ} {body : Draft} (before : Output) {inner : Output} (b : Stands source body (opened before) inner) (code : Code) (p : Proc) (f : CodeNo → Option Proc) (cs : List Code) (qs : List Proc) where
  many_inside : length inner.codes ≡ length before.codes + length b.codes
  many_inside = ap length b.codes_are ∙ length-append before.codes b.codes

  many_procs : length inner.codes ≡ length before.codes + length b.procs
  many_procs = many_inside ∙ ap (λ j. length before.codes + j) b.many

  one_more : length (inner.codes ++ code ∷ []) ≡ suc (length inner.codes)
  one_more = length_push inner.codes code ∙ next (length inner.codes) where
    next : (l : ℕ) → l + 1 ≡ suc l
    next l = omega arith

  known_inside : Knows f source (length before.codes) (b.procs ++ p ∷ qs) → Knows f source (length before.codes) b.procs
  known_inside k = knows_left f source (length before.codes) b.procs (p ∷ qs) k

  known_here : Knows f source (length before.codes) (b.procs ++ p ∷ qs) → f (next_number source inner) ≡ Some p
  known_here k = (knows_right f source (length before.codes) b.procs (p ∷ qs) (length inner.codes) many_procs k).0

  known_behind : Knows f source (length before.codes) (b.procs ++ p ∷ qs) → Knows f source (length (inner.codes ++ code ∷ [])) qs
  known_behind k = subst (λ j. Knows f source j qs) (sym one_more) (knows_right f source (length before.codes) b.procs (p ∷ qs) (length inner.codes) many_procs k).1

  stand_all : Knows f source (length before.codes) (b.procs ++ p ∷ qs) → IsNumbered f (next_number source inner) code p → AreCodes f source (length (inner.codes ++ code ∷ [])) cs qs
      → AreCodes f source (length before.codes) (b.codes ++ code ∷ cs) (b.procs ++ p ∷ qs)
  stand_all k h r =
      codes_append f source (length before.codes) b.codes (code ∷ cs) b.procs (p ∷ qs) (length inner.codes) many_inside (b.stand f (known_inside k))
      (h, subst (λ j. AreCodes f source j cs qs) one_more r)

-- so many are added
many_added : {source : ℕ} {body : Draft} (before : Output) {inner : Output} (b : Stands source body (opened before) inner) (code : Code) (p : Proc) (cs : List Code) (qs : List Proc) → length cs ≡ length qs
    → length (b.codes ++ code ∷ cs) ≡ length (b.procs ++ p ∷ qs)
many_added before b code p cs qs e = length-append b.codes (code ∷ cs) ∙ ap (λ j. j + suc (length cs)) b.many ∙ ap (λ j. length b.procs + suc j) e ∙ sym (length-append b.procs (p ∷ qs))

-- these are the codes
codes_added : {source : ℕ} {body : Draft} (before : Output) {inner : Output} (b : Stands source body (opened before) inner) (code : Code) (after : Output) (cs : List Code)
    → after.codes ≡ (inner.codes ++ code ∷ []) ++ cs → after.codes ≡ before.codes ++ (b.codes ++ code ∷ cs)
codes_added {source} {body} before {inner} b code after cs e =
    e ∙ append_assoc inner.codes (code ∷ []) cs ∙ ap (λ z. z ++ (code ∷ cs)) b.codes_are ∙ append_assoc before.codes b.codes (code ∷ cs)

body_drafted : (u : Outside) (p : ProcedureTree) → draft_body u p ≡ draft_block u (params_of p) (body_of p)
body_drafted u (AProc params b place) = refl

-- its nodes are those of its body
code_is : {source : ℕ} {body : Draft} (before : Output) {inner : Output} (b : Stands source body (opened before) inner) (captures : ℕ) (u : Outside) (p : ProcedureTree) (group : List CodeNo) (index : ℕ)
    → body ≡ draft_body u p → captures ≡ length u.captured → (f : CodeNo → Option Proc) → Knows f source (length before.codes) b.procs
    → IsCodeOf f (record { params = count_params p; captures = captures; nodes = inner.nodes }) (proc_in u p group index)
code_is {source} {body} before {inner} b captures u p group index e g f k = record {
  params_are = refl;
  captures_are = g;
  reads = subst (λ (d : Draft). IsCode f d inner.nodes []) (e ∙ body_drafted u p) (subst (λ (x : List Node). IsCode f body x []) (append-nil b.nodes ∙ sym b.nodes_are) (b.reads f k []));
}

literal : (from : List Slot) (u : Outside) (p : ProcedureTree) → IsCaptured from u p → IsLiteral (proc_in u p [] 0)
literal from u (AProc params b place) c = record { around = c.around; names = c.names; place = place; outside = c.outside; group = refl }

-- a node behind the code of a procedure or method, and what follows
record Behind (source : ℕ) (p : Proc) (body d : Draft) (a : Node) (before inner next after : Output) : Type 0 where
  rest : List Node
  codes : List Code
  procs : List Proc
  nodes_are : after.nodes ≡ before.nodes ++ a ∷ rest
  codes_are : after.codes ≡ before.codes ++ codes
  procs_are : procs ≡ tabled source body (opened before) ++ p ∷ tabled source d next
  many : length codes ≡ length procs
  here : (f : CodeNo → Option Proc) → Knows f source (length before.codes) procs → f (next_number source inner) ≡ Some p
  reads : (f : CodeNo → Option Proc) → Knows f source (length before.codes) procs → (more : List Node) → IsCode f d (rest ++ more) more
  stand : (f : CodeNo → Option Proc) → Knows f source (length before.codes) procs → AreCodes f source (length before.codes) codes procs

code_behind : (source : ℕ) (from : List Slot) (u : Outside) (p : ProcedureTree) (body d : Draft) (a : Node) (before inner after : Output)
    → IsCaptured from u p → body ≡ draft_body u p
    → Stands source body (opened before) inner → Stands source d (with_node a (closed (length from) (count_params p) before.nodes inner)) after
    → Behind source (proc_in u p [] 0) body d a before inner (with_node a (closed (length from) (count_params p) before.nodes inner)) after
code_behind source from u p body d a before inner after c e b s =
    let code : Code = record { params = count_params p; captures = length from; nodes = inner.nodes } in
    record {
      rest = s.nodes;
      codes = b.codes ++ (code ∷ s.codes);
      procs = b.procs ++ (proc_in u p [] 0 ∷ s.procs);
      nodes_are = s.nodes_are ∙ append_assoc before.nodes (a ∷ []) s.nodes;
      codes_are = codes_added before b code after s.codes s.codes_are;
      procs_are = ap (λ ps. ps ++ proc_in u p [] 0 ∷ s.procs) b.procs_are ∙ ap (λ ps. tabled source body (opened before) ++ proc_in u p [] 0 ∷ ps) s.procs_are;
      many = many_added before b code (proc_in u p [] 0) s.codes s.procs s.many;
      here = λ f k. known_here before b code (proc_in u p [] 0) f s.codes s.procs k;
      reads = λ f k more. s.reads f (known_behind before b code (proc_in u p [] 0) f s.codes s.procs k) more;
      stand = λ f k. stand_all before b code (proc_in u p [] 0) f s.codes s.procs k
          (record {
            proc_is = known_here before b code (proc_in u p [] 0) f s.codes s.procs k;
            code_is = code_is before b (length from) u p [] 0 e c.many f (known_inside before b code (proc_in u p [] 0) f s.codes s.procs k);
            made = inr (inl (literal from u p c));
          })
          (s.stand f (known_behind before b code (proc_in u p [] 0) f s.codes s.procs k));
    }

mutual
  pub stands : (source : ℕ) (d : Draft) → IsDrafted d → (out : Output) → Stands source d out (emitted source d out)
  stands source Done w out = record { nodes = []; codes = []; procs = []; nodes_are = sym (append-nil out.nodes); codes_are = sym (append-nil out.codes); procs_are = refl; many = refl; reads = λ f k rest. refl; stand = λ f k. tt }
  stands source (Plain a d) w out =
      let s : Stands source d (with_node a out) (emitted source d (with_node a out)) = stands source d w.2 (with_node a out) in
      record { nodes = a ∷ s.nodes; codes = s.codes; procs = s.procs; nodes_are = s.nodes_are ∙ append_assoc out.nodes (a ∷ []) s.nodes; codes_are = s.codes_are; procs_are = s.procs_are; many = s.many; reads = λ f k rest. (s.nodes ++ rest, refl, s.reads f k rest); stand = s.stand }
  stands source (Both d e) w out =
      let mid : Output = emitted source d out in
      let s : Stands source d out mid = stands source d w.0 out in
      let t : Stands source e mid (emitted source e mid) = stands source e w.1 mid in
      let here : length mid.codes ≡ length out.codes + length s.codes = ap length s.codes_are ∙ length-append out.codes s.codes in
      record {
        nodes = s.nodes ++ t.nodes;
        codes = s.codes ++ t.codes;
        procs = s.procs ++ t.procs;
        nodes_are = t.nodes_are ∙ ap (λ z. z ++ t.nodes) s.nodes_are ∙ append_assoc out.nodes s.nodes t.nodes;
        codes_are = t.codes_are ∙ ap (λ z. z ++ t.codes) s.codes_are ∙ append_assoc out.codes s.codes t.codes;
        procs_are = ap (λ ps. ps ++ t.procs) s.procs_are ∙ ap (λ ps. tabled source d out ++ ps) t.procs_are;
        many = length-append s.codes t.codes ∙ ap (λ j. j + length t.codes) s.many ∙ ap (λ j. length s.procs + j) t.many ∙ sym (length-append s.procs t.procs);
        reads = λ f k rest. (
          t.nodes ++ rest,
          subst (λ (x : List Node). IsCode f d x (t.nodes ++ rest)) (sym (append_assoc s.nodes t.nodes rest)) (s.reads f (knows_left f source (length out.codes) s.procs t.procs k) (t.nodes ++ rest)),
          t.reads f (knows_right f source (length out.codes) s.procs t.procs (length mid.codes) (here ∙ ap (λ j. length out.codes + j) s.many) k) rest,
        );
        stand = λ f k. codes_append f source (length out.codes) s.codes t.codes s.procs t.procs (length mid.codes) here (s.stand f (knows_left f source (length out.codes) s.procs t.procs k))
            (t.stand f (knows_right f source (length out.codes) s.procs t.procs (length mid.codes) (here ∙ ap (λ j. length out.codes + j) s.many) k));
      }
  stands source (Closure from u p body d) w out =
      let inner : Output = emitted source body (opened out) in
      let a : Node = n.Proc (next_number source inner) from in
      let b : Behind source (proc_in u p [] 0) body d a out inner (with_node a (closed (length from) (count_params p) out.nodes inner)) (emitted source d (with_node a (closed (length from) (count_params p) out.nodes inner)))
      = code_behind source from u p body d a out inner _ w.0 w.1 (stands source body w.2 (opened out)) (stands source d w.3 _) in
      record { nodes = a ∷ b.rest; codes = b.codes; procs = b.procs; nodes_are = b.nodes_are; codes_are = b.codes_are; procs_are = b.procs_are; many = b.many; reads = λ f k rest. (next_number source inner, b.rest ++ rest, refl, b.here f k, b.reads f k rest); stand = b.stand }
  stands source (Method from u p body d) w out =
      let inner : Output = emitted source body (opened out) in
      let a : Node = n.Meth (next_number source inner) from in
      let b : Behind source (proc_in u p [] 0) body d a out inner (with_node a (closed (length from) (count_params p) out.nodes inner)) (emitted source d (with_node a (closed (length from) (count_params p) out.nodes inner)))
      = code_behind source from u p body d a out inner _ w.0 w.1 (stands source body w.2 (opened out)) (stands source d w.3 _) in
      record { nodes = a ∷ b.rest; codes = b.codes; procs = b.procs; nodes_are = b.nodes_are; codes_are = b.codes_are; procs_are = b.procs_are; many = b.many; reads = λ f k rest. (next_number source inner, b.rest ++ rest, refl, b.here f k, b.reads f k rest); stand = b.stand }
  stands source (Group from u bs bodies d) w out =
      let inner : Output = with_members source (length from) bs bodies out in
      let numbers : List CodeNo = member_numbers source (length from) bs bodies out in
      let a : Node = n.LetRec numbers from in
      let m : Stand source (length from) u bs bodies numbers 0 out inner numbers = members_stand source (length from) u bs bodies w.0.many numbers 0 w.1 out in
      let s : Stands source d (with_node a inner) (emitted source d (with_node a inner)) = stands source d w.2 (with_node a inner) in
      let here : length inner.codes ≡ length out.codes + length m.codes = ap length m.codes_are ∙ length-append out.codes m.codes in
      record {
        nodes = a ∷ s.nodes;
        codes = m.codes ++ s.codes;
        procs = m.procs ++ s.procs;
        nodes_are = s.nodes_are ∙ append_assoc inner.nodes (a ∷ []) s.nodes ∙ ap (λ z. z ++ (a ∷ s.nodes)) m.nodes_are;
        codes_are = s.codes_are ∙ ap (λ z. z ++ s.codes) m.codes_are ∙ append_assoc out.codes m.codes s.codes;
        procs_are = ap (λ ps. ps ++ s.procs) m.procs_are ∙ ap (λ ps. tabled_members source (length from) u bs numbers 0 bodies out ++ ps) s.procs_are;
        many = length-append m.codes s.codes ∙ ap (λ j. j + length s.codes) m.many ∙ ap (λ j. length m.procs + j) s.many ∙ sym (length-append m.procs s.procs);
        reads = λ f k rest. (
          numbers,
          s.nodes ++ rest,
          refl,
          m.tells f (knows_left f source (length out.codes) m.procs s.procs k),
          s.reads f (knows_right f source (length out.codes) m.procs s.procs (length inner.codes) (here ∙ ap (λ j. length out.codes + j) m.many) k) rest,
        );
        stand = λ f k. codes_append f source (length out.codes) m.codes s.codes m.procs s.procs (length inner.codes) here
            (m.stand f (knows_left f source (length out.codes) m.procs s.procs k)
            (λ number p i e. record { around = w.0.around; names = w.0.names; binds = bs; outside = w.0.outside; members = m.tells f (knows_left f source (length out.codes) m.procs s.procs k); own = e })
            (λ j number e. ap (slice_get numbers) (none_more j) ∙ e))
            (s.stand f (knows_right f source (length out.codes) m.procs s.procs (length inner.codes) (here ∙ ap (λ j. length out.codes + j) m.many) k));
      } where
        none_more : (j : ℕ) → 0 + j ≡ j
        none_more j = omega arith

  members_stand : (source captures : ℕ) (u : Outside) (bs : RecBindTrees) (bodies : Members) → captures ≡ length u.captured → (group : List CodeNo) (index : ℕ) → AreDrafted u bs bodies → (out : Output)
      → Stand source captures u bs bodies group index out (with_members source captures bs bodies out) (member_numbers source captures bs bodies out)
  members_stand source captures u NoRecBinds NoMembers g group index w out = record { codes = []; procs = []; nodes_are = refl; codes_are = sym (append-nil out.codes); procs_are = refl; many = refl; tells = λ f k. tt; stand = λ f k grouped place. tt }
  members_stand source captures u NoRecBinds (AMember body bodies) g group index w out = absurd w
  members_stand source captures u (ARecBind x p place bs) NoMembers g group index w out = absurd w
  members_stand source captures u (ARecBind x p place bs) (AMember body bodies) g group index w out =
      let inner : Output = emitted source body (opened out) in
      let code : Code = record { params = count_params p; captures = captures; nodes = inner.nodes } in
      let b : Stands source body (opened out) inner = stands source body w.1 (opened out) in
      let next : Output = closed captures (count_params p) out.nodes inner in
      let m : Stand source captures u bs bodies group (suc index) next (with_members source captures bs bodies next) (member_numbers source captures bs bodies next)
      = members_stand source captures u bs bodies g group (suc index) w.2 next in
      let it : Proc = proc_in u p group index in
      record {
        codes = b.codes ++ (code ∷ m.codes);
        procs = b.procs ++ (it ∷ m.procs);
        nodes_are = m.nodes_are;
        codes_are = codes_added out b code (with_members source captures bs bodies next) m.codes m.codes_are;
        procs_are = ap (λ ps. ps ++ it ∷ m.procs) b.procs_are ∙ ap (λ ps. tabled source body (opened out) ++ it ∷ ps) m.procs_are;
        many = many_added out b code it m.codes m.procs m.many;
        tells = λ f k. (known_here out b code it f m.codes m.procs k, m.tells f (known_behind out b code it f m.codes m.procs k));
        stand = λ f k grouped places. stand_all out b code it f m.codes m.procs k
            (record {
              proc_is = known_here out b code it f m.codes m.procs k;
              code_is = code_is out b captures u p group index w.0 g f (known_inside out b code it f m.codes m.procs k);
              made = inr (inr (grouped (next_number source inner) p index (ap (slice_get group) (first index) ∙ places 0 (next_number source inner) refl)));
            })
            (m.stand f (known_behind out b code it f m.codes m.procs k) grouped (λ j number e. ap (slice_get group) (over index j) ∙ places (suc j) number e));
      } where
        first : (index : ℕ) → index ≡ index + 0
        first index = omega arith

        over : (index j : ℕ) → suc index + j ≡ index + suc j
        over index j = omega arith
