-- The replies posted are those that the located fold counts, but for those of activations that have been left.
use Rattle.std.specs.Prelude.{Bool, true, false, if◌then◌else◌, List, Option, Some, None, [], ◌∷◌, ◌++◌, ◌&&◌, ◌==◌, ℕ, suc, zero, length, refl, replicate, slice_get, slice_index_or, slice_set, unwrap_or, ◌+◌, ◌<◌, ◌≡◌, ◌⊎◌}
use Rattle.std.proofs.Common.{inl, inr, ap, sym, ◌∙◌, subst, arith, true≢false}
use Rattle.std.proofs.lemmas.Option.{slice_get-get_or, unwrap_or-slice_get}
use Rattle.obq_base.specs.declared.acts.Act.{Act}
use Rattle.obq_base.specs.Tree.{BlockTree}
use Rattle.obq_model.specs.Terms.{Term}
use Rattle.obq_model.specs.Step.{Self, no_self, Operation, Frame, Needs, find}
use Rattle.obq_model.specs.Store.{same_loc}
use Rattle.obq_model.specs.Config.{Execution, Running, Returned, Failed, Config}
use Rattle.obq_model.specs.Located.{Located, Message, message, sent, activations_of, located_run, locate_execution, thread_activations, site_here, site_at, place_in, turned, Trail}
use Rattle.obq_model.specs.Located as located
use Rattle.obq_model.specs.Replay.{after_pure}
use Rattle.obq_model.proofs.Slices.{set_other, set_length}
use Rattle.obq_laws.specs.Determinism.{entry_of}
use Rattle.obq_laws.specs.Messages.{open_calls}
use Rattle.obq_laws.proofs.Trails.{no_message, sent_more}
use Rattle.obq_stands.specs.World.{Ref, same_ref, PendingCall, Segment, Slot, World}
use Rattle.obq_stands.specs.Stands.{Link, Table, Chained, Place, At, StandsFor}
use Rattle.obq_stands.specs.Begun.{HasBegun, AreBegun}
use Rattle.obq_stands.specs.AtSites.{sites_around, TrailIs, AreTrails}
use Rattle.obq_stands.specs.Counts.{sum_to, one_if, left_of, left_in}
use Rattle.obq_stands.proofs.ActiveLinks.{AreActive, waits_inside, chain_here}
use Rattle.obq_stands.proofs.Counts.{sum_changes, gain, gain_here, gain_other}
use Rattle.obq_stands.proofs.CellsThere.{onward}
use Rattle.obq_stands.proofs.EntryTrails.{more_other, trail_before}
use Rattle.obq_stands.proofs.HomeTrails.{first_site}
use Rattle.obq_stands.proofs.Moves.{out_running}
use Rattle.obq_stands.proofs.SitedTrails.{own_trail, trails_of}
use Rattle.obq_stands.proofs.RequestCounts.{sent_gain}
use Rattle.obq_stands.proofs.Update.{same_or, test_refl, test_no}

-- ---- open calls of a trail

-- a segment's own sites add the call that it answers
open_run : (a b m s x : ℕ) (xs : List ℕ) → sent a b (open_calls (replicate (suc m) s ++ x ∷ xs)) ≡ sent a b (message x s) + sent a b (open_calls (x ∷ xs))
open_run a b zero s x xs = sent_more a b (message x s) (open_calls (x ∷ xs))
open_run a b (suc m) s x xs = ap (λ (z : List Message). sent a b (z ++ open_calls (replicate (suc m) s ++ x ∷ xs))) (no_message s) ∙ open_run a b m s x xs

-- at the bottom there is none
open_alone : (a b n s : ℕ) → sent a b (open_calls (replicate n s ++ s ∷ [])) ≡ 0
open_alone a b zero s = refl
open_alone a b (suc zero) s = ap (λ (z : List Message). sent a b (z ++ [])) (no_message s)
open_alone a b (suc (suc n)) s = ap (λ (z : List Message). sent a b (z ++ open_calls (replicate (suc n) s ++ s ∷ []))) (no_message s) ∙ open_alone a b (suc n) s

-- the call that a segment at s answers, where it is one from a to b
abbrev pub called : (a b s : ℕ) → Option PendingCall → ℕ
called a b s None = 0
called a b s (Some k) = sent a b (message k.site s)

-- an activation that has been left, for the pair
abbrev pub left_there : (a b s : ℕ) → Option PendingCall → ℕ → ℕ
left_there a b s an n = if b == s then left_of a an n else 0

pub left_called : (a b s : ℕ) (k : PendingCall) → (a ≡ b → ⊥) → left_there a b s (Some k) 0 ≡ sent a b (message k.site s)
left_called a b s k apart = by (same_or b s) (same_or a k.site) ∙ sym (sent_gain a b k.site s apart)
  where
    one : (x : Bool) → x ≡ true → one_if (x && true) ≡ 1
    one x e = ap (λ z. one_if (z && true)) e

    none : (x : Bool) → x ≡ false → one_if (x && true) ≡ 0
    none x e = ap (λ z. one_if (z && true)) e

    by : ((b ≡ s) ⊎ (b ≡ s → ⊥)) → ((a ≡ k.site) ⊎ (a ≡ k.site → ⊥)) → left_there a b s (Some k) 0 ≡ gain true a b k.site s
    by (inl e) (inl f) = ap (λ x. if x then left_of a (Some k) 0 else 0) (ap (λ z. b == z) (sym e) ∙ test_refl b) ∙ one (k.site == a) (ap (λ z. z == a) (sym f) ∙ test_refl a) ∙ sym (gain_here true a b k.site s f e)
    by (inl e) (inr g) = ap (λ x. if x then left_of a (Some k) 0 else 0) (ap (λ z. b == z) (sym e) ∙ test_refl b) ∙ none (k.site == a) (test_no k.site a (λ q. g (sym q))) ∙ sym (gain_other true a b k.site s (λ f _. g f))
    by (inr g) q = ap (λ x. if x then left_of a (Some k) 0 else 0) (test_no b s g) ∙ sym (gain_other true a b k.site s (λ _ f. g f))

left_none : (a b s m : ℕ) (k : PendingCall) → left_there a b s (Some k) (suc m) ≡ 0
left_none a b s m k = ap (λ z. if b == s then one_if (k.site == a && z) else 0) (test_no (suc m) 0 (λ e. absurd (cc e))) ∙ by (b == s) (k.site == a)
  where
    by : (x y : Bool) → (if x then one_if (y && false) else 0) ≡ 0
    by true true = refl
    by true false = refl
    by false y = refl

pub left_bottom : (a b s n : ℕ) → left_there a b s None n ≡ 0
left_bottom a b s n = by (b == s)
  where
    by : (x : Bool) → (if x then left_of a None n else 0) ≡ 0
    by true = refl
    by false = refl

-- what a running segment's trail and itself come to
run_owes : (a b s n x : ℕ) (k : PendingCall) (xs : List ℕ) → (a ≡ b → ⊥) → x ≡ k.site → sent a b (open_calls (replicate n s ++ x ∷ xs)) + left_there a b s (Some k) n ≡ sent a b (message k.site s) + sent a b (open_calls (x ∷ xs))
run_owes a b s zero x k xs apart e = ap (λ n. sent a b (open_calls (x ∷ xs)) + n) (left_called a b s k apart) ∙ turn (sent a b (open_calls (x ∷ xs))) (sent a b (message k.site s))
  where
    turn : (m n : ℕ) → m + n ≡ n + m
    turn m n = omega arith
run_owes a b s (suc m) x k xs apart e =
    ap (λ n. sent a b (open_calls (replicate (suc m) s ++ x ∷ xs)) + n) (left_none a b s m k) ∙ plus_none (sent a b (open_calls (replicate (suc m) s ++ x ∷ xs))) ∙ open_run a b m s x xs
    ∙ ap (λ z. sent a b (message z s) + sent a b (open_calls (x ∷ xs))) e
  where
    plus_none : (n : ℕ) → n + 0 ≡ n
    plus_none n = omega arith

both_none : (m n : ℕ) → m ≡ 0 → n ≡ 0 → m + n ≡ 0
both_none m n e f = omega arith

chain_owes : (w : World) (a b s t n d : ℕ) (self : Self Ref) (an : Option PendingCall) (ls : List Link) → (a ≡ b → ⊥) → AreActive w → AreBegun w → Chained w.pending t d self an ls
    → sent a b (open_calls (replicate n s ++ sites_around s ls)) + left_there a b s an n ≡ called a b s an + sent a b (open_calls (sites_around s ls))
chain_owes w a b s t n d self None [] apart act begun ch = both_none (sent a b (open_calls (replicate n s ++ s ∷ []))) (left_there a b s None n) (open_alone a b n s) (left_bottom a b s n)
chain_owes w a b s t n d self None (l ∷ ls) apart act begun ch = absurd ch
chain_owes w a b s t n d self (Some k) [] apart act begun ch = absurd ch
chain_owes w a b s t n d self (Some k) (l ∷ ls) apart act begun ch =
    let f = first_site s (l ∷ ls) in
    let here : f.0 ≡ k.site = sym (ap site_here f.2) ∙ chain_here w t d s self (Some k) l ls act begun ch ∙ ap (λ (z : PendingCall). z.site) (sym ch.0) in
    ap (λ (z : List ℕ). sent a b (open_calls (replicate n s ++ z)) + left_there a b s (Some k) n) f.2 ∙ run_owes a b s n f.0 k f.1 apart here ∙ ap (λ (z : List ℕ). sent a b (message k.site s) + sent a b (open_calls z)) (sym f.2)

-- ---- a thread's part

abbrev pub trail_of : Located → ℕ → List ℕ
trail_of l t = slice_index_or l.thread_sites t []

-- the open calls from a to b in a thread's trail, and a call from there whose activation has been left at b
abbrev pub owes : World → Located → (a b t : ℕ) → ℕ
owes w l a b t = sent a b (open_calls (trail_of l t)) + left_in a (w.running b t)

abbrev pub is_running : Place → Bool
is_running (At s slot) = true
is_running y = false

abbrev site_in : Place → ℕ
site_in (At s slot) = s
site_in y = 0

-- where a thread is that runs nowhere
pub left_away : (trees : List BlockTree) (turns : ℕ) (w : World) (inv : StandsFor trees turns w) (a b t : ℕ) (y : Place) → inv.stands.place t ≡ y → is_running y ≡ false → left_in a (w.running b t) ≡ 0
left_away trees turns w inv a b t y e none = by (w.running b t) refl
  where
    by : (o : Option Slot) → w.running b t ≡ o → left_in a o ≡ 0
    by None q = refl
    by (Some slot) q = absurd (true≢false (ap is_running (sym (inv.stands.placed.runs b t slot q) ∙ e) ∙ none))

-- where its segment runs
pub left_here : (trees : List BlockTree) (turns : ℕ) (w : World) (inv : StandsFor trees turns w) (a b s t : ℕ) (slot : Slot) → w.running s t ≡ Some slot → left_in a (w.running b t) ≡ left_there a b s slot.segment.answers (activations_of slot.segment.window)
left_here trees turns w inv a b s t slot is = by (same_or b s)
  where
    n : ℕ
    n = activations_of slot.segment.window

    none : (b ≡ s → ⊥) → (o : Option Slot) → w.running b t ≡ o → left_in a o ≡ 0
    none ne None q = refl
    none ne (Some y) q = absurd (ne (ap site_in (sym (inv.stands.placed.runs b t y q) ∙ inv.stands.placed.runs s t slot is)))

    by : (b ≡ s) ⊎ (b ≡ s → ⊥) → left_in a (w.running b t) ≡ left_there a b s slot.segment.answers n
    by (inl e) = ap (λ z. left_in a (w.running z t)) e ∙ ap (left_in a) is ∙ sym (ap (λ x. if x then left_of a slot.segment.answers n else 0) (ap (λ z. z == s) e ∙ test_refl s))
    by (inr ne) = none ne (w.running b t) refl ∙ sym (ap (λ x. if x then left_of a slot.segment.answers n else 0) (test_no b s ne))

-- the part of a thread with a running segment
pub running_owes : (trees : List BlockTree) (turns : ℕ) (w : World) (inv : StandsFor trees turns w) (l : Located) (a b s t d : ℕ) (slot : Slot) (self : Self Ref) (ls : List Link) → (a ≡ b → ⊥) → AreActive w → AreBegun w → located_run trees turns w.journal ≡ Some l → AreTrails trees turns w inv l
    → w.running s t ≡ Some slot → Chained w.pending t d self slot.segment.answers ls → owes w l a b t ≡ called a b s slot.segment.answers + sent a b (open_calls (sites_around s ls))
running_owes trees turns w inv l a b s t d slot self ls apart act begun r h is ch =
    ap (λ (z : List ℕ). sent a b (open_calls z) + left_in a (w.running b t)) (own_trail trees turns w inv l s t d slot self ls r h is ch)
    ∙ ap (λ n. sent a b (open_calls (replicate (activations_of slot.segment.window) s ++ sites_around s ls)) + n) (left_here trees turns w inv a b s t slot is)
    ∙ chain_owes w a b s t (activations_of slot.segment.window) d self slot.segment.answers ls apart act begun ch

-- a thread that is there has its trail
pub trail_is : (trees : List BlockTree) (turns : ℕ) (w : World) (inv : StandsFor trees turns w) (l : Located) (t : ℕ) → located_run trees turns w.journal ≡ Some l → AreTrails trees turns w inv l → t < w.threads → TrailIs w.pending t (inv.stands.place t) (trail_of l t)
trail_is trees turns w inv l t r h below = h t (trail_of l t) (slice_get-get_or l.thread_sites t [] (subst (λ n. t < n) (sym (trails_of trees turns w inv l r)) below))

-- ---- the other threads

others_kept : (sites : ℕ) (l : Located) (k : Config) (t n : ℕ) (a : Option Act) (x : Execution) (u : ℕ) → (u ≡ t → ⊥) → u < length l.thread_sites → slice_get (locate_execution sites l k (entry_of t n a) x).thread_sites u ≡ slice_get l.thread_sites u
others_kept sites l k t n None (Running v) u ne below = set_other l.thread_sites t (located.after_steps n v (trail_before l t)).0 u ne
others_kept sites l k t n (Some a) (Running v) u ne below =
    let v2 : Term ℕ = unwrap_or (after_pure n v) v in
    let tr : Trail = located.after_steps n v (trail_before l t) in
    let tr2 : Trail = turned (site_at sites l (site_here tr.0) (place_in (find same_loc 0 no_self v2))) (activations_of v2) (thread_activations k t) tr in
    more_other (length l.config.threads) (length k.threads) (site_here tr.0 ∷ []) (slice_set l.thread_sites t tr2.0) u (not_last u (length l.thread_sites) (length (slice_set l.thread_sites t tr2.0)) below (set_length l.thread_sites t tr2.0)) ∙ set_other l.thread_sites t tr2.0 u ne
  where
    not_last : (u n m : ℕ) → u < n → m ≡ n → u ≡ m → ⊥
    not_last u n m l e q = absurd (omega arith)
others_kept sites l k t n a (Returned v) u ne below = refl
others_kept sites l k t n a (Failed e) u ne below = refl

pub entry_others : (trees : List BlockTree) (turns : ℕ) (w x : World) (inv : StandsFor trees turns w) (l l2 : Located) (t n : ℕ) (a : Option Act) → located_run trees turns w.journal ≡ Some l → located_run trees turns x.journal ≡ Some l2 → x.journal ≡ w.journal ++ entry_of t n a ∷ []
    → (u : ℕ) → u < w.threads → (u ≡ t → ⊥) → slice_get l2.thread_sites u ≡ slice_get l.thread_sites u
entry_others trees turns w x inv l l2 t n a r r2 j u below ne =
    let o = onward trees turns w.journal (entry_of t n a) l l2 r (ap (located_run trees turns) (sym j) ∙ r2) in
    ap (λ (z : Located). slice_get z.thread_sites u) (sym o.is) ∙ others_kept (length trees) l o.config t n a o.state.execution u ne (subst (λ m. u < m) (sym (trails_of trees turns w inv l r)) below)

-- ---- sums over threads

abbrev pub all_owe : World → Located → (a b : ℕ) → ℕ
all_owe w l a b = sum_to w.threads (owes w l a b)

trail_same : (l l2 : Located) (u : ℕ) → slice_get l2.thread_sites u ≡ slice_get l.thread_sites u → trail_of l2 u ≡ trail_of l u
trail_same l l2 u e = sym (unwrap_or-slice_get l2.thread_sites u []) ∙ ap (λ (o : Option (List ℕ)). unwrap_or o []) e ∙ unwrap_or-slice_get l.thread_sites u []

-- an event of thread t, for the threads that were there
pub shift : (w x : World) (l l2 : Located) (a b t r q : ℕ) → t < w.threads → ((u : ℕ) → u < w.threads → (u ≡ t → ⊥) → slice_get l2.thread_sites u ≡ slice_get l.thread_sites u) → ((u : ℕ) → u < w.threads → (u ≡ t → ⊥) → x.running b u ≡ w.running b u)
    → owes x l2 a b t + r ≡ owes w l a b t + q → sum_to w.threads (owes x l2 a b) + r ≡ all_owe w l a b + q
shift w x l l2 a b t r q below trails runs own =
    let f : ℕ → ℕ = owes w l a b in
    let g : ℕ → ℕ = owes x l2 a b in
    let other : (u : ℕ) → u < w.threads → (u ≡ t → ⊥) → g u ≡ f u = λ u k ne. ap (λ (z : List ℕ). sent a b (open_calls z) + left_in a (x.running b u)) (trail_same l l2 u (trails u k ne)) ∙ ap (λ o. sent a b (open_calls (trail_of l u)) + left_in a o) (runs u k ne) in
    by (sum_to w.threads g) (sum_to w.threads f) (g t) (f t) r q (sum_changes w.threads t f g below other) own
  where
    by : (m n y z r q : ℕ) → m + z ≡ n + y → y + r ≡ z + q → m + r ≡ n + q
    by m n y z r q e f = omega arith

-- the part of a thread whose trail stays
pub own_by : (w x : World) (l l2 : Located) (a b t r q : ℕ) → trail_of l2 t ≡ trail_of l t → left_in a (x.running b t) + r ≡ left_in a (w.running b t) + q → owes x l2 a b t + r ≡ owes w l a b t + q
own_by w x l l2 a b t r q same left =
    ap (λ (z : List ℕ). sent a b (open_calls z) + left_in a (x.running b t) + r) same ∙ by (sent a b (open_calls (trail_of l t))) (left_in a (x.running b t)) (left_in a (w.running b t)) r q left
  where
    by : (m y z r q : ℕ) → y + r ≡ z + q → m + y + r ≡ m + z + q
    by m y z r q e = omega arith

-- ---- a segment that goes on, or waits

-- a segment that goes on
pub same_segment : (trees : List BlockTree) (turns : ℕ) (w x : World) (inv : StandsFor trees turns w) (inv2 : StandsFor trees turns x) (l l2 : Located) (a b s t : ℕ) (slot slot2 : Slot) → (a ≡ b → ⊥) → AreActive w → AreBegun w → AreActive x → AreBegun x → located_run trees turns w.journal ≡ Some l
    → located_run trees turns x.journal ≡ Some l2 → AreTrails trees turns w inv l → AreTrails trees turns x inv2 l2 → w.running s t ≡ Some slot → x.running s t ≡ Some slot2 → slot2.segment.answers ≡ slot.segment.answers → x.pending ≡ w.pending → owes x l2 a b t + 0 ≡ owes w l a b t + 0
same_segment trees turns w x inv inv2 l l2 a b s t slot slot2 apart act begun act2 begun2 r r2 h h2 is is2 an p =
    let goes = (out_running turns w inv.config s t slot inv.stands is).1 in
    let d : ℕ = slot.segment.depth in
    let self : Self Ref = slot.segment.self in
    let ls : List Link = goes.reads.links in
    let ch2 : Chained x.pending t d self slot2.segment.answers ls = subst (λ (f : Table). Chained f t d self slot2.segment.answers ls) (sym p) (subst (λ o. Chained w.pending t d self o ls) (sym an) goes.reads.chained) in
    ap (λ n. n + 0) (running_owes trees turns x inv2 l2 a b s t d slot2 self ls apart act2 begun2 r2 h2 is2 ch2
    ∙ ap (λ o. called a b s o + sent a b (open_calls (sites_around s ls))) an
    ∙ sym (running_owes trees turns w inv l a b s t d slot self ls apart act begun r h is goes.reads.chained))

-- a segment that waits has an activation, or answers nothing
pub waits_left : (a b s : ℕ) (seg : Segment) (op : Operation Ref) (hs : List (Frame Ref)) → HasBegun seg → find same_ref seg.depth seg.self seg.window ≡ Needs op hs → (n : ℕ) → ((m : ℕ) → activations_of seg.window ≡ suc m → (k : ℕ) × (n ≡ suc k)) → left_there a b s seg.answers n ≡ 0
waits_left a b s seg op hs (inl none) needs n f = ap (λ o. left_there a b s o n) none ∙ left_bottom a b s n
waits_left a b s seg op hs (inr entered) needs n f =
    let m = waits_inside seg op hs entered needs in
    let k = f m.0 m.1 in
    ap (left_there a b s seg.answers) k.1 ∙ by seg.answers k.0
  where
    by : (o : Option PendingCall) (k : ℕ) → left_there a b s o (suc k) ≡ 0
    by None k = left_bottom a b s (suc k)
    by (Some call) k = left_none a b s k call
