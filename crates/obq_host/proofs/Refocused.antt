-- Windows behind forks and joins, put together from the moves that they are made of.
use Rattle.std.specs.Prelude.{Bool, List, None, Option, Some, option_map, ℕ, ◌≡◌}
use Rattle.std.proofs.Common.{ap, subst, ◌∙◌}
use Rattle.obq_base.specs.declared.places.Ref.{Ref}
use Rattle.obq_except.specs.declared.windows.Window.{Window}
use Rattle.obq_host.specs.Places.{IsWith, IsWithTwo, at_place}
use Rattle.obq_host.specs.Threads.{Forks, IsForked, Refocuses}
use Rattle.obq_host.proofs.Placing.{put_back, two_back}
use Rattle.obq_answers.specs.Forms.{with_focus}
use Rattle.obq_moves.specs.Views.{shown}
use Rattle.obq_windows.specs.Values.{PlainValue}
use Rattle.obq_windows.specs.Windows.{NodeFocus}

pub same_window : (o : Option Window) (v w : Window) → Some v ≡ o → o ≡ Some w → v ≡ w
same_window o v w e f = cc (e, f)

pub refocused : (old mid new : List (Option Window)) (t : ℕ) (v w x : Window) (focus : NodeFocus Ref)
    → Some v ≡ at_place old t → IsWith old t None mid → shown x ≡ with_focus focus (shown v) → IsWith mid t (Some x) new → at_place old t ≡ Some w → Refocuses old t (shown w) focus new
refocused old mid new t v w x focus there out is into here =
    let same : v ≡ w = same_window (at_place old t) v w there here in
    record { window = x; is = is ∙ ap (λ z. with_focus focus (shown z)) same; windows = put_back old mid new t x out into }

pub forked : (old mid new : List (Option Window)) (t : ℕ) (v w x : Window) (begun : Option Window) (f : PlainValue Ref) (threads : ℕ) (made : Bool)
    → Some v ≡ at_place old t → IsWith old t None mid → IsForked (shown v) f threads (shown x) (option_map shown begun) → IsWithTwo mid t x threads begun made new → at_place old t ≡ Some w → Forks old t (shown w) f threads made new
forked old mid new t v w x begun f threads made there out is into here =
    let same : v ≡ w = same_window (at_place old t) v w there here in
    record { window = x; begun = begun; is = subst (λ z. IsForked (shown z) f threads (shown x) (option_map shown begun)) same is; windows = two_back old mid new t x threads begun made out into }
