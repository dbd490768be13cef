-- Acts that are the same.
use Rattle.std.proofs.Common.{Bool, ap, arith, false, refl, sym, true, true≢false, ℕ, ◌&&◌, ◌==◌, ◌∙◌, ◌≡◌}
use Rattle.std.proofs.lemmas.Bool.Decides.{nat_tests}
use Rattle.obq_base.specs.declared.acts.ActKind.{ActKind}
use Rattle.obq_base.specs.declared.acts.Act.{Act}
use Rattle.obq_model.specs.Config.{act}
use Rattle.obq_model.specs.Replay.{act_same, kind_same}

same_kind : (a : ActKind) → kind_same a a ≡ true
same_kind ActKind.New = refl
same_kind ActKind.Get = refl
same_kind ActKind.Call = refl
same_kind ActKind.Leave = refl
same_kind ActKind.Hop = refl
same_kind ActKind.Set = refl
same_kind ActKind.Copy = refl
same_kind ActKind.Redirect = refl
same_kind ActKind.ArrayGet = refl
same_kind ActKind.ArraySet = refl
same_kind ActKind.VarGet = refl
same_kind ActKind.VarSet = refl
same_kind ActKind.Put = refl
same_kind ActKind.Fork = refl
same_kind ActKind.Join = refl
same_kind ActKind.Line = refl
same_kind ActKind.GiveUp = refl
same_kind ActKind.Again = refl
same_kind ActKind.Signal = refl
same_kind ActKind.Broadcast = refl
same_kind ActKind.Export = refl
same_kind ActKind.Import = refl
same_kind ActKind.Engine = refl
same_kind ActKind.End = refl

kinds_equal : (a b : ActKind) → kind_same a b ≡ true → a ≡ b
kinds_equal ActKind.New ActKind.New e = refl
kinds_equal ActKind.Get ActKind.Get e = refl
kinds_equal ActKind.Call ActKind.Call e = refl
kinds_equal ActKind.Leave ActKind.Leave e = refl
kinds_equal ActKind.Hop ActKind.Hop e = refl
kinds_equal ActKind.Set ActKind.Set e = refl
kinds_equal ActKind.Copy ActKind.Copy e = refl
kinds_equal ActKind.Redirect ActKind.Redirect e = refl
kinds_equal ActKind.ArrayGet ActKind.ArrayGet e = refl
kinds_equal ActKind.ArraySet ActKind.ArraySet e = refl
kinds_equal ActKind.VarGet ActKind.VarGet e = refl
kinds_equal ActKind.VarSet ActKind.VarSet e = refl
kinds_equal ActKind.Put ActKind.Put e = refl
kinds_equal ActKind.Fork ActKind.Fork e = refl
kinds_equal ActKind.Join ActKind.Join e = refl
kinds_equal ActKind.Line ActKind.Line e = refl
kinds_equal ActKind.GiveUp ActKind.GiveUp e = refl
kinds_equal ActKind.Again ActKind.Again e = refl
kinds_equal ActKind.Signal ActKind.Signal e = refl
kinds_equal ActKind.Broadcast ActKind.Broadcast e = refl
kinds_equal ActKind.Export ActKind.Export e = refl
kinds_equal ActKind.Import ActKind.Import e = refl
kinds_equal ActKind.Engine ActKind.Engine e = refl
kinds_equal ActKind.End ActKind.End e = refl
kinds_equal a b e = absurd (true≢false (sym e))

test_refl : (n : ℕ) → (n == n) ≡ true
test_refl n = grind (arith, nat_tests)

test_same : (j k : ℕ) → (j == k) ≡ true → j ≡ k
test_same j k e = grind (arith, nat_tests)

-- an act is the same as itself
pub same_act : (a : Act) → act_same a a ≡ true
same_act a = ap (λ b. b && a.loc == a.loc) (same_kind a.kind) ∙ test_refl a.loc

both : (a b : Act) (x y : Bool) → kind_same a.kind b.kind ≡ x → (a.loc == b.loc) ≡ y → (x && y) ≡ true → a ≡ b
both a b true true e f h = ap (λ k. act k a.loc) (kinds_equal a.kind b.kind e) ∙ ap (act b.kind) (test_same a.loc b.loc f)
both a b true false e f h = absurd (cc h)
both a b false y e f h = absurd (cc h)

-- acts that are told to be the same are equal
pub acts_equal : (a b : Act) → act_same a b ≡ true → a ≡ b
acts_equal a b h = both a b (kind_same a.kind b.kind) (a.loc == b.loc) refl refl h
