-- What a plain machine stands for, and what an entry does to it.
use Rattle.std.specs.Prelude.{Err, None, Ok, Option, Result, Some, refl, ℕ, ◌≡◌, ◌∷◌, []}
use Rattle.std.specs.Coded.{Coded, code_by, coded_ℕ, coded×}
use Rattle.obq_base.specs.declared.acts.Entry.{Entry}
use Rattle.obq_model.specs.Config.{Config}
use Rattle.obq_model.specs.Refusals as m
use Rattle.obq_model.specs.Refusals.{why_not}
use Rattle.obq_model.specs.Replay.{IsOver, TakeTurns, take_entry}
use Rattle.obq_plain.specs.Code.{config_code}
use Rattle.obq_plain.specs.declared.refusals.TakeRefused.{TakeRefused}
use Rattle.obq_plain.specs.declared.refusals.Why.{Why}

-- a configuration, with the number of sites, whose writers are its first cells, and the turn limit
pub record PlainState : Type 0 where
  pub config : Config
  pub sites : ℕ
  pub turns : ℕ

abbrev pub plain_code : Coded PlainState
plain_code =
    code_by (Config × (ℕ × ℕ)) (coded× config_code (coded× coded_ℕ coded_ℕ))
    (λ s. (s.config, (s.sites, s.turns))) (λ p. record { config = p.0; sites = p.1.0; turns = p.1.1 }) (λ _. refl)

-- the reason of the definition
abbrev pub why_of : Why → m.Why
why_of Why.NoThread = m.NoThread
why_of Why.Turns = m.TooManyTurns
why_of Why.NoPure = m.NoPure
why_of Why.Waits = m.ActWaits
why_of (Why.WrongAct should) = m.WrongAct should

-- An entry is taken where it is legal, and else refused for its first reason. After a refusal, and where memory is wanting, the machine is as it was.
abbrev pub TakeCases : {T : Type 0} → PlainState → Entry → Result T TakeRefused → PlainState → Type 0
TakeCases old e (Ok done) new = (take_entry old.turns old.config e ≡ Some new.config) × (new.sites ≡ old.sites) × (new.turns ≡ old.turns)
TakeCases old e (Err (TakeRefused.NotLegal why)) new = (why_not old.turns old.config e ≡ Some (why_of why)) × (new ≡ old)
TakeCases old e (Err TakeRefused.NoMemory) new = new ≡ old

-- an entry that is legal and takes a turn; none where no thread is able
abbrev pub IsNextOf : (turns : ℕ) → Config → Option Entry → Type 0
IsNextOf turns k None = IsOver turns k
IsNextOf turns k (Some e) = ((after : Config) × (take_entry turns k e ≡ Some after)) × TakeTurns (e ∷ [])

-- what a machine says of its next entry
abbrev pub NextCases : PlainState → Option Entry → Type 0
NextCases s e = IsNextOf s.turns s.config e
