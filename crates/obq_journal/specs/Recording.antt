-- A journal that grows, as contracts see it: what it shows, and for how many entries more it has room.
use Rattle.std.specs.Prelude.{List, ℕ}
use Rattle.obq_base.specs.declared.acts.Entry.{Entry}
use Rattle.obq_model.specs.Journal.{Journal}

pub record Recording : Type 0 where
  pub turns : ℕ
  pub entries : List Entry
  pub spare : ℕ

-- the journal without its room
abbrev pub shown : Recording → Journal
shown recording = record { turns = recording.turns; entries = recording.entries }
