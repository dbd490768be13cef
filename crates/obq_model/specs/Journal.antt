-- A journal as contracts see it: the turn limit of its run, and its entries in order.
use Rattle.std.specs.Prelude.{ℕ, List}
use Rattle.obq_base.specs.declared.acts.Entry.{Entry}

pub record Journal : Type 0 where
  pub turns : ℕ
  pub entries : List Entry
