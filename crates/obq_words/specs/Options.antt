-- How many words the options of `run` can still take.
use Rattle.std.specs.Prelude.{Bool, None, Option, Some, false, true, ℕ, ◌+◌}
use Rattle.obq_words.specs.declared.options.RunOptions.{RunOptions}

abbrev pub open_number : Option ℕ → ℕ
open_number None = 2
open_number (Some n) = 0

abbrev pub open_flag : Bool → ℕ
open_flag false = 1
open_flag true = 0

abbrev pub words_open : RunOptions → ℕ
words_open options = open_number options.turns + open_number options.workers + open_flag options.journal + open_flag options.links
