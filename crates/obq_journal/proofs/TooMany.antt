-- Lines of too many words.
use Rattle.std.proofs.Common.{Bool, List, None, [], arith, length, refl, sym, ℕ, ◌+◌, ◌∷◌, ◌≡◌, ◌≤◌}
use Rattle.std.specs.List.{slice_split}
use Rattle.std.proofs.lemmas.List.Splits.{length-slice_split}
use Rattle.obq_model.specs.JournalText.{entry_in, entry_of_words, is_space, turns_in, turns_of_words}

some_part : (p : ℕ → Bool) (xs : List ℕ) → 1 ≤ length (slice_split p xs)
some_part p xs = omega (arith, length-slice_split p xs)

turns_more : (a b : List ℕ) (ws : List (List ℕ)) → 1 ≤ length ws → turns_of_words (a ∷ b ∷ ws) ≡ None
turns_more a b [] l = absurd (omega (arith, l))
turns_more a b (c ∷ ws) l = refl

entry_more : (a b c d : List ℕ) (ws : List (List ℕ)) → 1 ≤ length ws → entry_of_words (a ∷ b ∷ c ∷ d ∷ ws) ≡ None
entry_more a b c d [] l = absurd (omega (arith, l))
entry_more a b c d (e ∷ ws) l = refl

-- a second line of three words and more
pub no_turns : (line a behind b more : List ℕ) → slice_split is_space line ≡ a ∷ slice_split is_space behind → slice_split is_space behind ≡ b ∷ slice_split is_space more → None ≡ turns_in line
no_turns line a behind b more first second = rw (first, second) (sym (turns_more a b (slice_split is_space more) (some_part is_space more)))

-- an entry's line of five words and more
pub no_entry : (line a behind b then c last d more : List ℕ) → slice_split is_space line ≡ a ∷ slice_split is_space behind → slice_split is_space behind ≡ b ∷ slice_split is_space then → slice_split is_space then ≡ c ∷ slice_split is_space last → slice_split is_space last ≡ d ∷ slice_split is_space more → None ≡ entry_in line
no_entry line a behind b then c last d more first second third fourth = rw (first, second, third, fourth) (sym (entry_more a b c d (slice_split is_space more) (some_part is_space more)))
