use Rattle.std.proofs.Common.{◌≡◌, ◌+◌, ◌≤◌, ◌<◌, ℕ, List, [], ◌++◌, length, min, take, drop, arith, ap, refl, sym, ◌∙◌, length-drop}
use Rattle.std.proofs.lemmas.List.{take-append-drop, drop-drop}
use Rattle.std.proofs.Math.ListN.{drop_of_length-le}
use Rattle.obq_io.specs.Named.{content_at}
use Rattle.obq_io.proofs.memory.MemFilesFiles.read.Goals as goal

-- what was copied stands in front of what is left
copied : (xs into : List ℕ) (from count : ℕ) → take count into ≡ take count (drop from xs) → drop from xs ≡ take count into ++ drop (from + count) xs
copied xs into from count same = sym (take-append-drop count (drop from xs)) ∙ (ap (λ w. w ++ drop count (drop from xs)) (sym same) ∙ ap (λ w. take count into ++ w) (drop-drop count from xs))

-- nothing was copied although there was room: nothing is left
at_end : (xs into : List ℕ) (from count : ℕ) → count ≡ min (length (drop from xs)) (length into) → count ≡ 0 → 0 < length into → drop (from + count) xs ≡ []
at_end xs into from count is none room =
    let past : length xs ≤ from + count = omega (arith, is, none, room, length-drop from xs) in
    drop_of_length-le xs past

pub returns-clause-bytes : goal.returns-clause-bytes
returns-clause-bytes c =
    let xs = content_at c.fails_now.new.self.files.items c.fails_now.new.self.at in
    let here : c.content_of.result.now ≡ xs = c.content_of.ensures ∙ ap (λ fs. content_at fs c.fails_now.new.self.at) c.deref.ensures.value in
    let from = c.fails_now.new.self.from in
    let count = c.copy_from-count.result in
    let into = c.copy_from-count.new.into in
    let bytes : take count into ≡ take count (drop from xs) = rw here at c.copy_from-count.ensures.bytes in
    let is : count ≡ min (length (drop from xs)) (length into) = rw here at c.copy_from-count.ensures.count ∙ ap (λ n. min (length (drop from xs)) n) (sym c.copy_from-count.auto.into) in
    let same : drop c.args.self.now.from (content_at c.args.self.now.files.items c.args.self.now.at) ≡ drop from xs = rw c.fails_now.ensures.same refl in
    (same ∙ copied xs into from count bytes, λ none room. at_end xs into from count is none room)
