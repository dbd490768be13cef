-- What several reads and writes in a row do, where bytes are told.
use Rattle.std.proofs.Common.{ℕ, ◌≡◌, ◌+◌, ◌-◌, ◌≤◌, List, ◌++◌, length, take, drop, Option, None, Some, ap, ap₂, ◌∙◌, arith, append_assoc, length-append}
use Rattle.std.proofs.lemmas.List.{take-append-le}
use Rattle.std.proofs.Math.Seq.{take-add, take-append_seam, drop-append_seam}
use Rattle.std.proofs.lemmas.Grind.{common_steps}
use Rattle.std.specs.Io.KnownBytes.{Appends}
use Rattle.obq_io.specs.Known.{GetsPrefix}

pub appends_more : (a b c : Option (List ℕ)) (bs cs : List ℕ) → Appends a b bs → Appends b c cs → Appends a c (bs ++ cs)
appends_more None b c bs cs p q = tt
appends_more (Some xs) None c bs cs p q = absurd p
appends_more (Some xs) (Some ys) None bs cs p q = q
appends_more (Some xs) (Some ys) (Some zs) bs cs p q = q ∙ (ap (λ w. w ++ cs) p ∙ append_assoc xs bs cs)

-- a slice from a place on
pub rest_is : (at : ℕ) (xs : List ℕ) → take (length xs - at) (drop at xs) ≡ drop at xs
rest_is at xs = grind (arith, common_steps)

-- a front, and so much of what stands behind it
take_into : (front piece behind : List ℕ) (k : ℕ) → k ≤ length piece → take (length front + k) (front ++ (piece ++ behind)) ≡ front ++ take k piece
take_into front piece behind k fits =
    take-add (length front) k (front ++ (piece ++ behind))
    ∙ ap₂ (λ a b. a ++ take k b) (take-append_seam front (piece ++ behind)) (drop-append_seam front (piece ++ behind))
    ∙ ap (λ a. front ++ a) (take-append-le k piece behind fits)

-- what was written whole, and then a prefix of the next piece, is a prefix of them and whatever comes behind
pub prefix_behind : (a b c : Option (List ℕ)) (front piece behind : List ℕ) → Appends a b front → GetsPrefix b c piece → GetsPrefix a c (front ++ (piece ++ behind))
prefix_behind a b c front piece behind whole (k, fits, part) =
    let within : length front + k ≤ length (front ++ (piece ++ behind)) = omega (arith, fits, length-append front (piece ++ behind), length-append piece behind) in
    let is : take (length front + k) (front ++ (piece ++ behind)) ≡ front ++ take k piece = take_into front piece behind k fits in
    (length front + k, within, rw is (appends_more a b c front (take k piece) whole part))

-- a prefix of a front is one of the whole
pub prefix_of_front : (a b : Option (List ℕ)) (front behind : List ℕ) → GetsPrefix a b front → GetsPrefix a b (front ++ behind)
prefix_of_front a b front behind (k, fits, part) =
    let within : k ≤ length (front ++ behind) = omega (arith, fits, length-append front behind) in
    (k, within, rw (take-append-le k front behind fits) part)
