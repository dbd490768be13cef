-- Sources that are examined one after another.
use Rattle.std.proofs.Common.{List, [], ap, arith, drop, get_or, length, subst, suc, sym, zero, ℕ, ◌++◌, ◌+◌, ◌<◌, ◌≡◌, ◌∙◌, ◌∷◌}
use Rattle.std.proofs.lemmas.List.{append-nil, append_assoc}
use Rattle.std.proofs.Math.Seq.{drop-cons}
use Rattle.obq_base.specs.declared.code.SourceCode.{SourceCode}
use Rattle.obq_base.specs.declared.faults.SourceFault.{SourceFault}
use Rattle.obq_base.specs.declared.tokens.Token.{Token}
use Rattle.obq_base.specs.declared.trees.Block.{Block}
use Rattle.obq_base.specs.View.{block_tree}
use Rattle.obq_scope.specs.Tabled.{Tables}
use Rattle.obq_model.specs.Sources.{AreAccepted, IsAccepted, IsFault, IsFirstRefused, here, later}
use Rattle.obq_front.specs.Contents.{AllWithin, AreTabled, IsProgram, contents, names_of}
use Rattle.obq_front.specs.Gathering.{Adds}
use Rattle.obq_front.specs.Refusals.{IfFault, IfRefused, refused_at}
use Rattle.obq_front.specs.declared.gathered.Gathered.{Gathered}
use Rattle.obq_front.specs.declared.program.Program.{Program}
use Rattle.obq_front.specs.declared.program.Source.{Source}
use Rattle.obq_front.specs.declared.single.SourceRefused.{SourceRefused}
use Rattle.obq_front.specs.declared.single.SourceRefused.TheVariants as single

-- ---- what is left to examine completes what was examined

-- what is left to examine, from source i on, completes these trees and codes to those of the whole
abbrev pub Completes : ℕ → List (List ℕ) → List (List ℕ) → List Block → List SourceCode → Type 0
Completes i left whole blocks parts =
    (bs : List Block) (ps : List SourceCode) → AreAccepted left bs → AreTabled i bs ps → AreAccepted whole (blocks ++ bs) × AreTabled 0 (blocks ++ bs) (parts ++ ps)

-- and its first fault is that of the whole
abbrev pub Refuses : ℕ → List (List ℕ) → List (List ℕ) → Type 0
Refuses i left whole = (k : ℕ) (fault : SourceFault) → IsFirstRefused left k fault → IsFirstRefused whole (i + k) fault

completes_behind : (i : ℕ) (source : List ℕ) (left whole : List (List ℕ)) (blocks : List Block) (parts : List SourceCode) (tokens : List Token) (block : Block) (part : SourceCode)
    → IsAccepted source tokens block → Tables i (block_tree block) part → Completes i (source ∷ left) whole blocks parts
    → Completes (i + 1) left whole (blocks ++ block ∷ []) (parts ++ part ∷ [])
completes_behind i source left whole blocks parts tokens block part accepted resolved more = λ bs ps rest codes.
    let next : i + 1 ≡ suc i = omega arith in
    let behind : AreTabled (suc i) bs ps = subst (λ n. AreTabled n bs ps) next codes in
    let found : AreAccepted whole (blocks ++ block ∷ bs) × AreTabled 0 (blocks ++ block ∷ bs) (parts ++ part ∷ ps) = more (block ∷ bs) (part ∷ ps) ((tokens, accepted), rest) (resolved, behind) in
    let moved : AreAccepted whole (blocks ++ block ∷ [] ++ bs) × AreTabled 0 (blocks ++ block ∷ [] ++ bs) (parts ++ part ∷ ps) =
    subst (λ x. AreAccepted whole x × AreTabled 0 x (parts ++ part ∷ ps)) (sym (append_assoc blocks (block ∷ []) bs)) found in
    subst (λ y. AreAccepted whole (blocks ++ block ∷ [] ++ bs) × AreTabled 0 (blocks ++ block ∷ [] ++ bs) y) (sym (append_assoc parts (part ∷ []) ps)) moved

-- nothing is left
completed : (i : ℕ) (whole : List (List ℕ)) (blocks : List Block) (parts : List SourceCode) → Completes i [] whole blocks parts → AreAccepted whole blocks × AreTabled 0 blocks parts
completed i whole blocks parts more =
    let moved : AreAccepted whole blocks × AreTabled 0 blocks (parts ++ []) = subst (λ x. AreAccepted whole x × AreTabled 0 x (parts ++ [])) (append-nil blocks) (more [] [] tt tt) in
    subst (λ y. AreAccepted whole blocks × AreTabled 0 blocks y) (append-nil parts) moved

-- ---- one source more

pub names_behind : (i : ℕ) (source : Source) (left : List Source) (whole : List (List ℕ)) (old new : Gathered) → Adds old i source new → old.names.items ++ names_of (source ∷ left) ≡ whole
    → new.names.items ++ names_of left ≡ whole
names_behind i source left whole old new one is = ap (λ x. x ++ names_of left) one.names ∙ (append_assoc old.names.items (source.name ∷ []) (names_of left) ∙ is)

pub program_behind : (i : ℕ) (source : Source) (left : List Source) (whole : List (List ℕ)) (old new : Gathered) → Adds old i source new
    → Completes i (contents (source ∷ left)) whole old.blocks.items old.parts.items → Completes (i + 1) (contents left) whole new.blocks.items new.parts.items
program_behind i source left whole old new one more =
    let both : Completes (i + 1) (contents left) whole (old.blocks.items ++ one.block ∷ []) (old.parts.items ++ one.code ∷ []) =
    completes_behind i source.bytes.items (contents left) whole old.blocks.items old.parts.items one.tokens one.block one.code one.accepted one.resolved more in
    let moved : Completes (i + 1) (contents left) whole new.blocks.items (old.parts.items ++ one.code ∷ []) =
    subst (λ x. Completes (i + 1) (contents left) whole x (old.parts.items ++ one.code ∷ [])) (sym one.blocks) both in
    subst (λ y. Completes (i + 1) (contents left) whole new.blocks.items y) (sym one.parts) moved

pub refuses_behind : (i : ℕ) (source : Source) (left : List Source) (whole : List (List ℕ)) (old new : Gathered) → Adds old i source new → Refuses i (contents (source ∷ left)) whole
    → Refuses (i + 1) (contents left) whole
refuses_behind i source left whole old new one more = λ k fault rest.
    let is : i + suc k ≡ i + 1 + k = omega arith in
    subst (λ n. IsFirstRefused whole n fault) is (more (suc k) fault (later one.accepted rest))

-- ---- the ends

pub refused_here : (i : ℕ) (source : List ℕ) (left whole : List (List ℕ)) (why : SourceRefused) → IfFault why (IsFault source) → Refuses i (source ∷ left) whole
    → IfRefused (refused_at i why) (IsFirstRefused whole)
refused_here i source left whole (single.Fault fault) h more =
    let is : i + 0 ≡ i = omega arith in
    subst (λ n. IsFirstRefused whole n fault) is (more 0 fault (here h))
refused_here i source left whole single.NoMemory h more = tt

pub program_of : (i : ℕ) (sources : List Source) (made : Gathered) (program : Program) → drop i sources ≡ [] → program.names.items ≡ made.names.items → program.blocks.items ≡ made.blocks.items
    → program.codes ≡ made.parts.items → made.names.items ++ names_of (drop i sources) ≡ names_of sources
    → Completes i (contents (drop i sources)) (contents sources) made.blocks.items made.parts.items → AllWithin 1048576 (contents sources) → IsProgram sources program
program_of i sources made program none names blocks codes named more within =
    let last : made.names.items ++ [] ≡ names_of sources = subst (λ ss. made.names.items ++ names_of ss ≡ names_of sources) none named in
    let over : Completes i [] (contents sources) made.blocks.items made.parts.items =
    subst (λ ss. Completes i (contents ss) (contents sources) made.blocks.items made.parts.items) none more in
    let both : AreAccepted (contents sources) made.blocks.items × AreTabled 0 made.blocks.items made.parts.items = completed i (contents sources) made.blocks.items made.parts.items over in
    let moved : AreAccepted (contents sources) program.blocks.items × AreTabled 0 program.blocks.items made.parts.items =
    subst (λ x. AreAccepted (contents sources) x × AreTabled 0 x made.parts.items) (sym blocks) both in
    record {
      within = within;
      names = names ∙ (sym (append-nil made.names.items) ∙ last);
      accepted = moved.0;
      resolved = subst (λ y. AreTabled 0 program.blocks.items y) (sym codes) moved.1;
    }

-- the next source, and those behind it
pub one_left : (sources : List Source) (i : ℕ) (source : Source) → i < length sources → source ≡ get_or sources i source → drop i sources ≡ source ∷ drop (i + 1) sources
one_left sources i source lt is =
    let next : suc i ≡ i + 1 = omega arith in
    drop-cons sources i source lt ∙ (ap (λ s. s ∷ drop (suc i) sources) (sym is) ∙ ap (λ n. source ∷ drop n sources) next)

-- each source that is left is within the limit
pub within_behind : (limit i : ℕ) (sources : List Source) → AllWithin limit (contents sources) → AllWithin limit (contents (drop i sources))
within_behind limit zero sources within = within
within_behind limit (suc i) [] within = tt
within_behind limit (suc i) (s ∷ ss) within = within_behind limit i ss within.1
