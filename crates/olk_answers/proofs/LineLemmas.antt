-- Lemmas on the lines of an input.
use Rattle.std.proofs.Common.{◌≡◌, ◌≢◌, ℕ, Bool, not, ◌==◌, Option, None, Some, IfSome, ◌<◌, List, [], ◌∷◌, ◌++◌, cond, length, refl, ap, ◌∙◌, arith, append-nil}
use Rattle.std.proofs.lemmas.Bool.{ne_eqb}
use Rattle.std.proofs.lemmas.List.Elements.{All-head, All-tail}
use Rattle.olk_answers.specs.Lines.{lines_of, onto_first}
use Rattle.olk_answers.specs.Steps.{HasNoFeed, TakesPart, NextLine}
use Rattle.olk_answers.specs.declared.reading.Part.TheVariants.{End}

-- up to the first line feed it is a line
pub lines_of-feed : (line rest : List ℕ) → HasNoFeed line → lines_of (line ++ 10 ∷ rest) ≡ line ∷ lines_of rest
lines_of-feed [] rest h = refl
lines_of-feed (b ∷ line) rest h =
    ap (λ t. cond t ([] ∷ lines_of (line ++ 10 ∷ rest)) (onto_first b (lines_of (line ++ 10 ∷ rest)))) (ne_eqb b 10 (All-head (λ y. y ≢ 10) b line h))
    ∙ ap (onto_first b) (lines_of-feed line rest (All-tail (λ y. y ≢ 10) b line h))

-- bytes without a line feed are one line
pub lines_of-last : (line : List ℕ) → HasNoFeed line → 0 < length line → lines_of line ≡ line ∷ []
lines_of-last [] h some = absurd (omega arith)
lines_of-last (b ∷ []) h some =
    ap (λ t. cond t ([] ∷ []) ((b ∷ []) ∷ [])) (ne_eqb b 10 (All-head (λ y. y ≢ 10) b [] h))
lines_of-last (b ∷ c ∷ line) h some =
    ap (λ t. cond t ([] ∷ lines_of (c ∷ line)) (onto_first b (lines_of (c ∷ line)))) (ne_eqb b 10 (All-head (λ y. y ≢ 10) b (c ∷ line) h))
    ∙ ap (onto_first b) (lines_of-last (c ∷ line) (All-tail (λ y. y ≢ 10) b (c ∷ line) h) (omega arith))

-- what was taken of the input before, and the line feed now, make the first line
pub line_fed : (a b c : Option (List ℕ)) (old new : List ℕ) → IfSome a (λ xs. (ys : List ℕ) × (b ≡ Some ys) × (xs ≡ old ++ ys))
    → IfSome b (λ xs. (ys : List ℕ) × (c ≡ Some ys) × (old ++ xs ≡ new ++ 10 ∷ ys)) → HasNoFeed new
    → IfSome a (λ xs. (ys : List ℕ) × (c ≡ Some ys) × (lines_of xs ≡ new ∷ lines_of ys))
line_fed None b c old new before now plain = tt
line_fed (Some xs) b c old new before now plain =
    let step = rw before.1 at now in
    (step.0, step.1, ap lines_of (before.2 ∙ step.2) ∙ lines_of-feed new step.0 plain)

-- at the end of the input, what was taken is the last line, unless it is empty
last_line : (line : List ℕ) → HasNoFeed line → NextLine (not (length line == 0)) line line []
last_line [] plain = (refl, refl)
last_line (b ∷ line) plain =
    let some : length (b ∷ line) ≢ 0 = λ e. omega arith in
    rw (ne_eqb (length (b ∷ line)) 0 some) (lines_of-last (b ∷ line) plain (omega arith))

pub line_ended : (a b c : Option (List ℕ)) (old new : List ℕ) (some : Bool) → IfSome a (λ xs. (ys : List ℕ) × (b ≡ Some ys) × (xs ≡ old ++ ys))
    → IfSome b (λ xs. (ys : List ℕ) × (c ≡ Some ys) × TakesPart End old new xs ys) → HasNoFeed old → some ≡ not (length new == 0)
    → IfSome a (λ xs. (ys : List ℕ) × (c ≡ Some ys) × NextLine some xs new ys)
line_ended None b c old new some before now plain is = tt
line_ended (Some xs) b c old new some before now plain is =
    let step = rw before.1 at now in
    let whole : xs ≡ old = before.2 ∙ ap (λ l. old ++ l) step.2.0 ∙ append-nil old in
    (step.0, step.1, rw (whole, step.2.1, is, step.2.2) (last_line old plain))
