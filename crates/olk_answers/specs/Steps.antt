-- What one step of reading a line does; for private clauses.
use Rattle.std.specs.Prelude.{◌≡◌, ◌≢◌, ℕ, List, [], ◌∷◌, ◌++◌, All, Bool, true, false, Option, Some, IfSome}
use Rattle.std.specs.Io.{StartsWith}
use Rattle.std.specs.Io.KnownBytes.{Appends}
use Rattle.std.specs.List.{AllZip}
use Rattle.olk_answers.specs.Lines.{lines_of, text_of, AnswersSome, AnswersInPart}
use Rattle.olk_answers.specs.declared.reading.Part.{Part}
use Rattle.olk_answers.specs.declared.reading.Part.TheVariants.{More, Feed, End}
use Rattle.olk_answers.specs.declared.reading.Stop.{Stop}
use Rattle.olk_answers.specs.declared.reading.Stop.TheVariants.{Failed, Memory}

abbrev pub HasNoFeed : List ℕ → Type 0
HasNoFeed bytes = All (λ b. b ≢ 10) bytes

-- the line grew from old to new, and the input that is left went from xs to ys
abbrev pub TakesPart : Part → List ℕ → List ℕ → List ℕ → List ℕ → Type 0
TakesPart More old new xs ys = old ++ xs ≡ new ++ ys
TakesPart Feed old new xs ys = old ++ xs ≡ new ++ 10 ∷ ys
TakesPart End old new xs ys = (xs ≡ []) × (ys ≡ []) × (new ≡ old)

-- whether a line was read; xs was left before, and ys after
abbrev pub NextLine : Bool → List ℕ → List ℕ → List ℕ → Type 0
NextLine true xs line ys = lines_of xs ≡ line ∷ lines_of ys
NextLine false xs line ys = (xs ≡ []) × (ys ≡ [])

-- a beginning of bytes is appended
abbrev pub AppendsFront : Option (List ℕ) → Option (List ℕ) → List ℕ → Type 0
AppendsFront old new bytes = (part : List ℕ) × StartsWith bytes part × Appends old new part

-- the first lines of the input are answered, and the others are left
abbrev pub Progress : (List ℕ → List ℕ → Type 0) → Option (List ℕ) → Option (List ℕ) → Option (List ℕ) → Option (List ℕ) → Type 0
Progress Gives input left old new = IfSome input (λ bytes. (rest : List ℕ) × (done : List (List ℕ)) × (answers : List (List ℕ))
    × (left ≡ Some rest) × (lines_of bytes ≡ done ++ lines_of rest) × AllZip Gives done answers × Appends old new (text_of answers))

-- what is written where the program stops before the end of its input
abbrev pub StopsBy : (List ℕ → List ℕ → Type 0) → Option (List ℕ) → Option (List ℕ) → Option (List ℕ) → Stop → Type 0
StopsBy Gives input old new Failed = AnswersInPart Gives input old new
StopsBy Gives input old new Memory = AnswersSome Gives input old new
