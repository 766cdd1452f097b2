-- Lemmas on the lines that are answered so far.
use Rattle.std.proofs.Common.{◌≡◌, ℕ, inl, inr, List, [], ◌∷◌, ◌++◌, Option, None, Some, IfSome, true, refl, sym, ap, subst, ◌∙◌, append_assoc, append-nil}
use Rattle.std.proofs.lemmas.List.Elements.{AllZip-push}
use Rattle.std.specs.List.{AllZip}
use Rattle.std.specs.Io.KnownBytes.{Appends}
use Rattle.std.proofs.KnownBytes.{Appends-nil, Appends-trans}
use Rattle.olk_answers.specs.Lines.{lines_of, ended, text_of, Begins, AnswersAll, AnswersSome, AnswersInPart}
use Rattle.olk_answers.specs.Steps.{NextLine, AppendsFront, Progress, StopsBy}
use Rattle.olk_answers.specs.declared.reading.Stop.{Stop}
use Rattle.olk_answers.specs.declared.reading.Stop.TheVariants.{Failed, Memory}

text_of-push : (lines : List (List ℕ)) (line : List ℕ) → text_of (lines ++ line ∷ []) ≡ text_of lines ++ ended line
text_of-push [] line = append-nil (ended line)
text_of-push (first ∷ lines) line = ap (λ l. ended first ++ l) (text_of-push lines line) ∙ sym (append_assoc (ended first) (text_of lines) (ended line))

module _ (Gives : List ℕ → List ℕ → Type 0) where
  -- at the start nothing is answered
  pub Progress-start : (a old : Option (List ℕ)) → Progress Gives a a old old
  Progress-start None old = tt
  Progress-start (Some bytes) old = (bytes, [], [], refl, refl, tt, Appends-nil old)

  -- one more line is answered
  pub Progress-more : (a b c old mid new : Option (List ℕ)) (line answer : List ℕ) → Progress Gives a b old mid
      → IfSome b (λ xs. (ys : List ℕ) × (c ≡ Some ys) × NextLine true xs line ys) → Gives line answer → Appends mid new (ended answer)
      → Progress Gives a c old new
  Progress-more None b c old mid new line answer before next gives writes = tt
  Progress-more (Some bytes) b c old mid new line answer before next gives writes =
      let done = before.1 in
      let step = rw before.3 at next in (
        step.0,
        done ++ line ∷ [],
        before.2 ++ answer ∷ [],
        step.1,
        before.4 ∙ ap (λ l. done ++ l) step.2 ∙ sym (append_assoc done (line ∷ []) (lines_of step.0)),
        AllZip-push Gives _ _ _ _ before.5 gives,
        subst (Appends old new) (sym (text_of-push before.2 answer)) (Appends-trans old mid new _ _ before.6 writes),
      )

  -- at the end of the input each line is answered
  pub Progress-all : (a b c old new : Option (List ℕ)) → Progress Gives a b old new
      → IfSome b (λ xs. (ys : List ℕ) × (c ≡ Some ys) × ((xs ≡ []) × (ys ≡ []))) → AnswersAll Gives a c old new
  Progress-all None b c old new before next = tt
  Progress-all (Some bytes) b c old new before next =
      let step = rw before.3 at next in
      let whole = before.4 ∙ ap (λ xs. before.1 ++ lines_of xs) step.2.0 ∙ append-nil before.1 in
      (step.1 ∙ ap Some step.2.1, (before.2, subst (λ lines. AllZip Gives lines before.2) (sym whole) before.5, before.6))

  -- the program may stop between two lines
  pub Progress-some : (a b old new : Option (List ℕ)) → Progress Gives a b old new → AnswersSome Gives a old new
  Progress-some None b old new before = tt
  Progress-some (Some bytes) b old new before = (before.1, lines_of before.0, before.2, before.4, before.5, before.6)

  Begins-nothing : (rest : List (List ℕ)) → Begins Gives rest []
  Begins-nothing [] = refl
  Begins-nothing (line ∷ rest) = inl refl

  pub Progress-failed : (a b old new : Option (List ℕ)) → Progress Gives a b old new → AnswersInPart Gives a old new
  Progress-failed None b old new before = tt
  Progress-failed (Some bytes) b old new before =
      let rest = lines_of before.0 in
      (before.1, rest, before.2, [], before.4, before.5, Begins-nothing rest, subst (Appends old new) (sym (append-nil (text_of before.2))) before.6)

  pub Progress-stops : (a b old new : Option (List ℕ)) (stop : Stop) → Progress Gives a b old new → StopsBy Gives a old new stop
  Progress-stops a b old new Failed before = Progress-failed a b old new before
  Progress-stops a b old new Memory before = Progress-some a b old new before

  -- or inside an answer
  pub Progress-in_part : (a b c old mid new : Option (List ℕ)) (line answer : List ℕ) → Progress Gives a b old mid
      → IfSome b (λ xs. (ys : List ℕ) × (c ≡ Some ys) × NextLine true xs line ys) → Gives line answer → AppendsFront mid new (ended answer)
      → AnswersInPart Gives a old new
  Progress-in_part None b c old mid new line answer before next gives writes = tt
  Progress-in_part (Some bytes) b c old mid new line answer before next gives writes =
      let step = rw before.3 at next in (
        before.1,
        line ∷ lines_of step.0,
        before.2,
        writes.0,
        before.4 ∙ ap (λ l. before.1 ++ l) step.2,
        before.5,
        inr (answer, gives, writes.1),
        Appends-trans old mid new _ _ before.6 writes.2,
      )
