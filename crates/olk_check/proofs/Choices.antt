-- What is left of a question that is asked in steps: of patterns, and what they leave to the rest.
use Rattle.std.proofs.Common.{◌≡◌, ℕ, ◌+◌, Bool, true, false, cond, List, [], ◌∷◌, drop, Option, refl, ap, ◌∙◌}
use Rattle.serde_json.specs.Data.{Data}
use Rattle.olk_spec.specs.Names.{Name}
use Rattle.olk_spec.specs.World.{Says, unmatched}
use Rattle.olk_base.specs.Lawful.{Asking}
use Rattle.olk_base.specs.declared.pattern.CompiledPattern.{CompiledPattern}
use Rattle.olk_tree.specs.Questions.{Question, always, both, conditional}
use Rattle.olk_tree.specs.Matched.{match_question}
use Rattle.olk_tree.specs.Additional.{Sides, known_at, known_or_asked, match_asked, patterns_mean_from, rest_means}
use Rattle.olk_check.specs.Asks.{Asks}
use Rattle.olk_check.proofs.Asked.{unasked}
use Rattle.olk_check.proofs.Walks.{both_go_on, both_stop, accepted_then, refused_then}

-- a member, and what speaks of it
pub record Spoken (R N : Type 0) : Type 0 where
  pub answers : R → Name → Says
  pub costs : R → Bool
  pub means : N → Data → Question
  pub sides : Sides R N
  pub declared : Option (ℕ × N)
  pub name : Name
  pub value : Data

module _ {R N : Type 0} (w : Spoken R N) where
  abbrev pub patterns_from : Bool → ℕ → List (CompiledPattern R × N) → Question
  patterns_from spoken i es = patterns_mean_from w.answers w.costs w.means w.sides w.declared w.name w.value spoken i es

  -- the patterns that are left at an index
  abbrev pub patterns_left : Bool → ℕ → Question
  patterns_left spoken i = patterns_from spoken i (drop i w.sides.patterns)

  abbrev rest_left : Bool → Question
  rest_left spoken = cond spoken (always true) (rest_means w.means w.value w.sides.rest)

  -- where no pattern matches, what is spoken of is settled
  module _ (blank : (i : ℕ) → known_at w.sides w.declared i ≡ unmatched) where
    none_left : (i : ℕ) (es : List (CompiledPattern R × N)) → patterns_from true i es ≡ always true
    none_left i [] = refl
    none_left i (e ∷ es) =
        let more : Question = patterns_from true (i + 1) es in
        ap (λ s. conditional (known_or_asked s (match_question w.answers w.costs e.0 w.name)) (both (w.means e.1 w.value) more) more) (blank i)
        ∙ ap (conditional (always false) (both (w.means e.1 w.value) more)) (none_left (i + 1) es)

    pub nothing_matches : {a : Asking} {spoken : Bool} → spoken ≡ true → Asks a a (patterns_from spoken 0 w.sides.patterns) true
    nothing_matches {a} e = rw (e, none_left 0 w.sides.patterns) (unasked a true)

-- the patterns from an index on decide about all
pub record Leaves {R N : Type 0} (w : Spoken R N) (all : Question) (spoken : Bool) (i : ℕ) (a b : Asking) : Type 0 where
  pub goes_on : (end : Asking) (result : Bool) → Asks b end (patterns_left w spoken i) result → Asks a end all result

module _ {R N : Type 0} {w : Spoken R N} {all : Question} {spoken : Bool} {i : ℕ} {a b : Asking} (h : Leaves w all spoken i a b) where
  module _ {e : CompiledPattern R × N} (here : drop i w.sides.patterns ≡ e ∷ drop (i + 1) w.sides.patterns) {known : Says} (is : known ≡ known_at w.sides w.declared i) where
    abbrev matched : Question
    matched = both (w.means e.1 w.value) (patterns_left w true (i + 1))

    abbrev match_is_asked : Question
    match_is_asked = known_or_asked known (match_question w.answers w.costs e.0 w.name)

    asked : {c : Asking} {r : Bool} → Asks b c match_is_asked r → Asks b c (match_asked w.answers w.costs w.means w.sides w.declared w.name i e.0) r
    asked k = rw (← is) k

    at_this : {end : Asking} {r : Bool} → Asks b end (conditional (match_asked w.answers w.costs w.means w.sides w.declared w.name i e.0) matched (patterns_left w spoken (i + 1))) r → Asks a end all r
    at_this {end} {r} k = h.goes_on end r (rw here k)

    pub unmatched_goes_on : {c : Asking} → Asks b c match_is_asked false → Leaves w all spoken (i + 1) a c
    unmatched_goes_on k = record { goes_on = λ end r l. at_this (refused_then matched (patterns_left w spoken (i + 1)) (asked k) l) }

    module _ {c f : Asking} (k : Asks b c match_is_asked true) where
      pub matched_goes_on : Asks c f (w.means e.1 w.value) true → Leaves w all true (i + 1) a f
      matched_goes_on j = record { goes_on = λ end r l. at_this (accepted_then matched (patterns_left w spoken (i + 1)) (asked k) (both_go_on j l)) }

      pub matched_stops : Asks c f (w.means e.1 w.value) false → Asks a f all false
      matched_stops j = at_this (accepted_then matched (patterns_left w spoken (i + 1)) (asked k) (both_stop (patterns_left w true (i + 1)) j))

  module _ (none : drop i w.sides.patterns ≡ []) where
    at_end : {end : Asking} {r : Bool} → Asks b end (rest_left w spoken) r → Asks a end all r
    at_end {end} {r} k = h.goes_on end r (rw none k)

    pub spoken_ends : spoken ≡ true → Asks a b all spoken
    spoken_ends e = rw e (at_end (rw e (unasked b true)))

    pub rest_ends : {c : Asking} {r : Bool} → spoken ≡ false → Asks b c (rest_means w.means w.value w.sides.rest) r → Asks a c all r
    rest_ends e k = at_end (rw e k)
