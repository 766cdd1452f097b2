-- Where an expression matches, with `^` and `$` as the standard has them: true at the start and at the end of the text.
use Rattle.std.specs.Prelude.{ℕ, Bool, true, false, List, [], ◌∷◌, ◌++◌, ◌<◌, ◌≡◌, ◌⊎◌}
use Rattle.olk_regexes.specs.Class.{has}
use Rattle.olk_regexes.specs.Language.{Text, Expr, blank, one, seq, alt, star, joined}
use Rattle.olk_regexes.specs.Edges.{is_edge}
use Rattle.olk_regexes.specs.declared.class.Characters.{Characters}

-- a code of a character
abbrev pub IsChar : ℕ → Type 0
IsChar c = c < 1114112

-- A character of the class, `^` or `$`; the tests say whether the class stands for one of these.
abbrev pub OneAt : Bool → Bool → Bool → List Characters → Text → Text → Text → Type 0
OneAt true is_end negated members before w rest = (w ≡ []) × (before ≡ [])
OneAt false true negated members before w rest = (w ≡ []) × (rest ≡ [])
OneAt false false negated members before w rest = (c : ℕ) × (has negated members c ≡ true) × (w ≡ c ∷ [])

-- texts one behind another, each at its place
abbrev pub AllAt : (Text → Text → Text → Type 0) → Text → List Text → Text → Type 0
AllAt f before [] rest = Unit
AllAt f before (u ∷ us) rest = f before u (joined us ++ rest) × AllAt f (before ++ u) us rest

-- The expression matches the text `w` between what is before it and what is behind it.
abbrev pub MatchesAt : Expr → Text → Text → Text → Type 0
MatchesAt blank before w rest = w ≡ []
MatchesAt (one negated members) before w rest = OneAt (is_edge 1114112 negated members) (is_edge 1114113 negated members) negated members before w rest
MatchesAt (seq p q) before w rest = (u : Text) × (v : Text) × (MatchesAt p before u (v ++ rest)) × (MatchesAt q (before ++ u) v rest) × (w ≡ u ++ v)
MatchesAt (alt p q) before w rest = MatchesAt p before w rest ⊎ MatchesAt q before w rest
MatchesAt (star p) before w rest = (us : List Text) × (AllAt (MatchesAt p) before us rest) × (w ≡ joined us)

-- The expression matches somewhere in the text.
abbrev pub FindsAt : Expr → Text → Type 0
FindsAt p w = (before : Text) × (u : Text) × (rest : Text) × (MatchesAt p before u rest) × (w ≡ before ++ (u ++ rest))

-- The expression matches at the start of the text.
abbrev pub BeginsAt : Expr → Text → Type 0
BeginsAt p w = (u : Text) × (rest : Text) × (MatchesAt p [] u rest) × (w ≡ u ++ rest)
