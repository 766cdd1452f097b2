-- Where `^` and `$` may stand: `^` only where nothing can stand before it, and `$` only where nothing can stand behind it.
use Rattle.std.specs.List.{list_all}
use lib.Dec.{leb}
use Rattle.std.specs.Prelude.{ℕ, ◌==◌, Bool, true, false, ◌&&◌, ◌||◌, not, List, [], ◌∷◌}
use Rattle.olk_regexes.specs.Language.{Expr, blank, one, seq, alt, star}
use Rattle.olk_regexes.specs.declared.class.Characters.{Characters}
use Rattle.olk_regexes.specs.declared.class.Characters.TheVariants.{Range, Property}

-- whether the characters are that code alone
abbrev pub is_just : ℕ → Characters → Bool
is_just edge (Range low high) = (low == edge) && (high == edge)
is_just edge (Property category negated) = false

-- whether the class is what is read before or behind a framed text
abbrev pub is_edge : ℕ → Bool → List Characters → Bool
is_edge edge negated [] = false
is_edge edge negated (r ∷ []) = not negated && is_just edge r
is_edge edge negated (r ∷ s ∷ rs) = false

-- whether `^` stands only where nothing is before it; `first` says that nothing is before the expression
abbrev pub starts_well : Bool → Expr → Bool
starts_well first blank = true
starts_well first (one negated members) = first || not (is_edge 1114112 negated members)
starts_well first (seq p q) = starts_well first p && starts_well false q
starts_well first (alt p q) = starts_well first p && starts_well first q
starts_well first (star p) = starts_well false p

-- whether `$` stands only where nothing is behind it; `last` says that nothing is behind the expression
abbrev pub ends_well : Bool → Expr → Bool
ends_well last blank = true
ends_well last (one negated members) = last || not (is_edge 1114113 negated members)
ends_well last (seq p q) = ends_well false p && ends_well last q
ends_well last (alt p q) = ends_well last p && ends_well last q
ends_well last (star p) = ends_well false p

-- whether these are characters alone
abbrev pub are_characters : Characters → Bool
are_characters (Range low high) = leb high 1114111
are_characters (Property category negated) = true

-- whether the class has characters alone; a negated one has
abbrev pub has_characters : Bool → List Characters → Bool
has_characters true members = true
has_characters false members = list_all are_characters members

-- whether each class has characters alone, or is an edge
abbrev pub characters : Expr → Bool
characters blank = true
characters (one negated members) = is_edge 1114112 negated members || (is_edge 1114113 negated members || has_characters negated members)
characters (seq p q) = characters p && characters q
characters (alt p q) = characters p && characters q
characters (star p) = characters p

abbrev pub is_placed : Expr → Bool
is_placed p = (starts_well true p && ends_well true p) && characters p
