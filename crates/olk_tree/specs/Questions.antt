-- Questions about a value: the verdict, and how many matchers are asked at most, for either answer for unfinished matches.
use Rattle.std.specs.Prelude.{ℕ, ◌+◌, ◌==◌, Bool, true, false, not, cond, ◌&&◌, ◌||◌, List, [], ◌∷◌, count_by}
use Rattle.olk_spec.specs.World.{Says, reads_as, is_unfinished}

-- which of the matchers that are asked are counted: each that costs or leaves its match unfinished, or those alone that leave it unfinished
pub data Tally : Type 0 where
  of_asked : Tally
  of_unfinished : Tally

pub record Question : Type 0 where
  pub accepts : Bool → Bool
  pub asks : Tally → Bool → ℕ

-- nothing is asked
abbrev pub always : Bool → Question
always b = record { accepts = λ u. b; asks = λ k u. 0 }

abbrev pub is_counted : Tally → Bool → Says → Bool
is_counted of_asked costs s = costs || is_unfinished s
is_counted of_unfinished costs s = is_unfinished s

-- what a matcher says, where asking it costs or does not
abbrev pub said_to : Bool → Says → Question
said_to costs s = record { accepts = λ u. reads_as u s; asks = λ k u. cond (is_counted k costs s) 1 0 }

-- both accept; the second is asked where the first does
abbrev pub both : Question → Question → Question
both p q = record { accepts = λ u. p.accepts u && q.accepts u; asks = λ k u. p.asks k u + q.asks k u }

-- one accepts; the second is asked where the first does not
abbrev pub either : Question → Question → Question
either p q = record { accepts = λ u. p.accepts u || q.accepts u; asks = λ k u. p.asks k u + q.asks k u }

abbrev pub opposite : Question → Question
opposite q = record { accepts = λ u. not (q.accepts u); asks = q.asks }

-- the second is asked where the first accepts, and else the third
abbrev pub conditional : Question → Question → Question → Question
conditional p q r = record { accepts = λ u. cond (p.accepts u) (q.accepts u) (r.accepts u); asks = λ k u. p.asks k u + cond (p.accepts u) (q.asks k u) (r.asks k u) }

-- each accepts, and one accepts
abbrev pub every : {X : Type 0} → (X → Question) → List X → Question
every f [] = always true
every f (x ∷ xs) = both (f x) (every f xs)

abbrev pub some : {X : Type 0} → (X → Question) → List X → Question
some f [] = always false
some f (x ∷ xs) = either (f x) (some f xs)

-- how many accept
abbrev pub how_many : {X : Type 0} → (X → Question) → Bool → List X → ℕ
how_many f u xs = count_by (λ x. (f x).accepts u) xs

-- one accepts, and no other does
abbrev pub exactly_one : {X : Type 0} → (X → Question) → List X → Question
exactly_one f xs = record { accepts = λ u. how_many f u xs == 1; asks = (some f xs).asks }
