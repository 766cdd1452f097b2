-- How a pattern is read: the regular part of the syntax of ECMA-262, with its flag u.
use Rattle.std.specs.Prelude.{ℕ, zero, suc, ◌-◌, ◌==◌, Bool, true, false, ◌||◌, ◌&&◌, not, [], ◌∷◌, Option, Some, None, if◌then◌else◌, codes}
use Rattle.std.specs.List.{list_any}
use Rattle.olk_regexes.specs.Language.{Text, Expr, blank, one, seq, alt, star}
use Rattle.olk_regexes.specs.Sets.{range, line_ends}
use Rattle.olk_regexes.specs.Escapes.{Read, next, Item, char, set, escape}
use Rattle.olk_regexes.specs.Classes.{class}
use Rattle.olk_regexes.specs.Counts.{Counts, counts}
use Rattle.olk_regexes.specs.Rules.{Rule}

-- `p` so many times, and then `q`
abbrev pub times_then : ℕ → Expr → Expr → Expr
times_then zero p q = q
times_then (suc n) p q = seq p (times_then n p q)

-- `p` so many times and once more, or fewer times
abbrev pub up_to_more : ℕ → Expr → Expr
up_to_more zero p = alt p blank
up_to_more (suc n) p = alt (seq p (up_to_more n p)) blank

abbrev pub exactly : ℕ → Expr → Expr
exactly zero p = blank
exactly (suc n) p = times_then n p p

-- `p` at least `n` times, and at most `k` times more
abbrev pub between : ℕ → ℕ → Expr → Expr
between n zero p = exactly n p
between n (suc k) p = times_then n p (up_to_more k p)

abbrev pub repeated : Expr → Counts → Expr
repeated p (n, None) = times_then n p (star p)
repeated p (n, Some m) = between n (m - n) p

-- what is before and behind a framed text
abbrev pub start : Expr
start = one false (range 1114112 1114112 ∷ [])

abbrev pub finish : Expr
finish = one false (range 1114113 1114113 ∷ [])

abbrev pub of_item : Item → Expr
of_item (char c) = one false (range c c ∷ [])
of_item (set rs) = one false rs

-- a part, as often as a quantifier behind it says
abbrev pub repeated_by : Expr → Text → Read Expr
repeated_by p w = next (counts w) (λ k v. Some (repeated p k, v))

abbrev pub closed : Expr → Text → Read Expr
closed p [] = None
closed p (c ∷ w) = if c == 41 then Some (p, w) else None

-- what stands in a group, behind `?:` if that is there; no other group with a `?` is read
abbrev pub group : Text → Option Text
group [] = None
group (c ∷ []) = if c == 63 then None else Some (c ∷ [])
group (c ∷ d ∷ w) = if c == 63 then (if d == 58 then Some w else None) else Some (c ∷ d ∷ w)

abbrev pub in_group : Option Text → (Text → Read Expr) → Read Expr
in_group None f = None
in_group (Some w) f = f w

abbrev pub ends_sequence : Text → Bool
ends_sequence [] = true
ends_sequence (c ∷ w) = (c == 124) || (c == 41)

-- whether a character stands for itself
abbrev pub is_plain : ℕ → Bool
is_plain c = not (list_any (λ d. c == d) (codes "^$*+?{}])|"))

-- one character, or a set of them
abbrev pub simple : ℕ → Text → Read Expr
simple c w =
    if c == 46 then Some (one true line_ends, w) else
    if c == 91 then class w else
    if c == 92 then next (escape w) (λ i v. Some (of_item i, v)) else
    if is_plain c then Some (of_item (char c), w) else None

-- The number bounds how deep and how far is read.
abbrev mutual
  pub choice : ℕ → Text → Read Expr
  choice zero w = None
  choice (suc n) w = next (sequence n w) (λ p v. alternatives n p v)

  pub alternatives : ℕ → Expr → Text → Read Expr
  alternatives zero p w = None
  alternatives (suc n) p [] = Some (p, [])
  alternatives (suc n) p (c ∷ w) = if c == 124 then next (sequence n w) (λ q v. alternatives n (alt p q) v) else Some (p, c ∷ w)

  pub sequence : ℕ → Text → Read Expr
  sequence zero w = None
  sequence (suc n) w = if ends_sequence w then Some (blank, w) else
      next (item n w) (λ p v. if ends_sequence v then Some (p, v) else next (sequence n v) (λ q u. Some (seq p q, u)))

  pub item : ℕ → Text → Read Expr
  item zero w = None
  item (suc n) [] = None
  item (suc n) (c ∷ w) =
      if c == 94 then Some (start, w) else
      if c == 36 then Some (finish, w) else
      next (atom n c w) repeated_by

  pub atom : ℕ → ℕ → Text → Read Expr
  atom zero c w = None
  atom (suc n) c w = if c == 40 then in_group (group w) (λ v. next (choice n v) closed) else simple c w

-- what was read, if it is the whole text
abbrev pub whole : {A : Type 0} → Read A → Option A
whole None = None
whole (Some (p, [])) = Some p
whole (Some (p, c ∷ w)) = None

-- how deep and how far a pattern is read
unfoldable pub steps : ℕ
steps = 2048

-- the expression of a pattern without look-ahead; none where it is not of the syntax
abbrev pub parse : Text → Option Expr
parse w = whole (choice steps w)

-- what is behind `^(?!`, if the text begins so
abbrev pub look_ahead : Text → Option Text
look_ahead [] = None
look_ahead (a ∷ []) = None
look_ahead (a ∷ b ∷ []) = None
look_ahead (a ∷ b ∷ c ∷ []) = None
look_ahead (a ∷ b ∷ c ∷ d ∷ w) = if ((a == 94) && (b == 40)) && ((c == 63) && (d == 33)) then Some w else None

-- a sequence at the text's start, and `q`, which is refused there
abbrev pub wanted : Expr → Text → Read Rule
wanted q w = next (sequence steps w) (λ p v. Some ((seq start p, Some (seq start q)), v))

-- a look-ahead, behind its opening, and the sequence behind it
abbrev pub unless : Text → Read Rule
unless w = next (next (choice steps w) closed) wanted

abbrev pub plain : Option Expr → Option Rule
plain None = None
plain (Some p) = Some (p, None)

abbrev pub rule_from : Text → Option Text → Option Rule
rule_from w None = plain (parse w)
rule_from w (Some v) = whole (unless v)

-- What a pattern asks for; none where it is not of the syntax. A negative look-ahead is read behind a `^` at the pattern's
-- start, where no alternative stands beside it: then it asks that no text of it begins the text.
abbrev pub rule : Text → Option Rule
rule w = rule_from w (look_ahead w)
