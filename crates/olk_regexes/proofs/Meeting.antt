-- What a rule asks for, and the test of that.
use Rattle.std.proofs.Common.{◌≡◌, Bool, true, false, not, Some, None, refl}
use Rattle.olk_regexes.specs.Language.{Text}
use Rattle.olk_regexes.specs.Marks.{matches}
use Rattle.olk_regexes.specs.Rules.{Rule, Meets, meets}
use Rattle.olk_regexes.specs.Search.{finds}
use Rattle.olk_regexes.proofs.Equal.{and-to, and-from, finds-to, finds-from}

refuted : (b : Bool) → not b ≡ true → b ≡ true → ⊥
refuted true e h = cc e
refuted false e h = cc h

never : (b : Bool) → (b ≡ true → ⊥) → not b ≡ true
never true h = absurd (h refl)
never false h = refl

pub meets-to : (r : Rule) (w : Text) → meets r w ≡ true → Meets r w
meets-to (p, None) w e = finds-to p w e
meets-to (p, Some q) w e =
    let k = and-to (finds (matches p) w) (not (finds (matches q) w)) e in
    (finds-to p w k.0, λ h. refuted (finds (matches q) w) k.1 (finds-from q w h))

pub meets-from : (r : Rule) (w : Text) → Meets r w → meets r w ≡ true
meets-from (p, None) w h = finds-from p w h
meets-from (p, Some q) w h =
    and-from (finds (matches p) w) (not (finds (matches q) w)) (finds-from p w h.0) (never (finds (matches q) w) (λ e. h.1 (finds-to q w e)))
