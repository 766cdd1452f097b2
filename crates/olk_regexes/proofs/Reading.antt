-- A step of the reader.
use Rattle.std.proofs.Common.{◌≡◌, ℕ, suc, zero, ◌<◌, ◌==◌, cond, arith}
use Rattle.std.proofs.lemmas.Bool.Decides.{nat_tests}
use Rattle.olk_regexes.specs.Language.{Text}
use Rattle.olk_regexes.specs.Escapes.{next}
use Rattle.olk_regexes.specs.Syntax.{simple, choice, atom, in_group, group, closed}

cond_not : {A : Type 0} (c : ℕ) (x y : A) → (c ≡ 40 → ⊥) → cond (c == 40) x y ≡ y
cond_not c x y h = grind (arith, nat_tests)

pub atom_simple : (n c : ℕ) (w : Text) → 0 < n → (c ≡ 40 → ⊥) → atom n c w ≡ simple c w
atom_simple zero c w h e = absurd (omega arith)
atom_simple (suc n) c w h e = cond_not c (in_group (group w) (λ v. next (choice n v) closed)) (simple c w) e
