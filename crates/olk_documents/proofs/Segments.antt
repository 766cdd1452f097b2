-- The digits of a position are written as they are.
use Rattle.std.proofs.Common.{◌≡◌, ℕ, ◌+◌, ◌<◌, ◌%◌, ◌^◌, false, ◌==◌, [], ◌∷◌, ◌++◌, refl, sym, ap, ◌∙◌, decimal, arith}
use Rattle.std.specs.List.{flat_map}
use Rattle.std.proofs.lemmas.Bool.Decides.{nat_tests}
use Rattle.std.proofs.lemmas.Grind.{flat_map-append}
use Rattle.std.proofs.lemmas.Fmt.{decimal_by_steps}
use Rattle.olk_spec.specs.Names.{Path, escaped, ◌//◌}

plain_byte : (b : ℕ) → (b == 126) ≡ false → (b == 47) ≡ false → escaped b ≡ b ∷ []
plain_byte b e f = rw (e, f) refl

digit : (n : ℕ) → n < 10 → flat_map escaped ((48 + n) ∷ []) ≡ (48 + n) ∷ []
digit n l = ap (λ bs. bs ++ []) (plain_byte (48 + n) (grind (arith, nat_tests)) (grind (arith, nat_tests)))

last_digit : (n : ℕ) → n % 10 < 10
last_digit n = omega arith

plain_decimal : (n : ℕ) → n < 2 ^ 64 → flat_map escaped (decimal n) ≡ decimal n
plain_decimal = decimal_by_steps (λ n ds. flat_map escaped ds ≡ ds) digit
    (λ n ds l e. flat_map-append escaped ds ((48 + n % 10) ∷ []) ∙ (λ i. e i ++ digit (n % 10) (last_digit n) i))

pub item_below : (P : Path) (n : ℕ) → n < 2 ^ 64 → P ++ 47 ∷ decimal n ≡ P // decimal n
item_below P n l = ap (λ bs. P ++ 47 ∷ bs) (sym (plain_decimal n l))
