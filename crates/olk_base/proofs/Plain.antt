-- The JSON text of a plain text is the text between quotes.
use Rattle.std.proofs.Common.{◌≡◌, ℕ, true, List, [], ◌∷◌, ◌++◌, refl, ap, arith}
use Rattle.std.specs.List.{list_all}
use Rattle.std.proofs.lemmas.Bool.{and_parts}
use Rattle.std.proofs.lemmas.Bool.Decides.{nat_tests}
use Rattle.json.specs.Print.{escape_byte, escape}
use Rattle.serde_json.specs.Data.{string}
use Rattle.serde_json.specs.Written.{compact_text}
use Rattle.olk_base.specs.Plain.{is_plain}

escape_byte-plain : (b : ℕ) → is_plain b ≡ true → escape_byte b ≡ b ∷ []
unfolding escape_byte
escape_byte-plain b plain = grind (arith, nat_tests)

escape-plain : (s : List ℕ) → list_all is_plain s ≡ true → escape s ≡ s
escape-plain [] plain = refl
escape-plain (b ∷ s) plain = let parts = and_parts (is_plain b) (list_all is_plain s) plain in rw (escape_byte-plain b parts.0, escape-plain s parts.1) refl

pub compact_text-plain : (s : List ℕ) → list_all is_plain s ≡ true → compact_text (string s) ≡ 34 ∷ (s ++ 34 ∷ [])
compact_text-plain s plain = ap (λ t. 34 ∷ (t ++ 34 ∷ [])) (escape-plain s plain)
