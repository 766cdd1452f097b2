use Rattle.std.proofs.Common.{◌≡◌, None, [], ◌∷◌, refl, sym, ap, ne_eqb, arith}
use Rattle.std.proofs.lemmas.Str.Pattern.{strip_prefix_char}
use Rattle.serde_json.specs.Data.{Data}
use Rattle.serde_json.specs.View.{view}
use Rattle.olk_spec.specs.Names.{Text}
use Rattle.olk_document_spec.specs.Documents.{place_named}
use Rattle.olk_document_meaning.proofs.pointers.place_named.Goals as goal

names_none : (D : Data) (t : Text) → ((rest : Text) → t ≡ 35 ∷ rest → ⊥) → place_named D t ≡ None
names_none D [] h = refl
names_none D (b ∷ t) h = rw (ne_eqb b 35 (λ e. h t (ap (λ x. x ∷ t) e)))

pub returns-in_default : goal.returns-in_default
returns-in_default c =
    let text = c.args.text.now in
    let other = rw c.in_default.is at (strip_prefix_char 35 text c.strip_prefix.result c.strip_prefix.ensures.cases (omega arith)) in
    sym (names_none (view c.args.document.now) text other)
