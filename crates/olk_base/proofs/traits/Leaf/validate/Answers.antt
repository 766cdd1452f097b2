use Rattle.std.proofs.Common.{◌≡◌, ℕ, ◌+◌, List, [], ◌∷◌, ◌++◌, length, map, Option, Some, None, MatchOption, option_to_list, String, Global, string_bytes, refl, sym, ap, subst, ◌∙◌, rules, arith}
use Rattle.std.specs.List.{Contains}
use Rattle.std.proofs.lemmas.List.{map-append}
use Rattle.std.proofs.lemmas.List.Elements.{Contains-push}
use Rattle.olk_spec.specs.Names.{Text}
use Rattle.olk_base.specs.Lawful.{IsOneOf, texts_of}
use Rattle.olk_base.specs.Nodes.{data_of}
use Rattle.olk_base.proofs.traits.Leaf.validate.Goals as goal

no_items : (items : List (String Global)) → length items ≡ 0 → items ≡ []
no_items [] none = refl
no_items (s ∷ items) none = absurd (omega arith)

last_is_one : (texts : List Text) (items left : List (String Global)) (n m : ℕ) (o : Option (String Global)) → texts_of items ≡ texts → items ≡ left
    ++ option_to_list o → n ≡ length items → MatchOption o ((n ≡ 0) × (m ≡ 0)) (λ s. m + 1 ≡ n) → IsOneOf texts o
last_is_one texts items left n m None e f l h = sym e ∙ ap texts_of (no_items items (omega (arith, h.0)))
last_is_one texts items left n m (Some s) e f l h =
    subst (λ ts. Contains ts (string_bytes s)) (sym (map-append string_bytes left (s ∷ [])) ∙ ap texts_of (sym f) ∙ e) (Contains-push (map string_bytes left) (string_bytes s))

pub returns : goal.returns
returns g c =
    let texts = c.collect_errors.new.texts in
    let finds = g.Self.Leaf.finds c.args.self.now (data_of c.args.node) in
    last_is_one finds texts.items c.pop.new.self.items texts.len c.pop.new.self.len c.pop.result
    (c.in_ok-collect_errors.ensures.ok ∙ ap (λ l. texts_of l ++ finds) c.new-texts.ensures.items) c.pop.ensures.items (search rules) c.pop.ensures.cases
