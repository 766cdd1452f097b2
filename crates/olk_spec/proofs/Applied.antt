-- What a keyword asks: subschemas of it, about the value or about members of it.
use Rattle.std.specs.Prelude.{Bool, true, false, not, ◌&&◌, List, [], ◌∷◌, map, option_to_list}
use Rattle.std.specs.List.{flat_map}
use Rattle.serde_json.specs.Data.{Data}
use Rattle.olk_spec.specs.Names.{Name, filter_once, put_if, lookup_name, is_empty}
use Rattle.olk_spec.specs.World.{World}
use Rattle.olk_spec.specs.Vocabulary.{Keyword, properties, pattern_properties, additional_properties, dependent_schemas, dependencies, property_dependencies, all_of, then_keyword, else_keyword}
use Rattle.olk_spec.specs.Schemas.{at, as_text, has, is_array, is_object, Keywords, Part, members, branches}
use Rattle.olk_spec.specs.Meanings.{Meaning, Subschema, applied, additional, Asked, asked, asked_whole, matches, is_declared, matching, if_accepts, if_refuses}
use Rattle.olk_spec.proofs.Each.{Each, Each-implies, Each-map, Each-flat_map, Each-filter_once, Each-any, Each-option, On-lookup_name}
use Rattle.olk_spec.proofs.Induction.{GoodSub, GoodEntry, GoodPart, branches_good}

-- Good: a fact of a place's data and its answer; Fine: a fact of the value and of each member of it
module _ (Good : Data → Meaning → Type 0) (Fine : Data → Type 0) where
  abbrev pub GoodAsked : Asked → Type 0
  GoodAsked a = Good a.sub.schema a.sub.answer × Fine a.value

  module _ (W : World) (u : Bool) (S : Keywords Meaning) (k : Name) (p : Part Meaning) (h : GoodPart Good p) (v : Data) (fine : Fine v) (fines : Each (λ m. Fine m.1) (members v)) where
    abbrev All_good : List Asked → Type 0
    All_good xs = Each GoodAsked xs

    entry_row : (f : Name × Subschema → List Asked) → ((e : Name × Subschema) → GoodEntry Good e → All_good (f e)) → (es : List (Name × Subschema)) → Each (GoodEntry Good) es → All_good (flat_map f es)
    entry_row f g es c = Each-flat_map GoodAsked f es (Each-implies (GoodEntry Good) (λ e. All_good (f e)) g es c)

    whole_row : (es : List (Name × Subschema)) → Each (GoodEntry Good) es → All_good (asked_whole k v es)
    whole_row es g = Each-map GoodAsked (λ e. asked e.1 v (k ∷ e.0 ∷ []) []) es (Each-implies (GoodEntry Good) (λ e. GoodEntry Good e × Fine v) (λ e c. (c, fine)) es g)

    where_row : (b : Bool) (a : Asked) → GoodAsked a → All_good (put_if b a [])
    where_row true a g = (g, tt)
    where_row false a g = tt

    at_row : (e : Name × Subschema) → GoodEntry Good e → All_good (map (λ w. asked e.1 w (k ∷ e.0 ∷ []) (e.0 ∷ [])) (at e.0 v))
    at_row e g = Each-map GoodAsked (λ w. asked e.1 w (k ∷ e.0 ∷ []) (e.0 ∷ [])) (at e.0 v) (Each-implies Fine (λ w. GoodEntry Good e × Fine w) (λ w c. (g, c)) (at e.0 v) (Each-option Fine (lookup_name e.0 (members v)) (On-lookup_name Fine e.0 (members v) fines)))

    match_row : (e : Name × Subschema) → GoodEntry Good e → All_good (map (λ m. asked e.1 m.1 (k ∷ e.0 ∷ []) (m.0 ∷ [])) (filter_once (λ m. matches W u e.0 m.0) (members v)))
    match_row e g = Each-map GoodAsked (λ m. asked e.1 m.1 (k ∷ e.0 ∷ []) (m.0 ∷ [])) (filter_once (λ m. matches W u e.0 m.0) (members v)) (Each-implies (λ m. Fine m.1) (λ m. GoodEntry Good e × Fine m.1) (λ m c. (g, c)) (filter_once (λ m. matches W u e.0 m.0) (members v)) (Each-filter_once (λ m. Fine m.1) (λ m. matches W u e.0 m.0) (members v) fines))

    text_row : (e : Name × List (Name × Subschema)) → Each (GoodEntry Good) e.1 → All_good (flat_map (λ t. map (λ s. asked s v (k ∷ e.0 ∷ t ∷ []) []) (option_to_list (lookup_name t e.1))) (flat_map as_text (at e.0 v)))
    text_row e g = Each-flat_map GoodAsked (λ t. map (λ s. asked s v (k ∷ e.0 ∷ t ∷ []) []) (option_to_list (lookup_name t e.1))) (flat_map as_text (at e.0 v))
        (Each-any (λ t. All_good (map (λ s. asked s v (k ∷ e.0 ∷ t ∷ []) []) (option_to_list (lookup_name t e.1)))) (λ t. Each-map GoodAsked (λ s. asked s v (k ∷ e.0 ∷ t ∷ []) []) (option_to_list (lookup_name t e.1)) (Each-implies (GoodSub Good) (λ s. GoodSub Good s × Fine v) (λ s c. (c, fine)) (option_to_list (lookup_name t e.1)) (Each-option (GoodSub Good) (lookup_name t e.1) (On-lookup_name (GoodSub Good) t e.1 g)))) (flat_map as_text (at e.0 v)))

    pub applied_good : (w : Keyword) → All_good (applied W u S k p v w)
    applied_good properties = entry_row (λ e. map (λ w. asked e.1 w (k ∷ e.0 ∷ []) (e.0 ∷ [])) (at e.0 v)) at_row p.entries h.1
    applied_good pattern_properties = entry_row (λ e. map (λ m. asked e.1 m.1 (k ∷ e.0 ∷ []) (m.0 ∷ [])) (filter_once (λ m. matches W u e.0 m.0) (members v))) match_row p.entries h.1
    applied_good additional_properties = Each-flat_map GoodAsked (λ m. put_if (is_object p.whole.schema) (asked p.whole m.1 (k ∷ []) (m.0 ∷ [])) []) (additional S W u v)
        (Each-implies (λ m. Fine m.1) (λ m. All_good (put_if (is_object p.whole.schema) (asked p.whole m.1 (k ∷ []) (m.0 ∷ [])) [])) (λ m c. where_row (is_object p.whole.schema) (asked p.whole m.1 (k ∷ []) (m.0 ∷ [])) (h.0, c)) (additional S W u v)
        (Each-filter_once (λ m. Fine m.1) (λ m. not (is_declared S m.0) && is_empty (matching S W u m.0)) (members v) fines))
    applied_good dependent_schemas = whole_row (filter_once (λ e. has e.0 v) p.entries) (Each-filter_once (GoodEntry Good) (λ e. has e.0 v) p.entries h.1)
    applied_good dependencies = whole_row (filter_once (λ e. has e.0 v && not (is_array e.1.schema)) p.entries) (Each-filter_once (GoodEntry Good) (λ e. has e.0 v && not (is_array e.1.schema)) p.entries h.1)
    applied_good property_dependencies = Each-flat_map GoodAsked (λ e. flat_map (λ t. map (λ s. asked s v (k ∷ e.0 ∷ t ∷ []) []) (option_to_list (lookup_name t e.1))) (flat_map as_text (at e.0 v))) p.inner (Each-implies (λ e. Each (GoodEntry Good) e.1) (λ e. All_good (flat_map (λ t. map (λ s. asked s v (k ∷ e.0 ∷ t ∷ []) []) (option_to_list (lookup_name t e.1))) (flat_map as_text (at e.0 v)))) text_row p.inner h.2)
    applied_good all_of = whole_row (branches p) (branches_good Good p h)
    applied_good then_keyword = where_row (if_accepts S v) (asked p.whole v (k ∷ []) []) (h.0, fine)
    applied_good else_keyword = where_row (if_refuses S v) (asked p.whole v (k ∷ []) []) (h.0, fine)
    applied_good _ = tt
