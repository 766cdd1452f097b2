-- Which places the members of a schema object read doesn't depend on what is asked of them.
use Rattle.std.proofs.Common.{◌≡◌, Bool, true, false, ◌&&◌, ◌||◌, List, [], ◌∷◌, map, codes, refl, sym, ◌∙◌, ap}
use Rattle.std.specs.Prelude.{⊤}
use Rattle.std.specs.List.{flat_map}
use Rattle.serde_json.specs.Data.{Data, object, Members, no_members, member}
use Rattle.olk_spec.specs.Names.{Name}
use Rattle.olk_spec.specs.World.{World}
use Rattle.olk_spec.specs.Malformed.{each, itself, places_where, read_places, items_of_array}
use Rattle.olk_spec.specs.Meanings.{is_conditional}
use Rattle.olk_spec.specs.Schemas.{Sub, Part, Schema, Keywords, read, read_members, listed, members, numbered, is_object, is_present}
use Rattle.olk_spec.specs.Vocabulary.{Keyword, properties, pattern_properties, additional_properties, property_names, dependent_schemas, dependencies, property_dependencies, keyword_named}
use Rattle.olk_spec.specs.Vocabulary.{all_of, any_of, one_of, not_keyword, if_keyword, then_keyword, else_keyword}
use Rattle.olk_spec.proofs.Each.{Each, Each-filter_once, Each-flat_map, Each-implies, Each-map}
use Rattle.olk_spec.proofs.Induction.{GoodEntry, GoodInner, GoodKeywords, GoodPart, GoodSchema, branches_good, good_answer, schema_read}
use Rattle.olk_spec.proofs.Maps.{map-map}
use Rattle.olk_spec.proofs.Reading.{entry, place, entries_read, is_present_read, whole_read}
use Rattle.olk_meaning.proofs.AdditionalProperties.{additional_places}
use Rattle.olk_meaning.proofs.Dependencies.{dependencies_places}
use Rattle.olk_meaning.proofs.Facts.{branch_entries, map-flat_map}
use Rattle.olk_meaning.proofs.PropertyDependencies.{inner_places, property_dependencies_places}
use Rattle.olk_meaning.specs.Dependencies.{schema_entries}
use Rattle.olk_document_spec.specs.Keywords.{Document_keyword, prefix_items, items, contains, document_keyword, beneath}
use Rattle.olk_document_spec.specs.Malformed.{document_places}

-- places, each with its path below the schema object, of which nothing is asked
abbrev pub Unasked : Type 0
Unasked = List (Sub ⊤ × List Name)

abbrev pub ask_nothing : Schema ⊤ → ⊤
ask_nothing S = tt

module _ {X : Type 0} (step : Schema X → X) where
  abbrev pub asked_by : Unasked → List (Sub X × List Name)
  asked_by rs = map (λ r. (place step r.0.schema, r.1)) rs

  module _ (k : Name) where
    each_asked : (es : List (Name × Data)) → each k (map (entry step) es) ≡ asked_by (each k (map (entry ask_nothing) es))
    each_asked [] = refl
    each_asked (e ∷ es) = ap (λ rs. (place step e.1, k ∷ e.0 ∷ []) ∷ rs) (each_asked es)

    where_asked : (b : Bool) (d : Data) → places_where k b (itself k (place step d)) ≡ asked_by (places_where k b (itself k (place ask_nothing d)))
    where_asked true d = refl
    where_asked false d = refl

    inner_asked : (d : Data) → inner_places step d k ≡ asked_by (inner_places ask_nothing d k)
    inner_asked d = sym (map-flat_map (λ e. map (λ c. (place ask_nothing c.1, k ∷ e.0 ∷ c.0 ∷ [])) (members e.1)) (λ r. (place step r.0.schema, r.1)) (members d)
        ∙ (λ i. flat_map (λ e. map-map (λ (r : Sub ⊤ × List Name). (place step r.0.schema, r.1)) (λ c. (place step c.1, k ∷ e.0 ∷ c.0 ∷ [])) (λ c. (place ask_nothing c.1, k ∷ e.0 ∷ c.0 ∷ [])) (λ c. refl) (members e.1) i) (members d)))

    module _ (d : Data) where
      entries_asked : each k (read step d).entries ≡ asked_by (each k (read ask_nothing d).entries)
      entries_asked = ap (each k) (entries_read step d) ∙ each_asked (members d) ∙ ap (λ es. asked_by (each k es)) (sym (entries_read ask_nothing d))

      branches_asked : each k (numbered (read step d).items) ≡ asked_by (each k (numbered (read ask_nothing d).items))
      branches_asked = ap (each k) (branch_entries step d) ∙ each_asked (numbered (items_of_array d)) ∙ ap (λ es. asked_by (each k es)) (sym (branch_entries ask_nothing d))

      itself_asked : itself k (read step d).whole ≡ asked_by (itself k (read ask_nothing d).whole)
      itself_asked = ap (itself k) (whole_read step d) ∙ ap (λ s. asked_by (itself k s)) (sym (whole_read ask_nothing d))

      pub own_places_asked : (w : Document_keyword) → document_places k (read step d) w ≡ asked_by (document_places k (read ask_nothing d) w)
      own_places_asked prefix_items = branches_asked
      own_places_asked items = itself_asked
      own_places_asked contains = itself_asked
      own_places_asked _ = refl

      module _ (ms : Members) where
        abbrev S : Keywords X
        S = read_members step ms

        abbrev N : Keywords ⊤
        N = read_members ask_nothing ms

        present_alike : (n : Name) → is_present S n ≡ is_present N n
        present_alike n = is_present_read step ms n ∙ sym (is_present_read ask_nothing ms n)

        conditional_alike : is_conditional S ≡ is_conditional N
        conditional_alike = λ i. present_alike (codes "if") i && (present_alike (codes "then") i || present_alike (codes "else") i)

        where_alike : (b c : Bool) → b ≡ c → places_where k b (itself k (read step d).whole) ≡ asked_by (places_where k c (itself k (read ask_nothing d).whole))
        where_alike b c e = (λ i. places_where k (e i) (itself k (whole_read step d i))) ∙ where_asked c d ∙ ap (λ s. asked_by (places_where k c (itself k s))) (sym (whole_read ask_nothing d))

        object_asked : read_places k S (read step d) additional_properties ≡ asked_by (read_places k N (read ask_nothing d) additional_properties)
        object_asked = additional_places step d k S ∙ where_asked (is_object d) d ∙ ap asked_by (sym (additional_places ask_nothing d k N))

        pub layer_places_asked : (w : Keyword) → read_places k S (read step d) w ≡ asked_by (read_places k N (read ask_nothing d) w)
        layer_places_asked properties = entries_asked
        layer_places_asked pattern_properties = entries_asked
        layer_places_asked additional_properties = object_asked
        layer_places_asked property_names = object_asked
        layer_places_asked dependent_schemas = entries_asked
        layer_places_asked dependencies = dependencies_places step d k S ∙ each_asked (schema_entries d) ∙ ap asked_by (sym (dependencies_places ask_nothing d k N))
        layer_places_asked property_dependencies = property_dependencies_places step d k S ∙ inner_asked d ∙ ap asked_by (sym (property_dependencies_places ask_nothing d k N))
        layer_places_asked all_of = branches_asked
        layer_places_asked any_of = branches_asked
        layer_places_asked one_of = branches_asked
        layer_places_asked not_keyword = itself_asked
        layer_places_asked if_keyword = where_alike (is_conditional S) (is_conditional N) conditional_alike
        layer_places_asked then_keyword = where_alike (is_present S (codes "if")) (is_present N (codes "if")) (present_alike (codes "if"))
        layer_places_asked else_keyword = where_alike (is_present S (codes "if")) (is_present N (codes "if")) (present_alike (codes "if"))
        layer_places_asked _ = refl

-- ---- induction over the places that are read

-- Good: a fact of the data at a place
module _ (Good : Data → Type 0) where
  abbrev pub GoodPlace : Sub ⊤ × List Name → Type 0
  GoodPlace r = Good r.0.schema

  abbrev GoodAnswer : Data → ⊤ → Type 0
  GoodAnswer d x = Good d

  module _ (k : Name) (p : Part ⊤) (h : GoodPart GoodAnswer p) where
    each_good : (es : List (Name × Sub ⊤)) → Each (GoodEntry GoodAnswer) es → Each GoodPlace (each k es)
    each_good es = Each-map GoodPlace _ es

    where_good : (b : Bool) → Each GoodPlace (places_where k b (itself k p.whole))
    where_good true = (h.0, tt)
    where_good false = tt

    layer_places_good : (S : Keywords ⊤) (w : Keyword) → Each GoodPlace (read_places k S p w)
    layer_places_good S properties = each_good p.entries h.1
    layer_places_good S pattern_properties = each_good p.entries h.1
    layer_places_good S additional_properties = where_good _
    layer_places_good S property_names = where_good _
    layer_places_good S dependent_schemas = each_good p.entries h.1
    layer_places_good S dependencies = each_good _ (Each-filter_once (GoodEntry GoodAnswer) _ p.entries h.1)
    layer_places_good S property_dependencies = Each-flat_map GoodPlace _ p.inner (Each-implies (GoodInner GoodAnswer) _ (λ e g. Each-map GoodPlace _ e.1 g) p.inner h.2)
    layer_places_good S all_of = each_good _ (branches_good GoodAnswer p h)
    layer_places_good S any_of = each_good _ (branches_good GoodAnswer p h)
    layer_places_good S one_of = each_good _ (branches_good GoodAnswer p h)
    layer_places_good S not_keyword = (h.0, tt)
    layer_places_good S if_keyword = where_good _
    layer_places_good S then_keyword = where_good _
    layer_places_good S else_keyword = where_good _
    layer_places_good S _ = tt

    own_places_good : (w : Document_keyword) → Each GoodPlace (document_places k p w)
    own_places_good prefix_items = each_good _ (branches_good GoodAnswer p h)
    own_places_good items = (h.0, tt)
    own_places_good contains = (h.0, tt)
    own_places_good _ = tt

module _ (W : World) where
  -- the places that a member of a schema object reads, as a keyword of the layer and as one of the document
  abbrev pub layer_places : Members → Name × Data → Unasked
  layer_places ms m = read_places m.0 (read_members ask_nothing ms) (read ask_nothing m.1) (keyword_named (beneath W) m.0)

  abbrev pub own_places : Name × Data → Unasked
  own_places m = document_places m.0 (read ask_nothing m.1) (document_keyword m.0)

  module _ (Good : Data → Type 0) where
    -- of each place that the member reads
    abbrev pub GoodMember : Members → Name × Data → Type 0
    GoodMember ms m = Each (GoodPlace Good) (layer_places ms m) × Each (GoodPlace Good) (own_places m)

    members_good : (ms ns : Members) → GoodKeywords (GoodAnswer Good) (read_members ask_nothing ns) → Each (GoodMember ms) (listed ns)
    members_good ms no_members h = tt
    members_good ms (member n d ns) h =
        ((layer_places_good Good n (read ask_nothing d) h.0 (read_members ask_nothing ms) (keyword_named (beneath W) n), own_places_good Good n (read ask_nothing d) h.0 (document_keyword n)), members_good ms ns h.1)

    -- a fact of what is no object, and of each object that has it at the places that its members read
    pub by_places_read : ((d : Data) → is_object d ≡ false → Good d) → ((ms : Members) → Each (GoodMember ms) (listed ms) → Good (object ms)) → (d : Data) → Good d
    by_places_read of_no_object of_object d = good_answer (GoodAnswer Good) ask_nothing keep d
      where
        keep : (d : Data) → GoodSchema (GoodAnswer Good) (schema_read ask_nothing d) → Good d
        keep (object ms) h = of_object ms (members_good ms ms h)
        keep d h = of_no_object d refl
