-- The places that a member of a schema object reads, as data, and the references there.
use Rattle.std.proofs.Common.{◌≡◌, ℕ, ◌+◌, ◌<◌, ◌≤◌, Bool, true, false, cond, List, [], ◌∷◌, ◌++◌, map, drop, length, codes, decimal, Bor, String, string_bytes, Global, slice_index_or as get_or, refl, sym, ◌∙◌, ap, append-nil, append_assoc, true≢false}
use Rattle.std.specs.List.{flat_map, enumerate_from}
use Rattle.std.proofs.lemmas.Grind.{flat_map-append}
use Rattle.std.proofs.lemmas.List.{map-append, drop_more, drop_all}
use Rattle.serde_json.specs.Data.{Data, object, Members}
use Rattle.serde_json.specs.View.{view, members_view}
use Rattle.serde_json.specs.declared.value.Value.{Value}
use Rattle.olk_spec.specs.Names.{Text, Name}
use Rattle.olk_spec.specs.World.{World}
use Rattle.olk_spec.specs.Vocabulary.{Keyword, properties, pattern_properties, additional_properties, property_names, dependent_schemas, dependencies, property_dependencies, all_of, any_of, one_of, not_keyword, if_keyword, then_keyword, else_keyword, unsupported, unread, keyword_named}
use Rattle.olk_spec.specs.Schemas.{Sub, Part, Schema, answer_for, read, read_members, branches, listed, members, numbered, is_object, has, as_text}
use Rattle.olk_spec.specs.Malformed.{itself, each, places_where, read_places, items_of_array}
use Rattle.olk_spec.proofs.Maps.{flat_map-map}
use Rattle.olk_spec.proofs.Reading.{place, entry, keyword_part, whole_read, schema_of_read, members_read, entries_read}
use Rattle.olk_meaning.specs.Conditions.{is_condition}
use Rattle.olk_meaning.proofs.AdditionalProperties.{additional_places}
use Rattle.olk_meaning.proofs.Conditions.{present, condition_read}
use Rattle.olk_meaning.proofs.Dependencies.{dependencies_places}
use Rattle.olk_meaning.proofs.Facts.{branch_entries}
use Rattle.olk_meaning.proofs.PropertyDependencies.{property_dependencies_places}
use Rattle.olk_build.specs.declared.shape.ReadPlaces.{ReadPlaces}
use Rattle.olk_document_spec.specs.Keywords.{Document_keyword, prefix_items, items, contains, reference, document_keyword, is_other, is_other_keyword, beneath}
use Rattle.olk_document_spec.specs.Malformed.{document_places, reference_texts, references_step, references_read}
use Rattle.olk_document_meaning.proofs.Others.{is_idle, own_is_idle}
use Rattle.olk_document_build.specs.References.{itself_where, layer_reads, own_reads, member_reads, schemas_of, inner_schemas, schemas_read, text_of_reference, references_in, references_of_member, references_of_members, as_texts, AppendsTexts}

-- ---- the places that are read, by any step

module _ {X : Type 0} where
  abbrev without_paths : List (Sub X × List Name) → List (Sub X)
  without_paths rs = map (λ r. r.0) rs

numbered_schemas : (n : ℕ) (ds : List Data) → schemas_of (map (λ e. (decimal e.0, e.1)) (enumerate_from n ds)) ≡ ds
numbered_schemas n [] = refl
numbered_schemas n (d ∷ ds) = ap (λ l. d ∷ l) (numbered_schemas (n + 1) ds)

module _ {X : Type 0} (step : Schema X → X) (k : Name) where
  each_place : (es : List (Name × Data)) → without_paths (each k (map (entry step) es)) ≡ map (place step) (schemas_of es)
  each_place [] = refl
  each_place (e ∷ es) = ap (λ l. place step e.1 ∷ l) (each_place es)

  below_an_entry : (n : Name) (es : List (Name × Data)) → without_paths (map (λ c. (place step c.1, k ∷ n ∷ c.0 ∷ [])) es) ≡ map (place step) (schemas_of es)
  below_an_entry n [] = refl
  below_an_entry n (e ∷ es) = ap (λ l. place step e.1 ∷ l) (below_an_entry n es)

  below_entries : (es : List (Name × Data)) → without_paths (flat_map (λ e. map (λ c. (place step c.1, k ∷ e.0 ∷ c.0 ∷ [])) (members e.1)) es) ≡ map (place step) (inner_schemas es)
  below_entries [] = refl
  below_entries (e ∷ es) = map-append (λ r. r.0) (map (λ c. (place step c.1, k ∷ e.0 ∷ c.0 ∷ [])) (members e.1)) _
      ∙ (λ i. below_an_entry e.0 (members e.1) i ++ below_entries es i)
      ∙ sym (map-append (place step) (schemas_of (members e.1)) (inner_schemas es))

  module _ (d : Data) where
    itself_place : without_paths (itself k (read step d).whole) ≡ place step d ∷ []
    itself_place = ap (λ s. s ∷ []) (whole_read step d)

    itself_or_none : (b : Bool) → without_paths (places_where k b (itself k (place step d))) ≡ map (place step) (schemas_read (itself_where b) d)
    itself_or_none true = refl
    itself_or_none false = refl

    branch_places : without_paths (each k (branches (read step d))) ≡ map (place step) (items_of_array d)
    branch_places = ap (λ es. without_paths (each k es)) (branch_entries step d) ∙ each_place (numbered (items_of_array d)) ∙ ap (map (place step)) (numbered_schemas 0 (items_of_array d))

    entry_places : without_paths (each k (read step d).entries) ≡ map (place step) (schemas_of (members d))
    entry_places = ap (λ es. without_paths (each k es)) (entries_read step d) ∙ each_place (members d)

    module _ (ms : Members) where
      abbrev places_under : Keyword → List (Sub X × List Name)
      places_under w = read_places k (read_members step ms) (read step d) w

      itself_if_object : without_paths (places_under additional_properties) ≡ map (place step) (schemas_read (itself_where (is_object d)) d)
      itself_if_object = ap without_paths (additional_places step d k (read_members step ms)) ∙ itself_or_none (is_object d)

      itself_beside_if : without_paths (places_under then_keyword) ≡ map (place step) (schemas_read (itself_where (has (codes "if") (object ms))) d)
      itself_beside_if = (λ i. without_paths (places_where k (present step ms (codes "if") i) (itself k (whole_read step d i)))) ∙ itself_or_none (has (codes "if") (object ms))

      layer_places : (w : Keyword) → without_paths (places_under w) ≡ map (place step) (schemas_read (layer_reads ms d w) d)
      layer_places properties = entry_places
      layer_places pattern_properties = entry_places
      layer_places additional_properties = itself_if_object
      layer_places property_names = itself_if_object
      layer_places dependent_schemas = entry_places
      layer_places dependencies = ap without_paths (dependencies_places step d k (read_members step ms)) ∙ each_place _
      layer_places property_dependencies = ap without_paths (property_dependencies_places step d k (read_members step ms)) ∙ below_entries (members d)
      layer_places all_of = branch_places
      layer_places any_of = branch_places
      layer_places one_of = branch_places
      layer_places not_keyword = itself_place
      layer_places if_keyword = (λ i. without_paths (places_where k (condition_read step ms i) (itself k (whole_read step d i)))) ∙ itself_or_none (is_condition ms)
      layer_places then_keyword = itself_beside_if
      layer_places else_keyword = itself_beside_if
      layer_places w = refl

      own_places : (w : Document_keyword) → without_paths (document_places k (read step d) w) ≡ map (place step) (schemas_read (own_reads w) d)
      own_places prefix_items = branch_places
      own_places items = itself_place
      own_places contains = itself_place
      own_places w = refl

      idle_places : (w : Keyword) → is_idle w ≡ true → places_under w ≡ []
      idle_places unsupported e = refl
      idle_places unread e = refl
      idle_places w e = absurd (true≢false (sym e))

      no_own_places : (w : Document_keyword) → is_other_keyword w ≡ true → document_places k (read step d) w ≡ []
      no_own_places prefix_items e = absurd (true≢false (sym e))
      no_own_places items e = absurd (true≢false (sym e))
      no_own_places contains e = absurd (true≢false (sym e))
      no_own_places w e = refl

      -- those that the member of the name k and the value d reads, beside these members
      pub member_places : (W : World) → without_paths (places_under (keyword_named (beneath W) k) ++ document_places k (read step d) (document_keyword k)) ≡ map (place step) (schemas_read (member_reads ms d W k) d)
      member_places W = by (is_other k) refl
        where
          named : Keyword
          named = keyword_named (beneath W) k

          by : (b : Bool) → is_other k ≡ b → without_paths (places_under named ++ document_places k (read step d) (document_keyword k))
              ≡ map (place step) (schemas_read (cond b (layer_reads ms d named) (own_reads (document_keyword k))) d)
          by true q = ap (λ l. without_paths (places_under named ++ l)) (no_own_places (document_keyword k) q) ∙ ap without_paths (append-nil _) ∙ layer_places named
          by false q = ap (λ l. without_paths (l ++ document_places k (read step d) (document_keyword k))) (idle_places named (own_is_idle W k q)) ∙ own_places (document_keyword k)

-- ---- the references of a schema object

module _ (W : World) where
  abbrev step : Schema (List Text) → List Text
  step = references_step W

  own_text : (k : Name) (d : Data) (w : Document_keyword) → reference_texts k (read step d) w ≡ text_of_reference w d
  own_text k d reference = ap as_text (schema_of_read step d)
  own_text k d w = refl

  texts_of_places : (rs : List (Sub (List Text) × List Name)) (ds : List Data) → without_paths rs ≡ map (place step) ds → flat_map (λ r. r.0.answer) rs ≡ references_in W ds
  unfolding references_read
  texts_of_places rs ds e = sym (flat_map-map (λ s. s.answer) (λ r. r.0.answer) (λ r. r.0) (λ r. refl) rs) ∙ ap (flat_map (λ s. s.answer)) e
      ∙ flat_map-map (λ s. s.answer) (answer_for step) (place step) (λ d. refl) ds

  module _ (ms : Members) where
    abbrev texts_of_member : Name × Part (List Text) → List Text
    texts_of_member m = reference_texts m.0 m.1 (document_keyword m.0)
        ++ flat_map (λ r. r.0.answer) (read_places m.0 (read_members step ms) m.1 (keyword_named (beneath W) m.0) ++ document_places m.0 m.1 (document_keyword m.0))

    member_texts : (m : Name × Data) → texts_of_member (keyword_part step m) ≡ references_of_member W ms m
    member_texts m = λ i. own_text m.0 m.1 (document_keyword m.0) i ++ texts_of_places _ _ (member_places step m.0 m.1 ms W) i

    pub references_of_object : references_read W (object ms) ≡ references_of_members W ms (listed ms)
    unfolding references_read
    references_of_object = ap (flat_map texts_of_member) (members_read step ms) ∙ flat_map-map texts_of_member (references_of_member W ms) (keyword_part step) member_texts (listed ms)

  pub no_references : (d : Data) → members d ≡ [] → references_read W d ≡ []
  unfolding references_read
  no_references (object ms) e = references_of_object ms ∙ ap (references_of_members W ms) e
  no_references _ e = refl

-- ---- lists of texts that grow

-- what was appended so far, and what is left of all
pub record AppendsSoFar (done : List (Bor Text)) (left : World → List Text) (start : List (Bor Text)) (all : World → List Text) : Type 0 where
  pub texts : (W : World) → as_texts done ++ left W ≡ as_texts start ++ all W

module _ {left all : World → List Text} where
  pub none_so_far : {start : List (Bor Text)} → ((W : World) → left W ≡ all W) → AppendsSoFar start left start all
  none_so_far {start} e = record { texts = λ W. ap (λ ts. as_texts start ++ ts) (e W) }

  module _ {done start : List (Bor Text)} (h : AppendsSoFar done left start all) where
    pub nothing_more : {rest : World → List Text} → ((W : World) → left W ≡ rest W) → AppendsSoFar done rest start all
    nothing_more e = record { texts = λ W. ap (λ ts. as_texts done ++ ts) (sym (e W)) ∙ h.texts W }

    pub some_more : {new : List (Bor Text)} {rest : World → List Text} (here : World → List Text) → ((W : World) → left W ≡ here W ++ rest W) → AppendsTexts done new here → AppendsSoFar new rest start all
    some_more {rest = rest} here e a = record { texts = λ W. ap (λ ts. ts ++ rest W) (a W) ∙ append_assoc (as_texts done) (here W) (rest W) ∙ ap (λ ts. as_texts done ++ ts) (sym (e W)) ∙ h.texts W }

    pub all_so_far : ((W : World) → left W ≡ []) → AppendsTexts start done all
    all_so_far e W = sym (append-nil (as_texts done)) ∙ ap (λ ts. as_texts done ++ ts) (sym (e W)) ∙ h.texts W

-- the references of the members of a schema object
abbrev pub MembersSoFar : Members → List (Bor Text) → List (String Global × Value) → List (Bor Text) → Type 0
MembersSoFar ms done left start = AppendsSoFar done (λ W. references_of_members W ms (listed (members_view left))) start (λ W. references_read W (object ms))

pub no_member_so_far : {left whole : List (String Global × Value)} {start : List (Bor Text)} → left ≡ whole → MembersSoFar (members_view whole) start left start
no_member_so_far {whole = whole} e =
    none_so_far (λ W. ap (λ l. references_of_members W (members_view whole) (listed (members_view l))) e ∙ sym (references_of_object W (members_view whole)))

module _ (ms : Members) where
  module _ {n : String Global} {v : Value} {left rest : List (String Global × Value)} (steps : left ≡ (n, v) ∷ rest) where
    pub one_more_member : (done between new : List (Bor Text)) {start : List (Bor Text)} {name : Name} {places : ReadPlaces} → MembersSoFar ms done left start → name ≡ string_bytes n
        → as_texts between ≡ as_texts done ++ text_of_reference (document_keyword name) (view v) → ((W : World) → places ≡ member_reads ms (view v) W name)
        → AppendsTexts between new (λ W. references_in W (schemas_read places (view v))) → MembersSoFar ms new rest start
    one_more_member done between new {name = name} {places = places} h e own reads inside = record {
      texts = λ W.
          let text = text_of_reference (document_keyword name) (view v) in
          let below = references_in W (schemas_read places (view v)) in
          let others = references_of_members W ms (listed (members_view rest)) in
          let here : references_of_member W ms (string_bytes n, view v) ≡ text ++ below =
          λ i. text_of_reference (document_keyword (sym e i)) (view v) ++ references_in W (schemas_read ((ap (λ m. member_reads ms (view v) W m) (sym e) ∙ sym (reads W)) i) (view v)) in
          ap (λ ts. ts ++ others) (inside W ∙ ap (λ ts. ts ++ below) own ∙ append_assoc (as_texts done) text below)
          ∙ append_assoc (as_texts done) (text ++ below) others
          ∙ ap (λ ts. as_texts done ++ ts) (ap (λ ts. ts ++ others) (sym here) ∙ ap (λ l. references_of_members W ms (listed (members_view l))) (sym steps))
          ∙ h.texts W;
    }

-- the entries of an entry, and those of the others
pub inner_entries_left : {n : String Global} {v : Value} {left rest : List (String Global × Value)} → left ≡ (n, v) ∷ rest → (W : World)
    → references_in W (inner_schemas (listed (members_view left))) ≡ references_in W (schemas_of (members (view v))) ++ references_in W (inner_schemas (listed (members_view rest)))
inner_entries_left {v = v} {rest = rest} steps W = ap (λ l. references_in W (inner_schemas (listed (members_view l)))) steps
    ∙ flat_map-append (references_read W) (schemas_of (members (view v))) (inner_schemas (listed (members_view rest)))

-- the items of an array from a position on
abbrev pub items_from : ℕ → List Value → List Data
items_from i vs = map view (drop i vs)

module _ (i : ℕ) (vs : List Value) where
  pub next_item : {v : Value} → i < length vs → v ≡ get_or vs i v → items_from i vs ≡ view v ∷ items_from (i + 1) vs
  next_item {v} l e = ap (map view) (drop_more vs i v l ∙ ap (λ w. w ∷ drop (i + 1) vs) (sym e))

  pub no_item : length vs ≤ i → items_from i vs ≡ []
  no_item l = ap (map view) (drop_all i vs l)
