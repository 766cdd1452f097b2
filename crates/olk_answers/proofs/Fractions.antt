-- A malformation of a schema that has no fraction prints none.
use Rattle.std.proofs.Common.{◌≡◌, Bool, true, false, not, List, [], ◌∷◌, refl, codes}
use Rattle.std.specs.List.{AllByRecursion, Contains}
use Rattle.std.proofs.lemmas.List.Elements.{All-from_recursion, All-contains}
use Rattle.serde_json.specs.Data.{Data, null, boolean, string, array, object, Items, no_items, item, Members, no_members, member}
use Rattle.serde_json.specs.Written.{has_float, items_have_float, members_have_float}
use Rattle.olk_spec.proofs.Walks.{neither}
use Rattle.olk_spec.specs.Names.{Name, Path, ◌//◌, down, filter_once, put_if}
use Rattle.olk_spec.specs.World.{World}
use Rattle.olk_spec.specs.Vocabulary.{Keyword, properties, pattern_properties, additional_properties, property_names, required, dependent_required, dependent_schemas, dependencies, property_dependencies, all_of, any_of, one_of, not_keyword, if_keyword, then_keyword, else_keyword, unsupported, leaf, keyword_named}
use Rattle.olk_spec.specs.Schemas.{Sub, Part, Keywords, is_object, is_array, is_present, texts, read_members}
use Rattle.olk_spec.specs.Meanings.{is_conditional}
use Rattle.olk_spec.specs.Asks.{open_patterns}
use Rattle.olk_spec.specs.Faults.{Fault, UniqueItems, Regex}
use Rattle.olk_spec.specs.Malformed.{each, places_where, read_places, refusal, first_of_list, items_list, items_of_array, not_a_text, has_repeat, or_else_list, unless_object, unless_array, name_list_refusals, own_refusals, keyword_malformations, malformations_step, malformations_at, malformations}
use Rattle.olk_spec.proofs.Each.{Each, Each-append, Each-filter_once, Each-any, Each-map, Each-flat_map, Each-implies}
use Rattle.olk_spec.proofs.Induction.{schema_read, EachItem, EachMember, GoodEntry, GoodInner, GoodPart, GoodSchema, sound_answer, branches_good}
use Rattle.olk_spec.specs.Texts.{prints_fraction}

-- a value that has no fraction, and a fault that prints none
abbrev pub IsPlain : Data → Type 0
IsPlain d = has_float d ≡ false

abbrev pub PrintsNone : Fault → Type 0
PrintsNone f = prints_fraction f ≡ false

abbrev Told : Type 0
Told = Path → List Fault

abbrev Good : Data → Told → Type 0
Good d told = IsPlain d × ((P : Path) → Each PrintsNone (told P))

abbrev GoodPlace : Sub Told × List Name → Type 0
GoodPlace r = Good r.0.schema r.0.answer

pub each_item : (ds : Items) → items_have_float ds ≡ false → EachItem IsPlain ds
each_item no_items h = tt
each_item (item d ds) h = let p = neither (has_float d) (items_have_float ds) h in (p.0, each_item ds p.1)

pub each_member : (ms : Members) → members_have_float ms ≡ false → EachMember IsPlain ms
each_member no_members h = tt
each_member (member k d ms) h = let p = neither (has_float d) (members_have_float ms) h in (p.0, each_member ms p.1)

-- ---- the places that a keyword reads

each_good : (k : Name) (es : List (Name × Sub Told)) → Each (GoodEntry Good) es → Each GoodPlace (each k es)
each_good k es = Each-map GoodPlace _ es

where_good : (k : Name) (b : Bool) (ps : List (Sub Told × List Name)) → Each GoodPlace ps → Each GoodPlace (places_where k b ps)
where_good k true ps h = h
where_good k false ps h = tt

module _ (k : Name) (S : Keywords Told) (p : Part Told) (h : GoodPart Good p) where
  places_good : (w : Keyword) → Each GoodPlace (read_places k S p w)
  places_good properties = each_good k p.entries h.1
  places_good pattern_properties = each_good k p.entries h.1
  places_good additional_properties = where_good k (is_object p.whole.schema) _ (h.0, tt)
  places_good property_names = where_good k (is_object p.whole.schema) _ (h.0, tt)
  places_good dependent_schemas = each_good k p.entries h.1
  places_good dependencies = each_good k _ (Each-filter_once (GoodEntry Good) _ _ h.1)
  places_good property_dependencies = Each-flat_map GoodPlace _ _ (Each-implies (GoodInner Good) _ (λ e g. Each-map GoodPlace _ e.1 g) _ h.2)
  places_good all_of = each_good k _ (branches_good Good p h)
  places_good any_of = each_good k _ (branches_good Good p h)
  places_good one_of = each_good k _ (branches_good Good p h)
  places_good not_keyword = (h.0, tt)
  places_good if_keyword = where_good k (is_conditional S) _ (h.0, tt)
  places_good then_keyword = where_good k (is_present S (codes "if")) _ (h.0, tt)
  places_good else_keyword = where_good k (is_present S (codes "if")) _ (h.0, tt)
  places_good w = tt

-- ---- a keyword itself

pub put_prints : (b : Bool) (f : Fault) → PrintsNone f → Each PrintsNone (put_if b f [])
put_prints true f h = (h, tt)
put_prints false f h = tt

first_prints : (ds : List Data) → Each IsPlain ds → Each IsPlain (first_of_list ds)
first_prints [] h = tt
first_prints (d ∷ ds) h = (h.0, tt)

or_prints : (fs gs : List Fault) → Each PrintsNone fs → Each PrintsNone gs → Each PrintsNone (or_else_list fs gs)
or_prints [] gs h k = k
or_prints (f ∷ fs) gs h k = h

list_plain : (ds : Items) → items_have_float ds ≡ false → Each IsPlain (items_list ds)
list_plain no_items h = tt
list_plain (item d ds) h = let p = neither (has_float d) (items_have_float ds) h in (p.0, list_plain ds p.1)

items_plain : (d : Data) → IsPlain d → Each IsPlain (items_of_array d)
items_plain (array ds) h = list_plain ds h
items_plain d h = tt

not_text_prints : (d : Data) (P : Path) → IsPlain d → Each PrintsNone (not_a_text d P)
not_text_prints d P h = Each-map PrintsNone _ _ (first_prints _ (Each-filter_once IsPlain _ _ (items_plain d h)))

name_list_prints : (key : Name) (d : Data) (P : Path) → IsPlain d → Each PrintsNone (name_list_refusals key d P)
name_list_prints key d P h =
    or_prints _ _ (put_prints (not (is_array d)) _ h)
    (or_prints _ _ (put_prints (has_repeat (texts d)) (refusal UniqueItems d (P // key)) h) (not_text_prints d P h))

module _ (W : World) where
  module _ (k : Name) (p : Part Told) (P : Path) (h : GoodPart Good p) where
    own_prints : (w : Keyword) → Each PrintsNone (own_refusals W k p P w)
    own_prints properties = put_prints _ _ h.0.0
    own_prints pattern_properties =
        Each-append PrintsNone (unless_object p.whole.schema P) _ (put_prints _ _ h.0.0)
        (Each-map PrintsNone (λ t. refusal Regex (string t) (P // t)) _ (Each-any _ (λ t. refl) (filter_once (λ t. not (W.builds t)) (open_patterns W p))))
    own_prints additional_properties = put_prints _ _ h.0.0
    own_prints required = Each-append PrintsNone (unless_array p.whole.schema P) _ (put_prints _ _ h.0.0) (not_text_prints p.whole.schema P h.0.0)
    own_prints dependent_required =
        Each-append PrintsNone (unless_object p.whole.schema P) _ (put_prints _ _ h.0.0)
        (Each-flat_map PrintsNone (λ e. name_list_refusals e.0 e.1.schema P) p.entries (Each-implies (GoodEntry Good) _ (λ e g. name_list_prints e.0 e.1.schema P g.0) p.entries h.1))
    own_prints dependent_schemas = put_prints _ _ h.0.0
    own_prints dependencies =
        Each-append PrintsNone (unless_object p.whole.schema P) _ (put_prints _ _ h.0.0)
        (Each-flat_map PrintsNone (λ e. not_a_text e.1.schema P) p.entries (Each-implies (GoodEntry Good) _ (λ e g. not_text_prints e.1.schema P g.0) p.entries h.1))
    own_prints property_dependencies =
        Each-append PrintsNone (unless_object p.whole.schema P) _ (put_prints _ _ h.0.0)
        (Each-flat_map PrintsNone (λ e. unless_object e.1.schema (P // e.0)) p.entries (Each-implies (GoodEntry Good) _ (λ e g. put_prints _ _ g.0) p.entries h.1))
    own_prints all_of = put_prints _ _ h.0.0
    own_prints any_of = put_prints _ _ h.0.0
    own_prints one_of = put_prints _ _ h.0.0
    own_prints unsupported = (refl, tt)
    own_prints leaf = put_prints _ _ h.0.0
    own_prints w = tt

  keyword_prints : (S : Keywords Told) (k : Name) (p : Part Told) (P : Path) → GoodPart Good p → (w : Keyword) → Each PrintsNone (keyword_malformations W S k p P w)
  keyword_prints S k p P h w =
      Each-append PrintsNone _ _
      (own_prints k p (P // k) h w)
      (Each-flat_map PrintsNone _ _
      (Each-implies GoodPlace _ (λ r g. g.1 (down P r.1)) _ (places_good k S p h w)))

  step_prints : (d : Data) → IsPlain d → GoodSchema Good (schema_read (malformations_step W) d) → Good d (malformations_step W (schema_read (malformations_step W) d))
  step_prints null s g = (s, λ P. (refl, tt))
  step_prints (boolean b) s g = (s, λ P. tt)
  step_prints (string t) s g = (s, λ P. (refl, tt))
  step_prints (object ms) s g =
      let S : Keywords Told = read_members (malformations_step W) ms in (
        s,
        λ P. Each-flat_map PrintsNone _ _
            (Each-implies (λ m. GoodPart Good m.1) _ (λ m h. keyword_prints S m.0 m.1 P h (keyword_named W m.0)) _ g),
      )
  step_prints _ s g = (s, λ P. (s, tt))

  each_prints : (S : Data) → IsPlain S → (P : Path) → Each PrintsNone (malformations_at W S P)
  unfolding malformations_at
  each_prints S s P = (sound_answer Good IsPlain each_item each_member (malformations_step W) step_prints S s).1 P

pub by_recursion : (fs : List Fault) → Each PrintsNone fs → AllByRecursion PrintsNone fs
by_recursion [] h = tt
by_recursion (f ∷ fs) h = (h.0, by_recursion fs h.1)

pub each_contained : (fs : List Fault) → Each PrintsNone fs → (f : Fault) → Contains fs f → PrintsNone f
each_contained fs h f c = All-contains PrintsNone _ f (All-from_recursion PrintsNone _ (by_recursion fs h)) c

pub malformation_prints_no_fraction : (W : World) (S : Data) → has_float S ≡ false → (f : Fault) → Contains (malformations W S) f → prints_fraction f ≡ false
malformation_prints_no_fraction W S s f c =
    each_contained _ (each_prints W S s []) f c
