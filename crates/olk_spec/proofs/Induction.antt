-- Induction over schemas: a fact of each answer holds if each step keeps it.
use Rattle.std.specs.Prelude.{⊤, ℕ, ◌+◌, List, [], ◌∷◌, map, decimal}
use Rattle.std.specs.List.{enumerate_from}
use Rattle.serde_json.specs.Data.{Data, null, boolean, number, string, array, object, Items, no_items, item, Members, no_members, member}
use Rattle.olk_spec.specs.Names.{Name, lookup_name}
use Rattle.olk_spec.specs.Schemas.{Sub, Part, Keywords, Schema, truth, keywords, no_schema, read, read_items, read_members, answer_for, whole_entries, inner_entries, whole_items, branches, parts_at, entries_at, wholes_at}
use Rattle.olk_spec.proofs.Each.{Each, Each-flat_map, Each-option, Each-map, On-lookup_name, Each-implies}

-- what a step is given at a place
abbrev pub schema_read : {X : Type 0} → (Schema X → X) → Data → Schema X
schema_read step null = no_schema null
schema_read step (boolean b) = truth b
schema_read step (number n) = no_schema (number n)
schema_read step (string s) = no_schema (string s)
schema_read step (array ds) = no_schema (array ds)
schema_read step (object ms) = keywords (read_members step ms)

-- a fact of each item, and of each member
abbrev pub EachItem : (Data → Type 0) → Items → Type 0
EachItem P no_items = ⊤
EachItem P (item d ds) = P d × EachItem P ds

abbrev pub EachMember : (Data → Type 0) → Members → Type 0
EachMember P no_members = ⊤
EachMember P (member n d ms) = P d × EachMember P ms

any_item : (ds : Items) → EachItem (λ d. ⊤) ds
any_item no_items = tt
any_item (item d ds) = (tt, any_item ds)

any_member : (ms : Members) → EachMember (λ d. ⊤) ms
any_member no_members = tt
any_member (member n d ms) = (tt, any_member ms)

-- Good d x: a fact of x, which is the answer for d
module _ {X : Type 0} (Good : Data → X → Type 0) where
  abbrev pub GoodSub : Sub X → Type 0
  GoodSub s = Good s.schema s.answer

  abbrev pub GoodEntry : Name × Sub X → Type 0
  GoodEntry e = Good e.1.schema e.1.answer

  abbrev pub GoodInner : Name × List (Name × Sub X) → Type 0
  GoodInner e = Each GoodEntry e.1

  abbrev pub GoodPart : Part X → Type 0
  GoodPart p = GoodSub p.whole × Each GoodEntry p.entries × Each GoodInner p.inner × Each GoodSub p.items

  abbrev pub GoodKeywords : Keywords X → Type 0
  GoodKeywords S = Each (λ m. GoodPart m.1) S

  abbrev pub GoodSchema : Schema X → Type 0
  GoodSchema (truth b) = ⊤
  GoodSchema (no_schema d) = ⊤
  GoodSchema (keywords S) = GoodKeywords S

  wholes_good : (ms : List (Name × Part X)) → GoodKeywords ms → Each GoodEntry (whole_entries ms)
  wholes_good [] h = tt
  wholes_good (m ∷ ms) h = (h.0.0, wholes_good ms h.1)

  inner_good : (ms : List (Name × Part X)) → GoodKeywords ms → Each GoodInner (inner_entries ms)
  inner_good [] h = tt
  inner_good (m ∷ ms) h = (h.0.1, inner_good ms h.1)

  items_good : (ps : List (Part X)) → Each GoodPart ps → Each GoodSub (whole_items ps)
  items_good [] h = tt
  items_good (p ∷ ps) h = (h.0.0, items_good ps h.1)

  -- where the data at each place has a premise, and the data inside then has it too
  module _ (Sound : Data → Type 0) (sound_items : (ds : Items) → Sound (array ds) → EachItem Sound ds) (sound_members : (ms : Members) → Sound (object ms) → EachMember Sound ms)
      (step : Schema X → X) (keep : (d : Data) → Sound d → GoodSchema (schema_read step d) → Good d (step (schema_read step d))) where
    mutual
      pub sound_part : (d : Data) → Sound d → GoodPart (read step d)
      sound_part null s = (keep null s tt, tt, tt, tt)
      sound_part (boolean b) s = (keep (boolean b) s tt, tt, tt, tt)
      sound_part (number n) s = (keep (number n) s tt, tt, tt, tt)
      sound_part (string t) s = (keep (string t) s tt, tt, tt, tt)
      sound_part (array ds) s = (keep (array ds) s tt, tt, tt, items_good (read_items step ds) (sound_each_item ds (sound_items ds s)))
      sound_part (object ms) s =
          let g : GoodKeywords (read_members step ms) = sound_each_member ms (sound_members ms s) in
          (keep (object ms) s g, wholes_good (read_members step ms) g, inner_good (read_members step ms) g, tt)

      pub sound_each_item : (ds : Items) → EachItem Sound ds → Each GoodPart (read_items step ds)
      sound_each_item no_items s = tt
      sound_each_item (item d ds) s = (sound_part d s.0, sound_each_item ds s.1)

      pub sound_each_member : (ms : Members) → EachMember Sound ms → GoodKeywords (read_members step ms)
      sound_each_member no_members s = tt
      sound_each_member (member n d ms) s = (sound_part d s.0, sound_each_member ms s.1)

    pub sound_answer : (d : Data) → Sound d → Good d (answer_for step d)
    sound_answer null s = keep null s tt
    sound_answer (boolean b) s = keep (boolean b) s tt
    sound_answer (number n) s = keep (number n) s tt
    sound_answer (string t) s = keep (string t) s tt
    sound_answer (array ds) s = keep (array ds) s tt
    sound_answer (object ms) s = keep (object ms) s (sound_each_member ms (sound_members ms s))

  module _ (step : Schema X → X) (keep : (d : Data) → GoodSchema (schema_read step d) → Good d (step (schema_read step d))) where
    pub good_answer : (d : Data) → Good d (answer_for step d)
    good_answer d = sound_answer (λ d. ⊤) (λ ds s. any_item ds) (λ ms s. any_member ms) step (λ d s. keep d) d tt

  numbered_good : (n : ℕ) (ss : List (Sub X)) → Each GoodSub ss → Each GoodEntry (map (λ e. (decimal e.0, e.1)) (enumerate_from n ss))
  numbered_good n [] g = tt
  numbered_good n (s ∷ ss) g = (g.0, numbered_good (n + 1) ss g.1)

  pub branches_good : (p : Part X) → GoodPart p → Each GoodEntry (branches p)
  branches_good p h = numbered_good 0 p.items h.3

  -- what stands at a neighbour is good
  module _ (S : Keywords X) (h : GoodKeywords S) (k : Name) where
    pub parts_good : Each GoodPart (parts_at S k)
    parts_good = Each-option GoodPart (lookup_name k S) (On-lookup_name GoodPart k S h)

    pub wholes_at_good : Each GoodSub (wholes_at S k)
    wholes_at_good = Each-map GoodSub (λ p. p.whole) (parts_at S k) (Each-implies GoodPart (λ p. GoodSub p.whole) (λ p g. g.0) (parts_at S k) parts_good)

    pub entries_at_good : Each GoodEntry (entries_at S k)
    entries_at_good = Each-flat_map GoodEntry (λ p. p.entries) (parts_at S k) (Each-implies GoodPart (λ p. Each GoodEntry p.entries) (λ p g. g.1) (parts_at S k) parts_good)
