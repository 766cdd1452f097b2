-- What a schema of an older draft means: what this schema of 2020-12 means.
use Rattle.std.specs.Prelude.{Bool, false, Option, Some, None, codes, bytes_eq, cond, if◌then◌else◌}
use Rattle.serde_json.specs.Data.{Data, string, array, object, Items, no_items, item, Members, no_members, member, put}
use Rattle.olk_spec.specs.Names.{Text, Name, is_among}
use Rattle.std.specs.Prelude.{List, [], ◌∷◌}
use Rattle.olk_drafts.specs.Drafts.{is_4}
use Rattle.olk_drafts.specs.Keywords.{read_as}
use Rattle.olk_drafts.specs.declared.drafts.Draft.{Draft}
use Rattle.olk_drafts.specs.declared.translation.Held.{Held}
use Rattle.olk_drafts.specs.declared.translation.Held.TheVariants.{Nothing, Itself, Entries, EntriesOfEntries}

-- ---- the schemas that a keyword of 2020-12 holds: its value, or its entries, which are members or items, or their entries

abbrev pub holding_entries : List Name
holding_entries = codes "properties" ∷ codes "patternProperties" ∷ codes "dependentSchemas" ∷ codes "dependencies" ∷ codes "$defs" ∷ codes "definitions"
    ∷ codes "allOf" ∷ codes "anyOf" ∷ codes "oneOf" ∷ codes "prefixItems" ∷ []

-- what is data, whatever it looks like
abbrev pub holding_nothing : List Name
holding_nothing = codes "const" ∷ codes "enum" ∷ codes "default" ∷ codes "examples" ∷ codes "dependentRequired" ∷ []

-- a name that is no keyword's may hold a schema too, as a reference may lead there
abbrev pub held_by : Name → Held
held_by k =
    if is_among k holding_entries then Entries
    else if bytes_eq k (codes "propertyDependencies") then EntriesOfEntries
    else if is_among k holding_nothing then Nothing
    else Itself

-- ---- the kinds that `type` names; an integer of draft 4 has no fraction and no exponent, so that 1.0 is none, and has a name of its own (draft 4 Core, 3.5, and Validation, 5.5.2)

abbrev pub integer_of_draft_4 : Name
integer_of_draft_4 = codes "integer of draft 4"

abbrev pub names_integer : Data → Bool
names_integer (string t) = bytes_eq t (codes "integer")
names_integer d = false

abbrev pub kind_of_draft_4 : Data → Data
kind_of_draft_4 d = cond (names_integer d) (string integer_of_draft_4) d

abbrev pub listed_kinds_of_draft_4 : Items → Items
listed_kinds_of_draft_4 no_items = no_items
listed_kinds_of_draft_4 (item d ds) = item (kind_of_draft_4 d) (listed_kinds_of_draft_4 ds)

abbrev pub kinds_of_draft_4 : Data → Data
kinds_of_draft_4 (array ds) = array (listed_kinds_of_draft_4 ds)
kinds_of_draft_4 d = kind_of_draft_4 d

abbrev pub kinds_read : Draft → Data → Data
kinds_read draft d = cond (is_4 draft) (kinds_of_draft_4 d) d

-- ---- the translation; R is how a reference is read

-- d with what is put at the keyword as which it is read
abbrev pub put_as : Option Name → (Name → Data) → Members → Members
put_as None d ms = ms
put_as (Some k) d ms = put k (d k) ms

abbrev pub as_reference : (Text → Text) → Data → Data
as_reference R (string t) = string (R t)
as_reference R d = d

module _ (draft : Draft) (R : Text → Text) where
  -- the translated value of a keyword as it is read in the document
  abbrev pub value_read : Name → Data → Data
  value_read k d =
      if bytes_eq k (codes "$ref") then as_reference R d
      else if bytes_eq k (codes "type") then kinds_read draft d
      else d

  unfoldable mutual
    -- a value that holds schemas so far down
    pub translated_at : Held → Data → Data
    translated_at Itself (object ms) = object (translated_members ms ms no_members)
    translated_at Entries (object ms) = object (translated_entries Itself ms no_members)
    translated_at Entries (array ds) = array (translated_items Itself ds)
    translated_at EntriesOfEntries (object ms) = object (translated_entries Entries ms no_members)
    translated_at EntriesOfEntries (array ds) = array (translated_items Entries ds)
    translated_at h d = d

    -- these members of a schema object, beside all of them, are put to those done
    pub translated_members : Members → Members → Members → Members
    translated_members all no_members done = done
    translated_members all (member k d ms) done = translated_members all ms (put_as (read_as draft all k) (λ w. value_read w (translated_at (held_by w) d)) done)

    pub translated_entries : Held → Members → Members → Members
    translated_entries h no_members done = done
    translated_entries h (member k d ms) done = translated_entries h ms (put k (translated_at h d) done)

    pub translated_items : Held → Items → Items
    translated_items h no_items = no_items
    translated_items h (item d ds) = item (translated_at h d) (translated_items h ds)

  -- what a member is translated to, by the keyword as which it is read
  abbrev pub translated_value : Data → Name → Data
  translated_value d w = value_read w (translated_at (held_by w) d)

  -- a value whose entries hold schemas so far down
  abbrev pub translated_inside : Held → Data → Data
  translated_inside h (object ms) = object (translated_entries h ms no_members)
  translated_inside h (array ds) = array (translated_items h ds)
  translated_inside h d = d

  abbrev pub translated : Data → Data
  translated d = translated_at Itself d
