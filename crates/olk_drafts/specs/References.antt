-- The references of a file's schema, at the places where it is translated, and the files to which they lead.
use Rattle.std.specs.Prelude.{not, ◌&&◌, List, [], ◌∷◌, ◌++◌, map, cond, codes, bytes_eq, Option, Some, None, option_to_list, option_and_then}
use Rattle.std.specs.Borrow.{Bor}
use Rattle.std.specs.List.{flat_map}
use Rattle.serde_json.specs.Data.{Data, string, array, object, Items, no_items, item, Members, no_members, member}
use Rattle.olk_spec.specs.Names.{Text, Name}
use Rattle.olk_drafts.specs.Keywords.{read_as}
use Rattle.olk_drafts.specs.Sources.{path_of, place_of, leads_down, file_at, is_apart, is_main}
use Rattle.olk_drafts.specs.Translated.{held_by}
use Rattle.olk_drafts.specs.declared.drafts.Draft.{Draft}
use Rattle.olk_drafts.specs.declared.sources.Source.{Source}
use Rattle.olk_drafts.specs.declared.translation.Held.{Held}
use Rattle.olk_drafts.specs.declared.translation.Held.TheVariants.{Itself, Entries, EntriesOfEntries}

abbrev pub as_texts : List (Bor Text) → List Text
as_texts ts = map (λ t. t.now) ts

-- the text that a value is, none or one
abbrev pub text_of : Data → List Text
text_of (string t) = t ∷ []
text_of d = []

abbrev pub own_reference : Name → Data → List Text
own_reference k d = cond (bytes_eq k (codes "$ref")) (text_of d) []

-- those of a member, by the keyword as which it is read
abbrev pub references_by : Option Name → (Name → List Text) → List Text
references_by None f = []
references_by (Some k) f = f k

module _ (draft : Draft) where
  unfoldable mutual
    -- those of a value that holds schemas so far down
    pub references_at : Held → Data → List Text
    references_at Itself (object ms) = references_of_members ms ms
    references_at Entries (object ms) = references_of_entries Itself ms
    references_at Entries (array ds) = references_of_items Itself ds
    references_at EntriesOfEntries (object ms) = references_of_entries Entries ms
    references_at EntriesOfEntries (array ds) = references_of_items Entries ds
    references_at h d = []

    -- those of these members of a schema object, beside all of them
    pub references_of_members : Members → Members → List Text
    references_of_members all no_members = []
    references_of_members all (member k d ms) = references_by (read_as draft all k) (λ w. own_reference w d ++ references_at (held_by w) d) ++ references_of_members all ms

    pub references_of_entries : Held → Members → List Text
    references_of_entries h no_members = []
    references_of_entries h (member k d ms) = references_at h d ++ references_of_entries h ms

    pub references_of_items : Held → Items → List Text
    references_of_items h no_items = []
    references_of_items h (item d ds) = references_at h d ++ references_of_items h ds

  abbrev pub references_of_value : Data → Name → List Text
  references_of_value d w = own_reference w d ++ references_at (held_by w) d

  abbrev pub references_inside : Held → Data → List Text
  references_inside h (object ms) = references_of_entries h ms
  references_inside h (array ds) = references_of_items h ds
  references_inside h d = []

-- ---- files

-- another file than the main one
abbrev pub other_file : Source → Text → Option Text
other_file s f = cond (not (is_main s f) && is_apart f) (Some f) None

-- the file other than the main one to which a reference leads
abbrev pub file_named : Source → Text → Option Text
file_named s t = cond (leads_down (place_of t)) (option_and_then (other_file s) (file_at s.file.now (path_of t))) None

-- those of all references, in their order
abbrev pub files_named : Source → Data → List Text
files_named s d = flat_map (λ t. option_to_list (file_named s t)) (references_at s.draft Itself d)
