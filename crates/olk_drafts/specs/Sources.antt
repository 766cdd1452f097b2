-- How the references of a file are read in a document of several files: there the schema of another file stands under its name.
use Rattle.std.specs.Prelude.{ℕ, ◌==◌, ◌-◌, Bool, true, not, ◌&&◌, ◌||◌, List, [], ◌∷◌, ◌++◌, take, length, cond, codes, bytes_eq, Option, Some, None, option_and_then, string_bytes}
use Rattle.std.specs.BTreeSet.{contains_by}
use Rattle.std.specs.Cmp.Lexicographic.{slice_cmp}
use Rattle.std.specs.List.{flat_map, list_all, list_any, before_first, after_first, slice_split}
use Rattle.std.specs.Ordering.{nat_cmp}
use Rattle.olk_spec.specs.Names.{Text, Path, is_among, is_empty, pointer}
use Rattle.olk_drafts.specs.declared.sources.Source.{Source}

-- a reference is the path of a file, and behind `#` a place in it (RFC 3986, 3)
abbrev pub path_of : Text → Text
path_of t = before_first (λ b. b == 35) t

abbrev pub place_of : Text → Text
place_of t = after_first (λ b. b == 35) t

-- the whole file, or a place by a JSON pointer
abbrev pub leads_down : Text → Bool
leads_down [] = true
leads_down (b ∷ t) = b == 47

-- ---- paths

abbrev pub segments : Text → List Text
segments p = slice_split (λ b. b == 47) p

-- `:`, `?`, `%` and `\`: with one of these a path is none, or stands for another
abbrev pub is_odd : ℕ → Bool
is_odd b = b == 58 || (b == 63 || (b == 37 || b == 92))

abbrev pub is_name : Text → Bool
is_name s = not (is_among s ([] ∷ codes "." ∷ codes ".." ∷ [])) && not (list_any is_odd s)

-- without `./` at the beginning
abbrev pub without_dot : Text → Text
without_dot p = cond (bytes_eq (before_first (λ b. b == 47) p) (codes ".")) (after_first (λ b. b == 47) p) p

-- each of these with a slash behind it
abbrev pub with_slashes : List Text → Text
with_slashes ss = flat_map (λ s. s ++ 47 ∷ []) ss

-- all but the last
abbrev pub fronts : List Text → List Text
fronts ss = take (length ss - 1) ss

-- the folder of a file
abbrev pub folder_of : Text → Text
folder_of f = with_slashes (fronts (segments f))

-- the file at a path below the folder of a file; none where a segment is no name
abbrev pub file_below : Text → Text → Option Text
file_below f p = cond (list_all is_name (segments p)) (Some (folder_of f ++ p)) None

-- the file to which a path leads from a file
abbrev pub file_at : Text → Text → Option Text
file_at f p = cond (is_empty p) (Some f) (file_below f (without_dot p))

-- ---- the document

-- the document has a file of that name
abbrev pub has_file : Source → Text → Bool
has_file s f = contains_by (λ k. slice_cmp nat_cmp f (string_bytes k)) s.files.now

-- `.` or `/`: no keyword has one, so that a schema under such a name is read by references alone
abbrev pub is_apart : Text → Bool
is_apart f = list_any (λ b. b == 46 || b == 47) f

abbrev pub is_main : Source → Text → Bool
is_main s f = is_empty f || bytes_eq f s.main.now

-- where the schema of a file stands
abbrev pub root_of : Source → Text → Option Path
root_of s f = cond (is_main s f) (Some []) (cond (is_apart f && has_file s f) (Some (pointer (f ∷ []))) None)

abbrev pub root_at : Source → Text → Option Path
root_at s p = option_and_then (root_of s) (file_at s.file.now p)

-- the reference t, with the place at which the schema of its file stands
abbrev pub referred : Option Path → Text → Text → Text
referred (Some root) place t = 35 ∷ (root ++ place)
referred None place t = t

-- the reference of a file as it is read in the document: as it is, where it leads to no file of the document
abbrev pub reference_read : Source → Text → Text
reference_read s t = cond (leads_down (place_of t)) (referred (root_at s (path_of t)) (place_of t) t) t
