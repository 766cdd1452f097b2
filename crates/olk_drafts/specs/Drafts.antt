-- The drafts of JSON Schema, and the texts by which `$schema` names them.
use Rattle.std.specs.Prelude.{◌-◌, Bool, true, false, [], ◌∷◌, take, drop, length, nat_eq, Option, Some, None, option_and_then, codes, bytes_eq, cond, if◌then◌else◌}
use Rattle.std.specs.List.{starts_with, ends_with}
use Rattle.std.specs.Option.{option_or}
use Rattle.serde_json.specs.Data.{Data, string}
use Rattle.serde_json.specs.Find.{get}
use Rattle.olk_spec.specs.Names.{Text, is_among}
use Rattle.olk_drafts.specs.declared.drafts.Draft.{Draft}
use Rattle.olk_drafts.specs.declared.drafts.Draft.TheVariants.{Draft4, Draft6, Draft7, Draft201909, Draft202012}

-- what stands behind this beginning
abbrev pub behind : Text → Text → Option Text
behind start t = cond (starts_with nat_eq t start) (Some (drop (length start) t)) None

-- the text without this end, if it has it
abbrev pub without_end : Text → Text → Text
without_end end t = cond (ends_with nat_eq t end) (take (length t - length end) t) t

-- the path at json-schema.org that an address has, by `http` or `https`
abbrev pub path_at_host : Text → Option Text
path_at_host t = option_or (behind (codes "http://json-schema.org/") t) (behind (codes "https://json-schema.org/") t)

-- the path that a text names, with or without `#` at the end
abbrev pub path_named : Text → Option Text
path_named t = path_at_host (without_end (codes "#") t)

-- the draft whose meta-schema stands at a path; at `schema` the latest one does
abbrev pub draft_at_path : Text → Option Draft
draft_at_path path =
    if bytes_eq path (codes "draft-04/schema") then Some Draft4
    else if bytes_eq path (codes "draft-06/schema") then Some Draft6
    else if bytes_eq path (codes "draft-07/schema") then Some Draft7
    else if bytes_eq path (codes "draft/2019-09/schema") then Some Draft201909
    else if is_among path (codes "draft/2020-12/schema" ∷ codes "schema" ∷ []) then Some Draft202012
    else None

abbrev pub draft_named : Text → Option Draft
draft_named t = option_and_then draft_at_path (path_named t)

-- the draft that the value of `$schema` names
abbrev pub draft_at : Option Data → Option Draft
draft_at (Some (string t)) = draft_named t
draft_at o = Some Draft202012

abbrev pub draft_of : Data → Option Draft
draft_of d = draft_at (get (codes "$schema") d)

abbrev pub is_4 : Draft → Bool
is_4 Draft4 = true
is_4 d = false

abbrev pub is_up_to_7 : Draft → Bool
is_up_to_7 Draft4 = true
is_up_to_7 Draft6 = true
is_up_to_7 Draft7 = true
is_up_to_7 d = false

abbrev pub is_up_to_2019 : Draft → Bool
is_up_to_2019 Draft202012 = false
is_up_to_2019 d = true
