-- A leaf set and a matcher for the tests: the leaf `text`, with the value false, refuses texts, and a pattern matches the names that equal it.
use Rattle.std.specs.Prelude.{List, [], ◌∷◌, Bool, true, false, codes, bytes_eq, if◌then◌else◌, cond, ◌&&◌}
use Rattle.serde_json.specs.Data.{Data, boolean, string}
use Rattle.olk_spec.specs.Names.{Text, Name}
use Rattle.olk_spec.specs.World.{Says, matched, unmatched, unfinished}

abbrev pub is_keyword : Name → Bool
is_keyword k = bytes_eq k (codes "text")

abbrev pub is_false : Data → Bool
is_false (boolean false) = true
is_false _ = false

abbrev pub fits_text : Name → Data → Bool
fits_text k x = is_keyword k && is_false x

abbrev pub text_faults : Data → List Text
text_faults (string s) = codes "is a text" ∷ []
text_faults _ = []

-- the pattern `?` leaves every name unfinished
abbrev pub equals : Text → Name → Says
equals p n = if bytes_eq p (codes "?") then unfinished else cond (bytes_eq p n) matched unmatched

abbrev pub is_pattern : Text → Bool
is_pattern p = cond (bytes_eq p (codes "(")) false true
