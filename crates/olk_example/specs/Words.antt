-- The leaf `word`, with a text, refuses other texts. A pattern matches the name that equals it.
use Rattle.std.specs.Prelude.{List, [], ◌∷◌, Bool, true, false, codes, bytes_eq, cond, ◌&&◌}
use Rattle.serde_json.specs.Data.{Data, string}
use Rattle.olk_spec.specs.Names.{Text, Name}
use Rattle.olk_spec.specs.World.{Says, matched, unmatched}

abbrev pub is_word : Name → Bool
is_word k = bytes_eq k (codes "word")

abbrev pub is_text : Data → Bool
is_text (string s) = true
is_text _ = false

abbrev pub fits_word : Name → Data → Bool
fits_word k x = is_word k && is_text x

-- what the leaf with this text says of a value
abbrev pub other_words : Text → Data → List Text
other_words word (string s) = cond (bytes_eq s word) [] (codes "is another word" ∷ [])
other_words word _ = []

abbrev pub word_faults : Data → Data → List Text
word_faults (string word) v = other_words word v
word_faults _ v = []

abbrev pub equals : Text → Name → Says
equals p n = cond (bytes_eq p n) matched unmatched
