-- What the texts of faults are made of.
use Rattle.std.specs.Prelude.{Bool, true, false, ◌++◌, codes}
use Rattle.olk_spec.specs.Names.{Text, Name}
use Rattle.olk_spec.specs.Faults.{Kind, PropertyNames}
use Rattle.olk_spec.specs.Texts.{in_quotes}

-- a name behind another
abbrev pub later_name : Name → Text
later_name n = codes ", " ++ in_quotes n

-- the error inside has the text
abbrev pub has_error_inside : Kind → Bool
has_error_inside (PropertyNames f) = true
has_error_inside _ = false
