-- What is found of an instance, by what is asked.
use Rattle.std.specs.Prelude.{◌≡◌, Bool, true, List, [], ◌∷◌}
use Rattle.serde_json.specs.Data.{Data}
use Rattle.olk_spec.specs.World.{World}
use Rattle.olk_reports.specs.Errors.{fault_of}
use Rattle.olk_reports.specs.declared.error.ValidationError.{ValidationError}
use Rattle.olk_errors.specs.Found.{Appends}
use Rattle.olk_document_spec.specs.Documents.{document_meaning}
use Rattle.olk_document.specs.Validators.{IsRefusalBy}
use Rattle.olk.specs.Documents.{accepts, report}
use Rattle.olk.specs.declared.options.Ask.{Ask}
use Rattle.olk.specs.declared.options.Ask.TheVariants.{First, Errors, Evaluate}

-- one error, where the schema refuses the instance
abbrev pub IsFirst : World → Bool → Data → Data → List ValidationError → Type 0
IsFirst W u S v [] = accepts W u S v ≡ true
IsFirst W u S v (e ∷ []) = IsRefusalBy (document_meaning W u S) v (fault_of e)
IsFirst W u S v (e ∷ f ∷ es) = ⊥

abbrev pub AreAsked : Ask → World → Bool → Data → Data → List ValidationError → Type 0
AreAsked First W u S v es = IsFirst W u S v es
AreAsked Errors W u S v es = Appends [] es (report W u S v)
AreAsked Evaluate W u S v es = Appends [] es (report W u S v)
