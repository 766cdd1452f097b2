-- Lists of errors that grow.
use Rattle.std.proofs.Common.{◌≡◌, ℕ, ◌+◌, List, [], ◌∷◌, ◌++◌, length, map, refl, sym, ap, subst, ◌∙◌, arith, length-append, Result, Ok, Err, IfErr}
use Rattle.std.specs.Prelude.{nat_eq}
use Rattle.std.proofs.lemmas.Bool.Decides.{nat_tests}
use Rattle.olk_spec.specs.Names.{is_empty}
use Rattle.std.proofs.lemmas.List.{append_assoc, append-nil, map-append}
use Rattle.std.proofs.lemmas.Result.{IfErr-weaker}
use Rattle.olk_reports.specs.declared.error.ValidateError.{ValidateError}
use Rattle.olk_reports.specs.declared.error.ValidateError.TheVariants.{Invalid, Memory}
use Rattle.olk_spec.specs.Faults.{Fault, ◌∼◌, like_empty, like_through}
use Rattle.olk_spec.proofs.Order.{∼_append, ∼_same, ∼_is_empty}
use Rattle.olk_reports.specs.Errors.{fault_of}
use Rattle.olk_reports.specs.declared.error.ValidationError.{ValidationError}
use Rattle.olk_errors.specs.Found.{Appends, IfInvalid, IfTold}

pub appends_nothing : (errors : List ValidationError) → Appends errors errors []
appends_nothing errors = record { added = []; is = sym (append-nil errors); same = like_empty }

pub appends_one : {old new : List ValidationError} (e : ValidationError) {f : Fault} → new ≡ old ++ e ∷ [] → fault_of e ≡ f → Appends old new (f ∷ [])
appends_one e grown told = record { added = e ∷ []; is = grown; same = ∼_same (ap (λ f. f ∷ []) told) }

module _ {old new : List ValidationError} {faults : List Fault} where
  pub appends_like : {others : List Fault} → faults ∼ others → Appends old new faults → Appends old new others
  appends_like like a = record { added = a.added; is = a.is; same = like_through a.same like }

  pub appends_more : {newer : List ValidationError} {others : List Fault} → Appends old new faults → Appends new newer others → Appends old newer (faults ++ others)
  appends_more {others = others} a b = record {
    added = a.added ++ b.added;
    is = b.is ∙ ap (λ l. l ++ b.added) a.is ∙ append_assoc old a.added b.added;
    same = subst (λ l. l ∼ faults ++ others) (sym (map-append fault_of a.added b.added)) (∼_append a.same b.same);
  }

-- ---- nothing is appended exactly where there is no fault

same_length : {X : Type 0} (m : ℕ) (ys : List X) → nat_eq (m + length ys) m ≡ is_empty ys
same_length m [] = grind (arith, nat_tests)
same_length m (y ∷ ys) = grind (arith, nat_tests)

empty_map : (es : List ValidationError) → is_empty es ≡ is_empty (map fault_of es)
empty_map [] = refl
empty_map (e ∷ es) = refl

pub appended_none : {old new : List ValidationError} {faults : List Fault} → Appends old new faults → nat_eq (length new) (length old) ≡ is_empty faults
appended_none {old} a = ap (λ n. nat_eq n (length old)) (ap length a.is ∙ length-append old a.added) ∙ same_length (length old) a.added ∙ empty_map a.added ∙ ∼_is_empty a.same

-- ---- results

invalid_so : {So Then : Fault → Type 0} → ((f : Fault) → So f → Then f) → (e : ValidateError) → IfInvalid e So → IfInvalid e Then
invalid_so k (Invalid e) h = k (fault_of e) h
invalid_so k (Memory m) h = tt

pub told_so : {T : Type 0} (r : Result T ValidateError) {So Then : Fault → Type 0} → ((f : Fault) → So f → Then f) → IfErr r (λ e. IfInvalid e So) → IfErr r (λ e. IfInvalid e Then)
told_so r {So} {Then} k h = IfErr-weaker r (λ e. IfInvalid e So) (λ e. IfInvalid e Then) (invalid_so k) h

pub if_told : {T : Type 0} (r : Result T ValidateError) {So Then : Type 0} → (So → Then) → IfTold r So → IfTold r Then
if_told (Ok x) k h = k h
if_told (Err (Invalid e)) k h = k h
if_told (Err (Memory m)) k h = tt
