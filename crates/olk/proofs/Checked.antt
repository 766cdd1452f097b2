-- What is read and checked, one after another.
use Rattle.std.specs.Prelude.{◌≡◌, List, [], ◌∷◌, ◌++◌, length, Option, Some, None, Result, Ok, Err, OnOk, Bool, refl, false}
use Rattle.std.proofs.Common.{subst, inl, inr}
use Rattle.serde_json.specs.Data.{Data}
use Rattle.olk_spec.specs.Names.{Text}
use Rattle.olk_spec.specs.World.{World}
use Rattle.olk.specs.declared.console.Status.{Status}
use Rattle.olk.specs.declared.console.Status.TheVariants.{Valid, Failed}
use Rattle.olk.specs.Statuses.{worse, IsUnread, IsChecked}

pub unread_checked : (W : World) (S : Data) (old new : Status) (text : Text) → IsUnread text → new ≡ worse old Failed → IsChecked W S old (Some text ∷ []) new
unread_checked W S old new text is_unread is = (Failed, inr (is_unread, refl), is)

pub failed_checked : (W : World) (S : Data) (old new : Status) → new ≡ worse old Failed → IsChecked W S old (None ∷ []) new
failed_checked W S old new is = (Failed, refl, is)

pub checked_append : (W : World) (S : Data) (a b c : Status) (xs ys : List (Option Text)) → IsChecked W S a xs b → IsChecked W S b ys c → IsChecked W S a (xs ++ ys) c
checked_append W S a b c [] ys first then_these = subst (λ s. IsChecked W S s ys c) first then_these
checked_append W S a b c (x ∷ xs) ys first then_these = (first.0, first.1, checked_append W S (worse a first.0) b c xs ys first.2 then_these)

-- over the result of a call that comes last
pub unread_ends : {T E : Type 0} (r : Result T E) (W : World) (S : Data) (old new : Status) (text : Text) → IsUnread text → new ≡ worse old Failed → OnOk r (IsChecked W S old (Some text ∷ []) new)
unread_ends (Ok x) W S old new text is_unread is = unread_checked W S old new text is_unread is
unread_ends (Err e) W S old new text is_unread is = tt

pub failure_ends : {T E : Type 0} (r : Result T E) (W : World) (S : Data) (old between new : Status) (them : List (Option Text)) → IsChecked W S old them between → OnOk r (new ≡ worse between Failed) → OnOk r ((all : List (Option Text)) × IsChecked W S old all new)
failure_ends (Ok x) W S old between new them first is = (them ++ None ∷ [], checked_append W S old between new them (None ∷ []) first (failed_checked W S between new is))
failure_ends (Err e) W S old between new them first is = tt

pub one_ends : {T E : Type 0} (r : Result T E) (W : World) (S : Data) (old new : Status) (it : Option Text) → OnOk r (IsChecked W S old (it ∷ []) new) → OnOk r ((text : Option Text) × IsChecked W S old (text ∷ []) new)
one_ends (Ok x) W S old new it is = (it, is)
one_ends (Err e) W S old new it is = tt

pub one_failure_ends : {T E : Type 0} (r : Result T E) (W : World) (S : Data) (old new : Status) → OnOk r (new ≡ worse old Failed) → OnOk r ((text : Option Text) × IsChecked W S old (text ∷ []) new)
one_failure_ends (Ok x) W S old new is = (None, failed_checked W S old new is)
one_failure_ends (Err e) W S old new is = tt

pub one_listed_ends : {T E : Type 0} (r : Result T E) (W : World) (S : Data) (old new : Status) (has_lines : Bool) → OnOk r ((text : Option Text) × IsChecked W S old (text ∷ []) new) → OnOk r ((them : List (Option Text)) × IsChecked W S old them new × (has_lines ≡ false → length them ≡ 1))
one_listed_ends (Ok x) W S old new has_lines one = (one.0 ∷ [], one.1, λ _. refl)
one_listed_ends (Err e) W S old new has_lines one = tt
