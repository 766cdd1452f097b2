-- The error of `oneOf`.
use Rattle.std.proofs.Common.{◌≡◌, inl, inr, not, Bool, ℕ, ◌<◌, ◌==◌, true, false, List, Option, Some, None, refl, sym, ap, subst}
use Rattle.serde_json.specs.Data.{Data}
use Rattle.olk_spec.specs.Names.{Path}
use Rattle.olk_spec.specs.Faults.{Fault, fault, Kind, OneOfNotValid, OneOfMultipleValid, IsLikeKind, context}
use Rattle.olk_spec.specs.Reports.{cut_kind}
use Rattle.olk_reports.specs.Errors.{kind_of}
use Rattle.olk_reports.specs.declared.error.ValidationErrorKind.{ValidationErrorKind}
use Rattle.olk_reports.specs.declared.error.ValidationErrorKind as the
use Rattle.olk_reports.proofs.Errors.{Contexts, context_faults, kind_of_one_of_not_valid, kind_of_one_of_multiple_valid}
use Rattle.olk_tree.proofs.OneOf.{none_accepts, one_accepts, several_accept, several_is_not_one}
use Rattle.olk_errors.specs.Found.{AreLike, Outcome}
use Rattle.olk_errors.specs.Outcomes.{own, of_one_of, IsKindOfOneOf}
use Rattle.olk_errors.proofs.Sinks.{unasked}
use Rattle.olk_errors.proofs.Own.{IsOwn, is_own, like_at, kind_like, not_valid_like, multiple_like}

-- an outcome that is one fault, of a kind that is kept whole
record IsOneFault (o : Outcome) (v : Data) (P Q : Path) (l : Kind) : Type 0 where
  pub kind : Kind
  pub uncut : cut_kind kind ≡ kind
  pub alike : IsLikeKind l kind
  pub is : o ≡ own false true kind v P Q

module _ (n : ℕ) (fss : List (List Fault)) (v : Data) (P Q : Path) where
  one_fault : (k : ValidationErrorKind) → IsKindOfOneOf n fss (Some k) → IsOneFault (of_one_of n (context fss) v P Q) v P Q (kind_of k)
  one_fault k (inl h) = record {
    kind = OneOfNotValid (context fss);
    uncut = refl;
    alike = h.1;
    is = λ i. record { accepts = h.0 i == 1; first = none_accepts n (context fss) v P Q h.0 i; all = none_accepts n (context fss) v P Q h.0 i };
  }
  one_fault k (inr h) = record {
    kind = OneOfMultipleValid (context fss);
    uncut = refl;
    alike = h.1;
    is = λ i. record { accepts = several_is_not_one n h.0 i; first = several_accept n (context fss) v P Q h.0 i; all = several_accept n (context fss) v P Q h.0 i };
  }

  -- an error of the kind that they are told by
  pub one_of_own : {o : Option ValidationErrorKind} {k : ValidationErrorKind} → o ≡ Some k → IsKindOfOneOf n fss o
      → {O : Path} → O ≡ P → IsOwn (fault (kind_of k) v Q O) (of_one_of n (context fss) v P Q)
  one_of_own {o} {k} is told {O} place =
      let h = one_fault k (subst (IsKindOfOneOf n fss) is told) in
      subst (λ w. IsOwn (fault (kind_of k) v Q O) w) (sym h.is) (is_own h.kind v P Q {accepts = false} {case = true} refl refl h.uncut (like_at refl h.alike refl place))

  pub one_of_nothing : {o : Option ValidationErrorKind} → o ≡ None → IsKindOfOneOf n fss o → of_one_of n (context fss) v P Q ≡ unasked
  one_of_nothing is told = let just_one = subst (IsKindOfOneOf n fss) is told in
      λ i. record { accepts = just_one i == 1; first = one_accepts n (context fss) v P Q just_one i; all = one_accepts n (context fss) v P Q just_one i }

-- the kinds of error with this context
module _ (c : Contexts) (fss : List (List Fault)) (alike : AreLike (context_faults c) fss) where
  pub kind_of_none : {n : ℕ} → n ≡ 0 → IsKindOfOneOf n fss (Some (the.OneOfNotValid c))
  kind_of_none none = inl (none, kind_like (kind_of_one_of_not_valid c) (not_valid_like (context_faults c) fss alike))

  pub kind_of_several : {n : ℕ} → 1 < n → IsKindOfOneOf n fss (Some (the.OneOfMultipleValid c))
  kind_of_several several = inr (several, kind_like (kind_of_one_of_multiple_valid c) (multiple_like (context_faults c) fss alike))

  -- of one branch, which refuses
  pub not_valid_own : (v : Data) {P Q O : Path} → O ≡ P → {accepts : Bool} → accepts ≡ false
      → IsOwn (fault (kind_of (the.OneOfNotValid c)) v Q O) (own accepts (not accepts) (OneOfNotValid (context fss)) v P Q)
  not_valid_own v {P} {Q} place refused = is_own (OneOfNotValid (context fss)) v P Q refused (ap not refused) refl
      (like_at (kind_of_one_of_not_valid c) (not_valid_like (context_faults c) fss alike) refl place)
