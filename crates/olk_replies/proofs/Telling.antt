-- What a validator answers is what is told.
use Rattle.std.specs.Prelude.{⊤}
use Rattle.std.proofs.Common.{◌≡◌, Bool, true, false, Result, Ok, Err, IfErr, OnOk, List, [], ◌∷◌, map, sym, ap, ◌∙◌, subst}
use Rattle.std.specs.List.{AllByRecursion}
use Rattle.std.proofs.lemmas.List.Elements.{All-from_recursion}
use Rattle.std.proofs.lemmas.List.Sorted.{IsPermutation-trans}
use Rattle.olk_spec.specs.Names.{Text, Path, is_empty}
use Rattle.olk_spec.specs.Faults.{Fault, fault, IsLike, like, ◌∼◌}
use Rattle.olk_spec.specs.World.{World}
use Rattle.olk_spec.specs.Meaning.{report, IsTree}
use Rattle.olk_spec.specs.Tree.{Tree, Described, is_valid}
use Rattle.olk_spec.specs.Answers.{tree_data}
use Rattle.olk_spec.proofs.Each.{Each}
use Rattle.olk_spec.proofs.Order.{like_text, ∼_map, ∼_sym, ∼_is_empty}
use Rattle.olk_spec.proofs.Verdicts.{is_empty-map, verdict_of_reports}
use Rattle.olk_spec.proofs.Walks.{neither}
use Rattle.olk_reports.specs.Errors.{fault_of}
use Rattle.olk_reports.specs.declared.error.ValidationError.{ValidationError}
use Rattle.olk_reports.specs.declared.error.ValidateError.{ValidateError}
use Rattle.olk_reports.specs.declared.error.ValidateError.TheVariants.{Invalid, Memory}
use Rattle.olk_errors.specs.Found.{Appends, IfInvalid, IsLikeOneOf, IsRefusal}
use Rattle.olk_answers.specs.Evaluated.{IsPromised}
use Rattle.olk_answers.specs.Texts.{json_text}
use Rattle.olk_answers.specs.Told.{told, errors_data, TellsFound, TellsSorted, PrintNoFraction}
use Rattle.olk_answers.proofs.Fractions.{IsPlain, PrintsNone, by_recursion}
use Rattle.olk_answers.proofs.Plain.{same_faults_print_none, cut_fault_prints_none, tree_prints_none, errors_promised}
use Rattle.olk_replies.specs.Replies.{Asked, has_fraction, accepted, TellsOneBy, TellsFirst, TellsSome, TellsErrors, TellsEvaluation}

promised_by_recursion : (es : List (Path × Path × Described)) → Each IsPromised es → AllByRecursion IsPromised es
promised_by_recursion [] h = tt
promised_by_recursion (e ∷ es) h = (h.0, promised_by_recursion es h.1)

module _ (W : World) (q : Asked) (plain : has_fraction q ≡ false) where
  schema_plain : IsPlain q.schema
  schema_plain = (neither _ _ plain).0

  instance_plain : IsPlain q.instance
  instance_plain = (neither _ _ plain).1

  -- what `validate` gives is the first error
  pub found_is_first : (faults : List Fault) (found : Result (Unit {0}) ValidateError) (answer : Text) → OnOk found (accepted W q ≡ true)
      → IfErr found (λ e. IfInvalid e (IsRefusal W q.unfinished q.schema q.instance [] [])) → IfErr found (λ e. IfInvalid e (IsLikeOneOf faults)) → TellsFound found answer → TellsFirst W q faults answer
  found_is_first faults (Ok done) answer ok invalid first tells = subst (λ b. TellsOneBy b W q (IsLikeOneOf faults) answer) (sym ok) tells
  found_is_first faults (Err (Memory m)) answer ok invalid first tells = absurd tells
  found_is_first faults (Err (Invalid e)) answer ok invalid first tells =
      let o = invalid.of_report in
      let none = cut_fault_prints_none W q.unfinished q.schema q.instance schema_plain instance_plain [] [] o.list o.report o.whole o.among in
      subst (λ b. TellsOneBy b W q (IsLikeOneOf faults) answer) (sym invalid.verdict) (fault_of e, o, first, tells (subst PrintsNone (sym o.told) none))

  -- the first error is one of some report
  pub first_is_some : (faults : List Fault) (answer : Text) → TellsFirst W q faults answer → TellsSome W q answer
  first_is_some faults answer = by (accepted W q)
    where
      by : (b : Bool) → TellsOneBy b W q (IsLikeOneOf faults) answer → TellsOneBy b W q (λ f. ⊤) answer
      by true h = h
      by false h = (h.0, h.1, tt, h.3)

  -- what `collect_errors` appends to no error are the errors
  pub added_are_errors : (errors : List ValidationError) (answer : Text) → Appends [] errors (report W q.unfinished q.schema q.instance [] [])
      → (PrintNoFraction (map fault_of errors) → TellsSorted (is_empty errors) (map told (map fault_of errors)) answer) → TellsErrors W q answer
  added_are_errors errors answer added tells =
      let all = report W q.unfinished q.schema q.instance [] [] in
      let fs = map fault_of errors in
      let same : fs ∼ all = subst (λ es. map fault_of es ∼ all) (sym added.is) added.same in
      let none = All-from_recursion PrintsNone fs (by_recursion fs (same_faults_print_none W q.unfinished q.schema q.instance schema_plain instance_plain [] [] fs same)) in
      let valid : is_empty errors ≡ accepted W q = sym (is_empty-map fault_of errors) ∙ ∼_is_empty same ∙ sym (verdict_of_reports W q.unfinished q.schema q.instance [] []) in
      let t = tells none in
      record {
        sorted = t.sorted;
        same = IsPermutation-trans _ _ _ (∼_map told like_told (∼_sym same)) t.same;
        ascends = t.ascends;
        is = subst (λ b. answer ≡ json_text (errors_data b t.sorted)) valid t.is;
      }
    where
      like_told : (f g : Fault) → IsLike f g → told f ≡ told g
      like_told (fault k v Q P) (fault l w R O) (like h) = ap (λ m. record { instance_path = Q; schema_path = P; message = m }) (like_text (fault k v Q P) (fault l v Q P) (like h))

  -- what `evaluate` gives is the evaluation
  pub shown_is_evaluation : (t : Tree) (answer : Text) → IsTree W q.unfinished q.schema q.instance [] [] t → is_valid t ≡ accepted W q
      → answer ≡ json_text (tree_data t) → TellsEvaluation W q answer
  shown_is_evaluation t answer shows valid tells = record {
    tree = t;
    is_tree = shows;
    verdict = valid;
    promised = All-from_recursion IsPromised _ (promised_by_recursion _ (errors_promised _ (tree_prints_none W q.unfinished q.schema q.instance schema_plain instance_plain [] [])));
    is = tells;
  }
