-- The errors of members' names, told of the object.
use Rattle.std.proofs.Common.{◌≡◌, Bool, true, List, [], map, refl, sym, ap, subst, Ok}
use Rattle.std.proofs.lemmas.Simd.{map-map}
use Rattle.olk_meaning.proofs.PropertyNames.{like_wrapped, ∼_wrapped}
use Rattle.olk_errors.proofs.Own.{contains_mapped}
use Rattle.serde_json.specs.Data.{Data, Members, string, object}
use Rattle.olk_spec.specs.Names.{Name, Path}
use Rattle.olk_spec.specs.Faults.{Fault, fault, IsLike, ◌∼◌}
use Rattle.olk_spec.specs.Schemas.{listed, members}
use Rattle.olk_spec.specs.Reports.{wrapped, cut}
use Rattle.olk_reports.specs.Errors.{fault_of}
use Rattle.olk_reports.specs.declared.error.ValidationError.{ValidationError}
use Rattle.olk_tree.specs.Questions.{Question}
use Rattle.olk_errors.specs.Outcomes.{of_each, of_asked_name, of_asked_names}
use Rattle.olk_errors.specs.Found.{Appends, Outcome, Passes, IsErrorOf}
use Rattle.olk_errors.specs.Sinks.{wants_one, held, Took, Ends}
use Rattle.olk_errors.specs.declared.sink.ErrorSink.{ErrorSink}
use Rattle.olk_errors.proofs.Sinks.{unasked}

module _ (v : Data) (Q : Path) where
  abbrev pub told_of : Outcome → Outcome
  told_of o = record { accepts = o.accepts; first = map (wrapped v Q) o.first; all = map (wrapped v Q) o.all }

  cut_wrapped : (f : Fault) → wrapped v Q (cut f) ≡ cut (wrapped v Q f)
  cut_wrapped (fault k w R P) = refl

  pub name_errs : {o : Outcome} (f g : Fault) → f ≡ wrapped v Q g → IsErrorOf o g → IsErrorOf (told_of o) f
  name_errs {o} f g is told = subst (IsErrorOf (told_of o)) (sym is) (record {
    verdict = told.verdict;
    of_first = record { one = wrapped v Q told.of_first.one; among = contains_mapped (wrapped v Q) o.first told.of_first.one told.of_first.among; like = like_wrapped v Q told.of_first.like };
    of_all =
        record {
          whole = wrapped v Q told.of_all.whole;
          among = contains_mapped (wrapped v Q) o.all told.of_all.whole told.of_all.among;
          like = subst (IsLike (wrapped v Q g)) (cut_wrapped told.of_all.whole) (like_wrapped v Q told.of_all.like);
        };
  })

  -- where no error was found
  pub no_name_error : {T : Type 0} {x : T} {sink : ErrorSink} {o : Outcome} → wants_one sink ≡ true → Passes o → Ends (Ok x) sink sink (told_of o)
  no_name_error {sink = sink} {o} one h = record {
    so = record {
      same = refl;
      took = subst (λ b. Took b (held sink) (held sink) (told_of o)) (sym one) (record { verdict = h.verdict; nothing = ap (map (wrapped v Q)) h.nothing }, refl);
    };
  }

  -- the errors that were found, each told of the object
  pub names_told : {found : List ValidationError} {fs : List Fault} → Appends [] found fs → map (λ e. wrapped v Q (fault_of e)) found ∼ map (wrapped v Q) fs
  names_told {found} {fs} inner = subst (λ l. l ∼ map (wrapped v Q) fs) (map-map (wrapped v Q) fault_of found)
      (∼_wrapped v Q (subst (λ l. map fault_of l ∼ fs) (sym inner.is) inner.same))

module _ (v : Data) (Q : Path) {N : Type 0} (m : N → Data → Question) (s r : N → Bool → Data → Path → List Fault) (u : Bool) (n : N) where
  -- the names of these members one after the other
  abbrev each_name : List (Name × Data) → Outcome
  each_name = of_each u (λ x. m n (string x.0)) (λ x. (of_asked_name m s r u n v x.0 Q).first) (λ x. (of_asked_name m s r u n v x.0 Q).all)

  pub names_of_walk : (ms : Members) → v ≡ object ms → each_name (listed ms) ≡ of_asked_names m s r u n v Q
  names_of_walk ms is = ap (λ d. each_name (members d)) (sym is)

  pub no_names : members v ≡ [] → of_asked_names m s r u n v Q ≡ unasked
  no_names = ap each_name
