-- What a document builds of a place that is no schema object.
use Rattle.std.proofs.Common.{◌≡◌, Bool, true, false, [], ◌∷◌, refl, sym, ap, arith}
use Rattle.serde_json.specs.Data.{Data, boolean, object}
use Rattle.olk_spec.specs.Costs.{one_place}
use Rattle.olk_spec.specs.Faults.{fault, MultipleTypes}
use Rattle.olk_spec.specs.Names.{Path}
use Rattle.olk_spec.proofs.Order.{∼_same}
use Rattle.olk_base.specs.Count.{Counts, count_compiled}
use Rattle.olk_base.specs.Kit.{Kit}
use Rattle.olk_reports.specs.declared.error.BuildError.{BuildError}
use Rattle.olk_meaning.specs.Steps.{meaning, malformations_at, cost, validators}
use Rattle.olk_meaning.proofs.Facts.{IsNoSchema}
use Rattle.olk_tree.specs.Answers.{Answers}
use Rattle.olk_tree.specs.Places.{AnswersBy}
use Rattle.olk_tree.specs.Questions.{of_asked}
use Rattle.olk_tree.specs.Steps.{StepsOf}
use Rattle.olk_build.specs.Building.{IsBuilt, RefusesSchema}
use Rattle.olk_build.specs.Refusing.{TellsOneOf}
use Rattle.olk_build.proofs.Built.{truth_body}
use Rattle.olk_build.proofs.Spending.{spends_place, tells_same, within_exactly, within_same}
use Rattle.olk_document_meaning.specs.Places.{Referred}
use Rattle.olk_document_build.specs.Kits.{document_of}

module _ {K R : Type 0} (o : Kit K R) (F : Referred) where
  abbrev I : StepsOf o
  I = document_of o F

  module _ {N : Type 0} {answers : N → Answers} {n : N} {P : Path} {a m : Counts} (c : m ≡ count_compiled a) where
    pub truth_built : {d : Data} (t : Bool) → AnswersBy o answers P (truth_body t) n → d ≡ boolean t → IsBuilt I answers n d P a m
    unfolding meaning malformations_at cost validators
    truth_built true is e = rw e record {
      stands = record {
        verdict = λ u v. ap (λ q. q.accepts u) (is.verdict v);
        asks_within = λ u v. let q = ap (λ q. q.asks of_asked u) (is.verdict v) in omega (arith, q);
        faults = λ u v Q. ∼_same (is.faults u v Q);
        evaluation = is.evaluation;
        place = is.place;
        formed = is.formed;
        forms = is.forms;
      };
      clean = refl;
      spends = spends_place a m c;
    }
    truth_built false is e = rw e record {
      stands = record {
        verdict = λ u v. ap (λ q. q.accepts u) (is.verdict v);
        asks_within = λ u v. let q = ap (λ q. q.asks of_asked u) (is.verdict v) in omega (arith, q);
        faults = λ u v Q. ∼_same (is.faults u v Q);
        evaluation = is.evaluation;
        place = is.place;
        formed = is.formed;
        forms = is.forms;
      };
      clean = refl;
      spends = spends_place a m c;
    }

  malformed_there : (d : Data) (P : Path) → IsNoSchema d → malformations_at I.steps d P ≡ fault MultipleTypes d [] P ∷ []
  unfolding malformations_at
  malformed_there (boolean b) P h = absurd h
  malformed_there (object ms) P h = absurd h
  malformed_there _ P h = refl

  cost_there : (d : Data) → IsNoSchema d → cost I.steps d ≡ one_place
  unfolding cost
  cost_there (boolean b) h = absurd h
  cost_there (object ms) h = absurd h
  cost_there _ h = refl

  pub no_schema_refused : {a b : Counts} {e : BuildError} (d : Data) (P : Path) → IsNoSchema d → b ≡ count_compiled a → TellsOneOf (fault MultipleTypes d [] P ∷ []) e → RefusesSchema I d P a b e
  no_schema_refused {a} {b} {e} d P h c t = record {
    tells = tells_same (sym (malformed_there d P h)) e t;
    spends = within_same (sym (cost_there d h)) (within_exactly (spends_place a b c));
  }
