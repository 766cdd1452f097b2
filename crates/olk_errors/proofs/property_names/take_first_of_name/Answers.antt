use Rattle.std.proofs.Common.{refl, subst, string_bytes}
use Rattle.serde_json.specs.Data.{string}
use Rattle.olk_base.specs.Nodes.{subject_data}
use Rattle.olk_reports.specs.Paths.{path_at}
use Rattle.olk_reports.specs.Errors.{fault_of}
use Rattle.olk_errors.proofs.Names.{name_errs, no_name_error}
use Rattle.olk_errors.proofs.Sinks.{ends_wanted, walks_nowhere}
use Rattle.olk_errors.specs.Found.{IsFirstOf}
use Rattle.olk_errors.specs.Outcomes.{of_node}
use Rattle.olk_errors.proofs.property_names.take_first_of_name.Goals as goal

pub returns-in_err-error : goal.returns-in_err-error
returns-in_err-error g c = walks_nowhere c.from_residual.ensures.0 c.first_error_of.ensures.context

pub returns-in-Some : goal.returns-in-Some
returns-in-Some g c = record {
  ends = λ u so. ends_wanted c.requires (name_errs (subject_data c.args.object) (path_at c.args.trail.now) _ (fault_of c.in-Some.error) refl
      (subst (IsFirstOf (of_node g.N.Means.means g.N.Reports.first g.N.Reports.report u c.args.subschema.now (string (string_bytes c.args.name.now))
      (path_at c.args.trail.now))) c.in-Some.is (rw c.as_str-name.ensures.value at (c.in_ok-error.ensures.error u so)))) c.take_wrapped.ensures;
  only = c.first_error_of.ensures.context;
}

pub returns-in-None : goal.returns-in-None
returns-in-None g c = record {
  ends = λ u so. no_name_error (subject_data c.args.object) (path_at c.args.trail.now) c.requires
      (subst (IsFirstOf (of_node g.N.Means.means g.N.Reports.first g.N.Reports.report u c.args.subschema.now (string (string_bytes c.args.name.now))
      (path_at c.args.trail.now))) c.in-None.is (rw c.as_str-name.ensures.value at (c.in_ok-error.ensures.error u so)));
  only = c.first_error_of.ensures.context;
}
