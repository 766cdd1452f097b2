use Rattle.std.proofs.Common.{◌≡◌, [], ◌∷◌, map, length, sym, ap, subst, arith, ◌∙◌, string_bytes, rules}
use Rattle.std.specs.Vec.Iter.{into_iter_items}
use Rattle.serde_json.specs.Data.{string}
use Rattle.olk_base.specs.Nodes.{subject_data}
use Rattle.olk_spec.specs.Faults.{◌∼◌}
use Rattle.olk_spec.specs.Reports.{wrapped}
use Rattle.olk_reports.specs.Paths.{path_at}
use Rattle.olk_reports.specs.Errors.{fault_of}
use Rattle.olk_errors.proofs.Names.{names_told}
use Rattle.olk_errors.proofs.Sinks.{ends_left, walks_nowhere}
use Rattle.olk_errors.proofs.Telling.{nothing_left, telling_start, telling_more, telling_stopped, telling_like}
use Rattle.olk_errors.proofs.property_names.take_all_of_name.Goals as goal

pub returns-in_err-errors : goal.returns-in_err-errors
returns-in_err-errors g c = walks_nowhere c.from_residual.ensures.0 c.errors_of.ensures.context

pub loop-error-init : goal.loop-error-init
loop-error-init g c = record { told = telling_start c.requires; left = search rules }

pub loop-error-preserved : goal.loop-error-preserved
loop-error-preserved g c =
    let next : into_iter_items c.loop-error.error-iterator ≡ c.in-Some.error ∷ into_iter_items c.next.new.self = c.in-Some.ensures.steps.0 in
    record {
      told = telling_more c.loop-error.invariant.told next c.in_ok-take_wrapped.ensures;
      left = (let was = c.loop-error.invariant.left in
          let gone = c.in-Some.ensures.steps.1 in
          let short = ap length next in
          omega arith);
    }

pub returns-in_err-take_wrapped : goal.returns-in_err-take_wrapped
returns-in_err-take_wrapped g c = record {
  ends = λ u so. ends_left c.from_residual-in_err-take_wrapped.ensures.0
      (telling_stopped c.loop-error.invariant.told c.in-Some.ensures.steps.0 c.in_err-take_wrapped.ensures);
  only = c.errors_of.ensures.context;
}

pub returns : goal.returns
returns g c =
    let none : into_iter_items c.loop-error.error-iterator ≡ [] = nothing_left (into_iter_items c.loop-error.error-iterator)
    (sym c.loop-error.invariant.left ∙ c.in-None.ensures.steps.0) in
    let all : into_iter_items c.into_iter-error-iterator.result ≡ c.in_ok-errors.errors.items = search rules in
    record {
      ends = λ u so. telling_like c.loop-error.invariant.told
          (subst (λ l. map (λ e. wrapped (subject_data c.args.object) (path_at c.args.trail.now) (fault_of e)) l
          ∼ map (wrapped (subject_data c.args.object) (path_at c.args.trail.now))
          (g.N.Reports.report c.args.subschema.now u (string (string_bytes c.args.name.now)) (path_at c.args.trail.now))) (sym all)
          (names_told (subject_data c.args.object) (path_at c.args.trail.now) (rw c.as_str-name.ensures.value at (c.in_ok-errors.ensures.errors u so)))) none;
      only = c.errors_of.ensures.context;
    }
