use Rattle.std.proofs.Common.{◌≡◌, [], ◌∷◌, map, length, sym, ap, subst, arith, ◌∙◌, string_bytes, rules}
use Rattle.std.proofs.lemmas.Simd.{map-map}
use Rattle.std.specs.Vec.Iter.{into_iter_items}
use Rattle.olk_base.specs.Nodes.{subject_data}
use Rattle.olk_spec.specs.Faults.{fault}
use Rattle.olk_reports.specs.Paths.{path_at}
use Rattle.olk_reports.proofs.Errors.{kind_of_leaf}
use Rattle.olk_tree.specs.Maps.{texts_of}
use Rattle.olk_errors.proofs.Own.{leaf_fault}
use Rattle.olk_errors.proofs.Sinks.{ends_left, ends_nowhere}
use Rattle.olk_errors.proofs.Telling.{nothing_left, telling_start, telling_more, telling_stopped, telling_end}
use Rattle.olk_errors.specs.Sinks.{Takes}
use Rattle.olk_errors.proofs.node.report_each_text.Goals as goal

pub returns-in_err-collect_errors : goal.returns-in_err-collect_errors
returns-in_err-collect_errors g c = ends_nowhere c.from_residual.ensures.0

pub loop-text-init : goal.loop-text-init
loop-text-init g c = record { told = telling_start c.requires; left = search rules }

pub loop-text-preserved : goal.loop-text-preserved
loop-text-preserved g c =
    let next : into_iter_items c.loop-text.text-iterator ≡ c.in-Some.text ∷ into_iter_items c.next.new.self = c.in-Some.ensures.steps.0 in
    record {
      told = telling_more c.loop-text.invariant.told next
          (subst (Takes _ c.loop-text.sink c.report.new.self)
          (λ i. fault (kind_of_leaf c.keyword-keyword.result c.in-Some.text i) (subject_data c.args.node) (path_at c.args.trail.now) (c.as_str.ensures i)) c.in_ok-report.ensures);
      left = (let was = c.loop-text.invariant.left in
          let gone = c.in-Some.ensures.steps.1 in
          let short = ap length next in
          omega arith);
    }

pub returns-in_err-report : goal.returns-in_err-report
returns-in_err-report g c = ends_left c.from_residual-in_err-report.ensures.0
    (telling_stopped c.loop-text.invariant.told c.in-Some.ensures.steps.0
    (subst (Takes _ c.loop-text.sink c.report.new.self)
    (λ i. fault (kind_of_leaf c.keyword-keyword.result c.in-Some.text i) (subject_data c.args.node) (path_at c.args.trail.now) (c.as_str.ensures i)) c.in_err-report.ensures))

pub returns : goal.returns
returns g c =
    let none : into_iter_items c.loop-text.text-iterator ≡ [] = nothing_left (into_iter_items c.loop-text.text-iterator)
    (sym c.loop-text.invariant.left ∙ c.in-None.ensures.steps.0) in
    let all : into_iter_items c.into_iter-text-iterator.result ≡ c.collect_errors.new.texts.items = search rules in
    let texts : texts_of c.collect_errors.new.texts.items ≡ g.K.Leaf.finds c.args.leaf.now (subject_data c.args.node) = search rules in
    telling_end c.loop-text.invariant.told
    (ap (map (λ t. leaf_fault c.keyword-keyword.result.now (subject_data c.args.node) c.args.location.now (path_at c.args.trail.now) (string_bytes t))) all
    ∙ sym (map-map (leaf_fault c.keyword-keyword.result.now (subject_data c.args.node) c.args.location.now (path_at c.args.trail.now)) string_bytes c.collect_errors.new.texts.items)
    ∙ (λ i. map (leaf_fault (c.keyword-keyword.ensures i) (subject_data c.args.node) c.args.location.now (path_at c.args.trail.now)) (texts i))) none
