use Rattle.std.proofs.Common.{sym, ap, subst, ◌∙◌, drop}
use Rattle.std.specs.List.{zip}
use Rattle.serde_json.specs.Find.{as_array}
use Rattle.olk_base.specs.Nodes.{subject_data}
use Rattle.olk_spec.specs.Malformed.{items_of_array}
use Rattle.olk_spec.specs.Names.{◌//◌}
use Rattle.olk_spec.specs.Schemas.{numbered}
use Rattle.olk_reports.specs.Evaluations.{shown_of}
use Rattle.olk_document_spec.specs.Applied.{items_from}
use Rattle.olk_evaluate.specs.Wanted.{ShowsMore}
use Rattle.olk_evaluate.proofs.Shows.{kept_same, shows_weaker}
use Rattle.olk_documents.specs.Wanted.{pairs_wanted}
use Rattle.olk_documents.proofs.Pairs.{second_ends}
use Rattle.olk_documents.proofs.Positions.{listed_as, nothing_listed}
use Rattle.olk_documents.proofs.Trees.{list_shown, nothing_listed_shown}
use Rattle.olk_documents.proofs.evaluate.PrefixItemsShow.show.Goals as goal

pub returns-in-Some : goal.returns-in-Some
returns-in-Some g c =
    let k = c.args.self.now in
    let v = subject_data c.args.node in
    let Q = c.args.ctx.now.path in
    shows_weaker c.show_pairs.ensures (λ u so _ more. list_shown (λ e. g.N.Show.tree e.0 u e.1.1 (Q // e.1.0)) (λ e. g.N.Means.means e.0 e.1.1) u (zip k.schemas.items (items_from 0 v)) k.location Q c.requires
    (subst (λ ds. ShowsMore (pairs_wanted g.N.Show.tree g.N.Means.means u (zip k.schemas.items (drop 0 (numbered ds))) Q) (shown_of c.args.outcome.now) (shown_of c.show_pairs.new.outcome))
    (sym (listed_as v c.in-Some.items.now.items (c.in-Some.ensures ∙ ap as_array c.node.ensures))) more))

pub returns-in-None : goal.returns-in-None
returns-in-None g c =
    let k = c.args.self.now in
    let v = subject_data c.args.node in
    let Q = c.args.ctx.now.path in
    record {
      shown = λ u so. nothing_listed_shown (λ e. g.N.Show.tree e.0 u e.1.1 (Q // e.1.0)) (λ e. g.N.Means.means e.0 e.1.1) u (zip k.schemas.items (items_from 0 v)) k.location Q c.requires
          (second_ends k.schemas.items (numbered (items_of_array v)) 0 (ap numbered (nothing_listed v (c.in-None.ensures ∙ ap as_array c.node.ensures))));
      kept = kept_same;
    }
