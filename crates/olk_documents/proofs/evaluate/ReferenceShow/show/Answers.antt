use Rattle.std.proofs.Common.{[], ◌∷◌, refl, subst}
use Rattle.std.proofs.Math.Bool.{and-true}
use Rattle.olk_base.specs.Nodes.{subject_data}
use Rattle.olk_reports.specs.Evaluations.{shown_of}
use Rattle.olk_evaluate.specs.Wanted.{ShowsMore, wanted}
use Rattle.olk_evaluate.proofs.Children.{shown_as, shows_each}
use Rattle.olk_evaluate.proofs.Shows.{shows_weaker}
use Rattle.olk_documents.proofs.evaluate.ReferenceShow.show.Goals as goal

pub returns : goal.returns
returns g c =
    let target = c.args.self.now.target.value in
    let v = subject_data c.args.node in
    let Q = c.args.ctx.now.path in
    shows_weaker c.add_child.ensures (λ u so _ one. shown_as (shows_each g.N.Show.tree g.N.Means.means u v Q (target ∷ []) c.requires
    (subst (λ n. ShowsMore (wanted g.N.Show.tree g.N.Means.means u n v Q ∷ []) (shown_of c.args.outcome.now) (shown_of c.add_child.new.outcome)) c.deref.ensures one) c.args.self.now.location)
    refl (and-true ((g.N.Means.means target v).accepts u)))
