use Rattle.std.proofs.Common.{◌∙◌}
use Rattle.std.proofs.lemmas.Result.{on_ok_weaker}
use Rattle.olk_evaluate.proofs.Children.{put_at}
use Rattle.olk_evaluate.proofs.walk.add_child_at.Goals as goal

pub returns : goal.returns
returns c = on_ok_weaker c.add_child.result (put_at c.args.schema_path.now c.args.shown c.args.outcome.now c.at.ensures (c.in_ok-instance_path.ensures ∙ c.as_str.ensures)) c.add_child.ensures.added
