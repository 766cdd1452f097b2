use Rattle.std.proofs.Common.{[], ◌∷◌, map, string_bytes, sym, ap, ◌∙◌, arith}
use Rattle.olk_base.specs.Kit.{kit}
use Rattle.olk_spec.specs.Names.{is_empty}
use Rattle.olk_spec.specs.Accepts.{missing}
use Rattle.olk_tree.specs.Validators.{answers_of, validator_means}
use Rattle.olk_tree.specs.Questions.{always}
use Rattle.olk_check.proofs.Answered.{by_only}
use Rattle.olk_check.proofs.node.only_required_name.Goals as goal

pub returns-in-len1 : goal.returns-in-len1
unfolding answers_of
returns-in-len1 g c v = ap (λ k. validator_means (kit g.K.Leaf g.R.RegexEngine) g.N.Means.means k v) c.in-Required.is
    ∙ ap (λ names. always (is_empty (missing names v))) (ap (map string_bytes) (sym c.as_slice.ensures.value ∙ by_only c.name-item.is (omega arith) (omega arith))
    ∙ ap (λ n. n ∷ []) (sym c.as_str.ensures.value))
