-- What showing leaves.
use Rattle.std.specs.Prelude.{◌≡◌, Bool, Result, IfOk}
use Rattle.olk_spec.specs.Names.{Path}
use Rattle.olk_base.specs.Lawful.{Asking}
use Rattle.olk_check.specs.Asks.{OnlyAsks, IsAnswer}
use Rattle.olk_evaluate.specs.declared.EvaluationContext.{EvaluationContext}

-- the path is as before, and the context has only been asked
pub record Kept (p q : Path) (a b : Asking) : Type 0 where
  pub path : q ≡ p
  pub only : OnlyAsks a b

-- where it ends well, So holds of its result, with each answer with which all goes as it went; either way the path and the context are kept
pub record Shows {T E : Type 0} (r : Result T E) (a b : EvaluationContext) (So : Bool → T → Type 0) : Type 0 where
  pub shown : (u : Bool) → IsAnswer a.validation b.validation u → IfOk r (So u)
  pub kept : Kept a.path b.path a.validation b.validation
