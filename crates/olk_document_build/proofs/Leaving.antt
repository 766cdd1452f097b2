-- What holds of the result that leaves a function, whatever references name that are such.
use Rattle.std.proofs.Common.{Result, IfOk, IfErr, IsErrAnd}
use Rattle.std.proofs.lemmas.Result.{IfErr-weaker, IfOk-weaker}
use Rattle.olk_reports.specs.declared.error.BuildError.{BuildError}
use Rattle.olk_build.proofs.Spending.{exit}
use Rattle.olk_document_meaning.specs.Places.{Referred}

module _ {Such : Referred → Type 0} {X : Type 0} where
  -- what holds of the error holds of the result that leaves by a `?`
  pub exit_by : (G : Referred → BuildError → Type 0) (r : Result X BuildError) (Q : BuildError → Type 0) → IsErrAnd r Q → ((F : Referred) → Such F → (e : BuildError) → Q e → G F e) → IfErr r (λ e. (F : Referred) → Such F → G F e)
  exit_by G r Q h k = exit (λ e. (F : Referred) → Such F → G F e) r Q h (λ e q F such. k F such e q)

  module _ {E : Type 0} (r : Result X E) where
    pub IfOk-weaker_by : (P Q : Referred → X → Type 0) → IfOk r (λ x. (F : Referred) → Such F → P F x) → ((F : Referred) → Such F → (x : X) → P F x → Q F x) → IfOk r (λ x. (F : Referred) → Such F → Q F x)
    IfOk-weaker_by P Q h k = IfOk-weaker r (λ x. (F : Referred) → Such F → P F x) (λ x. (F : Referred) → Such F → Q F x) (λ x p F such. k F such x (p F such)) h

    pub IfErr-weaker_by : (P Q : Referred → E → Type 0) → IfErr r (λ e. (F : Referred) → Such F → P F e) → ((F : Referred) → Such F → (e : E) → P F e → Q F e) → IfErr r (λ e. (F : Referred) → Such F → Q F e)
    IfErr-weaker_by P Q h k = IfErr-weaker r (λ e. (F : Referred) → Such F → P F e) (λ e. (F : Referred) → Such F → Q F e) (λ e p F such. k F such e (p F such)) h
