use Rattle.std.proofs.Common.{◌≡◌, ◌∙◌, Option, Some, None, option_map, refl, ap}
use Rattle.olk_document_build.proofs.targets.Targets.find.Goals as goal

twice : {X Y Z : Type 0} (r : Option X) (f : X → Y) (g : Y → Z) → option_map (λ x. g (f x)) r ≡ option_map g (option_map f r)
twice None f g = refl
twice (Some x) f g = refl

pub returns : goal.returns
returns g c = twice c.get.result (λ n. n.now) (λ n. n.value) ∙ ap (option_map (λ n. n.value)) c.get.ensures.value
