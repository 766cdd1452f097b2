use Rattle.olk_meaning.specs.Plans.{planned}
use Rattle.std.proofs.Common.{[], ◌∷◌, Some, None, inl, inr, refl, sym, ap, subst, option_to_list}
use Rattle.olk_build.specs.declared.shape.Shape.TheVariants.{NoNames, DependentRequired}
use Rattle.olk_build.specs.Making.{MakesClaims, MakesCondition, MakesRestriction}
use Rattle.olk_build.proofs.AdditionalProperties.{part_of_rest, part_of_no_others, part_of_any_others}
use Rattle.olk_build.proofs.Makes.{neighbours, part_of_claims, part_of_shape, part_of_alone, part_of_own, patterns_claim_own, without_nodes, makes_leaf, makes_unread, makes_any_names, is_made}
use Rattle.olk_build.proofs.Conditions.{part_of_if, part_of_then, part_of_else, part_of_unpaired}
use Rattle.olk_build.proofs.making.make_keyword.Goals as goal

pub returns-in_ok-make-in-Properties-clause-makes : goal.returns-in_ok-make-in-Properties-clause-makes
returns-in_ok-make-in-Properties-clause-makes g c I =
    part_of_claims I _ c.args.part.shape c.args.part.nodes.items c.args.taken.now (subst (λ x. MakesClaims I g.N.BuiltNode.answers x c.args.part.location c.args.part.nodes.items c.args.place.now (planned c.args.plan) (c.in_ok-make-in-Properties.field-0 ∷ []))
    (sym c.in-Properties.is) (c.in_ok-make-in-Properties.ensures.makes I))

pub returns-in-AllOf-clause-makes : goal.returns-in-AllOf-clause-makes
returns-in-AllOf-clause-makes g c I =
    part_of_own I _ c.args.part.nodes.items c.args.taken.now c.in-AllOf.is (λ k d s. s.0) refl (c.make-in-AllOf.ensures.makes I)

pub returns-in-AnyOf-clause-makes : goal.returns-in-AnyOf-clause-makes
returns-in-AnyOf-clause-makes g c I =
    part_of_own I _ c.args.part.nodes.items c.args.taken.now c.in-AnyOf.is (λ k d s. s.0) refl (c.make-in-AnyOf.ensures.makes I)

pub returns-in-OneOf-clause-makes : goal.returns-in-OneOf-clause-makes
returns-in-OneOf-clause-makes g c I =
    part_of_own I _ c.args.part.nodes.items c.args.taken.now c.in-OneOf.is (λ k d s. s.0) refl (c.make-in-OneOf.ensures.makes I)

pub returns-in-Not-clause-makes : goal.returns-in-Not-clause-makes
returns-in-Not-clause-makes g c I = part_of_own I _ c.args.part.nodes.items c.args.taken.now c.in-Not.is (λ k d s. s.0) refl (c.make-in-Not.ensures.makes I)

pub returns-in-Leaf-clause-makes : goal.returns-in-Leaf-clause-makes
returns-in-Leaf-clause-makes g c I = part_of_alone I _ c.args.part.nodes.items c.args.taken.now c.in-Leaf.is (λ k d s. ap neighbours s.0)
    (makes_leaf I _ _ c.args.part.location c.args.part.nodes.items)

pub returns-in-Unread-clause-makes : goal.returns-in-Unread-clause-makes
returns-in-Unread-clause-makes g c I = part_of_alone I _ c.args.part.nodes.items c.args.taken.now c.in-Unread.is (λ k d s. ap neighbours s)
    (makes_unread I _ c.args.part.location c.args.part.nodes.items)

pub returns-in-Required-clause-makes : goal.returns-in-Required-clause-makes
returns-in-Required-clause-makes g c I =
    part_of_claims I _ c.args.part.shape c.args.part.nodes.items c.args.taken.now (subst (λ x. MakesClaims I g.N.BuiltNode.answers x c.args.part.location c.args.part.nodes.items c.args.place.now (planned c.args.plan) (option_to_list c.make-in-Required.result))
    (sym c.in-Required.is) ((c.make-in-Required.ensures.makes c.args.place.now I)))

pub returns-in_ok-make-in-Some-pop-clause-makes : goal.returns-in_ok-make-in-Some-pop-clause-makes
returns-in_ok-make-in-Some-pop-clause-makes g c I =
    part_of_shape I _ c.args.part.nodes.items c.args.taken.now c.in-If.is (part_of_if I _ c.pop-in-If.new.self.items c.args.part.nodes.items c.args.taken.now c.in-Some-pop.ensures.items
    (subst (λ t. MakesCondition I g.N.BuiltNode.answers c.args.part.location c.in-Some-pop.schema t (option_to_list c.in_ok-make-in-Some-pop.field-0)) c.take-in-Some-pop.ensures.taken (c.in_ok-make-in-Some-pop.ensures.makes I)))

pub returns-in_ok-make-in-Some-clause-makes : goal.returns-in_ok-make-in-Some-clause-makes
returns-in_ok-make-in-Some-clause-makes g c I =
    part_of_shape I _ c.args.part.nodes.items c.args.taken.now c.in-AdditionalProperties.is (part_of_rest I _ c.args.part.nodes.items c.args.taken.now c.pop.new.self.items c.in-Some.ensures.items
    (subst (λ b. MakesRestriction I g.N.BuiltNode.answers c.args.part.location (Some c.in-Some.rest) b c.args.place.now (planned c.args.plan) (c.in_ok-make-in-Some.field-0 ∷ [])) c.take.ensures.taken (c.in_ok-make-in-Some.ensures.makes I)))

pub returns-in_ok-make-in-NoOthers-clause-makes : goal.returns-in_ok-make-in-NoOthers-clause-makes
returns-in_ok-make-in-NoOthers-clause-makes g c I =
    part_of_shape I _ c.args.part.nodes.items c.args.taken.now c.in-NoOthers.is (part_of_no_others I _ c.args.part.nodes.items c.args.taken.now
    (subst (λ b. MakesRestriction I g.N.BuiltNode.answers c.args.part.location None b c.args.place.now (planned c.args.plan) (c.in_ok-make-in-NoOthers.field-0 ∷ [])) c.take-in-NoOthers.ensures.taken (c.in_ok-make-in-NoOthers.ensures.makes I)))

pub returns-in-AnyOthers-clause-makes : goal.returns-in-AnyOthers-clause-makes
returns-in-AnyOthers-clause-makes g c I = part_of_shape I _ c.args.part.nodes.items c.args.taken.now c.in-AnyOthers.is (part_of_any_others I _ c.args.part.nodes.items c.args.taken.now)

pub returns-in-Then-clause-makes : goal.returns-in-Then-clause-makes
returns-in-Then-clause-makes g c I = elim c.in-Then.is [
  | inl h ↦ part_of_shape I _ c.args.part.nodes.items c.args.taken.now h (part_of_then I _ c.args.part.nodes.items c.args.taken.now)
  | inr h ↦ elim h [
    | inl h ↦ part_of_shape I _ c.args.part.nodes.items c.args.taken.now h (part_of_else I _ c.args.part.nodes.items c.args.taken.now)
    | inr h ↦ part_of_shape I _ c.args.part.nodes.items c.args.taken.now h (part_of_unpaired I _ c.args.part.nodes.items c.args.taken.now)
  ]
]

pub returns-in-PropertyNames-clause-makes : goal.returns-in-PropertyNames-clause-makes
returns-in-PropertyNames-clause-makes g c I =
    part_of_own I _ c.args.part.nodes.items c.args.taken.now c.in-PropertyNames.is (λ k d s. s.0) refl (c.make-in-PropertyNames.ensures.makes I)

pub returns-in-NoNames-clause-makes : goal.returns-in-NoNames-clause-makes
returns-in-NoNames-clause-makes g c I = part_of_own I _ c.args.part.nodes.items c.args.taken.now c.in-NoNames.is (λ k d s. s.0) refl
    (without_nodes I _ NoNames c.args.part.location c.args.part.nodes.items _ refl (c.make_false.ensures.makes I))

pub returns-in-AnyNames-clause-makes : goal.returns-in-AnyNames-clause-makes
returns-in-AnyNames-clause-makes g c I = part_of_own I _ c.args.part.nodes.items c.args.taken.now c.in-AnyNames.is (λ k d s. s.0) refl
    (makes_any_names I _ c.args.part.location c.args.part.nodes.items)

pub returns-in-DependentSchemas-clause-makes : goal.returns-in-DependentSchemas-clause-makes
returns-in-DependentSchemas-clause-makes g c I =
    part_of_own I _ c.args.part.nodes.items c.args.taken.now c.in-DependentSchemas.is (λ k d s. s.0) refl (c.make_schemas.ensures.makes I)

pub returns-in_ok-make_required-in-DependentRequired-clause-makes : goal.returns-in_ok-make_required-in-DependentRequired-clause-makes
returns-in_ok-make_required-in-DependentRequired-clause-makes g c I =
    part_of_own I _ c.args.part.nodes.items c.args.taken.now c.in-DependentRequired.is (λ k d s. s.0) refl (without_nodes I _
    (DependentRequired c.in-DependentRequired.keys c.in-DependentRequired.lists) c.args.part.location c.args.part.nodes.items _ refl (c.in_ok-make_required-in-DependentRequired.ensures.makes I))

pub returns-in_ok-make-in-Dependencies-clause-makes : goal.returns-in_ok-make-in-Dependencies-clause-makes
returns-in_ok-make-in-Dependencies-clause-makes g c I =
    part_of_own I _ c.args.part.nodes.items c.args.taken.now c.in-Dependencies.is (λ k d s. s.0) refl (c.in_ok-make-in-Dependencies.ensures.makes I)

pub returns-in_ok-make-in-PropertyDependencies-clause-makes : goal.returns-in_ok-make-in-PropertyDependencies-clause-makes
returns-in_ok-make-in-PropertyDependencies-clause-makes g c I =
    part_of_own I _ c.args.part.nodes.items c.args.taken.now c.in-PropertyDependencies.is (λ k d s. s.0) refl (c.in_ok-make-in-PropertyDependencies.ensures.makes I)

pub returns-in_ok-make-in-PatternProperties-clause-makes : goal.returns-in_ok-make-in-PatternProperties-clause-makes
returns-in_ok-make-in-PatternProperties-clause-makes g c I = part_of_claims I _ c.args.part.shape c.args.part.nodes.items c.args.taken.now
    (patterns_claim_own I _ c.args.part.nodes.items c.in-PatternProperties.is (c.in_ok-make-in-PatternProperties.ensures.makes I))

pub returns-in-AllOf-clause-form : goal.returns-in-AllOf-clause-form
returns-in-AllOf-clause-form g c I =
    is_made I g.N.BuiltNode.answers c.in-AllOf.is c.args.part.location c.args.place.now c.args.part.nodes.items c.args.taken.now (planned c.args.plan) (Some c.make-in-AllOf.result) c.make-in-AllOf.ensures.form

pub returns-in-AnyOf-clause-form : goal.returns-in-AnyOf-clause-form
returns-in-AnyOf-clause-form g c I =
    is_made I g.N.BuiltNode.answers c.in-AnyOf.is c.args.part.location c.args.place.now c.args.part.nodes.items c.args.taken.now (planned c.args.plan) (Some c.make-in-AnyOf.result) c.make-in-AnyOf.ensures.form

pub returns-in-OneOf-clause-form : goal.returns-in-OneOf-clause-form
returns-in-OneOf-clause-form g c I =
    is_made I g.N.BuiltNode.answers c.in-OneOf.is c.args.part.location c.args.place.now c.args.part.nodes.items c.args.taken.now (planned c.args.plan) (Some c.make-in-OneOf.result) c.make-in-OneOf.ensures.form

pub returns-in-NoNames-clause-form : goal.returns-in-NoNames-clause-form
returns-in-NoNames-clause-form g c I =
    is_made I g.N.BuiltNode.answers c.in-NoNames.is c.args.part.location c.args.place.now c.args.part.nodes.items c.args.taken.now (planned c.args.plan) (Some c.make_false.result) c.make_false.ensures.form

pub returns-in-AnyNames-clause-form : goal.returns-in-AnyNames-clause-form
returns-in-AnyNames-clause-form g c I =
    is_made I g.N.BuiltNode.answers c.in-AnyNames.is c.args.part.location c.args.place.now c.args.part.nodes.items c.args.taken.now (planned c.args.plan) None tt

pub returns-in-Unread-clause-form : goal.returns-in-Unread-clause-form
returns-in-Unread-clause-form g c I =
    is_made I g.N.BuiltNode.answers c.in-Unread.is c.args.part.location c.args.place.now c.args.part.nodes.items c.args.taken.now (planned c.args.plan) None tt

pub returns-in-AnyOthers-clause-form : goal.returns-in-AnyOthers-clause-form
returns-in-AnyOthers-clause-form g c I =
    is_made I g.N.BuiltNode.answers c.in-AnyOthers.is c.args.part.location c.args.place.now c.args.part.nodes.items c.args.taken.now (planned c.args.plan) None tt

pub returns-in-DependentSchemas-clause-form : goal.returns-in-DependentSchemas-clause-form
returns-in-DependentSchemas-clause-form g c I =
    is_made I g.N.BuiltNode.answers c.in-DependentSchemas.is c.args.part.location c.args.place.now c.args.part.nodes.items c.args.taken.now (planned c.args.plan) (Some c.make_schemas.result) (c.make_schemas.ensures.form I)

pub returns-in_ok-make-in-Dependencies-clause-form : goal.returns-in_ok-make-in-Dependencies-clause-form
returns-in_ok-make-in-Dependencies-clause-form g c I =
    is_made I g.N.BuiltNode.answers c.in-Dependencies.is c.args.part.location c.args.place.now c.args.part.nodes.items c.args.taken.now (planned c.args.plan) (Some c.in_ok-make-in-Dependencies.field-0) (c.in_ok-make-in-Dependencies.ensures.form I)

pub returns-in_ok-make-in-PropertyDependencies-clause-form : goal.returns-in_ok-make-in-PropertyDependencies-clause-form
returns-in_ok-make-in-PropertyDependencies-clause-form g c I =
    is_made I g.N.BuiltNode.answers c.in-PropertyDependencies.is c.args.part.location c.args.place.now c.args.part.nodes.items c.args.taken.now (planned c.args.plan) (Some c.in_ok-make-in-PropertyDependencies.field-0) (c.in_ok-make-in-PropertyDependencies.ensures.form I)

pub returns-in_ok-make_required-in-DependentRequired-clause-form : goal.returns-in_ok-make_required-in-DependentRequired-clause-form
returns-in_ok-make_required-in-DependentRequired-clause-form g c I =
    is_made I g.N.BuiltNode.answers c.in-DependentRequired.is c.args.part.location c.args.place.now c.args.part.nodes.items c.args.taken.now (planned c.args.plan) (Some c.in_ok-make_required-in-DependentRequired.field-0) (c.in_ok-make_required-in-DependentRequired.ensures.form I)

pub returns-in_ok-make-in-PatternProperties-clause-form : goal.returns-in_ok-make-in-PatternProperties-clause-form
returns-in_ok-make-in-PatternProperties-clause-form g c I =
    is_made I g.N.BuiltNode.answers c.in-PatternProperties.is c.args.part.location c.args.place.now c.args.part.nodes.items c.args.taken.now (planned c.args.plan) (Some c.in_ok-make-in-PatternProperties.field-0) c.in_ok-make-in-PatternProperties.ensures.form

pub returns-in_ok-make-in-Some-clause-form : goal.returns-in_ok-make-in-Some-clause-form
returns-in_ok-make-in-Some-clause-form g c I =
    is_made I g.N.BuiltNode.answers c.in-AdditionalProperties.is c.args.part.location c.args.place.now c.args.part.nodes.items c.args.taken.now (planned c.args.plan) (Some c.in_ok-make-in-Some.field-0) (rw (← c.take.ensures.taken) c.in_ok-make-in-Some.ensures.form)

pub returns-in_ok-make-in-NoOthers-clause-form : goal.returns-in_ok-make-in-NoOthers-clause-form
returns-in_ok-make-in-NoOthers-clause-form g c I =
    is_made I g.N.BuiltNode.answers c.in-NoOthers.is c.args.part.location c.args.place.now c.args.part.nodes.items c.args.taken.now (planned c.args.plan) (Some c.in_ok-make-in-NoOthers.field-0) (rw (← c.take-in-NoOthers.ensures.taken) c.in_ok-make-in-NoOthers.ensures.form)
