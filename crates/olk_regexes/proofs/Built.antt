-- A pattern that was read, built and placed, or given up on the way.
use Rattle.std.proofs.Common.{◌≡◌, Bool, true, false, cond, Option, Some, None, option_map, refl, sym, ◌∙◌, ap, subst}
use Rattle.std.specs.Str.{chars}
use Rattle.olk_regexes.specs.Language.{Text, Expr}
use Rattle.olk_regexes.specs.Edges.{is_placed}
use Rattle.olk_regexes.specs.Limits.{fitting}
use Rattle.olk_regexes.specs.Rules.{Rule}
use Rattle.olk_regexes.specs.Syntax.{rule}
use Rattle.olk_regexes.specs.Says.{IsPlaced, beside, beside_built, built, placed, rule_of_pattern}

pub is_built : (w cs : Text) (r : Rule) (o : Option Rule) →
    cs ≡ chars w → Some r ≡ rule cs → o ≡ built (Some r) → o ≡ rule_of_pattern w
unfolding rule_of_pattern
is_built w cs r o hw hr ho =
    ho ∙ ap built hr ∙ ap (λ x. built (rule x)) hw

pub is_not_read : (w cs : Text) → cs ≡ chars w → None ≡ rule cs → None ≡ rule_of_pattern w
unfolding rule_of_pattern
is_not_read w cs hw hr =
    ap built hr ∙ ap (λ x. built (rule x)) hw

kept : {A : Type 0} (b : Bool) (x y : A) → cond b (Some x) None ≡ Some y → (b ≡ true) × (x ≡ y)
kept true x y e = (refl, cc e)
kept false x y e = absurd (cc e)

placed_is : (o : Option Expr) (p : Expr) → placed o ≡ Some p → is_placed p ≡ true
placed_is None p e = absurd (cc e)
placed_is (Some q) p e = let k = kept (is_placed q) q p e in ap is_placed (sym k.1) ∙ k.0

with_refused : (p : Expr) (o : Option Expr) (r : Rule) → is_placed p ≡ true → ((q : Expr) → o ≡ Some q → is_placed q ≡ true) →
    option_map (λ q. (p, Some q)) o ≡ Some r → IsPlaced r
with_refused p None r hp hq e = absurd (cc e)
with_refused p (Some q) r hp hq e =
    let k : (p, Some q) ≡ r = cc e in subst IsPlaced k (hp, hq q refl)

beside_placed : (p : Expr) (q : Option Expr) (r : Rule) → is_placed p ≡ true → beside p q ≡ Some r → IsPlaced r
beside_placed p None r hp e = let k : (p, None) ≡ r = cc e in subst IsPlaced k hp
beside_placed p (Some q) r hp e = with_refused p (placed (fitting q)) r hp (λ x. placed_is (fitting q) x) e

both_placed : (o q : Option Expr) (r : Rule) → ((p : Expr) → o ≡ Some p → is_placed p ≡ true) → beside_built o q ≡ Some r → IsPlaced r
both_placed None q r h e = absurd (cc e)
both_placed (Some p) q r h e = beside_placed p q r (h p refl) e

rule_placed : (o : Option Rule) (r : Rule) → built o ≡ Some r → IsPlaced r
rule_placed None r e = absurd (cc e)
rule_placed (Some s) r e = both_placed (placed (fitting s.0)) s.1 r (λ p. placed_is (fitting s.0) p) e

-- what is built has its edges where they may stand
pub built_placed : (w : Text) (r : Rule) → rule_of_pattern w ≡ Some r → IsPlaced r
unfolding rule_of_pattern
built_placed w r e = rule_placed (rule (chars w)) r e
