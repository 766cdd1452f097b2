use Rattle.std.proofs.Common.{◌≡◌, true, ◌&&◌, sym, ap, ◌∙◌, arith}
use Rattle.std.specs.Bool.{◌==◌}
use Rattle.std.proofs.lemmas.Bool.Decides.{nat_tests}
use Rattle.olk_base.specs.Heads.{head_of}
use Rattle.olk_base.specs.declared.names.KeyHead.{KeyHead}
use Rattle.olk_base.proofs.names.PropertyName.matches.Goals as goal

same_heads : (h k : KeyHead) → true ≡ ((h.len == k.len) && ((h.first == k.first) && (h.last == k.last))) → h ≡ k
same_heads h k e =
    let len : h.len ≡ k.len = grind (arith, nat_tests) in
    let first : h.first ≡ k.first = grind (arith, nat_tests) in
    let last : h.last ≡ k.last = grind (arith, nat_tests) in
    λ i. record { len = len i; first = first i; last = last i }

pub same_middle-requires : goal.same_middle-requires
same_middle-requires c =
    ap head_of c.as_bytes.ensures.value ∙ sym c.self.invariant ∙ same_heads c.self.inside.head c.args.head c.if-eq.ensures ∙ c.requires ∙ ap head_of (sym c.as_bytes-then-eq.ensures.value)
