use Rattle.std.proofs.Common.{nat_le, ap, sym, ◌∙◌}
use Rattle.olk_vocabulary.proofs.Lists.{items_size}
use Rattle.olk_vocabulary.proofs.kinds.is_short.Goals as goal

pub returns : goal.returns
returns c =
    let items = c.args.items.now in
    ap (λ n. nat_le n 7) (c.len.ensures ∙ items.ok.0 ∙ sym (items_size items.items))
