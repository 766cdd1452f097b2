use Rattle.std.proofs.Common.{◌≡◌, rules}
use Rattle.std.proofs.lemmas.Fn.{always_returns_same}
use Rattle.serde_json.specs.View.{view}
use Rattle.olk_vocabulary.specs.Blocks.{slot_cmp}
use Rattle.olk_vocabulary.proofs.Blocks.{searched}
use Rattle.olk_vocabulary.proofs.unique.Block.search.Goals as goal

pub returns : goal.returns
returns c =
    let v = view c.args.value.now in
    let found = c.binary_search_by.ensures.position (λ o. slot_cmp o v) (always_returns_same _ (λ a r. r ≡ slot_cmp a.0.now v) _ (λ a r f' k. search rules)) in
    searched c.args.self.now.slots.items v c.binary_search_by.result c.args.self.now.ordered (search rules) (search rules)
