use Rattle.std.proofs.Common.{ap}
use Rattle.serde_json.specs.Data.{array}
use Rattle.serde_json.specs.View.{view}
use Rattle.serde_json.proofs.Views.{view-Array}
use Rattle.olk_drafts.proofs.Values.{no_array}
use Rattle.olk_drafts.proofs.Translations.{one_kind}
use Rattle.olk_drafts.proofs.translation.kinds_of_draft_4.Goals as goal

pub returns-in_ok-listed_kinds_of_draft_4-in-Array : goal.returns-in_ok-listed_kinds_of_draft_4-in-Array
returns-in_ok-listed_kinds_of_draft_4-in-Array c = rw (c.in-Array.is, view-Array, view-Array) (ap array c.in_ok-listed_kinds_of_draft_4-in-Array.ensures)

pub returns-in_default : goal.returns-in_default
returns-in_default c = rw (one_kind (view c.args.value.now) (no_array _ c.in_default.not-Array)) c.kind_of_draft_4.ensures
