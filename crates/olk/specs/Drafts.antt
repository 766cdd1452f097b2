-- By which draft a schema is read.
use Rattle.std.specs.Prelude.{Option, Some, None, codes}
use Rattle.serde_json.specs.Data.{Data}
use Rattle.serde_json.specs.Find.{get}
use Rattle.olk_drafts.specs.Drafts.{draft_at}
use Rattle.olk_drafts.specs.declared.drafts.Draft.{Draft}
use Rattle.olk.specs.declared.schema.Drafts.{Drafts}

-- by its `$schema`, or without one by the default
abbrev pub draft_or : Draft → Option Data → Option Draft
draft_or d None = Some d
draft_or d o = draft_at o

-- by the draft that was asked for, or else by its own
abbrev pub draft_asked_or : Option Draft → Option Draft → Option Draft
draft_asked_or None o = o
draft_asked_or asked o = asked

abbrev pub draft_read : Drafts → Data → Option Draft
draft_read ds S = draft_asked_or ds.asked (draft_or ds.default (get (codes "$schema") S))
