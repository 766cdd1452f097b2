-- The keywords of a document beside those of the layer, and the leaf set below it.
use Rattle.std.specs.Prelude.{Bool, true, false, ◌&&◌, ◌||◌, List, codes, if◌then◌else◌, bytes_eq}
use Rattle.olk_spec.specs.Names.{Text, Name, Path}
use Rattle.olk_spec.specs.World.{World}
use Rattle.olk_spec.specs.Meanings.{Meaning}

pub data Document_keyword : Type 0 where
  prefix_items items contains reference : Document_keyword
  -- `minContains` and `maxContains`, which say nothing but beside `contains`; and a keyword of the layer
  bound other : Document_keyword

abbrev pub document_keyword : Name → Document_keyword
document_keyword n =
    if bytes_eq n (codes "prefixItems") then prefix_items
    else if bytes_eq n (codes "items") then items
    else if bytes_eq n (codes "contains") then contains
    else if bytes_eq n (codes "$ref") then reference
    else if bytes_eq n (codes "minContains") || bytes_eq n (codes "maxContains") then bound
    else other

abbrev pub is_other_keyword : Document_keyword → Bool
is_other_keyword other = true
is_other_keyword w = false

abbrev pub is_other : Name → Bool
is_other n = is_other_keyword (document_keyword n)

-- the leaf set isn't asked of the names of a document
abbrev pub beneath : World → World
beneath W = record W { reads = λ n. is_other n && W.reads n }

-- a place that a text names: where it stands, and what it means
pub record Target : Type 0 where
  pub place : Path
  pub meaning : Meaning

-- the place that a text names: none or one
abbrev pub Targets : Type 0
Targets = Text → List Target
