-- The drafts that texts name: four spellings of each path, and no other text.
use Rattle.std.specs.Prelude.{◌≡◌, Some, None, codes}
use Prim.Native.String.{String as Quoted}
use Rattle.olk_drafts.specs.Drafts.{draft_named}
use Rattle.olk_drafts.specs.declared.drafts.Draft.{Draft}
use Rattle.olk_drafts.specs.declared.drafts.Draft.TheVariants.{Draft4, Draft6, Draft7, Draft201909, Draft202012}

abbrev pub Names : Quoted → Draft → Type 0
Names t d = draft_named (codes t) ≡ Some d

abbrev pub Names_none : Quoted → Type 0
Names_none t = draft_named (codes t) ≡ None

pub record Rows_names : Type 0 where
  pub draft_4_by_http : Names "http://json-schema.org/draft-04/schema" Draft4
  pub draft_4_by_http_with_the_sign : Names "http://json-schema.org/draft-04/schema#" Draft4
  pub draft_4_by_https : Names "https://json-schema.org/draft-04/schema" Draft4
  pub draft_4_by_https_with_the_sign : Names "https://json-schema.org/draft-04/schema#" Draft4
  pub draft_6_by_http : Names "http://json-schema.org/draft-06/schema" Draft6
  pub draft_6_by_http_with_the_sign : Names "http://json-schema.org/draft-06/schema#" Draft6
  pub draft_6_by_https : Names "https://json-schema.org/draft-06/schema" Draft6
  pub draft_6_by_https_with_the_sign : Names "https://json-schema.org/draft-06/schema#" Draft6
  pub draft_7_by_http : Names "http://json-schema.org/draft-07/schema" Draft7
  pub draft_7_by_http_with_the_sign : Names "http://json-schema.org/draft-07/schema#" Draft7
  pub draft_7_by_https : Names "https://json-schema.org/draft-07/schema" Draft7
  pub draft_7_by_https_with_the_sign : Names "https://json-schema.org/draft-07/schema#" Draft7
  pub draft_2019_09_by_http : Names "http://json-schema.org/draft/2019-09/schema" Draft201909
  pub draft_2019_09_by_http_with_the_sign : Names "http://json-schema.org/draft/2019-09/schema#" Draft201909
  pub draft_2019_09_by_https : Names "https://json-schema.org/draft/2019-09/schema" Draft201909
  pub draft_2019_09_by_https_with_the_sign : Names "https://json-schema.org/draft/2019-09/schema#" Draft201909
  pub draft_2020_12_by_http : Names "http://json-schema.org/draft/2020-12/schema" Draft202012
  pub draft_2020_12_by_http_with_the_sign : Names "http://json-schema.org/draft/2020-12/schema#" Draft202012
  pub draft_2020_12_by_https : Names "https://json-schema.org/draft/2020-12/schema" Draft202012
  pub draft_2020_12_by_https_with_the_sign : Names "https://json-schema.org/draft/2020-12/schema#" Draft202012
  pub the_latest_draft_by_http : Names "http://json-schema.org/schema" Draft202012
  pub the_latest_draft_by_http_with_the_sign : Names "http://json-schema.org/schema#" Draft202012
  pub the_latest_draft_by_https : Names "https://json-schema.org/schema" Draft202012
  pub the_latest_draft_by_https_with_the_sign : Names "https://json-schema.org/schema#" Draft202012
  pub no_such_draft : Names_none "http://json-schema.org/draft-03/schema#"
  pub two_signs_at_the_end : Names_none "http://json-schema.org/draft-07/schema##"
  pub no_place_inside : Names_none "https://json-schema.org/draft-07/schema#/definitions"
  pub no_other_host : Names_none "http://a.example/draft-07/schema#"
  pub no_other_scheme : Names_none "ftp://json-schema.org/draft-07/schema#"
  pub no_scheme : Names_none "json-schema.org/draft-07/schema"
  pub no_path : Names_none "http://json-schema.org/"
  pub no_text : Names_none ""
