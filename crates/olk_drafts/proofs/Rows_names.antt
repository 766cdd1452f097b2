use Rattle.std.proofs.Common.{refl}
use Rattle.olk_drafts.specs.Rows_names.{Rows_names}

pub rows_names : Rows_names
rows_names = record {
  draft_4_by_http = refl;
  draft_4_by_http_with_the_sign = refl;
  draft_4_by_https = refl;
  draft_4_by_https_with_the_sign = refl;
  draft_6_by_http = refl;
  draft_6_by_http_with_the_sign = refl;
  draft_6_by_https = refl;
  draft_6_by_https_with_the_sign = refl;
  draft_7_by_http = refl;
  draft_7_by_http_with_the_sign = refl;
  draft_7_by_https = refl;
  draft_7_by_https_with_the_sign = refl;
  draft_2019_09_by_http = refl;
  draft_2019_09_by_http_with_the_sign = refl;
  draft_2019_09_by_https = refl;
  draft_2019_09_by_https_with_the_sign = refl;
  draft_2020_12_by_http = refl;
  draft_2020_12_by_http_with_the_sign = refl;
  draft_2020_12_by_https = refl;
  draft_2020_12_by_https_with_the_sign = refl;
  the_latest_draft_by_http = refl;
  the_latest_draft_by_http_with_the_sign = refl;
  the_latest_draft_by_https = refl;
  the_latest_draft_by_https_with_the_sign = refl;
  no_such_draft = refl;
  two_signs_at_the_end = refl;
  no_place_inside = refl;
  no_other_host = refl;
  no_other_scheme = refl;
  no_scheme = refl;
  no_path = refl;
  no_text = refl;
}
