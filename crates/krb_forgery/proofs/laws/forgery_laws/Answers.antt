use Rattle.krb_forgery.proofs.ForgeryLemmas.{breaks_find_bytes, headline_where_none_found, none_found, none_is_reflected, opens_coded_bytes}
use Rattle.krb_forgery.proofs.laws.forgery_laws.Goals as goal

pub returns : goal.returns
returns c = record {
  shows = opens_coded_bytes;
  reflected = none_is_reflected;
  finds = breaks_find_bytes;
  premise = none_found;
  headline = headline_where_none_found;
}
